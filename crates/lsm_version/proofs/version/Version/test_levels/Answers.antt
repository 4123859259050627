use Rattle.std.proofs.Common.{◌≡◌, ℕ, sym, ap, ◌∙◌, List}
use Rattle.lsm_version.specs.declared.tables.Placed.{Placed}
use Rattle.lsm_version.specs.Levels.{Tables, overlaps, overlaps_from}
use Rattle.lsm_version.specs.Versions.{first_of}
use Rattle.lsm_version.proofs.TableMaps.{entries_tables}
use Rattle.lsm_version.proofs.Overlaps.{none_overlap, some_overlap}
use Rattle.lsm_version.proofs.version.Version.test_levels.Goals as goal

pub returns-in-Some-clause-refused : goal.returns-in-Some-clause-refused
returns-in-Some-clause-refused c =
    let es = c.self.inside.tables.entries in
    let same : first_of (overlaps_from 6 1 es) ≡ first_of (overlaps c.args.self.now) =
    ap (λ (l : List (ℕ × Placed)). first_of (overlaps_from 6 1 l)) (sym (entries_tables es c.in-Some.ensures.ordered)) ∙ ap (λ (t : Tables). first_of (overlaps t)) c.self.view_is in
    some_overlap c.args.self.now (record { level = c.in-Some.level; left = c.in-Some.left; right = c.in-Some.right }) (sym same ∙ sym c.in-Some.ensures.first)

pub returns-in-None-clause-ok : goal.returns-in-None-clause-ok
returns-in-None-clause-ok c =
    let es = c.self.inside.tables.entries in
    let same : first_of (overlaps_from 6 1 es) ≡ first_of (overlaps c.args.self.now) =
    ap (λ (l : List (ℕ × Placed)). first_of (overlaps_from 6 1 l)) (sym (entries_tables es c.in-None.ensures.ordered)) ∙ ap (λ (t : Tables). first_of (overlaps t)) c.self.view_is in
    none_overlap c.args.self.now (sym same ∙ sym c.in-None.ensures.first)
