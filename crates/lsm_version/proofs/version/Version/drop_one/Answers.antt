use Rattle.std.proofs.Common.{◌≡◌, sym, ap, ◌∙◌, Some, true, false, rules}
use Rattle.std.specs.FinMap as finite
use Rattle.lsm_version.specs.Levels.{Tables}
use Rattle.lsm_version.specs.Versions.{is_of_level}
use Rattle.lsm_version.proofs.TableMaps.{tables_removed, dropped_not, dropped_is}
use Rattle.lsm_version.proofs.version.Version.drop_one.Goals as goal

pub returns-then-not-has-clause-refused : goal.returns-then-not-has-clause-refused
returns-then-not-has-clause-refused c =
    let gone : is_of_level c.args.place.level (finite.get c.args.self.now c.args.place.number) ≡ false = search rules in
    dropped_not c.args.self.now c.args.place gone

pub returns-clause-ok : goal.returns-clause-ok
returns-clause-ok c =
    let there : is_of_level c.args.place.level (finite.get c.args.self.now c.args.place.number) ≡ true = search rules in
    dropped_is c.args.self.now c.args.place there
    ∙ ap (λ (t : Tables). Some t)
    (sym (tables_removed c.self.inside.tables.entries c.remove.new.self.entries c.args.place.number c.remove.ensures.updates.1 c.remove.ensures.updates.3
    ∙ ap (λ (t : Tables). finite.remove t c.args.place.number) c.self.view_is))
