use Rattle.std.proofs.Common.{◌≡◌, ◌∙◌, [], false, rules, sym, ap, subst, Ok}
use Rattle.std.specs.Prelude.{IfSome, ◌<◌, ◌^◌, ℕ, Option}
use Rattle.lsm_version.specs.Versions.{version_after}
use Rattle.lsm_folder.specs.Manifests.{may_follow}
use Rattle.lsm_recover.specs.Stated.{AreNumbered, AreSaid}
use Rattle.lsm_recover.proofs.SaidLemmas.{applied_said, none_said}
use Rattle.lsm_recover.proofs.StatedLemmas.{not_followed, no_log, no_next, no_last, first_follows, first_version, first_numbers, edit_taken, edit_refused, stated_more}
use Rattle.lsm_recover.proofs.SoundLemmas.{applied_numbered, none_numbered, edit_small}
use Rattle.lsm_recover.proofs.manifest.first_stated.Goals.{in_default-via-in-Some+in-Some+in_default, in_default-via-in-Some+in_default, in_default-via-in_default}
use Rattle.lsm_recover.proofs.manifest.first_stated.Goals as goal

pub returns-in_default-clause-refused : goal.returns-in_default-clause-refused
returns-in_default-clause-refused c =
    let edit = c.args.edit.now in
    let none : may_follow [] edit ≡ false = elim c.in_default.branch as (λ _. may_follow [] edit ≡ false) [
      | in_default-via-in-Some+in-Some+in_default w ↦ no_last edit w.in_default.is-2
      | in_default-via-in-Some+in_default w ↦ no_next edit w.in_default.is-1
      | in_default-via-in_default w ↦ no_log edit w.in_default.is-0
    ] in
    not_followed c.args.name c.args.place [] edit none

pub returns-in_err-version-clause-refused : goal.returns-in_err-version-clause-refused
returns-in_err-version-clause-refused c =
    let edit = c.args.edit.now in
    let some = c.in-Some-Some-Some in
    let begun : version_after [] ≡ Ok c.empty.result = first_version ∙ ap Ok (sym c.empty.ensures) in
    let refused = edit_refused c.args.name c.args.place [] edit (first_follows edit some.log some.next some.last some.is-0 some.is-1 some.is-2) c.empty.result begun c.in_err-version.field-0.0 c.in_err-version.ensures.refused in
    search (rules, refused)

pub returns-clause-ok : goal.returns-clause-ok
returns-clause-ok c =
    let edit = c.args.edit.now in
    let some = c.in-Some-Some-Some in
    let begun : version_after [] ≡ Ok c.empty.result = first_version ∙ ap Ok (sym c.empty.ensures) in
    let may = first_follows edit some.log some.next some.last some.is-0 some.is-1 some.is-2 in (
      edit_taken c.args.name c.args.place [] edit may c.empty.result begun c.in_ok-version.version c.in_ok-version.ensures.ok,
      stated_more c.args.name c.args.place [] edit may c.empty.result begun c.in_ok-version.version c.in_ok-version.ensures.ok some.log some.next some.last
          (first_numbers edit some.log some.next some.last some.is-0 some.is-1 some.is-2),
    )

pub returns-clause-sound : goal.returns-clause-sound
returns-clause-sound c =
    let edit = c.args.edit.now in
    let some = c.in-Some-Some-Some in
    record {
      numbered = applied_numbered c.empty.result c.in_ok-version.version edit c.requires.grammar c.in_ok-version.ensures.ok (subst AreNumbered (sym c.empty.ensures) none_numbered);
      said = applied_said c.empty.result c.in_ok-version.version edit c.requires.grammar c.in_ok-version.ensures.ok (subst AreSaid (sym c.empty.ensures) none_said);
      small = subst (λ (o : Option ℕ). IfSome o (λ (n : ℕ). n < 2 ^ 56)) some.is-2 (edit_small edit c.requires.grammar);
    }
