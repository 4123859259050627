use Rattle.std.proofs.Common.{◌∙◌, rules, sym, subst, ℕ, List}
use Rattle.std.specs.Prelude.{Some, ◌<◌, ◌^◌}
use Rattle.lsm_version.specs.declared.edits.Edit.{Edit}
use Rattle.lsm_recover.specs.Stated.{AreStated}
use Rattle.lsm_recover.proofs.StatedLemmas.{next_follows, next_numbers, last_stays_small, edit_taken, edit_refused, stated_more}
use Rattle.lsm_recover.proofs.SaidLemmas.{applied_said}
use Rattle.lsm_recover.proofs.SoundLemmas.{applied_numbered, edit_small}
use Rattle.lsm_recover.proofs.manifest.next_stated.Goals as goal

pub returns-in_err-version-clause-refused : goal.returns-in_err-version-clause-refused
returns-in_err-version-clause-refused c =
    let edit = c.args.edit.now in
    let refused = λ (edits : List Edit) (are : AreStated edits c.args.stated).
    edit_refused c.args.name c.args.place edits edit (next_follows edits edit are.some) c.args.stated.version are.version c.in_err-version.field-0.0 c.in_err-version.ensures.refused in
    search (rules, refused)

pub returns-clause-ok : goal.returns-clause-ok
returns-clause-ok c = λ edits are.
    let edit = c.args.edit.now in
    let may = next_follows edits edit are.some in (
      edit_taken c.args.name c.args.place edits edit may c.args.stated.version are.version c.in_ok-version.version c.in_ok-version.ensures.ok,
      stated_more c.args.name c.args.place edits edit may c.args.stated.version are.version c.in_ok-version.version c.in_ok-version.ensures.ok c.unwrap_or.result c.unwrap_or-2.result c.unwrap_or-3.result
          (next_numbers edits edit c.args.stated are ∙ (λ i. record { log = Some (sym c.unwrap_or.ensures i); next = Some (sym c.unwrap_or-2.ensures i); last = Some (sym c.unwrap_or-3.ensures i) })),
    )

pub returns-clause-sound : goal.returns-clause-sound
returns-clause-sound c =
    let edit = c.args.edit.now in
    record {
      numbered = applied_numbered c.args.stated.version c.in_ok-version.version edit c.requires.grammar c.in_ok-version.ensures.ok c.requires.sound.numbered;
      said = applied_said c.args.stated.version c.in_ok-version.version edit c.requires.grammar c.in_ok-version.ensures.ok c.requires.sound.said;
      small = subst (λ (n : ℕ). n < 2 ^ 56) (sym c.unwrap_or-3.ensures) (last_stays_small c.args.stated.last edit.last c.requires.sound.small (edit_small edit c.requires.grammar));
    }
