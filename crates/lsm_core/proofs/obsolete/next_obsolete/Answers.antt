-- Where all names were looked at, the first of those that aren't used is the next obsolete one.
use Rattle.std.specs.Prelude.{None, List}
use Rattle.std.proofs.Common.{◌∙◌, sym, ap, subst}
use Rattle.std.proofs.lemmas.List.{take_all}
use Rattle.lsm_names.specs.declared.file_names.FileName.{FileName}
use Rattle.lsm_core.specs.Obsolete.{IsNext, deleting, first_unused}
use Rattle.lsm_core.proofs.FirstNames.{next_is}
use Rattle.lsm_core.proofs.obsolete.next_obsolete.Goals as goal

pub returns : goal.returns
returns g c =
    let known = c.args.known.now in
    let kept = c.args.catalog.now in
    subst (IsNext (deleting known c.args.manifest c.args.writing kept))
    (sym (c.loop-name.invariant.is ∙ ap (λ (names : List FileName). first_unused kept c.args.manifest c.args.writing None names)
    (take_all c.loop-name.name-index known c.loop-name-test.false)))
    (next_is known kept c.args.manifest c.args.writing)
