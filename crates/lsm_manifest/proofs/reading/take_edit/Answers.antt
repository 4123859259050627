use Rattle.std.proofs.Common.{refl, subst}
use Rattle.lsm_version.specs.Decoding.{IsBad}
use Rattle.lsm_manifest.proofs.Following.{is_none}
use Rattle.lsm_manifest.proofs.reading.take_edit.Goals as goal

pub returns-in-Err-BadEdit-clause-bad : goal.returns-in-Err-BadEdit-clause-bad
returns-in-Err-BadEdit-clause-bad c = (refl, is_none c.args.text.now c.in-Err-BadEdit.field-0-0 (subst (IsBad c.args.text.now) c.in-Err-BadEdit.field-0-is c.in-Err-BadEdit.ensures.bad))
