use Rattle.std.proofs.Common.{inr, refl, subst}
use Rattle.lsm_version.specs.Decoding.{IsBad}
use Rattle.lsm_recover.proofs.manifest.edit_of.Goals as goal

pub returns-in-Err-BadEdit-clause-refused : goal.returns-in-Err-BadEdit-clause-refused
unfolding IsBad
returns-in-Err-BadEdit-clause-refused c = inr (refl, (subst (IsBad c.args.text.now) c.in-Err-BadEdit.field-0-is c.in-Err-BadEdit.ensures.bad).none)
