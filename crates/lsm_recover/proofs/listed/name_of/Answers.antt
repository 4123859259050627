use Rattle.std.proofs.Common.{sym}
use Rattle.lsm_recover.proofs.ListedLemmas.{is_name, no_name}
use Rattle.lsm_recover.proofs.listed.name_of.Goals as goal

pub returns-in-Ok-clause-is : goal.returns-in-Ok-clause-is
returns-in-Ok-clause-is c = sym (is_name c.args.text.now c.in-Ok.name c.in-Ok.ensures.number c.in-Ok.ensures.spelling)

pub returns-in-Err-clause-is : goal.returns-in-Err-clause-is
returns-in-Err-clause-is c = sym (no_name c.args.text.now c.in-Err.ensures.refused)
