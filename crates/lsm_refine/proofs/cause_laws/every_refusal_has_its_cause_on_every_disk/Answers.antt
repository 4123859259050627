use Rattle.lsm_refine.proofs.CauseLemmas.{has_kept_cause}
use Rattle.lsm_refine.proofs.cause_laws.every_refusal_has_its_cause_on_every_disk.Goals as goal

pub returns : goal.returns
returns c = has_kept_cause
