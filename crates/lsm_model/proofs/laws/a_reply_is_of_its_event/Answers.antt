use Rattle.lsm_model.proofs.CallLemmas.{reply_of_event}
use Rattle.lsm_model.proofs.laws.a_reply_is_of_its_event.Goals as goal

pub returns : goal.returns
returns c = reply_of_event
