use Rattle.lsm_model.specs.Plain.{state_of}
use Rattle.lsm_model.proofs.PlainLemmas.{got}
use Rattle.lsm_model.proofs.plain.PlainLists.get.Goals as goal

pub returns-in-Ok : goal.returns-in-Ok
returns-in-Ok c = got (state_of c.args.self.now) c.args.key.now c.in-Ok.value c.in-Ok.ensures
