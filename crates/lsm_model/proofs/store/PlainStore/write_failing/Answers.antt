use Rattle.std.proofs.Common.{subst, Err}
use Rattle.lsm_model.specs.declared.events.Event.TheVariants as event
use Rattle.lsm_model.specs.declared.replies.Reply.TheVariants as reply
use Rattle.lsm_model.specs.declared.states.State.{State}
use Rattle.lsm_model.specs.Plain.{state_of}
use Rattle.lsm_model.specs.Steps.{Step}
use Rattle.lsm_model.proofs.StepLemmas.{step_write}
use Rattle.lsm_model.proofs.store.PlainStore.write_failing.Goals as goal

pub returns-clause-step : goal.returns-clause-step
returns-clause-step c = λ sync.
    subst (λ (s : State). Step s (event.Write c.args.batch sync) (reply.Write (Err c.write_failing.result)) (state_of c.write_failing.new.self)) c.self.view_is
    (step_write (state_of c.self.inside.lists) (state_of c.write_failing.new.self) c.args.batch sync (Err c.write_failing.result) (c.write_failing.ensures.step sync))
