use Rattle.lsm_refine.proofs.OneCall.{call_shows, call_halts}
use Rattle.lsm_refine.proofs.flush_laws.a_call_shows_the_state.Goals as goal

pub returns-clause-images : goal.returns-clause-images
returns-clause-images c = call_shows

pub returns-clause-halted : goal.returns-clause-halted
returns-clause-halted c = call_halts
