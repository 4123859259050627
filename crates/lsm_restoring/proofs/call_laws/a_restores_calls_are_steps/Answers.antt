use Rattle.lsm_restoring.proofs.RestoreCalls.{begin_steps}
use Rattle.lsm_restoring.proofs.RestoreFills.{file_steps, append_steps, seal_steps}
use Rattle.lsm_restoring.proofs.RestoreEnds.{finish_steps}
use Rattle.lsm_restoring.proofs.call_laws.a_restores_calls_are_steps.Goals as goal

pub returns-clause-begun : goal.returns-clause-begun
returns-clause-begun c v w dir result named jobs is taken did s good = begin_steps v w s good dir named jobs result is taken did

pub returns-clause-filed : goal.returns-clause-filed
returns-clause-filed c v w name result jobs begun is_begun empty part fresh is never did s good =
    file_steps v w s good jobs begun is_begun name part fresh empty result is never did

pub returns-clause-appended : goal.returns-clause-appended
returns-clause-appended c v w bytes result jobs begun name is_begun held is never did s good =
    append_steps v w s good jobs begun is_begun name held bytes result is never did

pub returns-clause-sealed : goal.returns-clause-sealed
returns-clause-sealed c v w result jobs begun name is_begun held is never did s good =
    seal_steps v w s good jobs begun is_begun name held result is never did

pub returns-clause-finished : goal.returns-clause-finished
returns-clause-finished c v w current result jobs begun is_begun empty is never lawful ran s good =
    finish_steps v w s good jobs begun is_begun empty current result is never lawful ran
