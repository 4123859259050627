use Rattle.lsm_compact.proofs.Growing.{edit_more}
use Rattle.lsm_compact.proofs.laws.flushes_leave_the_edit.Goals as goal

pub returns : goal.returns
returns c = λ tables more rows choice inputs outputs edit closed grown.
    edit_more tables more rows choice closed grown inputs outputs edit
