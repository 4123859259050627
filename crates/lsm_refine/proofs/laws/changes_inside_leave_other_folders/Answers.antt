use Rattle.lsm_refine.proofs.OutsideLemmas.{folders_stay, change_inside, inside_both, created_spares, gone_spares}
use Rattle.lsm_refine.proofs.laws.changes_inside_leave_other_folders.Goals as goal

pub returns-clause-stay : goal.returns-clause-stay
returns-clause-stay c = folders_stay

pub returns-clause-change : goal.returns-clause-change
returns-clause-change c = change_inside

pub returns-clause-both : goal.returns-clause-both
returns-clause-both c = inside_both

pub returns-clause-created : goal.returns-clause-created
returns-clause-created c = created_spares

pub returns-clause-unlinked : goal.returns-clause-unlinked
returns-clause-unlinked c = gone_spares
