use Rattle.lsm_refine.proofs.RecoveredSteps.{names_synced_among, names_synced_inside, has_switched, has_recovered}
use Rattle.lsm_refine.proofs.opening_laws.an_opening_goes_part_by_part.Goals as goal

pub returns-clause-synced : goal.returns-clause-synced
returns-clause-synced c = λ dir names d. (names_synced_among dir names d, names_synced_inside dir d)

pub returns-clause-switched : goal.returns-clause-switched
returns-clause-switched c = has_switched

pub returns-clause-recovered : goal.returns-clause-recovered
returns-clause-recovered c = has_recovered
