use Rattle.lsm_refine.proofs.OpeningFresh.{free_fresh, made_fresh, folder_kept}
use Rattle.lsm_refine.proofs.opening_images.a_new_folder_is_fresh.Goals as goal

pub returns-clause-before : goal.returns-clause-before
returns-clause-before c = free_fresh

pub returns-clause-made : goal.returns-clause-made
returns-clause-made c = λ dir named d lawful quiet free clear. folder_kept dir named d lawful free clear quiet

pub returns-clause-synced : goal.returns-clause-synced
returns-clause-synced c = made_fresh
