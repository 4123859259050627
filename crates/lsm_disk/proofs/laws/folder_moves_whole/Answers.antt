use Rattle.lsm_disk.proofs.Moves.{get_moved, free_of}
use Rattle.lsm_disk.proofs.laws.folder_moves_whole.Goals as goal

pub returns : goal.returns
returns c names from to rest free tail = get_moved from to rest tail names (free_of names to free)
