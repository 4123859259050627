use Rattle.lsm_disk.specs.State.{names_now}
use Rattle.lsm_disk.proofs.Tree.{free_below, lawful_now, made_free}
use Rattle.lsm_disk.proofs.laws.free_below_free.Goals as goal

pub returns-clause-absent : goal.returns-clause-absent
returns-clause-absent c s dir rest lawful free = free_below (names_now s) dir rest (lawful_now s lawful) free

pub returns-clause-made : goal.returns-clause-made
returns-clause-made c = made_free
