use Rattle.lsm_memtable.proofs.places.is_after.Goals as goal

pub returns-in-Some : goal.returns-in-Some
returns-in-Some c = rw c.in-Some.is c.is_behind.ensures
