use Rattle.std.proofs.Common.{◌≡◌, ◌++◌, drop}
use Rattle.lsm_memdisk.specs.Disk.{reads_for}
use Rattle.lsm_memdisk.proofs.disk.reads_of.Given as goal

abbrev pub invariant-loop-number : goal.invariant-loop-number
invariant-loop-number l = l.found.items ++ reads_for l.view (drop l.number-index l.reads) ≡ reads_for l.view l.reads
