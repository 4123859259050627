use Rattle.std.proofs.Common.{◌≡◌, take}
use Rattle.lsm_rows.specs.Contents.{contents_of}
use Rattle.lsm_scan.proofs.pairs.sorted_pairs.Given as goal

abbrev pub invariant-loop-place : goal.invariant-loop-place
invariant-loop-place l = l.pairs ≡ contents_of (take l.place l.rows)
