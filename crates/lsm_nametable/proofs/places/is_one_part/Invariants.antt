use Rattle.std.proofs.Common.{◌≡◌, drop}
use Rattle.std.specs.Prelude.{is_none}
use Rattle.lsm_names.specs.Paths.{cut_last}
use Rattle.lsm_nametable.proofs.places.is_one_part.Given as goal

abbrev pub invariant-loop-byte : goal.invariant-loop-byte
invariant-loop-byte l = is_none (cut_last (drop l.byte-index l.bytes)) ≡ is_none (cut_last l.bytes)
