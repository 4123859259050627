use Rattle.std.proofs.Common.{◌≡◌, ◌++◌, map}
use Rattle.std.specs.List.{flat_map}
use Rattle.lsm_rows.specs.Pairs.{pair_of}
use Rattle.ldb_script.specs.Printed.{pair_line}
use Rattle.ldb_script.proofs.listing.push_pairs.Given as goal

abbrev pub invariant-loop-key : goal.invariant-loop-key
invariant-loop-key l = l.text ++ flat_map pair_line (map pair_of l.key-iterator) ≡ l.fn.text ++ flat_map pair_line (map pair_of l.values.entries)
