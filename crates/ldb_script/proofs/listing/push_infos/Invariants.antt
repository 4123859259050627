use Rattle.std.proofs.Common.{◌≡◌, ◌++◌, take}
use Rattle.std.specs.List.{flat_map}
use Rattle.ldb_script.specs.Printed.{line_of_info}
use Rattle.ldb_script.proofs.listing.push_infos.Given as goal

abbrev pub invariant-loop-info : goal.invariant-loop-info
invariant-loop-info l = l.text ≡ l.fn.text ++ flat_map line_of_info (take l.info-index l.infos)
