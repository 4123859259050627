use Rattle.std.proofs.Common.{◌≡◌}
use Rattle.std.specs.List.{fold}
use Rattle.lsm_version.specs.Versions.{empty_version}
use Rattle.lsm_version.proofs.TableMaps.{tables_of, with_entry}
use Rattle.lsm_version.proofs.version.copied.Given as goal

abbrev pub invariant-loop-number : goal.invariant-loop-number
invariant-loop-number l = fold with_entry (tables_of l.copied.entries) l.number-iterator ≡ fold with_entry empty_version l.tables.entries
