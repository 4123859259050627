use Rattle.std.proofs.Common.{◌≡◌}
use Rattle.std.specs.Prelude.{is_some}
use Rattle.std.specs.List.{list_any}
use Rattle.lsm_disk.specs.Names.{inside}
use Rattle.lsm_nametable.specs.Table.{shown}
use Rattle.lsm_nametable.proofs.table.has_inside.Given as goal

abbrev pub invariant-loop-key : goal.invariant-loop-key
invariant-loop-key l = list_any (λ e. is_some (inside l.folder e.0)) (shown l.key-iterator) ≡ list_any (λ e. is_some (inside l.folder e.0)) (shown l.entries.entries)
