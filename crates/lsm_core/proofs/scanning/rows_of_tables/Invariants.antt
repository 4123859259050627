use Rattle.std.specs.Prelude.{◌≡◌, ◌++◌, Ok}
use Rattle.lsm_folder.specs.Parts.{rows_of_tables}
use Rattle.lsm_core.specs.Reading.{Reads, seen_with}
use Rattle.lsm_core.proofs.WholeRows.{AreLive, rows_in}
use Rattle.lsm_core.proofs.scanning.rows_of_tables.Given as goal

abbrev pub invariant-loop-number : goal.invariant-loop-number
invariant-loop-number g l = record {
  live : AreLive l.version l.number-iterator;
  reads : Reads {T = Unit {0}} (λ rows value. rows_of_tables l.version rows ≡ l.all.items ++ rows_in rows l.number-iterator)
      (seen_with (g.D.Disk.seen l.fn.disk) l.home l.version l.fn.tables)
      (seen_with (g.D.Disk.seen l.disk) l.home l.version l.tables) (Ok tt);
}
