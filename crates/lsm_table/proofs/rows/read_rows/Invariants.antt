use Rattle.std.specs.Option.{option_map}
use Rattle.lsm_table.proofs.RowRuns.{IsRun}
use Rattle.lsm_table.proofs.rows.read_rows.Given as goal

abbrev pub invariant-loop-entry : goal.invariant-loop-entry
invariant-loop-entry g l = IsRun (g.V.View.viewed l.initial.view) (g.V.View.viewed l.view) l.index (option_map (λ k. k.now) l.after) l.count l.entry-index l.rows
