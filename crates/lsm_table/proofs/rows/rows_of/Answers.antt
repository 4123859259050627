use Rattle.std.proofs.Common.{sym, subst}
use Rattle.std.specs.Prelude.{All}
use Rattle.lsm_block.specs.Blocks.{IsKey}
use Rattle.lsm_table.proofs.RowRuns.{keys_each}
use Rattle.lsm_table.proofs.rows.rows_of.Goals as goal

pub push_rows-requires : goal.push_rows-requires
push_rows-requires c = subst (All (λ e. IsKey e.key)) (sym c.entries.ensures.entries) (keys_each c.args.block.now c.entries.ensures.block.entries.keys)
