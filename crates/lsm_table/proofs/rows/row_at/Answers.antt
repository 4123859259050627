use Rattle.lsm_table.proofs.RowRuns.{row_got}
use Rattle.lsm_table.proofs.rows.row_at.Goals as goal

pub returns : goal.returns
returns c =
    let p = c.in-Some.field-0 in
    row_got c.args.entry.now c.as_slice.result.now c.as_slice-2.result.now p.key.now c.in_ok-key.key p.sequence p.kind c.in_ok-value.value c.as_slice.ensures c.as_slice-2.ensures c.in-Some.ensures.some c.in_ok-key.ensures
    c.in_ok-value.ensures
