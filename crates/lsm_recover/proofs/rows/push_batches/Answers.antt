use Rattle.std.proofs.Common.{◌∙◌, sym, ap, subst, length}
use Rattle.std.specs.Prelude.{◌+◌, ◌++◌, List, ◌^◌, ◌<◌}
use Rattle.lsm_rows.specs.declared.operations.Op.{Op}
use Rattle.lsm_rows.specs.Rows.{batch_rows}
use Rattle.lsm_recover.proofs.RowLemmas.{next_fits, all_more}
use Rattle.lsm_recover.proofs.rows.push_batches.Goals as goal

pub loop-batch-preserved : goal.loop-batch-preserved
loop-batch-preserved c = λ fits.
    let l = c.loop-batch in
    let ops = c.batch-item.result in
    let so_far = l.invariant fits in
    let small = next_fits c.args.last c.args.batches.now c.args.rows.now l.batch-index l.last l.rows so_far ops c.loop-batch-test.true c.batch-item.is fits in
    let same = c.ops.ensures.ops in
    let here = subst (λ (o : List Op). l.last + length o < 2 ^ 64) (sym same) small in
    all_more c.args.last c.args.batches.now c.args.rows.now l.batch-index l.last l.rows so_far ops c.loop-batch-test.true c.batch-item.is c.in_ok-last.last c.push_batch.new.rows
    (c.in_ok-last.ensures.last here ∙ ap (λ (o : List Op). l.last + length o) same) (c.in_ok-last.ensures.rows here ∙ ap (λ (o : List Op). l.rows ++ batch_rows (l.last + 1) o) same)
