use Rattle.std.proofs.Common.{ℕ, ◌-◌, List, ap, sym, subst, ◌∙◌}
use Rattle.std.specs.Prelude.{All}
use Rattle.std.specs.Option.{option_map}
use Rattle.lsm_frame.specs.Reader.{Tells}
use Rattle.lsm_block.specs.declared.entries.Entry.{Entry}
use Rattle.lsm_block.specs.Blocks.{IsKey, keys_of}
use Rattle.lsm_table.specs.Opening.{IsOutside}
use Rattle.lsm_table.specs.Rows.{AreOfBlocks}
use Rattle.lsm_table.specs.declared.faults.TableFault.TheVariants.{NoMemory}
use Rattle.lsm_table.proofs.Openings.{by_fault}
use Rattle.lsm_table.proofs.RowRuns.{IsRun, run_start, run_more, run_all, run_full, run_refused, keys_taken, memory_outside, block_read, fault_read}
use Rattle.lsm_table.proofs.rows.read_rows.Goals as goal

pub loop-entry-init : goal.loop-entry-init
loop-entry-init g c =
    let v = g.V.View.viewed c.args.view.now in
    let after = option_map (λ k. k.now) c.args.after in
    subst (IsRun v v c.args.index.now after c.args.count 0) (sym c.new-rows.ensures) (run_start v c.args.index.now after c.args.count)

pub returns-then-left-eq0-clause-ok : goal.returns-then-left-eq0-clause-ok
returns-then-left-eq0-clause-ok g c =
    run_full (g.V.View.viewed c.args.view.now) (g.V.View.viewed c.loop-entry.view) c.args.index.now (option_map (λ k. k.now) c.args.after) c.args.count c.loop-entry.entry-index c.loop-entry.rows c.loop-entry.invariant
    (ap (λ (n : ℕ). c.args.count - n) (sym c.len.ensures.len) ∙ c.if-left-eq0.true)

pub returns-in_err-block-clause-err : goal.returns-in_err-block-clause-err
returns-in_err-block-clause-err g c =
    let v = g.V.View.viewed c.args.view.now in
    by_fault (λ e. (text : List ℕ) (blocks : List (List Entry)) → Tells v text → AreOfBlocks text c.args.index.now blocks → IsOutside e) c.from_residual.result c.in_err-block.field-0.0 c.from_residual.ensures.1
    (run_refused v (g.V.View.viewed c.loop-entry.view) c.args.index.now (option_map (λ k. k.now) c.args.after) c.args.count c.loop-entry.entry-index c.entry-item.result c.loop-entry.rows c.in_err-block.field-0.0 c.loop-entry.invariant
    c.loop-entry-test.true c.entry-item.is (fault_read (g.V.View.viewed c.loop-entry.view) c.entry-item.result c.in_err-block.field-0.0 c.in_err-block.ensures.err))

pub push_rows-requires : goal.push_rows-requires
push_rows-requires g c =
    keys_taken (option_map (λ k. k.now) c.args.after) (c.args.count - c.len.result) c.entries.result.now c.first_after.result.now
    (subst (λ es. All IsKey (keys_of es)) (sym c.entries.ensures.entries) c.entries.ensures.block.entries.keys) c.first_after.ensures

pub returns-in_err-push_rows-clause-err : goal.returns-in_err-push_rows-clause-err
returns-in_err-push_rows-clause-err g c =
    by_fault (λ e. (text : List ℕ) (blocks : List (List Entry)) → Tells (g.V.View.viewed c.args.view.now) text → AreOfBlocks text c.args.index.now blocks → IsOutside e) c.from_residual-in_err-push_rows.result NoMemory c.from_residual-in_err-push_rows.ensures.1
    (λ text blocks told of. memory_outside)

pub loop-entry-preserved : goal.loop-entry-preserved
loop-entry-preserved g c =
    let v = g.V.View.viewed c.args.view.now in
    let w = g.V.View.viewed c.loop-entry.view in
    let u = g.V.View.viewed c.read_told.new.view in
    let after = option_map (λ k. k.now) c.args.after in
    run_more v w u c.args.index.now after c.args.count c.loop-entry.entry-index (c.args.count - c.len.result) c.entry-item.result c.loop-entry.rows c.push_rows.new.rows c.in_ok-block.block c.entries.result.now
    c.first_after.result.now c.loop-entry.invariant c.loop-entry-test.true c.entry-item.is c.in_ok-block.ensures.view (ap (λ (n : ℕ). c.args.count - n) c.len.ensures.len) (block_read w c.entry-item.result c.in_ok-block.block c.in_ok-block.ensures.ok) c.entries.ensures.entries
    c.first_after.ensures c.in_ok-push_rows.ensures

pub returns-clause-ok : goal.returns-clause-ok
returns-clause-ok g c =
    run_all (g.V.View.viewed c.args.view.now) (g.V.View.viewed c.loop-entry.view) c.args.index.now (option_map (λ k. k.now) c.args.after) c.args.count c.loop-entry.entry-index c.loop-entry.rows c.loop-entry.invariant c.loop-entry-test.false
