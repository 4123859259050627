use Rattle.std.proofs.Common.{drop, refl, sym, ap, ◌∙◌, arith, vec_len}
use Rattle.std.proofs.lemmas.Result.{err_from_is_err_and}
use Rattle.lsm_block.proofs.Keys.{some_from_test, none_from_test}
use Rattle.lsm_block.proofs.Readings.{bad_no_memory, malformed_none, malformed_end, parsed}
use Rattle.lsm_block.proofs.blocks.Block.parse.Goals as goal
use Rattle.lsm_block.proofs.blocks.Block.parse.Goals.{then-is_empty-via-then-is_empty, then-is_empty-via-else-is_empty+then-ne}

pub returns-in_err-front-clause-bad : goal.returns-in_err-front-clause-bad
returns-in_err-front-clause-bad c =
    let p = err_from_is_err_and c.from_residual.result c.from_residual.ensures.1 in
    rw (p.1, p.2) (bad_no_memory c.args.bytes _ refl)

pub returns-then-is_empty-clause-bad : goal.returns-then-is_empty-clause-bad
returns-then-is_empty-clause-bad c =
    elim c.then-is_empty.branch [
      | then-is_empty-via-then-is_empty w ↦
          malformed_none c.args.bytes c.as_slice.result.now c.in_ok-front.front.entries.items c.in_ok-front.front.end c.in_ok-front.ensures.longest (sym c.as_slice.ensures)
          (λ some. none_from_test (vec_len c.in_ok-front.front.entries) c.is_empty.result c.is_empty.ensures w.if-is_empty.true (omega (arith, some)))
      | then-is_empty-via-else-is_empty+then-ne w ↦
          malformed_end c.args.bytes c.as_slice.result.now c.in_ok-front.front.entries.items c.in_ok-front.front.end c.split_at.result.1.now w.as_slice-else-is_empty.result.now w.ne.result
          c.in_ok-front.ensures.longest (sym c.as_slice.ensures) (c.split_at.ensures.back ∙ ap (drop c.in_ok-front.front.end) (c.as_slice-2.ensures ∙ sym c.as_slice.ensures))
          (w.as_slice-else-is_empty.ensures ∙ c.in_ok-front.ensures.restarts) w.ne.ensures w.if-ne.true
    ]

pub returns-clause-ok : goal.returns-clause-ok
returns-clause-ok c =
    let some = some_from_test (vec_len c.in_ok-front.front.entries) c.is_empty.result c.is_empty.ensures c.if-is_empty.false in
    parsed c.args.bytes c.as_slice.result.now c.in_ok-front.front.entries.items c.in_ok-front.front.end c.split_at.result.1.now c.as_slice-else-is_empty.result.now c.ne.result
    c.in_ok-front.ensures.longest (sym c.as_slice.ensures) (omega (arith, some))
    (c.split_at.ensures.back ∙ ap (drop c.in_ok-front.front.end) (c.as_slice-2.ensures ∙ sym c.as_slice.ensures))
    (c.as_slice-else-is_empty.ensures ∙ c.in_ok-front.ensures.restarts) c.ne.ensures c.if-ne.false
