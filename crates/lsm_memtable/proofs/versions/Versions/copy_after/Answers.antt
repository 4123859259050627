use Rattle.std.proofs.Common.{[], ◌∷◌, ◌<◌, ◌^◌, sym, ap, ◌∙◌, arith, length, length-append}
use Rattle.lsm_rows.specs.declared.rows.Row.{Row}
use Rattle.lsm_memtable.proofs.VersionRows.{copied_turn, left_turn, below_turn, ended}
use Rattle.lsm_memtable.proofs.versions.Versions.copy_after.Goals as goal

pub loop-row-preserved-in_ok-push : goal.loop-row-preserved-in_ok-push
loop-row-preserved-in_ok-push c = (
  copied_turn _ c.args.count c.loop-row.out c.push.new.self c.loop-row.row-iterator.iter.rest.now c.next.new.self.iter.rest.now _ c.in-Some.row.now c.in_ok-copy_of.field-0 c.in-Some.ensures.steps
      (sym c.is_after.ensures ∙ c.if-is_after.true) c.in_ok-push.ensures.ok c.in_ok-copy_of.ensures c.loop-row.invariant.0,
  omega (arith, c.loop-row.invariant.1, c.if-len-count.false, c.len.ensures.len, ap (length {A = Row}) c.in_ok-push.ensures.ok, length-append c.loop-row.out (c.in_ok-copy_of.field-0 ∷ [])),
  below_turn (λ row. row.sequence < 2 ^ 56) c.loop-row.row-iterator.iter.rest.now c.next.new.self.iter.rest.now c.in-Some.row.now c.in-Some.ensures.steps c.loop-row.invariant.2,
)

pub loop-row-preserved : goal.loop-row-preserved
loop-row-preserved c = (
  left_turn _ c.args.count c.loop-row.out c.loop-row.row-iterator.iter.rest.now c.next.new.self.iter.rest.now _ c.in-Some.row.now c.in-Some.ensures.steps (sym c.is_after.ensures ∙ c.if-is_after.false) c.loop-row.invariant.0,
  c.loop-row.invariant.1,
  below_turn (λ row. row.sequence < 2 ^ 56) c.loop-row.row-iterator.iter.rest.now c.next.new.self.iter.rest.now c.in-Some.row.now c.in-Some.ensures.steps c.loop-row.invariant.2,
)

pub returns-clause-ok : goal.returns-clause-ok
returns-clause-ok c = ended _ c.args.count c.loop-row.out c.loop-row.row-iterator.iter.rest.now _ c.in-None.ensures.steps.0 c.loop-row.invariant.1 c.loop-row.invariant.0
