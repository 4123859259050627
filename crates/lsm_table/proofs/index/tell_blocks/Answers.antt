use Rattle.std.proofs.Common.{All, subst, arith}
use Rattle.std.proofs.lemmas.List.{take_all}
use Rattle.std.proofs.lemmas.List.Elements.{All-more}
use Rattle.lsm_table.specs.Opening.{TellsBlock}
use Rattle.lsm_table.proofs.Indexes.{tells_some}
use Rattle.lsm_table.proofs.index.tell_blocks.Goals as goal

pub loop-entry-preserved : goal.loop-entry-preserved
loop-entry-preserved c =
    All-more TellsBlock c.args.entries.now c.loop-entry.entry-index c.entry-item.result (omega (arith, c.loop-entry-test.true)) c.loop-entry.invariant
    (subst TellsBlock c.entry-item.is (tells_some c.entry-item.result c.block_place.result c.as_slice.result.now c.as_slice.ensures c.block_place.ensures.some c.if-is_none.ensures))

pub returns-clause-all : goal.returns-clause-all
returns-clause-all c = subst (All TellsBlock) (take_all c.loop-entry.entry-index c.args.entries.now (omega (arith, c.loop-entry-test.false))) c.loop-entry.invariant
