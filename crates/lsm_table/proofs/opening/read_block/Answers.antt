use Rattle.std.proofs.Common.{ℕ, List, inl, inr, subst}
use Rattle.lsm_frame.specs.Reader.{Tells}
use Rattle.lsm_table.specs.DataBlocks.{IsStoredFault}
use Rattle.lsm_block.specs.Blocks.{IsBad}
use Rattle.lsm_table.proofs.Openings.{by_fault, no_memory}
use Rattle.lsm_table.proofs.DataBlocks.{block_malformed}
use Rattle.lsm_table.proofs.opening.read_block.Goals as goal

pub returns-in-Err-Malformed-clause-err : goal.returns-in-Err-Malformed-clause-err
returns-in-Err-Malformed-clause-err g c = λ text told. block_malformed text c.in_ok-contents.contents c.args.place c.args.len c.in-Err-Malformed.field-0-0 (c.in_ok-contents.ensures.there text told) (c.in_ok-contents.ensures.ok text told) (subst (IsBad c.in_ok-contents.contents) c.in-Err-Malformed.field-0-is c.in-Err-Malformed.ensures.bad)

pub returns-in-Err-NoMemory-clause-err : goal.returns-in-Err-NoMemory-clause-err
returns-in-Err-NoMemory-clause-err g c = λ text told. inr (c.in_ok-contents.ensures.there text told, inl (no_memory _))

pub returns-in_err-contents-clause-err : goal.returns-in_err-contents-clause-err
returns-in_err-contents-clause-err g c =
    by_fault (λ e. (text : List ℕ) → Tells (g.V.View.viewed c.args.view.now) text → IsStoredFault text c.args.place c.args.len e) c.from_residual.result c.in_err-contents.field-0.0 c.from_residual.ensures.1
    (λ text told. inr (c.in_err-contents.ensures.there text told, inl (c.in_err-contents.ensures.err text told)))

pub returns-in-Ok-clause-ok : goal.returns-in-Ok-clause-ok
returns-in-Ok-clause-ok g c =
    λ text told. record { there = c.in_ok-contents.ensures.there text told; contents = c.in_ok-contents.contents; stored = c.in_ok-contents.ensures.ok text told; is = c.in-Ok.ensures.ok }
