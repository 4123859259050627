use Rattle.std.proofs.Common.{inl, subst, All}
use Rattle.lsm_block.specs.Blocks.{IsBad}
use Rattle.lsm_table.proofs.Openings.{no_memory, index_malformed, index_strange}
use Rattle.lsm_table.specs.Opening.{TellsBlock}
use Rattle.lsm_table.proofs.opening.read_index.Goals as goal

pub returns-in-Err-Malformed-clause-err : goal.returns-in-Err-Malformed-clause-err
returns-in-Err-Malformed-clause-err g c = λ text told. index_malformed text c.in_ok-contents.contents c.args.places c.in-Err-Malformed.field-0-0 (c.in_ok-contents.ensures.ok text told) (subst (IsBad c.in_ok-contents.contents) c.in-Err-Malformed.field-0-is c.in-Err-Malformed.ensures.bad)

pub returns-in-Err-NoMemory-clause-err : goal.returns-in-Err-NoMemory-clause-err
returns-in-Err-NoMemory-clause-err g c = λ text told. inl (no_memory _)

pub returns-else-tell_blocks-clause-err : goal.returns-else-tell_blocks-clause-err
returns-else-tell_blocks-clause-err g c = λ text told. index_strange text c.in_ok-contents.contents c.args.places c.in-Ok.index (c.in_ok-contents.ensures.ok text told) c.in-Ok.ensures.ok (subst (λ es. All TellsBlock es → ⊥) c.entries.ensures.entries c.if-tell_blocks.ensures.some_not)
