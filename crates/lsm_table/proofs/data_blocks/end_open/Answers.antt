use Rattle.std.proofs.Common.{◌+◌, ◌++◌, ℕ, length, sym, ap, ◌∙◌}
use Rattle.lsm_bytes.specs.Varint.{varint}
use Rattle.lsm_block.specs.BlockText.{block_text}
use Rattle.lsm_table.proofs.Cutting.{end_key, end_past, end_small, stored-len}
use Rattle.lsm_table.proofs.data_blocks.end_open.Goals as goal

pub add-requires-clause-key : goal.add-requires-clause-key
add-requires-clause-key c = end_key (record { begun = c.args.begun.now; index = c.args.index.now; pending = c.args.pending.now; place = c.args.place }) c.last_key.result.now c.requires.cut c.requires.some c.last_key.ensures

pub add-requires-clause-past : goal.add-requires-clause-past
add-requires-clause-past c = end_past (record { begun = c.args.begun.now; index = c.args.index.now; pending = c.args.pending.now; place = c.args.place }) c.last_key.result.now c.requires.cut c.requires.some c.last_key.ensures

pub add-requires-clause-small : goal.add-requires-clause-small
add-requires-clause-small c =
    end_small (record { begun = c.args.begun.now; index = c.args.index.now; pending = c.args.pending.now; place = c.args.place }) c.last_key.result.now c.as_slice-2.result.now c.requires.cut c.requires.some c.last_key.ensures
    (c.as_slice-2.ensures ∙ c.in_ok-value.ensures ∙ ap (λ n. varint c.args.place ++ varint n) (c.len.ensures.len ∙ ap (length {A = ℕ}) c.in_ok-contents.ensures))

pub returns-in-Ok-clause-len : goal.returns-in-Ok-clause-len
returns-in-Ok-clause-len c = ap (λ n. n + 5) (c.len-in-Ok.ensures.len ∙ ap (length {A = ℕ}) c.in_ok-contents.ensures) ∙ sym (stored-len (block_text c.args.begun.now))
