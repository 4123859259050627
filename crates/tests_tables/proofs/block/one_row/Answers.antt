use Rattle.std.proofs.Common.{◌≡◌, ◌∷◌, [], ℕ, length, ap, ◌∙◌, arith}
use Rattle.lsm_rows.specs.declared.internal_keys.Kind.TheVariants.{Put}
use Rattle.lsm_block.specs.declared.entries.Entry.{Entry}
use Rattle.lsm_block.proofs.Keys.{internal_len}
use Rattle.lsm_block.proofs.EntryLists.{entries-nil}
use Rattle.lsm_block.proofs.Writings.{entry_most}
use Rattle.tests_tables.proofs.block.one_row.Goals as goal

pub add-requires-clause-small : goal.add-requires-clause-small
add-requires-clause-small c =
    let e : Entry = record { key = c.as_slice.result.now; value = 49 ∷ [] } in
    let size : length c.as_slice.result.now ≡ 9 = ap (length {A = ℕ}) c.as_slice.ensures.bytes ∙ internal_len
    c.in_ok-key.key (97 ∷ []) 1 Put c.in_ok-key.ensures in
    rw c.new-builder.ensures (omega (
      arith,
      size,
      entry_most [] e (omega (arith, size)) (omega arith),
      ap
          (length {A = ℕ}) (entries-nil 0 []),
    ))
