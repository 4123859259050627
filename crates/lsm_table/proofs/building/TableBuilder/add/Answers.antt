use Rattle.std.proofs.Common.{◌+◌, ℕ, length, refl, sym, ap, ◌∙◌, arith}
use Rattle.lsm_block.proofs.Keys.{internal_len}
use Rattle.lsm_table.specs.Cuts.{size_of, added}
use Rattle.lsm_table.specs.Building.{Built}
use Rattle.lsm_table.proofs.BuiltRows.{row_key, built_more}
use Rattle.lsm_table.proofs.building.TableBuilder.add.Goals as goal

pub add-requires-clause-room : goal.add-requires-clause-room
add-requires-clause-room c =
    omega (
      arith,
      c.requires.room,
      ap (length {A = ℕ}) c.as_slice-3.ensures.bytes,
      internal_len c.in_ok-key.key c.as_slice.result.now c.args.row.now.sequence c.kind_and_value-kind.result.0 c.in_ok-key.ensures,
      ap (length {A = ℕ}) c.as_slice.ensures,
      ap (length {A = ℕ}) c.kind_and_value-kind.ensures.value,
      ap (λ (b : Built). size_of b.blocks) c.self.view_is,
    )

pub returns-clause-ok : goal.returns-clause-ok
returns-clause-ok c =
    λ rows handed was.
    built_more c.args.self.now _ rows handed c.args.row.now c.as_slice-3.result.now c.kind_and_value-kind.result.1.now was
    (c.in_ok-add.ensures.ok ∙ ap (λ (b : Built). added b.blocks (record { key = c.as_slice-3.result.now; value = c.kind_and_value-kind.result.1.now })) c.self.view_is)
    (row_key c.in_ok-key.key c.as_slice-3.result.now c.as_slice.result.now c.args.row.now.sequence c.kind_and_value-kind.result.0 c.args.row.now c.in_ok-key.ensures c.as_slice.ensures refl c.kind_and_value-kind.ensures.kind c.as_slice-3.ensures.bytes)
    c.kind_and_value-kind.ensures.value
    (ap (λ (b : Built). b.count + 1) c.self.view_is)
    (λ none. c.in_ok-keep_first.ensures.first (ap (λ (b : Built). b.count) c.self.view_is ∙ none) ∙ c.as_slice-2.ensures.bytes ∙ sym c.as_slice-3.ensures.bytes)
    (λ some. c.in_ok-keep_first.ensures.later (omega (arith, some, ap (λ (b : Built). b.count) c.self.view_is)) ∙ ap (λ (b : Built). b.smallest) c.self.view_is)

pub returns-clause-grown : goal.returns-clause-grown
returns-clause-grown c =
    omega (
      arith,
      c.in_ok-add.ensures.grown,
      ap (length {A = ℕ}) c.as_slice-3.ensures.bytes,
      internal_len c.in_ok-key.key c.as_slice.result.now c.args.row.now.sequence c.kind_and_value-kind.result.0 c.in_ok-key.ensures,
      ap (length {A = ℕ}) c.as_slice.ensures,
      ap (length {A = ℕ}) c.kind_and_value-kind.ensures.value,
      ap (λ (b : Built). size_of b.blocks) c.self.view_is,
    )
