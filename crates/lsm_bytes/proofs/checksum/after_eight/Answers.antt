use Rattle.std.specs.Prelude.{bit_xor}
use Rattle.std.proofs.Common.{ℕ, ◌∙◌, ap}
use Rattle.std.proofs.lemmas.Nat.{xor_lt}
use Rattle.lsm_bytes.specs.Checksum.{divide_bits}
use Rattle.lsm_bytes.proofs.Division.{table_step, tables_end, tables_start}
use Rattle.lsm_bytes.proofs.checksum.after_eight.Goals as goal

pub loop-table-init : goal.loop-table-init
loop-table-init c =
    tables_start (bit_xor c.from.result c.args.eight) (xor_lt 64 c.from.result c.args.eight c.from.type_inv c.ranges.eight.fits)

pub loop-table-preserved : goal.loop-table-preserved
loop-table-preserved c =
    let l = c.loop-table in
    table_step l.table (bit_xor c.from.result c.args.eight) l.after c.entry-after.result c.loop-table-test.true l.invariant c.entry-after.ensures

pub returns : goal.returns
returns c =
    let l = c.loop-table in
    l.invariant ∙ tables_end l.table (bit_xor c.from.result c.args.eight) c.loop-table-test.false l.auto.table-end ∙ ap (λ (r : ℕ). divide_bits 64 (bit_xor r c.args.eight)) c.from.ensures
