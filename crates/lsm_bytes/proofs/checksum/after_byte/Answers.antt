use Rattle.std.specs.Prelude.{bit_xor}
use Rattle.std.proofs.Common.{◌/◌, ◌%◌, ◌∙◌, ℕ, sym, ap}
use Rattle.lsm_bytes.specs.Checksum.{divide_bits, take_byte}
use Rattle.lsm_bytes.proofs.Division.{by_table}
use Rattle.lsm_bytes.proofs.checksum.after_byte.Goals as goal

pub returns : goal.returns
unfolding take_byte
returns c =
    ap (λ (k : ℕ). bit_xor k (c.args.register / 256)) (c.entry.ensures ∙ ap (λ (b : ℕ). divide_bits 8 (bit_xor c.args.register b % 256)) c.from.ensures)
    ∙ sym (by_table c.args.register c.args.byte c.ranges.byte.fits)
