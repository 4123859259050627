-- How much a batch adds to a log at most.
use Rattle.std.specs.Prelude.{◌≡◌, ℕ, ◌+◌, ◌*◌, ◌-◌, ◌%◌, ◌<◌, ◌≤◌, Bool, true, false, List, ◌++◌, length, take, drop, replicate}
use Rattle.std.proofs.Common.{inl, inr, refl, arith}
use Rattle.std.proofs.lemmas.Bool.{cases_lt}
use Rattle.std.proofs.lemmas.Bool.Decides.{nat_tests}
use Rattle.std.proofs.lemmas.List.{length-append, length-drop, length-take-le, length-replicate}
use Rattle.lsm_rows.specs.declared.operations.Op.{Op}
use Rattle.lsm_rows.specs.BatchText.{batch_text, text_len}
use Rattle.lsm_rows.specs.Limits.{InLimits}
use Rattle.lsm_frame.specs.Frames.{piece, kind_of, cut, filling, start, record_text}
use Rattle.lsm_frame.proofs.Written.{length-piece, cut_goes, cut_stays, cut_zero}
use Prim.Native.Nat.{zero, suc}

-- a record from a block's start on
cut_small : (more : ℕ) (begun : Bool) (rest : List ℕ) → length (cut more begun 0 rest) ≤ 7 + 8 * length rest
cut_small zero begun rest = rw (cut_zero begun 0 rest) (omega (arith, length-piece (kind_of begun true) rest))
cut_small (suc more) begun rest = elim (cases_lt 32761 (length rest)) [
  | inl over ↦ rw (cut_goes more begun 0 rest over) (omega (arith, length-append (piece (kind_of begun false) (take 32761 rest)) (cut more true 0 (drop 32761 rest)), length-piece (kind_of begun false) (take 32761 rest), length-take-le 32761 rest (omega arith), length-drop 32761 rest, cut_small more true (drop 32761 rest)))
  | inr fits ↦ let e : cut (suc more) begun 0 rest ≡ piece (kind_of begun true) rest = cut_stays more begun 0 rest fits in rw e (omega (arith, length-piece (kind_of begun true) rest))
]

-- and from any place in a block on
cut_fits : (more : ℕ) (begun : Bool) (offset : ℕ) (rest : List ℕ) → length (cut more begun offset rest) ≤ 14 + 8 * length rest
cut_fits zero begun offset rest = rw (cut_zero begun offset rest) (omega (arith, length-piece (kind_of begun true) rest))
cut_fits (suc more) begun offset rest = elim (cases_lt (32761 - offset) (length rest)) [
  | inl over ↦ rw (cut_goes more begun offset rest over) (omega (arith, length-append (piece (kind_of begun false) (take (32761 - offset) rest)) (cut more true 0 (drop (32761 - offset) rest)), length-piece (kind_of begun false) (take (32761 - offset) rest), length-take-le (32761 - offset) rest (omega arith), length-drop (32761 - offset) rest, cut_small more true (drop (32761 - offset) rest)))
  | inr fits ↦ let e : cut (suc more) begun offset rest ≡ piece (kind_of begun true) rest = cut_stays more begun offset rest fits in rw e (omega (arith, length-piece (kind_of begun true) rest))
]

filled : (offset : ℕ) → offset < 32768 → filling offset ≤ 6
filled offset inside = elim (cases_lt 32761 offset) [
  | inl over ↦ let all : filling offset ≡ 32768 - offset = grind (arith, nat_tests) in omega (arith, all, over)
  | inr under ↦ let none : filling offset ≡ 0 = grind (arith, nat_tests) in omega (arith, none)
]

record_fits : (offset : ℕ) (payload : List ℕ) → offset < 32768 → length (record_text offset payload) ≤ 20 + 8 * length payload
unfolding record_text
record_fits offset payload inside =
    omega (arith, length-append (replicate (filling offset) 0) (cut (length payload) false (start offset) payload), length-replicate {A = ℕ} (filling offset) 0, filled offset inside, cut_fits (length payload) false (start offset) payload)

text_length : (first : ℕ) (ops : List Op) → length (batch_text first ops) ≡ text_len ops
unfolding batch_text
text_length first ops = refl

-- a batch's record
pub batch_fits : (size first : ℕ) (ops : List Op) → InLimits ops → length (record_text (size % 32768) (batch_text first ops)) ≤ 67108864
batch_fits size first ops limits = omega (arith, record_fits (size % 32768) (batch_text first ops) (omega arith), text_length first ops, limits.bytes)
