-- One step of a reader.
use Rattle.std.proofs.Common.{◌≡◌, ℕ, ◌+◌, ◌-◌, ◌%◌, ◌≤◌, List, [], ◌∷◌, ◌++◌, length, take, drop, Option, Some, None, ap, sym, ◌∙◌, arith}
use Rattle.std.proofs.lemmas.List.{length-drop, length-take-le, drop-drop}
use Rattle.std.proofs.lemmas.Bool.Decides.{nat_tests}
use Rattle.lsm_frame.specs.Frames.{filling, start}
use Rattle.lsm_frame.specs.declared.ending.Ending.TheVariants.{Malformed}
use Rattle.lsm_frame.specs.declared.steps.Taking.{Taking}
use Rattle.lsm_frame.specs.declared.steps.Taking.TheVariants.{Full, Part, Refused}
use Rattle.lsm_frame.specs.Records.{Ending, here, taken, ended}
use Rattle.lsm_frame.specs.Records.Here.{Stops, Goes}
use Rattle.lsm_frame.specs.Reading.{reading, left, in_block, under_way, IsReady, piece_here, took}
use Rattle.lsm_frame.proofs.OnePiece.{reading_stops, reading_adds, reading_ends, reading_wrong}
use Rattle.lsm_frame.proofs.InBlock.{part_in_block}
use Rattle.lsm_frame.proofs.Crossing.{reading_from}

-- what a piece of this kind makes of the record under way, with these bytes so far
abbrev pub Takes : Option ℕ → ℕ → ℕ → Taking → Type 0
Takes begun at kind result = (bytes part : List ℕ) → IsReady begun bytes → taken (under_way begun bytes) (record { place = at; kind = kind; part = part }) ≡ took bytes part result

-- a whole piece at a place, and the bytes of its block
pub record Stands (at kind part : ℕ) (rest text : List ℕ) : Type 0 where
  pub block : rest ≡ in_block at text
  pub fits : at % 32768 ≤ 32761
  pub inside : 7 + part ≤ length rest
  pub within : length rest ≤ 32768 - at % 32768
  pub is : here at (at % 32768) (drop at text) ≡ Goes (piece_here at kind part (drop at text))

module _ (at kind part : ℕ) (rest text : List ℕ) (s : Stands at kind part rest text) where
  -- the bytes that the code takes for the piece's part are its part
  abbrev the_part : List ℕ
  the_part = take part (drop 7 (drop at text))

  same_part : take part (drop 7 rest) ≡ the_part
  same_part = part_in_block (32768 - at % 32768) part rest (drop at text) s.block s.inside

  long_part : length the_part ≡ part
  long_part = ap (λ (l : List ℕ). length l) (sym same_part) ∙ length-take-le part (drop 7 rest) (omega (arith, s.inside, length-drop 7 rest))

  -- what is read behind the piece
  behind_it : (next : Option (ℕ × List ℕ)) → reading next (at + 7 + length the_part) (start (at % 32768) + 7 + length the_part) (drop (filling (at % 32768) + 7 + length the_part) (drop at text)) ≡ left next (at + (7 + part)) text
  behind_it next =
      let none : filling (at % 32768) ≡ 0 = grind (arith, nat_tests, s.fits) in
      let same : start (at % 32768) ≡ at % 32768 = grind (arith, nat_tests, s.fits) in
      ap (λ (n : ℕ). reading next (at + 7 + n) (start (at % 32768) + 7 + n) (drop (filling (at % 32768) + 7 + n) (drop at text))) long_part
      ∙ ap (λ (n : ℕ). reading next (at + 7 + part) (start (at % 32768) + 7 + part) (drop (n + 7 + part) (drop at text))) none
      ∙ ap (λ (n : ℕ). reading next (at + 7 + part) (n + 7 + part) (drop (0 + 7 + part) (drop at text))) same
      ∙ ap (λ (l : List ℕ). reading next (at + 7 + part) (at % 32768 + 7 + part) l) (drop-drop (0 + 7 + part) at text ∙ ap (λ (n : ℕ). drop n text) (omega arith))
      ∙ ap (λ (n : ℕ). reading next n (at % 32768 + 7 + part) (drop (at + (7 + part)) text)) (omega arith)
      ∙ ap (λ (n : ℕ). reading next (at + (7 + part)) n (drop (at + (7 + part)) text)) (omega arith)
      ∙ reading_from next at (7 + part) (drop (at + (7 + part)) text) (omega (arith, s.inside, s.within))

  pub step_full : (begun : Option ℕ) (old new : List ℕ) (from : ℕ) → Takes begun at kind (Full from) → IsReady begun old → new ≡ old ++ take part (drop 7 rest)
      → left (under_way begun old) at text ≡ ((from, new) ∷ (left None (at + (7 + part)) text).0, (left None (at + (7 + part)) text).1)
  step_full begun old new from t ready n =
      reading_ends (under_way begun old) at (at % 32768) (drop at text) (piece_here at kind part (drop at text)) (from, old ++ the_part) s.is (t old the_part ready)
      ∙ ap (λ (r : List (ℕ × List ℕ) × Ending). ((from, old ++ the_part) ∷ r.0, r.1)) (behind_it None)
      ∙ ap (λ (l : List ℕ). ((from, l) ∷ (left None (at + (7 + part)) text).0, (left None (at + (7 + part)) text).1)) (sym (n ∙ ap (λ (l : List ℕ). old ++ l) same_part))

  pub step_part : (begun : Option ℕ) (old new : List ℕ) (from : ℕ) → Takes begun at kind (Part from) → IsReady begun old → new ≡ old ++ take part (drop 7 rest)
      → left (under_way begun old) at text ≡ left (Some (from, new)) (at + (7 + part)) text
  step_part begun old new from t ready n =
      reading_adds (under_way begun old) at (at % 32768) (drop at text) (piece_here at kind part (drop at text)) (from, old ++ the_part) s.is (t old the_part ready)
      ∙ behind_it (Some (from, old ++ the_part))
      ∙ ap (λ (l : List ℕ). left (Some (from, l)) (at + (7 + part)) text) (sym (n ∙ ap (λ (l : List ℕ). old ++ l) same_part))

  pub step_wrong : (begun : Option ℕ) (old : List ℕ) → Takes begun at kind Refused → IsReady begun old → left (under_way begun old) at text ≡ ([], Malformed at)
  step_wrong begun old t ready = reading_wrong (under_way begun old) at (at % 32768) (drop at text) (piece_here at kind part (drop at text)) s.is (t old the_part ready)

pub step_stops : (begun : Option ℕ) (old : List ℕ) (at : ℕ) (text : List ℕ) (e last : Ending) → here at (at % 32768) (drop at text) ≡ Stops e → last ≡ ended (under_way begun old) e → left (under_way begun old) at text ≡ ([], last)
step_stops begun old at text e last h l = reading_stops (under_way begun old) at (at % 32768) (drop at text) e h ∙ ap (λ (x : Ending). (let none : List (ℕ × List ℕ) = [] in (none, x))) (sym l)
