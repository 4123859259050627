-- A session's name: where its reading fails, and what it gives.
use Rattle.std.proofs.Common.{◌≡◌, ℕ, zero, suc, ◌+◌, ◌-◌, ◌<◌, ◌≤◌, ◌⊎◌, inl, inr, Bool, true, false, List, [], ◌∷◌, ◌++◌, length, take, drop, refl, sym, ap, ◌∙◌, arith, length-append, length-drop, length-take, take-append-drop, drop-drop, get_or}
use Rattle.std.specs.Prelude.{◌&&◌, replicate}
use Rattle.std.specs.List.{list_all}
use Rattle.std.proofs.lemmas.List.{length-replicate}
use Rattle.std.proofs.lemmas.Bool.Decides.{nat_tests}
use Rattle.std.proofs.Math.ListN.{get_or-append}
use Rattle.lsm_names.specs.Sessions.{is_session_byte, is_session}
use Rattle.lsm_names.proofs.SessionLemmas.{length_of_session, bytes_of_session}
use Rattle.lsm_rows.specs.Pieces.{Begins, FaultFrom}
use Rattle.lsm_version.specs.Reading.{IsSessionIn, IsSessionAt}
use Rattle.lsm_version.proofs.ReadKeys.{taken_at}
use Rattle.std.proofs.lemmas.Bool.{and_parts}

pub session_of : (name : List ℕ) → length name ≡ 20 → list_all is_session_byte name ≡ true → is_session name ≡ true
unfolding is_session
session_of name size good = grind (arith, nat_tests)

both_true : (a b : Bool) → a ≡ true → b ≡ true → (a && b) ≡ true
both_true true b p q = q
both_true false b p q = cc

all_at : (p : ℕ → Bool) (xs : List ℕ) (i : ℕ) → list_all p xs ≡ true → i < length xs → p (get_or xs i 0) ≡ true
all_at p [] i all less = absurd (omega (arith, less))
all_at p (x ∷ xs) zero all less = (and_parts (p x) (list_all p xs) all).0
all_at p (x ∷ xs) (suc i) all less = all_at p xs i (and_parts (p x) (list_all p xs) all).1 (omega (arith, less))

all_joined : (p : ℕ → Bool) (xs ys : List ℕ) → list_all p xs ≡ true → list_all p ys ≡ true → list_all p (xs ++ ys) ≡ true
all_joined p [] ys all more = more
all_joined p (x ∷ xs) ys all more =
    let one = and_parts (p x) (list_all p xs) all in
    both_true (p x) (list_all p (xs ++ ys)) one.0 (all_joined p xs ys one.1 more)

all_filled : (p : ℕ → Bool) (n b : ℕ) → p b ≡ true → list_all p (replicate n b) ≡ true
all_filled p zero b is = refl
all_filled p (suc n) b is = both_true (p b) (list_all p (replicate n b)) is (all_filled p n b is)

-- the byte that stands there is none of a session's, or none stands there
abbrev pub IsBadByte : ℕ → List ℕ → Type 0
IsBadByte i bytes = (length bytes ≤ i) ⊎ (is_session_byte (get_or bytes i 0) ≡ false)

no_session : (i : ℕ) (t : List ℕ) → i < 20 → IsBadByte i t → Begins IsSessionIn t → ⊥
no_session i t less bad ahead =
    let piece : List ℕ = ahead.piece in
    let size : length piece ≡ 20 = length_of_session piece ahead.good.good in
    let good : is_session_byte (get_or piece i 0) ≡ true = all_at is_session_byte piece i (bytes_of_session piece ahead.good.good) (omega (arith, size, less)) in
    let same : get_or t i 0 ≡ get_or piece i 0 = ap (λ (s : List ℕ). get_or s i 0) ahead.joined ∙ get_or-append piece ahead.more 0 i (omega (arith, size, less)) in
    by_bad (omega (arith, ap (length {A = ℕ}) ahead.joined, length-append piece ahead.more, size, less)) (ap is_session_byte same ∙ good) bad
  where
    by_bad : i < length t → is_session_byte (get_or t i 0) ≡ true → IsBadByte i t → ⊥
    by_bad there good (inl none) = absurd (omega (arith, there, none))
    by_bad there good (inr bad) = cc

digit_zero : is_session_byte 48 ≡ true
unfolding is_session_byte
digit_zero = refl

pub session_fault : (bytes : List ℕ) (at i : ℕ) → i < 20 → i ≤ length (drop at bytes) → list_all is_session_byte (take i (drop at bytes)) ≡ true → IsBadByte i (drop at bytes)
    → FaultFrom IsSessionIn bytes at (at + i)
session_fault bytes at i less within all bad =
    let rest : List ℕ = drop at bytes in
    let size : length (take i rest) ≡ i = length-take i rest ∙ omega (arith, within) in
    let fill : List ℕ = replicate (20 - i) 48 in
    record {
      skipped = i;
      placed = refl;
      fault = record {
        within = within;
        none = no_session i rest less bad;
        before = (
          fill,
          record {
            good = session_of (take i rest ++ fill) (length-append (take i rest) fill ∙ omega (arith, size, length-replicate {A = ℕ} (20 - i) 48, less))
                (all_joined is_session_byte (take i rest) fill all (all_filled is_session_byte (20 - i) 48 digit_zero));
          },
        );
        here = λ below more. no_session i (take (i + 1) rest ++ more) less (inr (still below more bad));
      };
    }
  where
    still : i < length (drop at bytes) → (more : List ℕ) → IsBadByte i (drop at bytes) → is_session_byte (get_or (take (i + 1) (drop at bytes) ++ more) i 0) ≡ false
    still below more (inl none) = absurd (omega (arith, below, none))
    still below more (inr bad) =
        ap is_session_byte
        (get_or-append (take (i + 1) (drop at bytes)) more 0 i (omega (arith, length-take (i + 1) (drop at bytes), below)) ∙ taken_at (drop at bytes) (i + 1) i (omega arith))
        ∙ bad

pub session_at : (bytes name : List ℕ) (at : ℕ) → length name ≡ 20 → 20 ≤ length (drop at bytes) → name ≡ take 20 (drop at bytes) → list_all is_session_byte (take 20 (drop at bytes)) ≡ true
    → IsSessionAt bytes at name
session_at bytes name at size within same all = record {
  good = session_of name size (ap (list_all is_session_byte) same ∙ all);
  within = omega (arith, length-drop at bytes, within);
  text = sym (take-append-drop 20 (drop at bytes)) ∙ (λ i. sym same i ++ drop-drop 20 at bytes i);
}
