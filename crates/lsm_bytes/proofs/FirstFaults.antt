-- First faults of a whole text by those of its parts, for the readers above this crate.
use Rattle.std.proofs.Common.{◌≡◌, ℕ, ◌+◌, ◌-◌, ◌^◌, ◌<◌, ◌≤◌, List, ◌++◌, length, take, drop, sym, ap, ◌∙◌, subst, arith, ◌⊎◌, inl, inr}
use Rattle.std.proofs.Math.Seq.{take-append-add}
use Rattle.std.proofs.lemmas.Bool.{cases_lt}
use Rattle.std.proofs.lemmas.List.{append_assoc, length-append, length-take-le, take-append-drop, take-append-le, take-take, take_all}
use Rattle.lsm_bytes.specs.Faults.{IsFirstFault}
use Rattle.lsm_bytes.specs.Varint.{IsVarint, IsVarintAt, BeginsWithVarint, varint}
use Rattle.lsm_bytes.proofs.Spelling.{IsVarint-one_spelling}

-- bytes that could go on end early
pub IsFirstFault-early : (Good : List ℕ → Type 0) (bytes : List ℕ) → (more : List ℕ) × Good (bytes ++ more) → IsFirstFault Good bytes (length bytes)
IsFirstFault-early Good bytes goes_on = record {
  within = omega arith;
  before = (goes_on.0, subst (λ (t : List ℕ). Good (t ++ goes_on.0)) (sym (take_all (length bytes) bytes (omega arith))) goes_on.1);
  here = λ inside _ _. absurd (omega arith);
}

-- behind a front that was read, the fault is that of the rest
pub IsFirstFault-behind : (Whole Rest : List ℕ → Type 0) (front rest : List ℕ) (place : ℕ) → ((t : List ℕ) → Rest t → Whole (front ++ t)) → ((t : List ℕ) → Whole (front ++ t) → Rest t)
    → IsFirstFault Rest rest place → IsFirstFault Whole (front ++ rest) (length front + place)
IsFirstFault-behind Whole Rest front rest place make split fault = record {
  within = omega (arith, length-append front rest, fault.within);
  before = (fault.before.0, subst Whole (sym (behind place fault.before.0)) (make (take place rest ++ fault.before.0) fault.before.1));
  here = λ inside more good. fault.here (omega (arith, length-append front rest, inside)) more (split (take (place + 1) rest ++ more) (subst Whole (ap (λ (k : ℕ). take k (front ++ rest) ++ more) (next place) ∙ behind (place + 1) more) good));
}
  where
    next : (place : ℕ) → length front + place + 1 ≡ length front + (place + 1)
    next place = omega arith

    behind : (place : ℕ) (more : List ℕ) → take (length front + place) (front ++ rest) ++ more ≡ front ++ (take place rest ++ more)
    behind place more =
        ap (λ (t : List ℕ). t ++ more) (take-append-add front rest place) ∙ append_assoc front (take place rest) more

-- of two first faults neither is before the other
not_before : (Good : List ℕ → Type 0) (bytes : List ℕ) (place other : ℕ) → IsFirstFault Good bytes place → IsFirstFault Good bytes other → place < other → ⊥
not_before Good bytes place other one two less =
    let tail : List ℕ = drop (place + 1) (take other bytes) in
    let parts : take other bytes ≡ take (place + 1) bytes ++ tail =
    sym (take-append-drop (place + 1) (take other bytes)) ∙ ap (λ (t : List ℕ). t ++ tail) (take-take (place + 1) other bytes (omega arith)) in
    one.here (omega (arith, two.within)) (tail ++ two.before.0) (subst Good (ap (λ (t : List ℕ). t ++ two.before.0) parts ∙ append_assoc (take (place + 1) bytes) tail two.before.0) two.before.1)

-- a text has one first fault
pub IsFirstFault-once : (Good : List ℕ → Type 0) (bytes : List ℕ) (place other : ℕ) → IsFirstFault Good bytes place → IsFirstFault Good bytes other → place ≡ other
IsFirstFault-once Good bytes place other one two = by_order (cases_lt place other) (cases_lt other place)
  where
    by_order : (place < other) ⊎ (other ≤ place) → (other < place) ⊎ (place ≤ other) → place ≡ other
    by_order (inl less) _ = absurd (not_before Good bytes place other one two less)
    by_order (inr _) (inl more) = absurd (not_before Good bytes other place two one more)
    by_order (inr down) (inr up) = omega arith

-- Where a text begins with a varint, and each number can be gone on from, a fault in the varint is a fault of
-- the text.
pub IsFirstFault-varint : (Good : List ℕ → Type 0) (bytes : List ℕ) (place : ℕ) → (BeginsWithVarint bytes → ⊥) → IsFirstFault BeginsWithVarint bytes place
    → ((n : ℕ) → n < 2 ^ 64 → (body : List ℕ) × Good (varint n ++ body)) → ((t : List ℕ) → Good t → BeginsWithVarint t)
    → IsFirstFault Good bytes place
unfolding BeginsWithVarint
IsFirstFault-varint Good bytes place refused fault goes_on begins = record {
  within = fault.within;
  before = whole (cases_lt place next);
  here = λ inside more good. fault.here inside more (begins (take (place + 1) bytes ++ more) good);
}
  where
    more : List ℕ
    more = fault.before.0

    n : ℕ
    n = fault.before.1.0

    next : ℕ
    next = fault.before.1.1

    found : IsVarintAt (take place bytes ++ more) 0 n next
    found = fault.before.1.2

    size : next - 0 ≡ next
    size = omega arith

    spelled : IsVarint (take next (take place bytes ++ more)) n
    spelled = subst (λ (k : ℕ). IsVarint (take k (take place bytes ++ more)) n) size found.spelling

    short : length (take place bytes) ≡ place
    short = length-take-le place bytes fault.within

    -- a spelling that ends before the place would stand in the bytes themselves
    inside_place : next ≤ place → ⊥
    inside_place le =
        let same : take next (take place bytes ++ more) ≡ take next bytes =
        take-append-le next (take place bytes) more (omega (arith, short)) ∙ take-take next place bytes le in
        refused (
          n,
          next,
          record {
            ordered = omega arith;
            within = omega (arith, fault.within);
            spelling = subst (λ (k : ℕ). IsVarint (take k bytes) n) (sym size) (subst (λ (t : List ℕ). IsVarint t n) same spelled);
            fits = found.fits;
          },
        )

    whole : (place < next) ⊎ (next ≤ place) → (more : List ℕ) × Good (take place bytes ++ more)
    whole (inr le) = absurd (inside_place le)
    whole (inl less) =
        let rest : List ℕ = take (next - place) more in
        let parts : next ≡ length (take place bytes) + (next - place) = omega (arith, short) in
        let spelling : take place bytes ++ rest ≡ varint n =
        sym (ap (λ (k : ℕ). take k (take place bytes ++ more)) parts ∙ take-append-add (take place bytes) more (next - place)) ∙ IsVarint-one_spelling (take next (take place bytes ++ more)) n spelled in
        let body = goes_on n found.fits in
        (rest ++ body.0, subst Good (ap (λ (t : List ℕ). t ++ body.0) (sym spelling) ∙ append_assoc (take place bytes) rest body.0) body.1)
