-- A fault in a piece is a fault of the whole, where the whole can be completed from the piece and needs it.
use Rattle.std.proofs.Common.{◌≡◌, ℕ, ◌+◌, List, [], ◌++◌, length, take, drop, sym, ap, ◌∙◌, subst, arith, append_assoc, length-append, add_assoc, zero-add}
use Rattle.std.proofs.lemmas.List.{take_all}
use Rattle.std.proofs.Math.Seq.{take-append-add}
use Rattle.lsm_rows.specs.Pieces.{Begins, IsFault, FaultFrom}

pub fault_after : (Inner InnerAhead Outer OuterAhead : List ℕ → Type 0) (p rest : List ℕ) (k : ℕ)
    → ((v : List ℕ) → Inner v → (w : List ℕ) × Outer (p ++ (v ++ w)))
    → ((t : List ℕ) → OuterAhead (p ++ t) → InnerAhead t)
    → IsFault Inner InnerAhead rest k → IsFault Outer OuterAhead (p ++ rest) (length p + k)
fault_after Inner InnerAhead Outer OuterAhead p rest k complete needed fault =
    let done = complete (take k rest ++ fault.before.0) fault.before.1 in
    record {
      within = omega (arith, length-append p rest, fault.within);
      none = λ ahead. fault.none (needed rest ahead);
      before = (fault.before.0 ++ done.0, subst Outer (regroup fault.before.0 done.0) done.1);
      here = λ below more ahead. fault.here (omega (arith, length-append p rest, below)) more (needed (take (k + 1) rest ++ more) (subst OuterAhead (one_more more) ahead));
    }
  where
    regroup : (more w : List ℕ) → p ++ ((take k rest ++ more) ++ w) ≡ take (length p + k) (p ++ rest) ++ (more ++ w)
    regroup more w = rw (take-append-add p rest k) (simp append_assoc)

    one_more : (more : List ℕ) → take (length p + k + 1) (p ++ rest) ++ more ≡ p ++ (take (k + 1) rest ++ more)
    one_more more = ap (λ (n : ℕ). take n (p ++ rest) ++ more) (add_assoc (length p) k 1) ∙ ap (λ (l : List ℕ). l ++ more) (take-append-add p rest (k + 1)) ∙ append_assoc p (take (k + 1) rest) more

-- the same where the piece begins the whole
pub fault_of : (Inner InnerAhead Outer OuterAhead : List ℕ → Type 0) (rest : List ℕ) (k : ℕ)
    → ((v : List ℕ) → Inner v → (w : List ℕ) × Outer (v ++ w))
    → ((t : List ℕ) → OuterAhead t → InnerAhead t)
    → IsFault Inner InnerAhead rest k → IsFault Outer OuterAhead rest k
fault_of Inner InnerAhead Outer OuterAhead rest k complete needed fault =
    subst (λ (n : ℕ). IsFault Outer OuterAhead rest n) (zero-add k) (fault_after Inner InnerAhead Outer OuterAhead [] rest k complete needed fault)

-- the bytes stop inside a piece that needs more
pub fault_at_end : (Whole Ahead : List ℕ → Type 0) (bytes more : List ℕ) → ¬ Ahead bytes → Whole (bytes ++ more) → IsFault Whole Ahead bytes (length bytes)
fault_at_end Whole Ahead bytes more none whole = record {
  within = omega arith;
  none = none;
  before = (more, subst (λ (t : List ℕ). Whole (t ++ more)) (sym (take_all (length bytes) bytes (omega arith))) whole);
  here = λ below. absurd (omega (arith, below));
}

-- a fault from a place on, in terms of what stands before and behind a piece's front
pub fault_behind : (Inner Outer : List ℕ → Type 0) (bytes p : List ℕ) (at next place : ℕ)
    → drop at bytes ≡ p ++ drop next bytes → next ≡ at + length p
    → ((v : List ℕ) → Inner v → (w : List ℕ) × Outer (p ++ (v ++ w)))
    → ((t : List ℕ) → Begins Outer (p ++ t) → Begins Inner t)
    → FaultFrom Inner bytes next place → FaultFrom Outer bytes at place
fault_behind Inner Outer bytes p at next place split ends complete needed inner = record {
  skipped = length p + inner.skipped;
  placed = omega (arith, inner.placed, ends);
  fault = subst (λ (t : List ℕ). IsFault Outer (Begins Outer) t (length p + inner.skipped)) (sym split)
      (fault_after Inner (Begins Inner) Outer (Begins Outer) p (drop next bytes) inner.skipped complete needed inner.fault);
}
