-- The records that more pieces make.
use Rattle.std.proofs.Common.{◌≡◌, inl, inr, ℕ, List, [], ◌∷◌, ◌++◌, Option, Some, None, refl, ap}
use Rattle.lsm_frame.specs.Records.{Ending, Piece, Taken, taken, ended, joined_by, joined}
use Rattle.lsm_frame.specs.Growth.{IsOpen, Extends}
use Rattle.lsm_frame.specs.declared.ending.Ending.TheVariants.{End, Torn, Damaged, Malformed}
use Rattle.lsm_frame.specs.Records.Taken.{Ends, Adds, Wrong}

ended_open : (begun : Option (ℕ × List ℕ)) (e : Ending) → IsOpen e → IsOpen (ended begun e)
ended_open None e o = o
ended_open (Some r) End o = tt
ended_open (Some r) (Torn place) o = tt
ended_open (Some r) (Damaged place kept found) o = o
ended_open (Some r) (Malformed place) o = o

extends_cons : (made : ℕ × List ℕ) (a b : List (ℕ × List ℕ) × Ending) → Extends a b → Extends (made ∷ a.0, a.1) (made ∷ b.0, b.1)
extends_cons made a b h = elim h [
  | inl same ↦ inl (ap (λ (r : List (ℕ × List ℕ) × Ending). (made ∷ r.0, r.1)) same)
  | inr more ↦ inr (more.0, record { rest = more.1.rest; is = ap (λ (l : List (ℕ × List ℕ)). made ∷ l) more.1.is })
]

by_extends : (t : Taken) (place : ℕ) (a b : List (ℕ × List ℕ) × Ending) (m n : ℕ × List ℕ → List (ℕ × List ℕ) × Ending) → Extends a b → ((r : ℕ × List ℕ) → Extends (m r) (n r)) → Extends (joined_by t place a m) (joined_by t place b n)
by_extends (Ends made) place a b m n h k = extends_cons made a b h
by_extends (Adds made) place a b m n h k = k made
by_extends Wrong place a b m n h k = inl refl

pub joined_extends : (ps qs : List Piece) (begun : Option (ℕ × List ℕ)) (e f : Ending) → IsOpen e → Extends (joined begun ps e) (joined begun (ps ++ qs) f)
unfolding joined
joined_extends [] qs begun e f o = inr (ended_open begun e o, record { rest = (joined begun qs f).0; is = refl })
joined_extends (p ∷ ps) qs begun e f o = by_extends (taken begun p) p.place _ _ _ _ (joined_extends ps qs None e f o) (λ (r : ℕ × List ℕ). joined_extends ps qs (Some r) e f o)

-- the pieces of a text that extends another make records that extend the other's
pub extends_joined : (a b : List Piece × Ending) → Extends a b → Extends (joined None a.0 a.1) (joined None b.0 b.1)
extends_joined a b h = elim h [
  | inl same ↦ inl (ap (λ (r : List Piece × Ending). joined None r.0 r.1) same)
  | inr more ↦ rw (more.1.is) (joined_extends a.0 more.1.rest None a.1 b.1 more.0)
]

-- where the pieces end behind a whole record, the next ones begin with none under way
pub joined_then : (ps qs : List Piece) (begun : Option (ℕ × List ℕ)) (f : Ending) → (joined begun ps End).1 ≡ End → joined begun (ps ++ qs) f ≡ ((joined begun ps End).0 ++ (joined None qs f).0, (joined None qs f).1)
unfolding joined
joined_then [] qs None f e = refl
joined_then [] qs (Some r) f e = absurd (cc)
joined_then (p ∷ ps) qs begun f e = by_then (taken begun p) p.place _ _ _ _ _ (λ h. joined_then ps qs None f h) (λ (r : ℕ × List ℕ) h. joined_then ps qs (Some r) f h) e
  where
    by_then : (t : Taken) (place : ℕ) (a b : List (ℕ × List ℕ) × Ending) (m n : ℕ × List ℕ → List (ℕ × List ℕ) × Ending) (c : List (ℕ × List ℕ) × Ending)
        → (a.1 ≡ End → b ≡ (a.0 ++ c.0, c.1)) → ((r : ℕ × List ℕ) → (m r).1 ≡ End → n r ≡ ((m r).0 ++ c.0, c.1))
        → (joined_by t place a m).1 ≡ End → joined_by t place b n ≡ ((joined_by t place a m).0 ++ c.0, c.1)
    by_then (Ends made) place a b m n c h k e = ap (λ (r : List (ℕ × List ℕ) × Ending). (made ∷ r.0, r.1)) (h e)
    by_then (Adds made) place a b m n c h k e = k made e
    by_then Wrong place a b m n c h k e = absurd (cc)
