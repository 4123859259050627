-- The record of changes, as it grows.
use Rattle.std.specs.Prelude.{◌≡◌, ℕ, zero, suc, ◌+◌, ◌-◌, ◌^◌, min, List, [], ◌∷◌, ◌++◌, length}
use Rattle.std.proofs.Common.{refl, sym, ap, ◌∙◌, arith, append_assoc, length-append}
use Rattle.lsm_disk.specs.State.{Change, Idle}
use Rattle.lsm_changes.specs.History.{idle, filled, Rises, appended_by, appended_in, IsCount}

idle_length : (n : ℕ) → length (idle n) ≡ n
idle_length zero = refl
idle_length (suc n) = ap suc (idle_length n)

idle_none : (n : ℕ) → idle (n - n) ≡ []
idle_none n = let none : n - n ≡ 0 = omega arith in ap idle none

idle_one_more : (m n : ℕ) → m ≡ n + 1 → idle m ≡ idle n ++ Idle ∷ []
idle_one_more zero n is = absurd (omega (arith, is))
idle_one_more (suc m) zero is = let none : m ≡ 0 = omega (arith, is) in ap (λ (k : ℕ). Idle ∷ idle k) none
idle_one_more (suc m) (suc n) is = ap (λ (l : List Change). Idle ∷ l) (idle_one_more m n (omega (arith, is)))

-- a change at the clock's value
pub filled_push : (from to : ℕ) (steps : List (ℕ × Change)) (c : Change) → filled from (steps ++ (to, c) ∷ []) (to + 1) ≡ filled from steps to ++ c ∷ []
filled_push from to [] c = ap (λ (l : List Change). idle (to - from) ++ c ∷ l) (idle_none (to + 1))
filled_push from to (s ∷ steps) c =
    ap (λ (l : List Change). idle (s.0 - from) ++ s.1 ∷ l) (filled_push (s.0 + 1) to steps c)
    ∙ sym (append_assoc (idle (s.0 - from)) (s.1 ∷ filled (s.0 + 1) steps to) (c ∷ []))

pub rises_push : (from to : ℕ) (steps : List (ℕ × Change)) (c : Change) → Rises from steps to → Rises from (steps ++ (to, c) ∷ []) (to + 1)
rises_push from to [] c rises = (rises, omega arith)
rises_push from to (s ∷ steps) c rises = (rises.0, rises_push (s.0 + 1) to steps c rises.1)

-- the clock alone moves
pub filled_idle : (from to : ℕ) (steps : List (ℕ × Change)) → Rises from steps to → filled from steps (to + 1) ≡ filled from steps to ++ Idle ∷ []
filled_idle from to [] rises = idle_one_more ((to + 1) - from) (to - from) (omega (arith, rises))
filled_idle from to (s ∷ steps) rises =
    ap (λ (l : List Change). idle (s.0 - from) ++ s.1 ∷ l) (filled_idle (s.0 + 1) to steps rises.1)
    ∙ sym (append_assoc (idle (s.0 - from)) (s.1 ∷ filled (s.0 + 1) steps to) (Idle ∷ []))

pub rises_idle : (from to : ℕ) (steps : List (ℕ × Change)) → Rises from steps to → Rises from steps (to + 1)
rises_idle from to [] rises = omega (arith, rises)
rises_idle from to (s ∷ steps) rises = (rises.0, rises_idle (s.0 + 1) to steps rises.1)

-- the log is as long as the clock says
pub filled_length : (from to : ℕ) (steps : List (ℕ × Change)) → Rises from steps to → length (filled from steps to) + from ≡ to
filled_length from to [] rises = omega (arith, rises, idle_length (to - from))
filled_length from to (s ∷ steps) rises =
    omega (arith, rises.0, filled_length (s.0 + 1) to steps rises.1, idle_length (s.0 - from), length-append (idle (s.0 - from)) (s.1 ∷ filled (s.0 + 1) steps to))

-- ---- the bytes appended

appended_push : (cs : List Change) (c : Change) → appended_in (cs ++ c ∷ []) ≡ appended_in cs + appended_by c
appended_push [] c = omega arith
appended_push (x ∷ cs) c = omega (arith, appended_push cs c)

pub count_push : (count add : ℕ) (log new : List Change) (c : Change) → IsCount count log → new ≡ log ++ c ∷ [] → add ≡ appended_by c → IsCount (min (count + add) (2 ^ 64 - 1)) new
count_push count add log new c is pushed adds = omega (arith, is, adds, ap appended_in pushed, appended_push log c)
