-- Which calls of a disk are to fail.
use Rattle.std.specs.Prelude.{ℕ, ◌+◌, ◌-◌, ◌^◌, ◌==◌, min, nat_le, Bool, false, if◌then◌else◌, List, [], ◌∷◌, ◌++◌, Option, Some, None, ◌⊎◌, ◌≡◌, refl}
use Rattle.std.proofs.Common.{inl, inr}
use Rattle.std.specs.Coded.{Coded, code_by, coded×, coded⊎, coded_ℕ, coded_list, coded_option}
use base.Stored.{coded_unit}
use Rattle.lsm_memdisk.specs.declared.plan.Effect.{Effect}
use Rattle.lsm_memdisk.specs.declared.plan.Effect.TheVariants.{Nothing, Done, Part}
use Rattle.lsm_memdisk.specs.declared.plan.Turn.{Turn}
use Rattle.lsm_memdisk.specs.declared.plan.Turn.TheVariants.{Works, Fails, FailsBehind}

pub record Shown : Type 0 where
  -- how many calls there were
  pub calls : ℕ
  -- the calls that are to fail, each with what it has done
  pub faults : List (ℕ × Effect)
  -- the first call from which on every call fails
  pub stop : Option ℕ

abbrev pub blank_plan : Shown
blank_plan = record { calls = 0; faults = []; stop = None }

-- the number of the call that comes next; it stays at its last value
abbrev pub next_call : Shown → ℕ
next_call p = min (p.calls + 1) (2 ^ 64 - 1)

abbrev pub effect_at : ℕ → ℕ × Effect → Option Effect
effect_at call e = if e.0 == call then Some e.1 else None

abbrev pub or_first : Option Effect → Option Effect → Option Effect
or_first (Some e) earlier = Some e
or_first None earlier = earlier

-- of several entries for a call the last one holds
abbrev pub last_for : ℕ → List (ℕ × Effect) → Option Effect
last_for call [] = None
last_for call (e ∷ es) = or_first (last_for call es) (effect_at call e)

abbrev pub stops : Option ℕ → ℕ → Bool
stops None call = false
stops (Some first) call = nat_le first call

-- what the next call has done, where it is to fail; a stop goes before the entries
abbrev pub planned : Shown → Option Effect
planned p = if stops p.stop (next_call p) then Some Nothing else last_for (next_call p) p.faults

-- a part of a call that changes all or nothing is nothing
abbrev pub turn_of : Option Effect → Turn
turn_of None = Works
turn_of (Some Nothing) = Fails
turn_of (Some Done) = FailsBehind
turn_of (Some (Part n)) = Fails

abbrev pub begun : Shown → Shown
begun p = record p { calls = next_call p }

abbrev pub with_fault : ℕ → Effect → Shown → Shown
with_fault call effect p = record p { faults = p.faults ++ (call, effect) ∷ [] }

abbrev pub earlier : Option ℕ → ℕ → ℕ
earlier None call = call
earlier (Some first) call = min first call

abbrev pub with_stop : ℕ → Shown → Shown
with_stop call p = record p { stop = Some (earlier p.stop call) }

-- ---- codes

abbrev pub effect_to : Effect → Unit {0} ⊎ (Unit {0} ⊎ ℕ)
effect_to Nothing = inl tt
effect_to Done = inr (inl tt)
effect_to (Part n) = inr (inr n)

abbrev pub effect_from : Unit {0} ⊎ (Unit {0} ⊎ ℕ) → Effect
effect_from (inl _) = Nothing
effect_from (inr (inl _)) = Done
effect_from (inr (inr n)) = Part n

pub effect_again : (e : Effect) → effect_from (effect_to e) ≡ e
effect_again Nothing = refl
effect_again Done = refl
effect_again (Part n) = refl

abbrev pub coded_effect : Coded Effect
coded_effect = code_by (Unit {0} ⊎ (Unit {0} ⊎ ℕ)) (coded⊎ coded_unit (coded⊎ coded_unit coded_ℕ)) effect_to effect_from effect_again

abbrev pub coded_plan : Coded Shown
coded_plan =
    code_by (ℕ × (List (ℕ × Effect) × Option ℕ)) (coded× coded_ℕ (coded× (coded_list (coded× coded_ℕ coded_effect)) (coded_option coded_ℕ)))
    (λ p. (p.calls, (p.faults, p.stop))) (λ t. record { calls = t.0; faults = t.1.0; stop = t.1.1 }) (λ _. refl)
