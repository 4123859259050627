-- The last entry for a call.
use Rattle.std.specs.Prelude.{◌≡◌, ℕ, List, [], ◌∷◌, ◌++◌, Option, Some, None}
use Rattle.std.proofs.Common.{refl, ap, ◌∙◌}
use Rattle.lsm_memdisk.specs.declared.plan.Effect.{Effect}
use Rattle.lsm_memdisk.specs.Plan.{last_for, or_first, effect_at}

first_again : (a b c : Option Effect) → or_first (or_first a b) c ≡ or_first a (or_first b c)
first_again None b c = refl
first_again (Some e) b c = refl

pub last_push : (call : ℕ) (es : List (ℕ × Effect)) (e : ℕ × Effect) → last_for call (es ++ e ∷ []) ≡ or_first (effect_at call e) (last_for call es)
last_push call [] e = all (effect_at call e) where
  all : (o : Option Effect) → o ≡ or_first o None
  all None = refl
  all (Some x) = refl
last_push call (x ∷ es) e = ap (λ o. or_first o (effect_at call x)) (last_push call es e) ∙ first_again (effect_at call e) (last_for call es) (effect_at call x)
