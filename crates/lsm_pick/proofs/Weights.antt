-- The weight of tables as one comes or goes.
use Rattle.std.specs.Prelude.{◌≡◌, ℕ, ◌+◌, Bool, true, false, cond, List, [], ◌∷◌, Some, None, sum_by}
use Rattle.std.proofs.Common.{refl, sym, ap, ◌∙◌, arith}
use Rattle.std.proofs.lemmas.List.Sums.{sum_by-cons}
use Rattle.std.proofs.lemmas.Cmp.{nat_cmp_total}
use Rattle.std.specs.Ordering.{nat_cmp, is_eq, eq_by_cmp}
use Rattle.std.specs.declared.cmp.Ordering.TheVariants.{Less, Equal, Greater}
use Rattle.std.specs.Cmp.{nat_cmp_is}
use Rattle.std.specs.FinMap as finite
use Rattle.std.specs.FinMap.Entries.{by_order}
use Rattle.lsm_version.specs.declared.tables.Placed.{Placed}
use Rattle.lsm_version.specs.Levels.{Tables}
use Rattle.lsm_version.proofs.TableMaps.{same_number}
use Rattle.lsm_pick.specs.Weight.{weight_of, weight}
use Rattle.lsm_pick.proofs.Chosen.{no_table}

-- ---- one table more

put_sum : (f : ℕ × Placed → ℕ) (k : ℕ) (v : Placed) (es : List (ℕ × Placed)) → finite.find nat_cmp k es ≡ None
    → sum_by f (finite.put nat_cmp k v es) ≡ sum_by f es + f (k, v)
put_sum f k v [] none = refl
put_sum f k v (e ∷ es) none =
    elim (nat_cmp k e.0) as (λ o. cond (is_eq o) (Some e.1) (finite.find nat_cmp k es) ≡ None
    → sum_by f (by_order o ((k, v) ∷ e ∷ es) ((e.0, v) ∷ es) (e ∷ finite.put nat_cmp k v es)) ≡ sum_by f (e ∷ es) + f (k, v)) [
      | Less ↦ λ _. let whole = sum_by-cons f (k, v) (e ∷ es) in omega (arith, whole)
      | Equal ↦ λ taken. absurd (no_table e.1 taken)
      | Greater ↦ λ later.
          let rest = put_sum f k v es later in
          let whole = sum_by-cons f e (finite.put nat_cmp k v es) in
          let before = sum_by-cons f e es in
          omega (arith, rest, whole, before)
    ] none

pub weight_put : (tables : Tables) (k : ℕ) (v : Placed) → finite.get tables k ≡ None → weight (finite.insert tables k v) ≡ weight tables + weight_of (k, v)
weight_put tables k v none =
    ap (sum_by weight_of) (finite.entries-insert nat_cmp_total tables k v)
    ∙ put_sum weight_of k v (finite.entries tables) (sym (finite.get-entries tables k) ∙ none)

-- ---- one table less

self_tied : (k : ℕ) → eq_by_cmp nat_cmp k k ≡ true
self_tied k = ap is_eq (sym (nat_cmp_is k k Equal refl))

pub gone : (tables : Tables) (k : ℕ) → finite.get (finite.remove tables k) k ≡ None
gone tables k = finite.get-remove nat_cmp_total tables k k ∙ ap (λ b. cond b None (finite.get tables k)) (self_tied k)

back : (tables : Tables) (k : ℕ) (v : Placed) → finite.get tables k ≡ Some v → finite.insert (finite.remove tables k) k v ≡ tables
back tables k v there =
    finite.same_map nat_cmp_total finite.nat_cmp-IsAntisymmetric _ _ (λ q.
    finite.get-insert nat_cmp_total (finite.remove tables k) k v q
    ∙ ap (cond (eq_by_cmp nat_cmp q k) (Some v)) (finite.get-remove nat_cmp_total tables k q)
    ∙ by_tie q (eq_by_cmp nat_cmp q k) refl)
  where
    by_tie : (q : ℕ) (b : Bool) → is_eq (nat_cmp q k) ≡ b → cond b (Some v) (cond b None (finite.get tables q)) ≡ finite.get tables q
    by_tie q true is = sym there ∙ ap (finite.get tables) (sym (same_number q k is))
    by_tie q false is = refl

pub weight_removed : (tables : Tables) (k : ℕ) (v : Placed) → finite.get tables k ≡ Some v → weight (finite.remove tables k) + weight_of (k, v) ≡ weight tables
weight_removed tables k v there = sym (weight_put (finite.remove tables k) k v (gone tables k)) ∙ ap weight (back tables k v there)
