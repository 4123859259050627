-- The views of all seats: counts, and what one change of a view leaves.
use Rattle.std.proofs.Common.{◌≡◌, ◌≢◌, ℕ, ◌+◌, ◌%◌, ◌^◌, ◌<◌, ◌≤◌, List, [], ◌∷◌, ◌++◌, length, set, sym, refl, ap, ◌∙◌, subst, ⊎_elim, arith, zero, suc}
use Rattle.std.proofs.lemmas.List.{append_assoc, append-nil}
use Rattle.std.specs.List.{AllByRecursion}
use mathlib.Core.Logic.{dite}
use native.Mathlib.Decide.{ℕ_discrete}
use mathlib.Core.Option as logic
use mathlib.Core.Option.{some-injective, some-ne-none}
use mathlib.Core.List.{IsPrefix}
use lib.ListN.{get_elem?}
use Rattle.atomic_table.proofs.Lists.{at_set, set_else}
use Rattle.turn_lock.specs.declared.view.View.{View}
use Rattle.turn_lock.specs.declared.view.Stage.{Stage}
use Rattle.turn_lock.specs.declared.view.Stage.TheVariants.{Founds, Places, Idle, Waits, Holds, Spent}
use Rattle.turn_lock.specs.Lists.{total}
use Rattle.turn_lock.specs.Views.{pending}
use Rattle.turn_lock.specs.Rule.{Fits, HasHolder, AreApart, IsSeen}

-- a number for each stage
abbrev pub code : Stage → ℕ
code Founds = 0
code Places = 1
code Idle = 2
code Waits = 3
code Holds = 4
code Spent = 5

-- two stages with two numbers are apart
pub stages_apart : {A : Type 0} (t a b : Stage) → t ≡ a → t ≡ b → code a ≢ code b → A
stages_apart t a b x y n = absurd (n (ap code (sym x ∙ y)))

pub add_mod : (t k : ℕ) → (t % 2 ^ 64 + k) % 2 ^ 64 ≡ (t + k) % 2 ^ 64
add_mod t k = omega arith

module _ {E : Type 0} where
  pub prefix_whole : (xs : List E) → IsPrefix xs xs
  prefix_whole xs = ([], append-nil xs)

  pub prefix_longer : (xs ys more : List E) → IsPrefix xs ys → IsPrefix xs (ys ++ more)
  prefix_longer xs ys more p = (p.0 ++ more, sym (append_assoc xs p.0 more) ∙ ap (λ (zs : List E). zs ++ more) p.1)

module _ {A : Type 0} where
  pub total_set : (f : A → ℕ) (vs : List A) (id : ℕ) (v w : A) → get_elem? vs id ≡ logic.some v
      → total f (set vs id w) + f v ≡ total f vs + f w
  total_set f [] id v w at = absurd (some-ne-none v (sym at))
  total_set f (x ∷ xs) zero v w at = let e = ap f (some-injective x v at) in omega arith
  total_set f (x ∷ xs) (suc id) v w at = let e = total_set f xs id v w at in omega arith

  pub total_append : (f : A → ℕ) (xs ys : List A) → total f (xs ++ ys) ≡ total f xs + total f ys
  total_append f [] ys = omega arith
  total_append f (x ∷ xs) ys = let e = total_append f xs ys in omega arith

  pub total_one : (f : A → ℕ) (vs : List A) (id : ℕ) (v : A) → get_elem? vs id ≡ logic.some v → f v ≤ total f vs
  total_one f [] id v at = absurd (some-ne-none v (sym at))
  total_one f (x ∷ xs) zero v at = let e = ap f (some-injective x v at) in omega arith
  total_one f (x ∷ xs) (suc id) v at = let e = total_one f xs id v at in omega arith

  pub total_two : (f : A → ℕ) (vs : List A) (i j : ℕ) (v w : A) → i ≢ j → get_elem? vs i ≡ logic.some v
      → get_elem? vs j ≡ logic.some w → f v + f w ≤ total f vs
  total_two f [] i j v w ne at at' = absurd (some-ne-none v (sym at))
  total_two f (x ∷ xs) zero zero v w ne at at' = absurd (ne refl)
  total_two f (x ∷ xs) zero (suc j) v w ne at at' = let e = ap f (some-injective x v at) in let h = total_one f xs j w at' in omega arith
  total_two f (x ∷ xs) (suc i) zero v w ne at at' = let e = ap f (some-injective x w at') in let h = total_one f xs i v at in omega arith
  total_two f (x ∷ xs) (suc i) (suc j) v w ne at at' = let h = total_two f xs i j v w (λ e. ne (ap suc e)) at at' in omega arith

  pub total_below : (f g : A → ℕ) (vs : List A) → ((i : ℕ) (v : A) → get_elem? vs i ≡ logic.some v → f v ≤ g v) → total f vs ≤ total g vs
  total_below f g [] h = omega arith
  total_below f g (x ∷ xs) h = let a = h 0 x refl in let b = total_below f g xs (λ i v at. h (suc i) v at) in omega arith

  pub all_append : (P : A → Type 0) (xs ys : List A) → AllByRecursion P xs → AllByRecursion P ys → AllByRecursion P (xs ++ ys)
  all_append P [] ys a b = b
  all_append P (x ∷ xs) ys a b = (a.0, all_append P xs ys a.1 b)

module _ {S E : Type 0} where
  pub at_self : (vs : List (View S E)) (id : ℕ) (v w : View S E) → get_elem? vs id ≡ logic.some v
      → get_elem? (set vs id w) id ≡ logic.some w
  at_self [] id v w at = absurd (some-ne-none v (sym at))
  at_self (x ∷ xs) zero v w at = refl
  at_self (x ∷ xs) (suc id) v w at = at_self xs id v w at

  -- what is said of each view, after a change of one
  pub each_set : (P : ℕ → View S E → Type 0) (vs : List (View S E)) (id : ℕ) (w : View S E) → P id w
      → ((by : ℕ) (u : View S E) → by ≢ id → get_elem? vs by ≡ logic.some u → P by u)
      → (by : ℕ) (u : View S E) → get_elem? (set vs id w) by ≡ logic.some u → P by u
  each_set P vs id w here else by u at = ⊎_elim
      (λ (t : (by ≡ id) × (w ≡ u)). subst (λ (x : ℕ × View S E). P x.0 x.1) (λ k. (sym t.0 k, t.1 k)) here)
      (λ (t : (by ≢ id) × (get_elem? vs by ≡ logic.some u)). else by u t.0 t.1) (at_set vs id by w u at)

  pub same_view : (vs : List (View S E)) (i j : ℕ) (v w : View S E) → get_elem? vs i ≡ logic.some v
      → get_elem? vs j ≡ logic.some w → i ≡ j → v ≡ w
  same_view vs i j v w a b e = some-injective v w (sym a ∙ ap (λ n. get_elem? vs n) e ∙ b)

  -- a view with a ticket has one of those that wait
  pub in_range : (start : S) (history : List (ℕ × E)) (tickets serving : ℕ) (v : View S E) (t : Stage)
      → Fits start history tickets serving v t → pending t ≡ 1 → (serving ≤ v.ticket) × (v.ticket < tickets)
  in_range start history tickets serving v Founds f p = absurd f
  in_range start history tickets serving v Places f p = absurd f
  in_range start history tickets serving v Idle f p = absurd (omega arith)
  in_range start history tickets serving v Waits f p = (f.2, f.3)
  in_range start history tickets serving v Holds f p = let e = f.2 in (omega arith, f.3)
  in_range start history tickets serving v Spent f p = absurd (omega arith)

  -- more tickets, a longer history for those without the turn, and a served ticket that this one hasn't
  pub fits_on : (start : S) (history more : List (ℕ × E)) (tickets tickets' serving serving' : ℕ) (v : View S E) (t : Stage)
      → tickets ≤ tickets'
      → ((t ≡ Holds) → (more ≡ []) × (serving' ≡ serving)) → ((t ≡ Waits) → serving' ≤ v.ticket)
      → Fits start history tickets serving v t → Fits start (history ++ more) tickets' serving' v t
  fits_on start history more tickets tickets' serving serving' v Founds le h w f = f
  fits_on start history more tickets tickets' serving serving' v Places le h w f = f
  fits_on start history more tickets tickets' serving serving' v Idle le h w f = (f.0, prefix_longer v.seen history more f.1, f.2)
  fits_on start history more tickets tickets' serving serving' v Waits le h w f = let lt = f.3 in
      (f.0, prefix_longer v.seen history more f.1, w refl, omega arith, f.4)
  fits_on start history more tickets tickets' serving serving' v Holds le h w f = let lt = f.3 in let x = h refl in (
    f.0,
    f.1 ∙ sym (append-nil history) ∙ ap (λ (zs : List (ℕ × E)). history ++ zs) (sym x.0),
    f.2 ∙ sym x.1,
    omega arith,
    f.4,
  )
  fits_on start history more tickets tickets' serving serving' v Spent le h w f = f

  -- the seat's new view has no ticket, or its old one, or one that no view has
  pub apart_set : (vs : List (View S E)) (id : ℕ) (w : View S E) → AreApart vs
      → ((j : ℕ) (u : View S E) → j ≢ id → get_elem? vs j ≡ logic.some u → pending u.stage ≡ 1 → pending w.stage ≡ 1
      → u.ticket ≢ w.ticket) → AreApart (set vs id w)
  apart_set vs id w apart new i j a b ati atj pa pb same = ⊎_elim
      (λ (x : (i ≡ id) × (w ≡ a)). ⊎_elim
      (λ (y : (j ≡ id) × (w ≡ b)). x.0 ∙ sym y.0)
      (λ (y : (j ≢ id) × (get_elem? vs j ≡ logic.some b)). absurd (new j b y.0 y.1 pb
      (ap (λ (u : View S E). pending u.stage) x.1 ∙ pa) (sym same ∙ ap (λ (u : View S E). u.ticket) (sym x.1))))
      (at_set vs id j w b atj))
      (λ (x : (i ≢ id) × (get_elem? vs i ≡ logic.some a)). ⊎_elim
      (λ (y : (j ≡ id) × (w ≡ b)). absurd (new i a x.0 x.1 pa
      (ap (λ (u : View S E). pending u.stage) y.1 ∙ pb) (same ∙ ap (λ (u : View S E). u.ticket) (sym y.1))))
      (λ (y : (j ≢ id) × (get_elem? vs j ≡ logic.some b)). apart i j a b x.1 y.1 pa pb same)
      (at_set vs id j w b atj))
      (at_set vs id i w a ati)

  pub holder_stays : (vs : List (View S E)) (id : ℕ) (v w : View S E) → get_elem? vs id ≡ logic.some v → v.stage ≢ Holds
      → HasHolder vs → HasHolder (set vs id w)
  holder_stays vs id v w at not h = (
    h.0,
    h.1,
    set_else vs id h.0 w
        (λ e. not (ap (λ (u : View S E). u.stage) (same_view vs id h.0 v h.1 at h.2 (sym e)) ∙ h.3)) ∙ h.2,
    h.3,
  )

  pub none_holds : (vs : List (View S E)) (id : ℕ) (w : View S E) → w.stage ≢ Holds
      → ((by : ℕ) (u : View S E) → by ≢ id → get_elem? vs by ≡ logic.some u → u.stage ≢ Holds) → ¬ (HasHolder (set vs id w))
  none_holds vs id w not else h = each_set (λ by u. u.stage ≢ Holds) vs id w not else h.0 h.1 h.2 h.3

  -- who is at no stage with a ticket and who has a lane
  pub has_lane : (start : S) (history : List (ℕ × E)) (tickets serving : ℕ) (v : View S E) (t : Stage)
      → Fits start history tickets serving v t → pending t ≤ length v.mine
  has_lane start history tickets serving v Founds f = absurd f
  has_lane start history tickets serving v Places f = absurd f
  has_lane start history tickets serving v Idle f = omega arith
  has_lane start history tickets serving v Waits f = let a = f.4 in omega arith
  has_lane start history tickets serving v Holds f = let a = f.4 in omega arith
  has_lane start history tickets serving v Spent f = omega arith

  -- a view but the one that changes still has what it had, and the one has at least as much
  pub seen_set : (history : List (ℕ × E)) (vs : List (View S E)) (id : ℕ) (v w : View S E) → get_elem? vs id ≡ logic.some v
      → w.seen ≡ v.seen → w.mine ≡ v.mine → IsSeen history vs → IsSeen history (set vs id w)
  seen_set history vs id v w at seen mine h = dite (ℕ_discrete h.0 id)
      (λ e. let u : h.1 ≡ v = same_view vs h.0 id h.1 v h.2 at e in (
        id,
        w,
        at_self vs id v w at,
        seen ∙ ap (λ (u : View S E). u.seen) (sym u)
            ∙ h.3,
        subst (λ (ms : List (ℕ × List (ℕ × E))). 0 < length ms) (ap (λ (u : View S E). u.mine) u ∙ sym mine) h.4,
      ))
      (λ ne. (h.0, h.1, set_else vs id h.0 w ne ∙ h.2, h.3, h.4))
