-- What lists contain, lists that functions make of their elements, and a version's entries.
use Rattle.std.specs.Prelude.{◌≡◌, ◌⊎◌, ℕ, Bool, true, false, cond, T, filter, map, List, [], ◌∷◌, All, Contains, Some}
use Rattle.std.proofs.Common.{refl, sym, ap, subst, inl, inr, ◌∙◌, arith}
use Rattle.std.specs.List.{flat_map}
use Rattle.std.specs.Ordering.{nat_cmp, is_eq}
use Rattle.std.proofs.lemmas.List.Elements.{All-weaker, All-contains, All-contains_itself, All-from_recursion, Contains-append_left, Contains-append_right, Contains-append_cases, Contains-push, Contains-push_cases}
use Rattle.std.specs.FinMap as finite
use Rattle.lsm_version.specs.declared.tables.Placed.{Placed}
use Rattle.lsm_version.specs.Levels.{Tables}
use Rattle.lsm_version.proofs.TableMaps.{same_number}
use Rattle.lsm_pick.proofs.Chosen.{Live, entries_live}
pub use Rattle.lsm_pick.proofs.Chosen.{no_table}

pub untrue : false ≡ true → ⊥
untrue e = subst (λ b. T (cond b false true)) e tt

pub nothing : {A : Type 0} (x : A) → Contains [] x → ⊥
nothing x c = omega (arith, c.1)

pub has_first : {A : Type 0} (x : A) (xs : List A) → Contains (x ∷ xs) x
has_first x xs = Contains-append_left (x ∷ []) xs x (Contains-push [] x)

pub has_later : {A : Type 0} (x : A) (xs : List A) (y : A) → Contains xs y → Contains (x ∷ xs) y
has_later x xs y c = Contains-append_right (x ∷ []) xs y c

pub by_first : {A : Type 0} (x : A) (xs : List A) (y : A) → Contains (x ∷ xs) y → (x ≡ y) ⊎ Contains xs y
by_first x xs y c =
    elim (Contains-append_cases (x ∷ []) xs y c) [
      | inl one ↦ elim (Contains-push_cases [] x y one) [ inl none ↦ absurd (nothing y none) | inr same ↦ inl same ]
      | inr more ↦ inr more
    ]

-- what holds of each that is contained
pub All-from_contained : {A : Type 0} (P : A → Type 0) (xs : List A) → ((x : A) → Contains xs x → P x) → All P xs
All-from_contained P xs each = All-weaker (Contains xs) P each xs (All-contains_itself xs)

-- ---- lists made of the elements

-- the element whose list has it
pub record Source {A B : Type 0} (f : A → List B) (xs : List A) (y : B) : Type 0 where
  pub of : A
  pub among : Contains xs of
  pub has : Contains (f of) y

pub source_of : {A B : Type 0} (f : A → List B) (xs : List A) (y : B) → Contains (flat_map f xs) y → Source f xs y
source_of f [] y c = absurd (nothing y c)
source_of f (x ∷ xs) y c =
    elim (Contains-append_cases (f x) (flat_map f xs) y c) [
      | inl here ↦ record { of = x; among = has_first x xs; has = here }
      | inr more ↦ let s = source_of f xs y more in record { of = s.of; among = has_later x xs s.of s.among; has = s.has }
    ]

pub from_source : {A B : Type 0} (f : A → List B) (xs : List A) (x : A) (y : B) → Contains xs x → Contains (f x) y
    → Contains (flat_map f xs) y
from_source f [] x y among has = absurd (nothing x among)
from_source f (z ∷ xs) x y among has =
    elim (by_first z xs x among) [
      | inl same ↦ Contains-append_left (f z) (flat_map f xs) y (subst (λ w. Contains (f w) y) (sym same) has)
      | inr more ↦ Contains-append_right (f z) (flat_map f xs) y (from_source f xs x y more has)
    ]

-- ---- lists filtered and mapped

pub from_filter : {A : Type 0} (p : A → Bool) (xs : List A) (x : A) → Contains (filter p xs) x → Contains xs x × (p x ≡ true)
from_filter p [] x c = absurd (nothing x c)
from_filter p (y ∷ xs) x c =
    elim (p y) as (λ b. p y ≡ b → Contains (cond b (y ∷ filter p xs) (filter p xs)) x → Contains (y ∷ xs) x × (p x ≡ true)) [
      | true ↦ λ is has. elim (by_first y (filter p xs) x has) [
        | inl same ↦ (subst (λ z. Contains (y ∷ xs) z) same (has_first y xs), sym (ap p same) ∙ is)
        | inr more ↦ let f = from_filter p xs x more in (has_later y xs x f.0, f.1)
      ]
      | false ↦ λ _ has. let f = from_filter p xs x has in (has_later y xs x f.0, f.1)
    ] refl c

pub to_filter : {A : Type 0} (p : A → Bool) (xs : List A) (x : A) → Contains xs x → p x ≡ true → Contains (filter p xs) x
to_filter p [] x c is = absurd (nothing x c)
to_filter p (y ∷ xs) x c is =
    elim (p y) as (λ b. p y ≡ b → Contains (cond b (y ∷ filter p xs) (filter p xs)) x) [
      | true ↦ λ _. elim (by_first y xs x c) [
        | inl same ↦ subst (λ z. Contains (y ∷ filter p xs) z) same (has_first y (filter p xs))
        | inr more ↦ has_later y (filter p xs) x (to_filter p xs x more is)
      ]
      | false ↦ λ other. elim (by_first y xs x c) [
        | inl same ↦ absurd (untrue (sym other ∙ ap p same ∙ is))
        | inr more ↦ to_filter p xs x more is
      ]
    ] refl

pub Contains-map : {A B : Type 0} (f : A → B) (xs : List A) (x : A) → Contains xs x → Contains (map f xs) (f x)
Contains-map f [] x c = absurd (nothing x c)
Contains-map f (y ∷ xs) x c =
    elim (by_first y xs x c) [
      | inl same ↦ subst (λ z. Contains (f y ∷ map f xs) (f z)) same (has_first (f y) (map f xs))
      | inr more ↦ has_later (f y) (map f xs) (f x) (Contains-map f xs x more)
    ]

pub map_source : {A B : Type 0} (f : A → B) (xs : List A) (y : B) → Contains (map f xs) y → (x : A) × Contains xs x ×
    (f x ≡ y)
map_source f [] y c = absurd (nothing y c)
map_source f (x ∷ xs) y c =
    elim (by_first (f x) (map f xs) y c) [
      | inl same ↦ (x, has_first x xs, same)
      | inr more ↦ let m = map_source f xs y more in (m.0, has_later x xs m.0 m.1, m.2)
    ]

-- ---- a version's entries

some_is : (a b : Placed) → Some a ≡ Some b → a ≡ b
some_is a b is = cc

of_find : (es : List (ℕ × Placed)) (q : ℕ) (placed : Placed) → finite.find nat_cmp q es ≡ Some placed → Contains es
    (q, placed)
of_find [] q placed found = absurd (no_table placed (sym found))
of_find (e ∷ es) q placed found =
    elim (is_eq (nat_cmp q e.0)) as
    (λ b. is_eq (nat_cmp q e.0) ≡ b → cond b (Some e.1) (finite.find nat_cmp q es) ≡ Some placed → Contains (e ∷ es)
    (q, placed)) [
      | true ↦ λ same now. subst (λ (x : ℕ × Placed). Contains (e ∷ es) x)
          (λ i. (sym (same_number q e.0 same) i, some_is e.1 placed now i)) (has_first e es)
      | false ↦ λ _ now. has_later e es (q, placed) (of_find es q placed now)
    ] refl found

-- an entry is a table that stands, and each table that stands is one
pub entry_stands : (tables : Tables) (e : ℕ × Placed) → Contains (finite.entries tables) e → finite.get tables e.0 ≡ Some e.1
entry_stands tables e c =
    All-contains (Live tables) (finite.entries tables) e
    (All-from_recursion (Live tables) (finite.entries tables) (entries_live tables)) c

pub stands_entry : (tables : Tables) (q : ℕ) (placed : Placed) → finite.get tables q ≡ Some placed → Contains
    (finite.entries tables) (q, placed)
stands_entry tables q placed found = of_find (finite.entries tables) q placed (sym (finite.get-entries tables q) ∙ found)
