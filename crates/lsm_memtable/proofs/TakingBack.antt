-- The rows with smaller sequences, kept by their keys.
use Prim.Native.Nat.{suc}
use Rattle.std.proofs.Common.{◌≡◌, ℕ, ◌^◌, ◌<◌, ◌≤◌, Bool, true, false, cond, nat_lt, List, [], ◌∷◌, ◌++◌, length, refl, sym, ap, ◌∙◌, subst, arith}
use Rattle.std.specs.Prelude.{Vec}
use Rattle.std.specs.List.{filter}
use Rattle.std.specs.Map.Calls.{RetainsPairs}
use Rattle.std.specs.Ordering.{nat_cmp}
use Rattle.std.proofs.lemmas.Bool.Decides.{nat_tests}
use Rattle.std.proofs.lemmas.List.Elements.{All-cons, All-filter, filter-append}
use Rattle.std.proofs.lemmas.List.Kept.{IsStrictlySortedBy-filter}
use Rattle.lsm_rows.specs.declared.rows.Row.{Row}
use Rattle.lsm_memtable.specs.Kept.{rows_in, AreVersions, AreKept}
use Rattle.lsm_memtable.proofs.KeptRows.{Each, Ascend, each_head, each_tail}

abbrev pub is_below : ℕ → Row → Bool
is_below first row = nat_lt row.sequence first

-- each key with its rows below a sequence, where it has any
abbrev pub entries_below : {Z : Type 0} → ℕ → List (Vec ℕ Z × List Row) → List (Vec ℕ Z × List Row)
entries_below first [] = []
entries_below first (e ∷ es) = cond (nat_lt 0 (length (filter (is_below first) e.1))) ((e.0, filter (is_below first) e.1) ∷ entries_below first es) (entries_below first es)

pub retained : {F Z : Type 0} (T : F → Vec ℕ Z → List Row → Bool → List Row → F → Type 0) (first : ℕ) (f : F)
    → ((k : Vec ℕ Z) (rows : List Row) (b : Bool) (left : List Row) (g : F) → T f k rows b left g → (b ≡ nat_lt 0 (length left)) × (left ≡ filter (is_below first) rows) × (g ≡ f))
    → (es kept : List (Vec ℕ Z × List Row)) → RetainsPairs T f es kept → kept ≡ entries_below first es
retained T first f says [] kept called = called
retained {F} {Z} T first f says (e ∷ es) kept called =
    let said = says e.0 e.1 called.0 called.1 called.2 called.4 in
    let again : RetainsPairs T f es called.3 = subst (λ g. RetainsPairs T g es called.3) said.2 called.5 in
    let rest : called.3 ≡ entries_below first es = retained T first f says es called.3 again in
    called.6 ∙ (λ i. cond ((said.0 ∙ ap (λ (l : List Row). nat_lt 0 (length l)) said.1) i) ((e.0, said.1 i) ∷ rest i) (rest i))

none_left : (rows : List Row) → nat_lt 0 (length rows) ≡ false → rows ≡ []
none_left [] none = refl
none_left (r ∷ rows) none = absurd (some (length rows) none)
  where
    some : (n : ℕ) → nat_lt 0 (suc n) ≡ false → ⊥
    some n is = grind (arith, nat_tests)

pub rows_below : {Z : Type 0} (first : ℕ) (es : List (Vec ℕ Z × List Row)) → rows_in (entries_below first es) ≡ filter (is_below first) (rows_in es)
rows_below first [] = refl
rows_below {Z} first (e ∷ es) =
    by_test (nat_lt 0 (length (filter (is_below first) e.1))) refl (rows_below first es) ∙ sym (filter-append (is_below first) e.1 (rows_in es))
  where
    by_test : (t : Bool) → nat_lt 0 (length (filter (is_below first) e.1)) ≡ t → rows_in (entries_below first es) ≡ filter (is_below first) (rows_in es)
        → rows_in (cond t ((e.0, filter (is_below first) e.1) ∷ entries_below first es) (entries_below first es)) ≡ filter (is_below first) e.1 ++ filter (is_below first) (rows_in es)
    by_test true some rest = ap (λ l. filter (is_below first) e.1 ++ l) rest
    by_test false none rest = rest ∙ ap (λ l. l ++ filter (is_below first) (rows_in es)) (sym (none_left (filter (is_below first) e.1) none))

some_left : (n : ℕ) → nat_lt 0 n ≡ true → 1 ≤ n
some_left n is = grind (arith, nat_tests)

versions_below : (first : ℕ) (key : List ℕ) (rows : List Row) → AreVersions key rows → nat_lt 0 (length (filter (is_below first) rows)) ≡ true → AreVersions key (filter (is_below first) rows)
versions_below first key rows are some = record {
  some = some_left (length (filter (is_below first) rows)) some;
  of_key = All-filter (is_below first) (λ row. row.key ≡ key) rows are.of_key;
  newest_first = IsStrictlySortedBy-filter (λ (a : Row) (b : Row). nat_cmp b.sequence a.sequence) (is_below first) rows are.newest_first;
  below = All-filter (is_below first) (λ row. row.sequence < 2 ^ 56) rows are.below;
}

each_below : {Z : Type 0} (first : ℕ) (es : List (Vec ℕ Z × List Row)) → Each es → Each (entries_below first es)
each_below first [] each = each
each_below {Z} first (e ∷ es) each = by_test (nat_lt 0 (length (filter (is_below first) e.1))) refl (each_below first es (each_tail e es each))
  where
    by_test : (t : Bool) → nat_lt 0 (length (filter (is_below first) e.1)) ≡ t → Each (entries_below first es)
        → Each (cond t ((e.0, filter (is_below first) e.1) ∷ entries_below first es) (entries_below first es))
    by_test true some rest =
        All-cons (λ (d : Vec ℕ Z × List Row). AreVersions d.0.items d.1) (e.0, filter (is_below first) e.1) (entries_below first es) (versions_below first e.0.items e.1 (each_head e es each) some) rest
    by_test false none rest = rest

pub kept_below : {Z : Type 0} (first : ℕ) (es new : List (Vec ℕ Z × List Row)) → new ≡ entries_below first es → Ascend new → AreKept es → AreKept new
kept_below first es new is ascend kept = record { ascend = ascend; each = subst Each (sym is) (each_below first es kept.each) }
