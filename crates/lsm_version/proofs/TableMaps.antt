-- The entries of a sorted map of std as a version's tables.
use Rattle.std.specs.Prelude.{◌≡◌, ℕ, Bool, true, false, cond, T, ◌&&◌, List, [], ◌∷◌, length, Option, Some, None, is_some}
use Rattle.std.proofs.Common.{refl, sym, ap, subst, ◌∙◌}
use Rattle.std.specs.List.{fold, AllByRecursion}
use Rattle.std.specs.List.Sorted.{IsStrictlySortedBy}
use Rattle.std.specs.Ordering.{nat_cmp, is_eq, is_lt, eq_by_cmp, match_ordering}
use Rattle.std.specs.declared.cmp.Ordering.{Ordering}
use Rattle.std.specs.declared.cmp.Ordering.TheVariants.{Less, Equal, Greater}
use Rattle.std.specs.Map.{lookup, KeepsOthers, keys_of}
use Rattle.std.specs.BTreeMap.{insert_entry}
use Rattle.std.proofs.lemmas.Cmp.{nat_cmp_total}
use Rattle.std.specs.FinMap as finite
use Rattle.std.specs.FinMap.Entries.{by_order, find-put, below_all, is_sorted}
use Rattle.lsm_version.specs.declared.tables.Placed.{Placed}
use Rattle.lsm_version.specs.Levels.{Tables}
use Rattle.lsm_version.specs.declared.tables.Place.{Place}
use Rattle.lsm_version.specs.Versions.{empty_version, is_of_level, dropped, added}
use Rattle.lsm_version.specs.declared.tables.Add.{Add}
use Rattle.lsm_rows.proofs.NewestRows.{equal_of}
use Rattle.lsm_rows.proofs.PairEntries.{both}

abbrev pub tables_of : List (ℕ × Placed) → Tables
tables_of entries = finite.from_entries entries

found : (q : ℕ) (es : List (ℕ × Placed)) → finite.find nat_cmp q es ≡ lookup (λ (k : ℕ). is_eq (nat_cmp q k)) es
found q [] = refl
found q (e ∷ es) = ap (cond (is_eq (nat_cmp q e.0)) (Some e.1)) (found q es)

-- what the tables have at a number
pub value_at : (es : List (ℕ × Placed)) (q : ℕ) → lookup (λ (k : ℕ). is_eq (nat_cmp q k)) es ≡ finite.get (tables_of es) q
value_at es q = sym (finite.get-from_entries nat_cmp_total es q ∙ found q es)

put_entry : (es : List (ℕ × Placed)) (k : ℕ) (v : Placed) → insert_entry nat_cmp es k v ≡ finite.put nat_cmp k v es
put_entry [] k v = refl
put_entry (e ∷ es) k v =
    elim (nat_cmp k e.0) as (λ o. match_ordering o ((k, v) ∷ e ∷ es) ((e.0, v) ∷ es) (e ∷ insert_entry nat_cmp es k v)
    ≡ by_order o ((k, v) ∷ e ∷ es) ((e.0, v) ∷ es) (e ∷ finite.put nat_cmp k v es)) [
      | Less ↦ refl
      | Equal ↦ refl
      | Greater ↦ ap (λ (l : List (ℕ × Placed)). e ∷ l) (put_entry es k v)
    ]

-- one more entry sets its number's table
pub tables_put : (es new : List (ℕ × Placed)) (k : ℕ) (v : Placed) → new ≡ insert_entry nat_cmp es k v → tables_of new ≡ finite.insert (tables_of es) k v
tables_put es new k v is =
    ap tables_of is ∙ finite.same_map nat_cmp_total finite.nat_cmp-IsAntisymmetric _ _ (λ q.
    finite.get-from_entries nat_cmp_total (insert_entry nat_cmp es k v) q
    ∙ ap (finite.find nat_cmp q) (put_entry es k v)
    ∙ find-put nat_cmp nat_cmp_total q k v es
    ∙ sym (finite.get-insert nat_cmp_total (tables_of es) k v q ∙ ap (cond (eq_by_cmp nat_cmp q k) (Some v)) (finite.get-from_entries nat_cmp_total es q)))

pub same_number : (q k : ℕ) → is_eq (nat_cmp q k) ≡ true → q ≡ k
same_number q k e = finite.nat_cmp-IsAntisymmetric q k (equal_of (nat_cmp q k) e)

-- the table that is taken out is there no more, and the others stay
module _ (es new : List (ℕ × Placed)) (number : ℕ) (gone : lookup (λ (k : ℕ). is_eq (nat_cmp number k)) new ≡ None)
    (others : KeepsOthers (eq_by_cmp nat_cmp) (λ (k : ℕ). is_eq (nat_cmp number k)) es new) where
  left_by : (q : ℕ) (b : Bool) → is_eq (nat_cmp q number) ≡ b → finite.get (tables_of new) q ≡ cond b None (finite.get (tables_of es) q)
  unfolding KeepsOthers
  left_by q true e =
      sym (value_at new q)
      ∙ ap (λ (p : ℕ). lookup (λ (k : ℕ). is_eq (nat_cmp p k)) new) (same_number q number e)
      ∙ gone
  left_by q false e =
      sym (value_at new q)
      ∙ others (λ (k : ℕ). is_eq (nat_cmp q k)) (λ x y same. ap (λ (k : ℕ). is_eq (nat_cmp k y)) (same_number q x same)) (λ k is. ap (λ (p : ℕ). is_eq (nat_cmp q p)) (sym (same_number number k is)) ∙ e)
      ∙ value_at es q

  pub tables_removed : tables_of new ≡ finite.remove (tables_of es) number
  tables_removed = finite.same_map nat_cmp_total finite.nat_cmp-IsAntisymmetric _ _ (λ q. left_by q (is_eq (nat_cmp q number)) refl ∙ sym (finite.get-remove nat_cmp_total (tables_of es) number q))

-- a drop where the table isn't at its level, and where it is
pub dropped_not : (tables : Tables) (place : Place) → is_of_level place.level (finite.get tables place.number) ≡ false → dropped (Some tables) place ≡ None
unfolding dropped
dropped_not tables place is = rw is refl

pub dropped_is : (tables : Tables) (place : Place) → is_of_level place.level (finite.get tables place.number) ≡ true → dropped (Some tables) place ≡ Some (finite.remove tables place.number)
unfolding dropped
dropped_is tables place is = rw is refl

-- an add whose number is taken, and one whose number is free
pub added_not : (tables : Tables) (add : Add) → is_some (finite.get tables add.table.number) ≡ true → added (Some tables) add ≡ None
unfolding added
added_not tables add is = rw is refl

pub added_is : (tables : Tables) (add : Add) → is_some (finite.get tables add.table.number) ≡ false
    → added (Some tables) add ≡ Some (finite.insert tables add.table.number (record { level = add.level; info = add.table }))
unfolding added
added_is tables add is = rw is refl

-- ---- a map of std keeps its keys in order

below_from : (k : ℕ) (es : List (ℕ × Placed)) → AllByRecursion (λ (y : ℕ). nat_cmp k y ≡ Less) (keys_of es) → T (below_all nat_cmp k es)
below_from k [] below = tt
below_from k (e ∷ es) below = both (is_lt (nat_cmp k e.0)) (below_all nat_cmp k es) (subst (λ (r : Ordering). T (is_lt r)) (sym below.0) tt) (below_from k es below.1)

abbrev pub InOrder : List (ℕ × Placed) → Type 0
InOrder es = IsStrictlySortedBy nat_cmp (keys_of es)

are_sorted : (es : List (ℕ × Placed)) → InOrder es → T (is_sorted nat_cmp es)
unfolding IsStrictlySortedBy
are_sorted [] sorted = tt
are_sorted (e ∷ es) sorted = both (below_all nat_cmp e.0 es) (is_sorted nat_cmp es) (below_from e.0 es sorted.0) (are_sorted es sorted.1)

-- the tables' entries are the map's
pub entries_tables : (es : List (ℕ × Placed)) → InOrder es → finite.entries (tables_of es) ≡ es
entries_tables es sorted =
    ap (λ (t : Tables). finite.entries t) (finite.same_map nat_cmp_total finite.nat_cmp-IsAntisymmetric (tables_of es) (finite.from_sorted es)
    (λ q. finite.get-from_entries nat_cmp_total es q ∙ sym (finite.get-from_sorted nat_cmp es q (are_sorted es sorted))))
    ∙ finite.entries-from_sorted nat_cmp es (are_sorted es sorted)

pub tables_len : (es : List (ℕ × Placed)) → InOrder es → length es ≡ finite.len (tables_of es)
tables_len es sorted = sym (finite.len-entries (tables_of es) ∙ ap length (entries_tables es sorted))

-- ---- a copy, made entry by entry

abbrev pub with_entry : Tables → ℕ × Placed → Tables
with_entry tables e = finite.insert tables e.0 e.1

abbrev pub or_else : Option Placed → Option Placed → Option Placed
or_else None other = other
or_else (Some v) other = Some v

pub first : (a b : Bool) → T (a && b) → T a
first true b p = tt
first false b p = p

pub later : (a b : Bool) → T (a && b) → T b
later true b p = p
later false b p = absurd p

pub none_from : (k : ℕ) (es : List (ℕ × Placed)) → T (below_all nat_cmp k es) → finite.find nat_cmp k es ≡ None
none_from k [] below = refl
none_from k (e ∷ es) below =
    elim (nat_cmp k e.0) as (λ o. T (is_lt o && below_all nat_cmp k es) → cond (is_eq o) (Some e.1) (finite.find nat_cmp k es) ≡ None) [
      | Less ↦ λ more. none_from k es more
      | Equal ↦ λ more. absurd more
      | Greater ↦ λ more. absurd more
    ] below

-- what is there after all of the entries are put in
get_all : (es : List (ℕ × Placed)) (tables : Tables) (q : ℕ) → T (is_sorted nat_cmp es)
    → finite.get (fold with_entry tables es) q ≡ or_else (finite.find nat_cmp q es) (finite.get tables q)
get_all [] tables q sorted = refl
get_all (e ∷ es) tables q sorted =
    get_all es (with_entry tables e) q (later (below_all nat_cmp e.0 es) (is_sorted nat_cmp es) sorted)
    ∙ ap (or_else (finite.find nat_cmp q es)) (finite.get-insert nat_cmp_total tables e.0 e.1 q)
    ∙ by_key (eq_by_cmp nat_cmp q e.0) refl
  where
    by_key : (b : Bool) → is_eq (nat_cmp q e.0) ≡ b
        → or_else (finite.find nat_cmp q es) (cond b (Some e.1) (finite.get tables q)) ≡ or_else (cond b (Some e.1) (finite.find nat_cmp q es)) (finite.get tables q)
    by_key true is =
        ap (λ (o : Option Placed). or_else o (Some e.1))
        (ap (λ (n : ℕ). finite.find nat_cmp n es) (same_number q e.0 is) ∙ none_from e.0 es (first (below_all nat_cmp e.0 es) (is_sorted nat_cmp es) sorted))
    by_key false is = refl

or_none : (o : Option Placed) → or_else o None ≡ o
or_none None = refl
or_none (Some v) = refl

-- a map's entries, put into an empty map in their order, make the map
pub put_all : (es : List (ℕ × Placed)) → InOrder es → fold with_entry empty_version es ≡ tables_of es
put_all es sorted =
    finite.same_map nat_cmp_total finite.nat_cmp-IsAntisymmetric _ _
    (λ q. get_all es empty_version q (are_sorted es sorted) ∙ ap (or_else (finite.find nat_cmp q es)) (finite.get-empty nat_cmp q) ∙ or_none (finite.find nat_cmp q es)
    ∙ sym (finite.get-from_entries nat_cmp_total es q))

pub dropped_none : (place : Place) → dropped None place ≡ None
unfolding dropped
dropped_none place = refl

pub added_none : (add : Add) → added None add ≡ None
unfolding added
added_none add = refl
