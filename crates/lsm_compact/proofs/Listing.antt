-- Tables that are listed with the keys of their rows, and whose rows have each their own sequence, are in order.
use Rattle.std.specs.Prelude.{◌≡◌, ◌≢◌, ℕ, nat_eq, true, false, T, List, [], ◌∷◌, ◌++◌, map, All, Contains, Some}
use Rattle.std.proofs.Common.{sym, ap, subst, inl, inr, ◌∙◌}
use Rattle.std.proofs.lemmas.Bool.{eqb-true, eq-eqb}
use Rattle.std.proofs.lemmas.List.Elements.{Contains-append_right, Contains-append_cases}
use Rattle.std.proofs.lemmas.Cmp.{nat_cmp_total, tied_itself}
use Rattle.std.specs.List.{flat_map, IsDistinct, AllByRecursion}
use Rattle.std.specs.Ordering.{nat_cmp, is_lt}
use Rattle.std.specs.declared.cmp.Ordering.TheVariants.{Less}
use Rattle.std.specs.FinMap as finite
use Rattle.std.specs.FinMap.Entries.{below_all, is_sorted}
use Rattle.lsm_rows.specs.declared.rows.Row.{Row}
use Rattle.lsm_rows.specs.Replay.{key_cmp}
use Rattle.lsm_version.specs.declared.tables.Placed.{Placed}
use Rattle.lsm_version.specs.declared.tables.TableInfo.{TableInfo}
use Rattle.lsm_version.specs.Levels.{Tables, IsLeveled}
use Rattle.lsm_version.proofs.TableMaps.{first, later}
use Rattle.lsm_compact.specs.Orderly.{IsOrderly, IsListed, AreListed, HaveOwnSequences, in_range, rows_of_tables}
use Rattle.lsm_compact.proofs.Ascending.{Ascend, spans, rest_ascends, first_below, not_less}
use Rattle.lsm_compact.proofs.Keys.{untrue, not_so}
use Rattle.lsm_compact.proofs.Levels.{in_span}
use Rattle.lsm_compact.proofs.Members.{nothing, has_first, has_later, by_first, source_of, from_source, All-from_contained, entry_stands, stands_entry}
use Rattle.lsm_compact.proofs.Outside.{of_row}

-- ---- ranges

range_has : (info : TableInfo) (rows : List Row) → IsListed info rows → All (λ (row : Row). in_range row.key info ≡ true) rows
range_has info rows l =
    All-from_contained (λ (row : Row). in_range row.key info ≡ true) rows
    (in_span rows info (spans rows info.smallest info.largest l.are.some l.are.ascend l.smallest_is l.largest_is))

-- ---- sequences of one list

-- no row of the first has the sequence of one of the second
abbrev Apart : List Row → List Row → Type 0
Apart xs ys = (x y : Row) → Contains xs x → Contains ys y → x.sequence ≢ y.sequence

abbrev Others : Row → List Row → Type 0
Others row rows = AllByRecursion (λ (n : ℕ). nat_eq row.sequence n ≡ false) (map (λ (r : Row). r.sequence) rows)

not_among : (row : Row) (rows : List Row) → Others row rows → (other : Row) → Contains rows other
    → row.sequence ≢ other.sequence
not_among row [] all other has same = nothing other has
not_among row (r ∷ rows) all other has same =
    elim (by_first r rows other has) [
      | inl is ↦ untrue (sym all.0 ∙ eq-eqb row.sequence r.sequence (same ∙ ap (λ (x : Row). x.sequence) (sym is)))
      | inr more ↦ not_among row rows all.1 other more same
    ]

among_none : (row : Row) (rows : List Row) → ((other : Row) → Contains rows other → row.sequence ≢ other.sequence)
    → Others row rows
among_none row [] none = tt
among_none row (r ∷ rows) none = (
  not_so (nat_eq row.sequence r.sequence) (λ is. none r (has_first r rows) (eqb-true row.sequence r.sequence is)),
  among_none row rows (λ other has. none other (has_later r rows other has)),
)

-- rows of such a list with one sequence are one row
one_row : (rows : List Row) → HaveOwnSequences rows → (a b : Row) → Contains rows a → Contains rows b
    → a.sequence ≡ b.sequence → a ≡ b
unfolding IsDistinct
one_row [] own a b has_a has_b same = absurd (nothing a has_a)
one_row (r ∷ rows) own a b has_a has_b same =
    elim (by_first r rows a has_a) [
      | inl is ↦ elim (by_first r rows b has_b) [
        | inl too ↦ sym is ∙ too
        | inr more ↦ absurd (not_among r rows own.0 b more (ap (λ (x : Row). x.sequence) is ∙ same))
      ]
      | inr more_a ↦ elim (by_first r rows b has_b) [
        | inl too ↦ absurd (not_among r rows own.0 a more_a (ap (λ (x : Row). x.sequence) too ∙ sym same))
        | inr more ↦ one_row rows own.1 a b more_a more same
      ]
    ]

apart_parts : (xs ys : List Row) → HaveOwnSequences (xs ++ ys) → Apart xs ys
unfolding IsDistinct
apart_parts [] ys own x y has_x has_y same = nothing x has_x
apart_parts (r ∷ xs) ys own x y has_x has_y same =
    elim (by_first r xs x has_x) [
      | inl is ↦ not_among r (xs ++ ys) own.0 y (Contains-append_right xs ys y has_y) (ap (λ (z : Row). z.sequence) is ∙ same)
      | inr more ↦ apart_parts xs ys own.1 x y more has_y same
    ]

back_own : (xs ys : List Row) → HaveOwnSequences (xs ++ ys) → HaveOwnSequences ys
unfolding IsDistinct
back_own [] ys own = own
back_own (r ∷ xs) ys own = back_own xs ys own.1

own_joined : (xs ys : List Row) → HaveOwnSequences xs → HaveOwnSequences ys → Apart xs ys → HaveOwnSequences (xs ++ ys)
unfolding IsDistinct
own_joined [] ys own_xs own_ys apart = own_ys
own_joined (r ∷ xs) ys own_xs own_ys apart = (
  among_none r (xs ++ ys) (λ other has. elim (Contains-append_cases xs ys other has) [
    | inl here ↦ not_among r xs own_xs.0 other here
    | inr more ↦ apart r other (has_first r xs) more
  ]),
  own_joined xs ys own_xs.1 own_ys (λ x y has_x has_y. apart x y (has_later r xs x has_x) has_y),
)

-- ---- sequences of all tables

abbrev rows_at : (ℕ → List Row) → List (ℕ × Placed) → List Row
rows_at rows entries = flat_map (λ (table : ℕ × Placed). rows table.0) entries

-- rows of two tables with one sequence are of one table
one_table : (rows : ℕ → List Row) (es : List (ℕ × Placed)) → HaveOwnSequences (rows_at rows es) → (s t : ℕ × Placed)
    → Contains es s → Contains es t
    → (a b : Row) → Contains (rows s.0) a → Contains (rows t.0) b → a.sequence ≡ b.sequence → s ≡ t
one_table rows [] own s t has_s has_t a b in_s in_t same = absurd (nothing s has_s)
one_table rows (e ∷ es) own s t has_s has_t a b in_s in_t same =
    let apart : (u : ℕ × Placed) → Contains es u → (x y : Row) → Contains (rows e.0) x → Contains (rows u.0) y
    → x.sequence ≢ y.sequence =
    λ u has x y has_x has_y. apart_parts (rows e.0) (rows_at rows es) own x y has_x
    (from_source (λ (table : ℕ × Placed). rows table.0) es u y has has_y) in
    elim (by_first e es s has_s) [
      | inl is ↦ elim (by_first e es t has_t) [
        | inl too ↦ sym is ∙ too
        | inr more ↦ absurd (apart t more a b (subst (λ (u : ℕ × Placed). Contains (rows u.0) a) (sym is) in_s) in_t same)
      ]
      | inr more_s ↦ elim (by_first e es t has_t) [
        | inl too ↦ absurd (apart s more_s b a (subst (λ (u : ℕ × Placed). Contains (rows u.0) b) (sym too) in_t) in_s
            (sym same))
        | inr more ↦ one_table rows es (back_own (rows e.0) (rows_at rows es) own) s t more_s more a b in_s in_t same
      ]
    ]

pub listed_orderly : (tables : Tables) (rows : ℕ → List Row) → IsLeveled tables rows → AreListed tables rows
    → HaveOwnSequences (rows_of_tables tables rows) → IsOrderly tables rows
listed_orderly tables rows leveled listed own = record {
  leveled = leveled;
  some = λ number placed there. (listed number placed there).are.some;
  ranged = λ number placed there. range_has placed.info (rows number) (listed number placed there);
  own = λ m n a b there_m there_n row other has has_other same. (
    ap (λ (t : ℕ × Placed). t.0) (one_table rows (finite.entries tables) own (m, a) (n, b) (stands_entry tables m a there_m)
        (stands_entry tables n b there_n) row other has has_other same),
    one_row (rows_of_tables tables rows) own row other (of_row tables rows row m a there_m has)
        (of_row tables rows other n b there_n has_other) same,
  );
}

-- ---- and back

-- rows that ascend, of which those with one sequence are one row
own_ascending : (rows : List Row) → Ascend rows →
    ((a b : Row) → Contains rows a → Contains rows b → a.sequence ≡ b.sequence → a ≡ b) → HaveOwnSequences rows
unfolding IsDistinct
own_ascending [] ascend one = tt
own_ascending (r ∷ rows) ascend one = (
  among_none r rows (λ other has same. not_less r.key
      (subst (λ (x : Row). key_cmp r.key x.key ≡ Less)
      (sym (one r other (has_first r rows) (has_later r rows other has) same)) (first_below r rows ascend other has))),
  own_ascending rows (rest_ascends r rows ascend)
      (λ a b has_a has_b. one a b (has_later r rows a has_a) (has_later r rows b has_b)),
)

above_first : (k : ℕ) (es : List (ℕ × Placed)) → T (below_all nat_cmp k es) → (e : ℕ × Placed) → Contains es e → k ≢ e.0
above_first k [] below e has same = nothing e has
above_first k (d ∷ es) below e has same =
    elim (by_first d es e has) [
      | inl is ↦ less_differ k d.0 (first (is_lt (nat_cmp k d.0)) (below_all nat_cmp k es) below)
          (same ∙ ap (λ (x : ℕ × Placed). x.0) (sym is))
      | inr more ↦ above_first k es (later (is_lt (nat_cmp k d.0)) (below_all nat_cmp k es) below) e more same
    ]
  where
    less_differ : (a b : ℕ) → T (is_lt (nat_cmp a b)) → a ≡ b → ⊥
    less_differ a b less same = subst T (ap is_lt (ap (λ (n : ℕ). nat_cmp a n) (sym same) ∙ tied_itself nat_cmp_total a)) less

module _ (tables : Tables) (rows : ℕ → List Row) (o : IsOrderly tables rows) (listed : AreListed tables rows) where
  own_from : (es : List (ℕ × Placed)) → T (is_sorted nat_cmp es) →
      ((e : ℕ × Placed) → Contains es e → finite.get tables e.0 ≡ Some e.1) → HaveOwnSequences (rows_at rows es)
  unfolding IsDistinct
  own_from [] sorted stand = tt
  own_from (e ∷ es) sorted stand =
      let there = stand e (has_first e es) in
      own_joined (rows e.0) (rows_at rows es)
      (own_ascending (rows e.0) (listed e.0 e.1 there).are.ascend
      (λ a b has_a has_b same. (o.own e.0 e.0 e.1 e.1 there there a b has_a has_b same).1))
      (own_from es (later (below_all nat_cmp e.0 es) (is_sorted nat_cmp es) sorted) (λ d has. stand d (has_later e es d has)))
      (λ x y has_x has_y same.
      let s = source_of (λ (table : ℕ × Placed). rows table.0) es y has_y in
      above_first e.0 es (first (below_all nat_cmp e.0 es) (is_sorted nat_cmp es) sorted) s.of s.among
      (o.own e.0 s.of.0 e.1 s.of.1 there (stand s.of (has_later e es s.of s.among)) x y has_x s.has same).0)

  pub orderly_own : HaveOwnSequences (rows_of_tables tables rows)
  orderly_own = own_from (finite.entries tables) (finite.entries_sorted tables) (entry_stands tables)
