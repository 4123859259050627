-- The tables that a compaction doesn't read: their rows are newer than the inputs' of the same key, or lie deeper than the
-- output.
use Rattle.std.specs.Prelude.{◌≡◌, ◌≢◌, ℕ, zero, suc, All, ◌<◌, ◌≤◌, ◌==◌, Bool, true, false, ◌&&◌, ◌||◌, not, nat_lt, List, [], ◌∷◌, Contains, Some}
use Rattle.std.proofs.Common.{refl, sym, ap, subst, ⊎_elim, ◌∙◌, arith}
use Rattle.std.specs.List.{list_any}
use Rattle.std.specs.Ordering.{is_le}
use Rattle.std.proofs.lemmas.Bool.{cases_lt, eqb-true}
use Rattle.std.proofs.lemmas.Bool.Decides.{nat_tests}
use Rattle.std.proofs.lemmas.List.Elements.{All-contains}
use Rattle.std.specs.FinMap as finite
use Rattle.lsm_rows.specs.declared.rows.Row.{Row}
use Rattle.lsm_rows.specs.InternalKeys.{user_key}
use Rattle.lsm_rows.specs.Replay.{key_cmp}
use Rattle.lsm_version.specs.declared.choices.Choice.{Choice}
use Rattle.lsm_version.specs.declared.tables.Place.{Place}
use Rattle.lsm_version.specs.declared.tables.Placed.{Placed}
use Rattle.lsm_version.specs.Levels.{Tables}
use Rattle.lsm_compact.specs.Closed.{IsClosed, IsOutside, IsRead}
use Rattle.lsm_compact.specs.Orderly.{IsOrderly, in_range, rows_of_tables}
use Rattle.lsm_compact.specs.Written.{is_input, input_rows, may_hide, is_below}
use Rattle.lsm_compact.proofs.Keys.{untrue, both_true, from_least, to_greatest, most_trans, shared}
use Rattle.lsm_compact.proofs.Members.{nothing, has_first, has_later, by_first, source_of, from_source, entry_stands, stands_entry}

-- ---- rows and their tables

-- the row is one of a table that stands
pub record RowOf (tables : Tables) (rows : ℕ → List Row) (row : Row) : Type 0 where
  pub number : ℕ
  pub placed : Placed
  pub there : finite.get tables number ≡ Some placed
  pub has : Contains (rows number) row

pub row_of : (tables : Tables) (rows : ℕ → List Row) (row : Row) → Contains (rows_of_tables tables rows) row
    → RowOf tables rows row
row_of tables rows row c =
    let s = source_of (λ (table : ℕ × Placed). rows table.0) (finite.entries tables) row c in
    record { number = s.of.0; placed = s.of.1; there = entry_stands tables s.of s.among; has = s.has }

pub of_row : (tables : Tables) (rows : ℕ → List Row) (row : Row) (number : ℕ) (placed : Placed)
    → finite.get tables number ≡ Some placed
    → Contains (rows number) row → Contains (rows_of_tables tables rows) row
of_row tables rows row number placed there has =
    from_source (λ (table : ℕ × Placed). rows table.0) (finite.entries tables) (number, placed) row
    (stands_entry tables number placed there) has

-- ---- inputs

-- the row is one of a table that is read
pub record InputRow (tables : Tables) (rows : ℕ → List Row) (choice : Choice) (row : Row) : Type 0 where
  pub number : ℕ
  pub placed : Placed
  pub read : IsRead tables choice number placed
  pub has : Contains (rows number) row

place_is : (place : Place) (level : ℕ) → level ≡ place.level → place ≡ record { level = level; number = place.number }
place_is place level is = λ i. record { level = sym is i; number = place.number }

pub read_at : (tables : Tables) (rows : ℕ → List Row) (choice : Choice) → IsClosed tables rows choice → (place : Place)
    → Contains choice.inputs place
    → (placed : Placed) × IsRead tables choice place.number placed
read_at tables rows choice closed place among =
    let s = closed.stand place among in (
      s.placed,
      record {
        there = s.there;
        among = subst (λ (p : Place). Contains choice.inputs p)
            (place_is place s.placed.level s.level_is) among;
      },
    )

pub input_row : (tables : Tables) (rows : ℕ → List Row) (choice : Choice) → IsClosed tables rows choice → (row : Row)
    → Contains (input_rows rows choice) row → InputRow tables rows choice row
input_row tables rows choice closed row c =
    let s = source_of (λ (place : Place). rows place.number) choice.inputs row c in
    let r = read_at tables rows choice closed s.of s.among in
    record { number = s.of.number; placed = r.0; read = r.1; has = s.has }

pub of_input : (tables : Tables) (rows : ℕ → List Row) (choice : Choice) (number : ℕ) (placed : Placed) (row : Row)
    → IsRead tables choice number placed
    → Contains (rows number) row → Contains (input_rows rows choice) row
of_input tables rows choice number placed row read has =
    from_source (λ (place : Place). rows place.number) choice.inputs
    (record { level = placed.level; number = number }) row read.among has

-- a place's number is an input's
pub is_among : (inputs : List Place) (place : Place) → Contains inputs place → is_input inputs place.number ≡ true
is_among [] place c = absurd (nothing place c)
is_among (p ∷ inputs) place c =
    ⊎_elim
    (λ (same : p ≡ place). ap (λ b. b || is_input inputs place.number)
    (ap (λ (q : Place). q.number == place.number) same ∙ itself place.number) ∙ refl)
    (λ (more : Contains inputs place). last (p.number == place.number) (is_input inputs place.number)
    (is_among inputs place more))
    (by_first p inputs place c)
  where
    itself : (n : ℕ) → (n == n) ≡ true
    itself n = grind arith

    last : (a b : Bool) → b ≡ true → (a || b) ≡ true
    last true b e = refl
    last false b e = e

-- and each input's number is a place's
pub among_is : (inputs : List Place) (number : ℕ) → is_input inputs number ≡ true → (place : Place) × Contains inputs place ×
    (place.number ≡ number)
among_is [] number is = absurd (untrue is)
among_is (p ∷ inputs) number is =
    elim (p.number == number) as (λ b. (p.number == number) ≡ b → (b || is_input inputs number) ≡ true → (place : Place)
    × Contains (p ∷ inputs) place × (place.number ≡ number)) [
      | true ↦ λ same _. (p, has_first p inputs, eqb-true p.number number same)
      | false ↦ λ _ more. let m = among_is inputs number more in (m.0, has_later p inputs m.0 m.1, m.2)
    ] refl is

-- a table outside isn't one that is read
pub apart_numbers : (tables : Tables) (choice : Choice) (m n : ℕ) (a b : Placed) → IsRead tables choice m a
    → IsOutside tables choice n b → m ≢ n
apart_numbers tables choice m n a b read outside same =
    untrue (sym outside.not_read ∙ subst (λ (k : ℕ). is_input choice.inputs k ≡ true) same
    (is_among choice.inputs (record { level = a.level; number = m }) read.among))

-- ---- newer or deeper

module _ (tables : Tables) (rows : ℕ → List Row) (choice : Choice) (o : IsOrderly tables rows)
    (closed : IsClosed tables rows choice)
    (m n : ℕ) (a b : Placed) (read : IsRead tables choice m a) (outside : IsOutside tables choice n b) (row other : Row)
    (has : Contains (rows m) row) (has_other : Contains (rows n) other) (same : other.key ≡ row.key) where
  in_own : in_range row.key a.info ≡ true
  in_own = All-contains (λ (r : Row). in_range r.key a.info ≡ true) (rows m) row (o.ranged m a read.there) has

  pub in_other : in_range row.key b.info ≡ true
  in_other = subst (λ (k : List ℕ). in_range k b.info ≡ true) same
      (All-contains (λ (r : Row). in_range r.key b.info ≡ true) (rows n) other (o.ranged n b outside.there) has_other)

  pub no_newer : b.level ≤ choice.output → row.sequence ≤ other.sequence
  no_newer not_deeper =
      ⊎_elim
      (λ (above : b.level < a.level). All-contains (λ (r : Row). r.key ≡ other.key → r.sequence ≤ other.sequence) (rows m) row
      (All-contains (λ (q : Row). All (λ (r : Row). r.key ≡ q.key → r.sequence ≤ q.sequence) (rows m)) (rows n) other
      (o.leveled.older n m b a outside.there read.there above) has_other) has (sym same))
      (λ (below : a.level ≤ b.level). ⊎_elim (λ (deeper : a.level < b.level). absurd (besides deeper))
      (λ (level : b.level ≤ a.level). by_level a.level refl (omega (arith, below, level))) (cases_lt a.level b.level))
      (cases_lt b.level a.level)
    where
      besides : a.level < b.level → ⊥
      besides deeper =
          let least : choice.output ≤ b.level = closed.between
          (record { level = a.level; number = m }) n b read.among outside deeper in
          untrue (sym (closed.beside m m n a a b read read outside (omega (arith, least, not_deeper)))
          ∙ both_true (is_le (key_cmp (user_key b.info.smallest) (user_key a.info.largest)))
          (is_le (key_cmp (user_key a.info.smallest) (user_key b.info.largest)))
          (most_trans (user_key b.info.smallest) row.key (user_key a.info.largest) (from_least row.key b.info in_other)
          (to_greatest row.key a.info in_own))
          (most_trans (user_key a.info.smallest) row.key (user_key b.info.largest) (from_least row.key a.info in_own)
          (to_greatest row.key b.info in_other)))

      by_level : (level : ℕ) → level ≡ a.level → b.level ≡ a.level → row.sequence ≤ other.sequence
      by_level zero zeroth both = All-contains (λ (r : Row). r.key ≡ other.key → r.sequence ≤ other.sequence) (rows m) row
          (All-contains (λ (q : Row). All (λ (r : Row). r.key ≡ q.key → r.sequence ≤ q.sequence) (rows m)) (rows n) other
          (closed.newer m n a b read outside (sym zeroth) (both ∙ sym zeroth)) has_other) has (sym same)
      by_level (suc level) is both = absurd (untrue (sym
          (o.leveled.apart n m b a outside.there read.there (λ e. apart_numbers tables choice m n a b read outside (sym e))
          (omega (arith, is, both)) both)
          ∙ shared row.key b.info a.info in_other in_own))

  -- no two of their rows have one sequence
  pub sequences_differ : row.sequence ≢ other.sequence
  sequences_differ tie = apart_numbers tables choice m n a b read outside
      (o.own m n a b read.there outside.there row other has has_other tie).0

-- ---- what may be hidden

pub any_of : {A : Type 0} (p : A → Bool) (xs : List A) (x : A) → Contains xs x → p x ≡ true → list_any p xs ≡ true
any_of p [] x c is = absurd (nothing x c)
any_of p (y ∷ xs) x c is =
    ⊎_elim
    (λ (same : y ≡ x). ap (λ b. b || list_any p xs) (ap p same ∙ is))
    (λ (more : Contains xs x). last (p y) (list_any p xs) (any_of p xs x more is))
    (by_first y xs x c)
  where
    last : (a b : Bool) → b ≡ true → (a || b) ≡ true
    last true b e = refl
    last false b e = e

-- a table that is deeper and has the key in its range is found
pub found_below : (tables : Tables) (choice : Choice) (key : List ℕ) (n : ℕ) (b : Placed) → IsOutside tables choice n b
    → choice.output < b.level
    → in_range key b.info ≡ true → is_below tables choice key ≡ true
unfolding is_below
found_below tables choice key n b outside deeper within =
    any_of (may_hide choice key) (finite.entries tables) (n, b) (stands_entry tables n b outside.there)
    (both_true (nat_lt choice.output b.level) (not (is_input choice.inputs n) && in_range key b.info)
    (grind (arith, nat_tests))
    (both_true (not (is_input choice.inputs n)) (in_range key b.info) (ap not outside.not_read) within))
