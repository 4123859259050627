-- A key's newest row among rows of which no two have one sequence, and among rows behind older
-- ones.
use Rattle.std.specs.Prelude.{◌≡◌, ◌≢◌, ℕ, ◌<◌, ◌≤◌, Bool, true, false, cond, nat_lt, nat_eq, List, [], ◌∷◌, ◌++◌, get_or, length, All, Contains, Option, Some, None}
use Rattle.std.proofs.Common.{refl, sym, ap, ◌∙◌, arith, ⊎_elim}
use Rattle.std.proofs.lemmas.Bool.{cases_lt, cases_eq}
use Rattle.std.proofs.lemmas.Bool.Decides.{nat_tests}
use Rattle.std.proofs.lemmas.List.{get_or-map, get_or_default, length-map}
use Rattle.std.proofs.lemmas.List.Elements.{All-nil, All-cons, All-contains}
use Rattle.std.proofs.lemmas.Map.Keys.{apart_from_distinct}
use Rattle.std.specs.List.{IsDistinct}
use Rattle.std.specs.Ordering.{eq_by_cmp}
use Rattle.lsm_rows.specs.declared.rows.Row.{Row}
use Rattle.lsm_rows.specs.Replay.{key_cmp}
use Rattle.lsm_rows.specs.Contents.{IsNewest, AllBefore, newer, newest}
use Rattle.lsm_rows.proofs.NewestRows.{newest_is, newest_of, newest-append, tied}
use Rattle.lsm_folder.specs.Needed.{sequences}

-- ---- no row of a key

some_not_none : {X : Type 0} (x : X) → Some x ≡ None → ⊥
some_not_none x is = cc

pub no_row : (key : List ℕ) (rows : List Row) → newest key rows ≡ None → All (λ (row : Row). row.key ≢ key) rows
no_row key [] none = All-nil (λ (row : Row). row.key ≢ key)
no_row key (row ∷ rows) none = by (eq_by_cmp key_cmp key row.key) refl none (no_row key rows)
  where
    by : (b : Bool) → eq_by_cmp key_cmp key row.key ≡ b → cond b (Some (newer row (newest key rows))) (newest key rows) ≡ None
        → (newest key rows ≡ None → All (λ (other : Row). other.key ≢ key) rows) → All (λ (other : Row). other.key ≢ key)
        (row ∷ rows)
    by true is found rest = absurd (some_not_none (newer row (newest key rows)) found)
    by false is found rest =
        All-cons (λ (other : Row). other.key ≢ key) row rows
        (λ same. let clash : true ≡ false = sym (tied key row.key same) ∙ is in cc) (rest found)

pub none_newest : (key : List ℕ) (rows : List Row) → All (λ (row : Row). row.key ≢ key) rows → newest key rows ≡ None
none_newest key rows others = by (newest key rows) refl
  where
    by : (found : Option Row) → newest key rows ≡ found → found ≡ None
    by None is = refl
    by (Some row) is =
        let it = newest_is key rows row is in
        absurd (All-contains (λ (other : Row). other.key ≢ key) rows row others it.among it.of_key)

-- ---- rows of which no two have one sequence

module _ (rows : List Row) (apart : IsDistinct nat_eq (sequences rows)) (a b : Row) (same : a.sequence ≡ b.sequence) where
  sequence_at : (k : ℕ) (row : Row) → k < length rows → get_or rows k row ≡ row
      → get_or (sequences rows) k 0 ≡ row.sequence
  sequence_at k row below is = get_or-map (λ (r : Row). r.sequence) rows k row 0 below ∙ ap (λ (r : Row). r.sequence) is

  many : length (sequences rows) ≡ length rows
  many = length-map rows (λ (r : Row). r.sequence)

  clash : (i j : ℕ) → i < j → j < length rows → get_or (sequences rows) i 0 ≡ get_or (sequences rows) j 0 → ⊥
  clash i j less below is =
      let differ = apart_from_distinct nat_eq (sequences rows) i j 0 apart less (omega (arith, below, many)) in
      let equal : nat_eq (get_or (sequences rows) i 0) (get_or (sequences rows) j 0) ≡ true = grind (arith, nat_tests) in
      let never : true ≡ false = sym equal ∙ differ in
      cc

  at_one : (i j : ℕ) → i < length rows → i ≡ j → get_or rows i a ≡ a → get_or rows j b ≡ b → a ≡ b
  at_one i j below is first second =
      sym first ∙ get_or_default rows i a b below ∙ ap (λ (k : ℕ). get_or rows k b) is ∙ second

  pub same_row : Contains rows a → Contains rows b → a ≡ b
  same_row first second =
      let one = sequence_at first.0 a first.1 first.2 in
      let two = sequence_at second.0 b second.1 second.2 in
      ⊎_elim (λ equal. at_one first.0 second.0 first.1 equal first.2 second.2)
      (λ other. ⊎_elim
      (λ less. absurd (clash first.0 second.0 less second.1 (one ∙ same ∙ sym two)))
      (λ more. absurd (clash second.0 first.0 (omega (arith, other, more)) first.1 (two ∙ sym same ∙ sym one)))
      (cases_lt first.0 second.0))
      (cases_eq first.0 second.0)

-- the newest row is the only one of the key than which none is newer
pub only_newest : (key : List ℕ) (rows : List Row) (row : Row) → IsDistinct nat_eq (sequences rows) → IsNewest key rows row
    → newest key rows ≡ Some row
only_newest key rows row apart is = by (newest key rows) refl
  where
    by : (found : Option Row) → newest key rows ≡ found → found ≡ Some row
    by None none = absurd (All-contains (λ (other : Row). other.key ≢ key) rows row (no_row key rows none) is.among is.of_key)
    by (Some other) some =
        let it = newest_is key rows other some in
        let low = All-contains (λ (r : Row). r.key ≡ key → r.sequence ≤ row.sequence) rows other is.greatest it.among
        it.of_key in
        let high = All-contains (λ (r : Row). r.key ≡ key → r.sequence ≤ other.sequence) rows row it.greatest is.among
        is.of_key in
        ap Some (same_row rows apart other row (omega (arith, low, high)) it.among is.among)

-- ---- rows behind older ones

none_behind : (o : Option Row) → newest_of o None ≡ o
none_behind None = refl
none_behind (Some row) = refl

below : (a b : ℕ) → a < b → nat_lt a b ≡ true
below a b less = grind (arith, nat_tests)

later_wins : (o : Option Row) (row : Row) → ((other : Row) → o ≡ Some other → other.sequence < row.sequence)
    → newest_of o (Some row) ≡ Some row
later_wins None row before = refl
later_wins (Some other) row before =
    ap (λ (b : Bool). Some (cond b row other)) (below other.sequence row.sequence (before other refl))

pub behind_none : (key : List ℕ) (older rows : List Row) → newest key rows ≡ None → newest key (older ++ rows) ≡ newest key
    older
behind_none key older rows none =
    newest-append older rows key ∙ ap (newest_of (newest key older)) none ∙ none_behind (newest key older)

pub behind_older : (key : List ℕ) (older rows : List Row) (row : Row) → AllBefore row.sequence older → newest key rows ≡ Some
    row
    → newest key (older ++ rows) ≡ Some row
behind_older key older rows row before found =
    newest-append older rows key ∙ ap (newest_of (newest key older)) found
    ∙ later_wins (newest key older) row (λ other is.
    All-contains (λ (r : Row). r.sequence < row.sequence) older other before (newest_is key older other is).among)
