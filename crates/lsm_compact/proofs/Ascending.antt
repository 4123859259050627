-- Rows whose user keys ascend strictly.
use Rattle.std.specs.Prelude.{◌≡◌, ℕ, ◌≤◌, length, List, [], ◌∷◌, ◌++◌, map, Contains, Some}
use Rattle.std.proofs.Common.{refl, sym, ap, subst, inl, inr, ◌∙◌, arith}
use Rattle.std.specs.List.{AllByRecursion}
use Rattle.std.specs.List.Sorted.{IsStrictlySortedBy}
use Rattle.std.specs.declared.cmp.Ordering.TheVariants.{Less}
use Rattle.std.proofs.lemmas.List.Elements.{Contains-append_right}
use Rattle.lsm_rows.specs.declared.rows.Row.{Row}
use Rattle.lsm_rows.specs.Contents.{newest}
use Rattle.lsm_rows.specs.InternalKeys.{internal_key, user_key}
use Rattle.lsm_rows.specs.Replay.{key_cmp}
use Rattle.lsm_rows.proofs.InternalOrder.{user_key_of}
use Rattle.lsm_block.specs.Parts.{last_from, last_key}
use Rattle.lsm_block.specs.TableText.{row_entry}
use Rattle.lsm_compact.proofs.Keys.{AtMost, most_itself, below_most, not_below}
use Rattle.lsm_compact.proofs.Members.{nothing, has_first, has_later, by_first, All-from_contained}
use Rattle.lsm_compact.proofs.Newest.{newest_of}

-- the rows' user keys ascend strictly
abbrev pub Ascend : List Row → Type 0
Ascend rows = IsStrictlySortedBy key_cmp (map (λ (row : Row). row.key) rows)

-- each row of the first comes before each of the second
abbrev pub Before : List Row → List Row → Type 0
Before xs ys = (x y : Row) → Contains xs x → Contains ys y → key_cmp x.key y.key ≡ Less

below_all : (k : List ℕ) (rows : List Row) → AllByRecursion (λ l. key_cmp k l ≡ Less) (map (λ (row : Row). row.key) rows) →
    (row : Row) → Contains rows row
    → key_cmp k row.key ≡ Less
below_all k [] all row c = absurd (nothing row c)
below_all k (r ∷ rows) all row c =
    elim (by_first r rows row c) [
      | inl same ↦ subst (λ (x : Row). key_cmp k x.key ≡ Less) same all.0
      | inr more ↦ below_all k rows all.1 row more
    ]

pub first_below : (r : Row) (rows : List Row) → Ascend (r ∷ rows) → (row : Row) → Contains rows row
    → key_cmp r.key row.key ≡ Less
unfolding IsStrictlySortedBy
first_below r rows ascend = below_all r.key rows ascend.0

pub rest_ascends : (r : Row) (rows : List Row) → Ascend (r ∷ rows) → Ascend rows
unfolding IsStrictlySortedBy
rest_ascends r rows ascend = ascend.1

pub not_less : (k : List ℕ) → key_cmp k k ≡ Less → ⊥
not_less k less = not_below k k (most_itself k) less

-- each key once
pub once : (rows : List Row) → Ascend rows → (a b : Row) → Contains rows a → Contains rows b → a.key ≡ b.key → a ≡ b
once [] ascend a b has_a has_b same = absurd (nothing a has_a)
once (r ∷ rows) ascend a b has_a has_b same =
    elim (by_first r rows a has_a) [
      | inl is ↦ elim (by_first r rows b has_b) [
        | inl too ↦ sym is ∙ too
        | inr more ↦ absurd (not_less b.key
            (subst (λ (k : List ℕ). key_cmp k b.key ≡ Less) (ap (λ (x : Row). x.key) is ∙ same)
            (first_below r rows ascend b more)))
      ]
      | inr more_a ↦ elim (by_first r rows b has_b) [
        | inl too ↦ absurd (not_less a.key
            (subst (λ (k : List ℕ). key_cmp k a.key ≡ Less) (ap (λ (x : Row). x.key) too ∙ sym same)
            (first_below r rows ascend a more_a)))
        | inr more ↦ once rows (rest_ascends r rows ascend) a b more_a more same
      ]
    ]

-- so each row is its key's newest
pub newest_own : (rows : List Row) (row : Row) → Ascend rows → Contains rows row → newest row.key rows ≡ Some row
newest_own rows row ascend has =
    newest_of row.key rows row (record { same = λ a b has_a has_b same _. once rows ascend a b has_a has_b same })
    (record {
      among = has;
      of_key = refl;
      greatest = All-from_contained (λ (other : Row). other.key ≡ row.key → other.sequence ≤ row.sequence) rows
          (λ other c same. let tie = ap (λ (r : Row). r.sequence) (once rows ascend other row c has same) in omega
          (arith, tie));
    })

-- ---- parts

all_parts : (P : List ℕ → Type 0) (xs ys : List Row) → AllByRecursion P (map (λ (row : Row). row.key) (xs ++ ys))
    → AllByRecursion P (map (λ (row : Row). row.key) xs)
all_parts P [] ys all = tt
all_parts P (x ∷ xs) ys all = (all.0, all_parts P xs ys all.1)

pub front_ascends : (xs ys : List Row) → Ascend (xs ++ ys) → Ascend xs
unfolding IsStrictlySortedBy
front_ascends [] ys ascend = tt
front_ascends (x ∷ xs) ys ascend = (all_parts (λ l. key_cmp x.key l ≡ Less) xs ys ascend.0, front_ascends xs ys ascend.1)

pub back_ascends : (xs ys : List Row) → Ascend (xs ++ ys) → Ascend ys
back_ascends [] ys ascend = ascend
back_ascends (x ∷ xs) ys ascend = back_ascends xs ys (rest_ascends x (xs ++ ys) ascend)

pub front_before : (xs ys : List Row) → Ascend (xs ++ ys) → Before xs ys
front_before [] ys ascend a b has_a has_b = absurd (nothing a has_a)
front_before (x ∷ xs) ys ascend a b has_a has_b =
    elim (by_first x xs a has_a) [
      | inl same ↦ subst (λ (r : Row). key_cmp r.key b.key ≡ Less) same
          (first_below x (xs ++ ys) ascend b (Contains-append_right xs ys b has_b))
      | inr more ↦ front_before xs ys (rest_ascends x (xs ++ ys) ascend) a b more has_b
    ]

-- ---- the first row and the last one

-- the range of these rows, which is given by internal keys, is from the user key of one of them to that of another
pub record Spans (rows : List Row) (smallest largest : List ℕ) : Type 0 where
  pub first : Row
  pub last : Row
  pub has_first : Contains rows first
  pub has_last : Contains rows last
  pub least : user_key smallest ≡ first.key
  pub greatest : user_key largest ≡ last.key
  pub from : (row : Row) → Contains rows row → AtMost first.key row.key
  pub to : (row : Row) → Contains rows row → AtMost row.key last.key

key_of : (row : Row) → user_key (row_entry row).key ≡ row.key
unfolding internal_key
key_of row = user_key_of row.key _

-- the last row of a list, and its internal key
record Last (key : List ℕ) (rows : List Row) : Type 0 where
  row : Row
  has : Contains rows row
  key_is : key ≡ (row_entry row).key
  to : (other : Row) → Contains rows other → AtMost other.key row.key

last_of : (before : List ℕ) (r : Row) (rows : List Row) → Ascend (r ∷ rows) → Last
    (last_from before (map row_entry (r ∷ rows))) (r ∷ rows)
last_of before r [] ascend = record {
  row = r;
  has = has_first r [];
  key_is = refl;
  to = λ other has. elim (by_first r [] other has) [
    | inl same ↦ subst (λ (x : Row). AtMost x.key r.key) same (most_itself r.key)
    | inr more ↦ absurd (nothing other more)
  ];
}
last_of before r (q ∷ rows) ascend =
    let l = last_of (row_entry r).key q rows (rest_ascends r (q ∷ rows) ascend) in
    record {
      row = l.row;
      has = has_later r (q ∷ rows) l.row l.has;
      key_is = l.key_is;
      to = λ other has. elim (by_first r (q ∷ rows) other has) [
        | inl same ↦ subst (λ (x : Row). AtMost x.key l.row.key) same
            (below_most r.key l.row.key (first_below r (q ∷ rows) ascend l.row l.has))
        | inr more ↦ l.to other more
      ];
    }

pub spans : (rows : List Row) (smallest largest : List ℕ) → 1 ≤ length rows → Ascend rows
    → ((row : Row) (more : List Row) → rows ≡ row ∷ more → smallest ≡ (row_entry row).key) → largest ≡ last_key
    (map row_entry rows) → Spans rows smallest largest
unfolding last_key
spans [] smallest largest some ascend first_is last_is = absurd (omega arith)
spans (r ∷ rows) smallest largest some ascend first_is last_is =
    let l = last_of [] r rows ascend in
    record {
      first = r;
      last = l.row;
      has_first = has_first r rows;
      has_last = l.has;
      least = ap user_key (first_is r rows refl) ∙ key_of r;
      greatest = ap user_key (last_is ∙ l.key_is) ∙ key_of l.row;
      from = λ other has. elim (by_first r rows other has) [
        | inl same ↦ subst (λ (x : Row). AtMost r.key x.key) same (most_itself r.key)
        | inr more ↦ below_most r.key other.key (first_below r rows ascend other more)
      ];
      to = l.to;
    }
