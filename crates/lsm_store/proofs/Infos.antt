-- What an edit says of the table of frozen rows.
use Rattle.std.specs.Prelude.{◌≡◌, ◌⊎◌, ℕ, ◌^◌, ◌<◌, ◌≤◌, IsTrue, true, Bool, false, nat_lt, if◌then◌else◌, List, [], ◌∷◌, length, map, All, Contains}
use Rattle.std.proofs.Common.{⊎_elim, inl, inr, refl, sym, ap, subst, ◌∙◌, arith}
use Rattle.std.proofs.lemmas.Bool.Decides.{nat_tests}
use Rattle.std.proofs.lemmas.List.Elements.{All-head, All-tail, All-cons, All-nil, All-filter, Contains-append_right}
use Rattle.lsm_names.specs.Sessions.{is_session}
use Rattle.lsm_rows.specs.declared.rows.Row.{Row}
use Rattle.lsm_block.specs.Parts.{last_from, last_key}
use Rattle.lsm_block.specs.TableText.{kind_of, row_entry}
use Rattle.lsm_version.specs.declared.tables.TableInfo.{TableInfo}
use Rattle.lsm_version.specs.Edits.{IsKey, IsTable as IsSaid}
use Rattle.lsm_memtable.specs.Greatest.{later, greatest_from}
use Rattle.lsm_memtable.specs.Newest.{is_newest, newest_each}
use Rattle.lsm_memtable.proofs.NewestRows.{newest_stays}
use Rattle.lsm_refine.specs.Flushed.{AreFlushed, IsLastOf}
use Rattle.lsm_flush.specs.Writing.{IsWholeTable}
use Rattle.lsm_store.specs.Inside.{HasShortKey}

-- a row whose key is short has a key that an edit may say
row_key : (row : Row) → HasShortKey row → row.sequence < 2 ^ 56 → IsKey (row_entry row).key
row_key row short below = record {
  key = row.key;
  sequence = row.sequence;
  kind = kind_of row.value;
  parts = record { is = refl; below = below };
  fits = short;
}

-- what is so of each row's key is so of the last one
last_is : (P : List ℕ → Type 0) (key : List ℕ) (rows : List Row) → P key → All (λ (row : Row). P (row_entry row).key) rows
    → P (last_from key (map row_entry rows))
last_is P key [] is each = is
last_is P key (row ∷ rows) is each =
    last_is P (row_entry row).key rows (All-head (λ (r : Row). P (row_entry r).key) row rows each)
    (All-tail (λ (r : Row). P (row_entry r).key) row rows each)

last_row : (P : List ℕ → Type 0) (row : Row) (rows : List Row) → All (λ (r : Row). P (row_entry r).key) (row ∷ rows)
    → P (last_key (map row_entry (row ∷ rows)))
unfolding last_key
last_row P row rows each = last_is P (row_entry row).key rows (All-head (λ (r : Row). P (row_entry r).key) row rows each)
    (All-tail (λ (r : Row). P (row_entry r).key) row rows each)

-- the rows of a table are the newest of each key
pub are_flushed : (frozen : List Row) → AreFlushed frozen (newest_each frozen)
unfolding newest_each
are_flushed frozen = record { which = is_newest frozen; are = refl; newest_is = newest_stays frozen }

newest_short : (rows : List Row) → All HasShortKey rows → All HasShortKey (newest_each rows)
unfolding newest_each
newest_short rows each = All-filter (is_newest rows) HasShortKey rows each

is_true : (b : Bool) → IsTrue b → b ≡ true
is_true true is = refl
is_true false is = let clash : false ≡ true = is in absurd (cc)

both_keys : (rows : List Row) → All HasShortKey rows → All (λ (row : Row). row.sequence < 2 ^ 56) rows
    → All (λ (row : Row). IsKey (row_entry row).key) rows
both_keys [] short below = All-nil (λ (row : Row). IsKey (row_entry row).key)
both_keys (row ∷ rows) short below =
    All-cons (λ (r : Row). IsKey (row_entry r).key) row rows
    (row_key row (All-head HasShortKey row rows short) (All-head (λ (r : Row). r.sequence < 2 ^ 56) row rows below))
    (both_keys rows (All-tail HasShortKey row rows short) (All-tail (λ (r : Row). r.sequence < 2 ^ 56) row rows below))

-- an edit may say of a whole table what is said of it
pub info_said : (rows : List Row) (number : ℕ) (session : List ℕ) (info : TableInfo) → IsWholeTable rows number session info
    → All HasShortKey rows → IsSaid info
info_said rows number session info is short = by (newest_each rows) refl
  where
    by : (each : List Row) → newest_each rows ≡ each → IsSaid info
    by [] none = absurd (let some : 1 ≤ length (newest_each rows) = is.table.is.are_rows.some in
        omega (arith, some, ap (λ (l : List Row). length l) none))
    by (row ∷ more) same =
        let keys : All (λ (r : Row). IsKey (row_entry r).key) (row ∷ more) =
        subst (λ (l : List Row). All (λ (r : Row). IsKey (row_entry r).key) l) same
        (both_keys (newest_each rows) (newest_short rows short) is.table.is.are_rows.sequences) in record {
          session = ap is_session is.session_is ∙ is_true (is_session session) is.table.spelled;
          size = omega (arith, is.size_is, is.table.small);
          smallest = subst IsKey (sym (is.smallest_is row more same)) (All-head (λ (r : Row). IsKey (row_entry r).key) row more keys);
          largest = subst IsKey (sym (is.largest_is ∙ ap (λ (l : List Row). last_key (map row_entry l)) same))
              (last_row IsKey row more keys);
        }

-- ---- the last sequence

-- this number is the greatest of the first one and the rows' sequences
record IsGreatest (n : ℕ) (rows : List Row) (last : ℕ) : Type 0 where
  least : n ≤ last
  most : All (λ (row : Row). row.sequence ≤ last) rows
  which : (last ≡ n) ⊎ ((row : Row) × Contains rows row × (row.sequence ≡ last))

under : (n k : ℕ) → nat_lt n k ≡ true → n ≤ k
under n k is = grind (arith, nat_tests)

over : (n k : ℕ) → nat_lt n k ≡ false → k ≤ n
over n k is = grind (arith, nat_tests)

later_is : (n k : ℕ) → ((later n k ≡ k) × (n ≤ k)) ⊎ ((later n k ≡ n) × (k ≤ n))
later_is n k = by (nat_lt n k) refl
  where
    by : (b : Bool) → nat_lt n k ≡ b
        → (((if b then k else n) ≡ k) × (n ≤ k)) ⊎ (((if b then k else n) ≡ n) × (k ≤ n))
    by true is = inl (refl, under n k is)
    by false is = inr (refl, over n k is)

one_more : (n : ℕ) (row : Row) (rows : List Row) (m last : ℕ)
    → ((m ≡ row.sequence) × (n ≤ row.sequence)) ⊎ ((m ≡ n) × (row.sequence ≤ n))
    → IsGreatest m rows last → IsGreatest n (row ∷ rows) last
one_more n row rows m last which is = ⊎_elim
    (λ new. record {
      least = omega (arith, new.0, new.1, is.least);
      most = All-cons (λ (r : Row). r.sequence ≤ last) row rows (omega (arith, new.0, is.least)) is.most;
      which = inr (⊎_elim (λ same. (row, (0, omega arith, refl), sym (same ∙ new.0)))
          (λ other. (other.0, Contains-append_right (row ∷ []) rows other.0 other.1, other.2)) is.which);
    })
    (λ old. record {
      least = omega (arith, old.0, is.least);
      most = All-cons (λ (r : Row). r.sequence ≤ last) row rows (omega (arith, old.0, old.1, is.least)) is.most;
      which = ⊎_elim (λ same. inl (same ∙ old.0))
          (λ other. inr (other.0, Contains-append_right (row ∷ []) rows other.0 other.1, other.2)) is.which;
    })
    which

is_greatest : (n : ℕ) (rows : List Row) → IsGreatest n rows (greatest_from n rows)
is_greatest n [] = record { least = omega arith; most = All-nil (λ (row : Row). row.sequence ≤ n); which = inl refl }
is_greatest n (row ∷ rows) =
    one_more n row rows (later n row.sequence) (greatest_from (later n row.sequence) rows) (later_is n row.sequence)
    (is_greatest (later n row.sequence) rows)

-- it is the last of the rows, where there are any
pub last_of_rows : (rows : List Row) → 1 ≤ length rows → IsLastOf (greatest_from 0 rows) rows
last_of_rows [] some = absurd (omega (arith, some))
last_of_rows (row ∷ rows) some =
    let is : IsGreatest 0 (row ∷ rows) (greatest_from 0 (row ∷ rows)) = is_greatest 0 (row ∷ rows) in
    let head : row.sequence ≤ greatest_from 0 (row ∷ rows) =
    All-head (λ (r : Row). r.sequence ≤ greatest_from 0 (row ∷ rows)) row rows is.most in ⊎_elim
    (λ none. record { row = row; among = (0, omega arith, refl); is = omega (arith, none, head); most = is.most })
    (λ found. record { row = found.0; among = found.1; is = found.2; most = is.most })
    is.which
