-- The order of the rows of a run.
use Rattle.std.specs.Prelude.{◌≡◌, ◌⊎◌, ℕ, ◌+◌, ◌*◌, ◌^◌, ◌<◌, ◌≤◌, true, List, [], ◌∷◌, map, Contains, Option, Some}
use Rattle.std.proofs.Common.{refl, sym, ap, subst, inl, inr, ⊎_elim, ◌∙◌, arith}
use Rattle.std.proofs.lemmas.Bool.Decides.{nat_tests}
use Rattle.std.proofs.lemmas.List.Elements.{All-contains}
use Rattle.std.specs.List.{AllByRecursion}
use Rattle.std.specs.List.Sorted.{IsStrictlySortedBy}
use Rattle.std.specs.Ordering.{nat_cmp, ordering_then, is_eq}
use Rattle.std.specs.declared.cmp.Ordering.{Ordering}
use Rattle.std.specs.declared.cmp.Ordering.TheVariants.{Less, Equal, Greater}
use Rattle.lsm_rows.specs.declared.rows.Row.{Row}
use Rattle.lsm_rows.specs.InternalKeys.{internal_cmp, internal_key, user_key, trailer, kind_byte}
use Rattle.lsm_rows.specs.Replay.{key_cmp}
use Rattle.lsm_rows.proofs.InternalOrder.{user_key_of, trailer_of, kind_small}
use Rattle.lsm_rows.proofs.NewestRows.{same_key}
use Rattle.lsm_block.specs.Runs.{comes_after}
use Rattle.lsm_block.specs.TableText.{kind_of, row_entry}
use Rattle.lsm_block.proofs.Sought.{is_less}
use Rattle.lsm_merge.specs.Order.{row_cmp, IsFrom}
use Rattle.lsm_merge.proofs.Lists.{none_in_nil, cons_cases, cons_here, cons_there}
use Rattle.lsm_merge.proofs.Orders.{from_itself, from_trans, less_is_from}
use Rattle.lsm_compact.specs.declared.input.Reading.{Reading}
use Rattle.lsm_compact.specs.Calls.{IsRowOfStore, IsRun}
use Rattle.lsm_compact.specs.Readers.{HasRead}
use Rattle.lsm_compact.specs.Reading.{read_to}

numbers_less : (s t a b : ℕ) → a < 2 → nat_cmp (t * 256 + b) (s * 256 + a) ≡ Less → t ≤ s
numbers_less s t a b small less =
    let below : t * 256 + b < s * 256 + a = grind (arith, nat_tests) in
    omega (arith, below, small)

-- a row whose internal key comes after that of another comes behind it
pub after_is_from : (a b : Row) → a.sequence < 2 ^ 56 → b.sequence < 2 ^ 56
    → internal_cmp (row_entry a).key (row_entry b).key ≡ Less → IsFrom a b
unfolding internal_cmp internal_key IsFrom
after_is_from a b small below less = by_keys (key_cmp a.key b.key) refl (sym parts ∙ less)
  where
    number : Row → ℕ
    number row = row.sequence * 256 + kind_byte (kind_of row.value)

    parts : ordering_then (key_cmp (user_key (row_entry a).key) (user_key (row_entry b).key))
        (nat_cmp (trailer (row_entry b).key) (trailer (row_entry a).key))
        ≡ ordering_then (key_cmp a.key b.key) (nat_cmp (number b) (number a))
    parts = λ i. ordering_then (key_cmp (user_key_of a.key (number a) i) (user_key_of b.key (number b) i))
        (nat_cmp (trailer_of b.key (number b) (omega (arith, below, kind_small (kind_of b.value))) i)
        (trailer_of a.key (number a) (omega (arith, small, kind_small (kind_of a.value))) i))

    by_keys : (o : Ordering) → key_cmp a.key b.key ≡ o → ordering_then o (nat_cmp (number b) (number a)) ≡ Less
        → (key_cmp a.key b.key ≡ Less) ⊎ ((b.key ≡ a.key) × (b.sequence ≤ a.sequence))
    by_keys Less keys is = inl keys
    by_keys Equal keys is = inr (
      sym (same_key a.key b.key (ap is_eq keys)),
      numbers_less a.sequence b.sequence (kind_byte (kind_of a.value)) (kind_byte (kind_of b.value))
          (kind_small (kind_of a.value)) is,
    )
    by_keys Greater keys is = cc

-- rows whose user keys ascend are in the order of a merge
pub run_sorted : (rows : List Row) → IsStrictlySortedBy key_cmp (map (λ (row : Row). row.key) rows)
    → IsStrictlySortedBy row_cmp rows
unfolding IsStrictlySortedBy
run_sorted [] sorted = tt
run_sorted (row ∷ rows) sorted = (all rows sorted.0, run_sorted rows sorted.1)
  where
    all : (more : List Row) → AllByRecursion (λ key. key_cmp row.key key ≡ Less) (map (λ (r : Row). r.key) more)
        → AllByRecursion (λ other. row_cmp row other ≡ Less) more
    all [] less = tt
    all (other ∷ more) less = (ap (λ o. ordering_then o (nat_cmp other.sequence row.sequence)) less.0, all more less.1)

-- each row of a run comes behind the one that was read last before it
pub run_from : (after : Option (List ℕ)) (count : ℕ) (run : List Row) (last row : Row) → IsRun after count run
    → after ≡ Some (row_entry last).key → last.sequence < 2 ^ 56 → Contains run row → IsFrom last row
run_from after count run last row is after_is small has =
    let behind : comes_after after (row_entry row).key ≡ true =
    All-contains (λ (r : Row). comes_after after (row_entry r).key ≡ true) run row is.behind has in
    let store : IsRowOfStore row = All-contains IsRowOfStore run row is.rows has in
    after_is_from last row small store.sequence
    (is_less (internal_cmp (row_entry last).key (row_entry row).key)
    (ap (λ (a : Option (List ℕ)). comes_after a (row_entry row).key) (sym after_is) ∙ behind))

-- the last row of a run
pub record IsLastOf (after : Option (List ℕ)) (run : List Row) : Type 0 where
  pub last : Row
  pub among : Contains run last
  pub read_is : read_to after run ≡ Some (row_entry last).key
  pub behind : (row : Row) → Contains run row → IsFrom row last

first_less : (row : Row) (rows : List Row) (other : Row) → IsStrictlySortedBy key_cmp (map (λ (r : Row). r.key) (row ∷ rows))
    → Contains rows other → IsFrom row other
unfolding IsStrictlySortedBy
first_less row rows other sorted has = all rows sorted.0 has
  where
    all : (more : List Row) → AllByRecursion (λ key. key_cmp row.key key ≡ Less) (map (λ (r : Row). r.key) more)
        → Contains more other
        → IsFrom row other
    all [] less is = absurd (none_in_nil other is)
    all (x ∷ more) less is =
        ⊎_elim (λ same. subst (λ (r : Row). IsFrom row r) (sym same) (less_is_from row x less.0))
        (λ rest. all more less.1 rest)
        (cons_cases x more other is)

rest_sorted : (row : Row) (rows : List Row) → IsStrictlySortedBy key_cmp (map (λ (r : Row). r.key) (row ∷ rows))
    → IsStrictlySortedBy key_cmp (map (λ (r : Row). r.key) rows)
unfolding IsStrictlySortedBy
rest_sorted row rows sorted = sorted.1

pub last_of_run : (after : Option (List ℕ)) (first : Row) (rows : List Row)
    → IsStrictlySortedBy key_cmp (map (λ (r : Row). r.key) (first ∷ rows)) → IsLastOf after (first ∷ rows)
unfolding read_to
last_of_run after first [] sorted = record {
  last = first;
  among = cons_here first [];
  read_is = refl;
  behind = λ row has. ⊎_elim (λ same. subst (λ (r : Row). IsFrom r first) (sym same) (from_itself first))
      (λ rest. absurd (none_in_nil row rest)) (cons_cases first [] row has);
}
last_of_run after first (second ∷ rows) sorted =
    let rest = last_of_run (Some (row_entry first).key) second rows (rest_sorted first (second ∷ rows) sorted) in
    record {
      last = rest.last;
      among = cons_there first (second ∷ rows) rest.last rest.among;
      read_is = rest.read_is;
      behind = λ row has. ⊎_elim
          (λ same. subst (λ (r : Row). IsFrom r rest.last) (sym same)
          (first_less first (second ∷ rows) rest.last sorted rest.among))
          (λ more. rest.behind row more) (cons_cases first (second ∷ rows) row has);
    }

read_nothing_more : (after : Option (List ℕ)) → read_to after [] ≡ after
unfolding read_to
read_nothing_more after = refl

-- what was read before a run was read behind it
pub read_on : (old new : Reading) (count : ℕ) (run : List Row) (row : Row) → IsRun old.after count run
    → new.after ≡ read_to old.after run
    → HasRead old row → HasRead new row
read_on old new count [] row is after has = record {
  last = has.last;
  after_is = after ∙ read_nothing_more old.after ∙ has.after_is;
  small = has.small;
  from = has.from;
}
read_on old new count (first ∷ rows) row is after has =
    let end = last_of_run old.after first rows is.ascend in
    let store : IsRowOfStore end.last = All-contains IsRowOfStore (first ∷ rows) end.last is.rows end.among in
    record {
      last = end.last;
      after_is = after ∙ end.read_is;
      small = store.sequence;
      from = from_trans row has.last end.last has.from
          (run_from old.after count (first ∷ rows) has.last end.last is has.after_is has.small end.among);
    }

-- and so were the rows of the run
pub run_read : (old new : Reading) (count : ℕ) (run : List Row) (row : Row) → IsRun old.after count run
    → new.after ≡ read_to old.after run
    → Contains run row → HasRead new row
run_read old new count [] row is after has = absurd (none_in_nil row has)
run_read old new count (first ∷ rows) row is after has =
    let end = last_of_run old.after first rows is.ascend in
    let store : IsRowOfStore end.last = All-contains IsRowOfStore (first ∷ rows) end.last is.rows end.among in
    record { last = end.last; after_is = after ∙ end.read_is; small = store.sequence; from = end.behind row has }
