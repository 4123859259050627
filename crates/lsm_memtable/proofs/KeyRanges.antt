-- The keys from a bound on.
use Rattle.std.proofs.Common.{◌≡◌, ℕ, Bool, true, false, cond, List, [], ◌∷◌, ◌++◌, refl, sym, ap, ◌∙◌}
use Rattle.std.specs.Prelude.{Some, Vec, ◌&&◌, slice_index_or}
use Rattle.std.specs.Ordering.{is_le}
use Rattle.std.specs.declared.cmp.Ordering.{Ordering}
use Rattle.std.specs.declared.cmp.Ordering.TheVariants.{Less, Equal, Greater}
use Rattle.std.specs.declared.ops.Bound.TheVariants.{Included, Unbounded}
use Rattle.std.specs.BTreeMap.Range.{entries_between}
use Rattle.lsm_rows.specs.declared.rows.Row.{Row}
use Rattle.lsm_rows.specs.InternalKeys.{user_key}
use Rattle.lsm_rows.specs.Replay.{key_cmp}
use Rattle.lsm_block.specs.Runs.{rows_after}
use Rattle.lsm_memtable.specs.Kept.{rows_in, AreVersions}
use Rattle.lsm_memtable.proofs.Sorting.{filter_none}
use Rattle.lsm_memtable.proofs.RowPlaces.{is_row_after, is_behind_by}
use Rattle.lsm_memtable.proofs.VersionRows.{after_is, after-append}
use Rattle.lsm_memtable.proofs.KeptRows.{Each, each_head, each_tail}

abbrev pub keys_cmp : {Z : Type 0} → Vec ℕ Z → Vec ℕ Z → Ordering
keys_cmp a b = key_cmp a.items b.items

-- all keys are from no bound on
pub from_none : {Z : Type 0} (es : List (Vec ℕ Z × List Row)) → entries_between keys_cmp Unbounded Unbounded es ≡ es
from_none [] = refl
from_none (e ∷ es) = ap (λ l. e ∷ l) (from_none es)

-- no row of a smaller key comes after an internal key
none_after : (key k : List ℕ) (rows : List Row) → key_cmp (user_key key) k ≡ Greater → AreVersions k rows → rows_after (Some key) rows ≡ []
none_after key k rows past are =
    after_is (Some key) rows
    ∙ filter_none (is_row_after (Some key)) rows
    (λ i d less. is_behind_by key (slice_index_or rows i d) Greater (are.below i d less) (ap (λ q. key_cmp (user_key key) q) (are.of_key i d less) ∙ past))

from_key_at : (o : Ordering) → is_le o ≡ false → o ≡ Greater
from_key_at Less past = cc
from_key_at Equal past = cc
from_key_at Greater past = refl

-- so the keys from its user key on have all rows that come after it
pub after_from : {Z : Type 0} (key : List ℕ) (start : Vec ℕ Z) (es : List (Vec ℕ Z × List Row)) → start.items ≡ user_key key → Each es
    → rows_after (Some key) (rows_in (entries_between keys_cmp (Included start) Unbounded es)) ≡ rows_after (Some key) (rows_in es)
after_from key start [] is each = refl
after_from {Z} key start (e ∷ es) is each = by_test (is_le (key_cmp start.items e.0.items)) refl (after_from key start es is (each_tail e es each))
  where
    by_test : (t : Bool) → is_le (key_cmp start.items e.0.items) ≡ t
        → rows_after (Some key) (rows_in (entries_between keys_cmp (Included start) Unbounded es)) ≡ rows_after (Some key) (rows_in es)
        → rows_after (Some key) (rows_in (cond (t && true) (e ∷ entries_between keys_cmp (Included start) Unbounded es) (entries_between keys_cmp (Included start) Unbounded es)))
        ≡ rows_after (Some key) (rows_in (e ∷ es))
    by_test true same rest =
        after-append (Some key) e.1 (rows_in (entries_between keys_cmp (Included start) Unbounded es)) ∙ ap (λ l. rows_after (Some key) e.1 ++ l) rest ∙ sym (after-append (Some key) e.1 (rows_in es))
    by_test false same rest =
        rest
        ∙ ap (λ l. l ++ rows_after (Some key) (rows_in es))
        (sym (none_after key e.0.items e.1 (ap (λ q. key_cmp q e.0.items) (sym is) ∙ from_key_at (key_cmp start.items e.0.items) same) (each_head e es each)))
        ∙ sym (after-append (Some key) e.1 (rows_in es))
