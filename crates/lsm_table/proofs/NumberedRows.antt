-- A row whose key follows all others comes into a table.
use Rattle.std.proofs.Common.{◌≡◌, ℕ, ◌+◌, ◌/◌, ◌%◌, ◌^◌, ◌<◌, ◌≤◌, ⊎_elim, List, [], ◌∷◌, ◌++◌, sym, ap, ◌∙◌, subst, arith, length-append}
use Rattle.std.specs.Prelude.{All, map, Option, MatchOption, Some, None}
use Rattle.std.specs.Cmp.{nat_cmp_is}
use Rattle.std.specs.List.Sorted.{IsStrictlySortedBy}
use Rattle.std.specs.Ordering.{nat_cmp, ordering_then}
use Rattle.std.specs.declared.cmp.Ordering.TheVariants.{Less, Equal}
use Rattle.std.specs.Cmp.Lexicographic.{nat_list_cmp_total}
use Rattle.std.proofs.lemmas.Bool.{cases_lt}
use Rattle.std.proofs.lemmas.List.{map-append}
use Rattle.std.proofs.lemmas.List.Elements.{All-nil, All-cons, All-head, All-tail, All-push}
use Rattle.lsm_rows.specs.declared.rows.Row.{Row}
use Rattle.lsm_rows.specs.Replay.{key_cmp}
use Rattle.lsm_block.proofs.Keys.{sorted-nil, sorted-push}
use Rattle.lsm_table.specs.Building.{Built, IsBuilt, IsBehind}
use Rattle.lsm_table.specs.NumberedRows.{numbered, IsBuiltBefore}
use Rattle.lsm_table.proofs.BehindRows.{behind}

pub before_none : (v : Built) (key : List ℕ) → IsBuilt v [] [] → IsBuiltBefore v key
before_none v key built = record {
  rows = [];
  handed = [];
  built = built;
  ascend = sorted-nil key_cmp;
  before = All-nil (λ k. key_cmp k key ≡ Less);
  sequences = All-nil (λ (row : Row). row.sequence < 2 ^ 56);
}

keys-push : (rows : List Row) (row : Row) → map (λ (r : Row). r.key) (rows ++ row ∷ []) ≡ map (λ (r : Row). r.key) rows ++ row.key ∷ []
keys-push rows row = map-append (λ (r : Row). r.key) rows (row ∷ [])

pub next_may_come : (v : Built) (key : List ℕ) (row : Row) → IsBuiltBefore v key → row.key ≡ key → row.sequence < 2 ^ 56 → IsBehind v row
next_may_come v key row is same below =
    behind v is.rows row is.handed is.built
    (record {
      some = omega (arith, length-append is.rows (row ∷ []));
      ascend =
          subst (IsStrictlySortedBy key_cmp) (sym (keys-push is.rows row))
          (sorted-push key_cmp (map (λ (r : Row). r.key) is.rows) row.key is.ascend (subst (λ k. All (λ j. key_cmp j k ≡ Less) (map (λ (r : Row). r.key) is.rows)) (sym same) is.before));
      sequences = All-push (λ (r : Row). r.sequence < 2 ^ 56) is.rows row is.sequences below;
    })

all_before : (keys : List (List ℕ)) (key next : List ℕ) → key_cmp key next ≡ Less → All (λ k. key_cmp k key ≡ Less) keys → All (λ k. key_cmp k next ≡ Less) keys
all_before [] key next less all = All-nil (λ k. key_cmp k next ≡ Less)
all_before (k ∷ keys) key next less all =
    All-cons (λ j. key_cmp j next ≡ Less) k keys (nat_list_cmp_total.trans k key next (All-head (λ j. key_cmp j key ≡ Less) k keys all) less)
    (all_before keys key next less (All-tail (λ j. key_cmp j key ≡ Less) k keys all))

pub before_next : (v w : Built) (key next : List ℕ) (row : Row) → IsBuiltBefore v key → row.key ≡ key → row.sequence < 2 ^ 56 → key_cmp key next ≡ Less
    → ((rows : List Row) (handed : List ℕ) → IsBuilt v rows handed → IsBuilt w (rows ++ row ∷ []) handed) → IsBuiltBefore w next
before_next v w key next row is same below less more = record {
  rows = is.rows ++ row ∷ [];
  handed = is.handed;
  built = more is.rows is.handed is.built;
  ascend =
      subst (IsStrictlySortedBy key_cmp) (sym (keys-push is.rows row))
      (sorted-push key_cmp (map (λ (r : Row). r.key) is.rows) row.key is.ascend (subst (λ k. All (λ j. key_cmp j k ≡ Less) (map (λ (r : Row). r.key) is.rows)) (sym same) is.before));
  before =
      subst (All (λ k. key_cmp k next ≡ Less)) (sym (keys-push is.rows row))
      (All-push (λ k. key_cmp k next ≡ Less) (map (λ (r : Row). r.key) is.rows) row.key (all_before (map (λ (r : Row). r.key) is.rows) key next less is.before) (ap (λ k. key_cmp k next) same ∙ less));
  sequences = All-push (λ (r : Row). r.sequence < 2 ^ 56) is.rows row is.sequences below;
}

-- bytes that are handed out change nothing
pub before_handed : (v w : Built) (key : List ℕ) (piece : Option (List ℕ)) → IsBuiltBefore v key
    → ((rows : List Row) (handed : List ℕ) → IsBuilt v rows handed → MatchOption piece (IsBuilt w rows handed) (λ bytes. IsBuilt w rows (handed ++ bytes))) → IsBuiltBefore w key
before_handed v w key None is out = record { rows = is.rows; handed = is.handed; built = out is.rows is.handed is.built; ascend = is.ascend; before = is.before; sequences = is.sequences }
before_handed v w key (Some bytes) is out = record { rows = is.rows; handed = is.handed ++ bytes; built = out is.rows is.handed is.built; ascend = is.ascend; before = is.before; sequences = is.sequences }

-- keys come in the order of their numbers
pub numbers_ascend : (n : ℕ) → n < 10000 → key_cmp (numbered n) (numbered (n + 1)) ≡ Less
unfolding numbered
numbers_ascend n few =
    ⊎_elim
    (λ (low : n % 256 < 255). (λ i. ordering_then (same low i) (ordering_then (later low i) Equal)))
    (λ (high : 255 ≤ n % 256). ap (λ o. ordering_then o (ordering_then (nat_cmp (n % 256) ((n + 1) % 256)) Equal)) (carried high))
    (cases_lt (n % 256) 255)
  where
    same : n % 256 < 255 → nat_cmp (n / 256 % 256) ((n + 1) / 256 % 256) ≡ Equal
    same low = sym (nat_cmp_is (n / 256 % 256) ((n + 1) / 256 % 256) Equal (omega (arith, low, few)))

    later : n % 256 < 255 → nat_cmp (n % 256) ((n + 1) % 256) ≡ Less
    later low = sym (nat_cmp_is (n % 256) ((n + 1) % 256) Less (omega (arith, low)))

    carried : 255 ≤ n % 256 → nat_cmp (n / 256 % 256) ((n + 1) / 256 % 256) ≡ Less
    carried high = sym (nat_cmp_is (n / 256 % 256) ((n + 1) / 256 % 256) Less (omega (arith, high, few)))
