-- The rows of a batch come among the others.
use Rattle.std.proofs.Common.{◌≡◌, ℕ, ◌+◌, ◌*◌, ◌^◌, ◌<◌, ◌≤◌, Bool, true, false, cond, nat_lt, List, [], ◌∷◌, ◌++◌, length, take, get_or, refl, sym, ap, ◌∙◌, subst, arith, append_assoc, length-append}
use Rattle.std.specs.Prelude.{Option, Some, None}
use Rattle.std.specs.List.{filter, sum_by}
use Rattle.std.specs.List.Sorted.{IsPermutation}
use Rattle.std.specs.Ordering.{eq_by_cmp}
use Rattle.std.proofs.lemmas.Bool.Decides.{nat_tests}
use Rattle.std.proofs.lemmas.List.{append-nil, take_more, take_all, length-take-le}
use Rattle.std.proofs.lemmas.List.Elements.{All-nil, All-cons, All-append, All-weaker, All-contains, filter-append}
use Rattle.std.proofs.lemmas.List.Sorted.{IsPermutation-refl, IsPermutation-sym, IsPermutation-middle, IsPermutation-push_more, length_permutation, sum_by-IsPermutation}
use Rattle.std.proofs.lemmas.List.Sums.{sum_by-append, sum_by-cons}
use Rattle.lsm_rows.specs.declared.rows.Row.{Row}
use Rattle.lsm_rows.specs.declared.operations.Op.{Op}
use Rattle.lsm_rows.specs.declared.operations.Op.TheVariants.{Put, Delete}
use Rattle.lsm_rows.specs.Replay.{key_cmp}
use Rattle.lsm_rows.specs.Rows.{row_of, batch_rows}
use Rattle.lsm_rows.specs.Contents.{newer, newest, AllBefore}
use Rattle.lsm_rows.proofs.NewestRows.{newest_of, newest-append, newest_is}
use Rattle.lsm_memtable.specs.Sizes.{row_bytes, op_bytes, room_of}
use Rattle.lsm_memtable.specs.Order.{row_cmp, AreInOrder}
use Rattle.lsm_memtable.specs.Joining.{IsPut, IsGrown, AreJoined}
use Rattle.lsm_memtable.specs.Memory.{IsMemory}
use Rattle.lsm_memtable.proofs.Sorting.{sorted_nil, filter_all}
use Rattle.lsm_memtable.proofs.TakingBack.{is_below}
use Rattle.lsm_memtable.proofs.KeptRows.{keeps_newer}
use Rattle.lsm_memtable.proofs.Pushes.{all_left}
use Rattle.lsm_rows.proofs.ReplayedRows.{sequence-is, lesser}
use Rattle.lsm_table.proofs.OrderedBlocks.{all-back}

is_below_no : (n first : ℕ) → first ≤ n → nat_lt n first ≡ false
is_below_no n first past = grind (arith, nat_tests)

below_all : (first : ℕ) (rows : List Row) → AllBefore first rows → filter (is_below first) rows ≡ rows
below_all first rows before = filter_all (is_below first) rows (All-weaker (λ row. row.sequence < first) (λ row. is_below first row ≡ true) (λ row less. lesser row.sequence first less) rows before)

pub grown_none : (first : ℕ) (old : List Row) → AllBefore first old → IsGrown first old [] old
grown_none first old before = record {
  same = subst (λ l. IsPermutation l old) (sym (append-nil old)) (IsPermutation-refl old);
  newest = λ key. ap (newest key) (sym (append-nil old));
  kept = below_all first old before;
  before = let same : first ≡ first + 0 = omega arith in subst (λ n. AllBefore n old) same before;
}

-- a row with a greater sequence than all is its key's newest wherever it stands
newest_past : (row : Row) (o : Option Row) → ((q : Row) → o ≡ Some q → q.sequence < row.sequence) → newest_of o (Some row) ≡ Some row
newest_past row None less = refl
newest_past row (Some q) less = ap (λ t. Some (cond t row q)) (lesser q.sequence row.sequence (less q refl))

pub put_newest : (key : List ℕ) (front back : List Row) (row : Row) → AllBefore row.sequence front → AllBefore row.sequence back → newest key (front ++ row ∷ back) ≡ newest key ((front ++ back) ++ row ∷ [])
put_newest key front back row before behind =
    newest-append front (row ∷ back) key ∙ by_key (eq_by_cmp key_cmp key row.key) refl ∙ sym (newest-append (front ++ back) (row ∷ []) key)
  where
    less : (rows : List Row) → AllBefore row.sequence rows → (q : Row) → newest key rows ≡ Some q → q.sequence < row.sequence
    less rows all q found = All-contains (λ r. r.sequence < row.sequence) rows q all (newest_is key rows q found).among

    by_key : (t : Bool) → eq_by_cmp key_cmp key row.key ≡ t → newest_of (newest key front) (cond t (Some (newer row (newest key back))) (newest key back)) ≡ newest_of (newest key (front ++ back)) (cond t (Some row) None)
    by_key true same =
        ap (λ r. newest_of (newest key front) (Some r)) (keeps_newer row (newest key back) (less back behind)) ∙ newest_past row (newest key front) (less front before)
        ∙ sym (newest_past row (newest key (front ++ back)) (less (front ++ back) (All-append (λ r. r.sequence < row.sequence) front back before behind)))
    by_key false same = sym (newest-append front back key) ∙ sym (none_behind (newest key (front ++ back)))
      where
        none_behind : (o : Option Row) → newest_of o None ≡ o
        none_behind None = refl
        none_behind (Some r) = refl

pub put_perm : (old : List Row) (row : Row) (new : List Row) → IsPut old row new → IsPermutation (row ∷ old) new
put_perm old row new put =
    subst (λ l. IsPermutation l new) (ap (λ l. row ∷ l) (sym put.before))
    (subst (λ l. IsPermutation (row ∷ (put.front ++ put.back)) l) (sym put.after) (IsPermutation-sym (put.front ++ row ∷ put.back) (row ∷ (put.front ++ put.back)) (IsPermutation-middle put.front row put.back)))

pub grown_more : (first : ℕ) (old more now new : List Row) (row : Row) → IsGrown first old more now → IsPut now row new → row.sequence ≡ first + length more → IsGrown first old (more ++ row ∷ []) new
grown_more first old more now new row was put is =
    let before : AllBefore row.sequence (put.front ++ put.back) = subst (λ l. AllBefore row.sequence l) put.before (subst (λ n. AllBefore n now) (sym is) was.before) in
    let early : AllBefore row.sequence put.front = all_left (λ r. r.sequence < row.sequence) put.front put.back before in
    let late : AllBefore row.sequence put.back = all-back (λ r. r.sequence < row.sequence) put.front put.back before in
    let later : AllBefore (first + length (more ++ row ∷ [])) (put.front ++ row ∷ put.back) =
    All-append (λ r. r.sequence < first + length (more ++ row ∷ [])) put.front (row ∷ put.back)
    (All-weaker (λ r. r.sequence < row.sequence) (λ r. r.sequence < first + length (more ++ row ∷ [])) (λ r less. omega (arith, less, is, length-append more (row ∷ []))) put.front early)
    (All-cons (λ r. r.sequence < first + length (more ++ row ∷ [])) row put.back (omega (arith, is, length-append more (row ∷ [])))
    (All-weaker (λ r. r.sequence < row.sequence) (λ r. r.sequence < first + length (more ++ row ∷ [])) (λ r less. omega (arith, less, is, length-append more (row ∷ []))) put.back late)) in
    record {
      same = subst (λ l. IsPermutation l new) (append_assoc old more (row ∷ [])) (IsPermutation-push_more (old ++ more) now new row was.same (put_perm now row new put));
      newest =
          λ key. ap (newest key) put.after ∙ put_newest key put.front put.back row early late ∙ ap (λ l. newest key (l ++ row ∷ [])) (sym put.before)
          ∙ newest-append now (row ∷ []) key ∙ ap (λ o. newest_of o (newest key (row ∷ []))) (was.newest key) ∙ sym (newest-append (old ++ more) (row ∷ []) key)
          ∙ ap (newest key) (append_assoc old more (row ∷ []));
      kept =
          ap (filter (is_below first)) put.after ∙ filter-append (is_below first) put.front (row ∷ put.back)
          ∙ ap (λ t. filter (is_below first) put.front ++ cond t (row ∷ filter (is_below first) put.back) (filter (is_below first) put.back)) (is_below_no row.sequence first (omega (arith, is)))
          ∙ sym (filter-append (is_below first) put.front put.back) ∙ ap (filter (is_below first)) (sym put.before) ∙ was.kept;
      before = subst (λ l. AllBefore (first + length (more ++ row ∷ [])) l) (sym put.after) later;
    }

-- a batch's rows, one by one
pub batch-push : (first : ℕ) (ops : List Op) (op : Op) → batch_rows first (ops ++ op ∷ []) ≡ batch_rows first ops ++ row_of (first + length ops) op ∷ []
batch-push first [] op = ap (λ n. row_of n op ∷ []) (omega arith)
batch-push first (o ∷ ops) op = ap (λ l. row_of first o ∷ l) (batch-push (first + 1) ops op ∙ ap (λ n. batch_rows (first + 1) ops ++ row_of n op ∷ []) (omega arith))

pub length-batch : (first : ℕ) (ops : List Op) → length (batch_rows first ops) ≡ length ops
length-batch first [] = refl
length-batch first (o ∷ ops) = omega (arith, length-batch (first + 1) ops)

row-bytes : (sequence : ℕ) (op : Op) → row_bytes (row_of sequence op) ≡ op_bytes op
row-bytes sequence (Put key value) = refl
row-bytes sequence (Delete key) = refl

sum-batch : (first : ℕ) (ops : List Op) → sum_by row_bytes (batch_rows first ops) ≡ sum_by op_bytes ops
sum-batch first [] = refl
sum-batch first (o ∷ ops) = omega (arith, sum_by-cons row_bytes (row_of first o) (batch_rows (first + 1) ops), sum_by-cons op_bytes o ops, row-bytes first o, sum-batch (first + 1) ops)

-- one operation more of a batch
pub grown_op : (first : ℕ) (old now new : List Row) (ops : List Op) (op : Op) (row : Row) → IsGrown first old (batch_rows first ops) now → IsPut now row new → row ≡ row_of (first + length ops) op → IsGrown first old (batch_rows first (ops ++ op ∷ [])) new
grown_op first old now new ops op row was put is =
    subst (λ l. IsGrown first old l new) (ap (λ r. batch_rows first ops ++ r ∷ []) is ∙ sym (batch-push first ops op))
    (grown_more first old (batch_rows first ops) now new row was put (ap (λ (r : Row). r.sequence) is ∙ sequence-is (first + length ops) op ∙ ap (λ n. first + n) (sym (length-batch first ops))))

pub joined_grown : (first : ℕ) (old more now : List Row) → IsGrown first old more now → AreInOrder now → AreJoined old more now
joined_grown first old more now grown order = record { same = grown.same; order = order; newest = grown.newest }

pub room-is : (rows : List Row) → room_of rows ≡ sum_by row_bytes rows + 100 * length rows
unfolding room_of
room-is rows = refl

-- the sizes with a batch
pub memory_joined : (first : ℕ) (old new : List Row) (ops : List Op) (count bytes more_count more_bytes : ℕ) → IsMemory old count bytes → AreJoined old (batch_rows first ops) new → more_count ≡ count + length ops → more_bytes ≡ bytes + sum_by op_bytes ops
    → more_bytes + 100 * more_count + 4 < 2 ^ 29 → IsMemory new more_count more_bytes
memory_joined first old new ops count bytes more_count more_bytes was joined count_is bytes_is room =
    let many : more_count ≡ length new = omega (arith, count_is, was.count_is, length_permutation (old ++ batch_rows first ops) new joined.same, length-append old (batch_rows first ops), length-batch first ops) in
    let sum : more_bytes ≡ sum_by row_bytes new =
    omega (arith, bytes_is, was.bytes_is, sum_by-IsPermutation row_bytes (old ++ batch_rows first ops) new joined.same, sum_by-append row_bytes old (batch_rows first ops), sum-batch first ops) in
    record { order = joined.order; count_is = many; bytes_is = sum; room = omega (arith, room-is new, many, sum, room) }

sum-filter : (p : Row → Bool) (rows : List Row) → sum_by row_bytes (filter p rows) ≤ sum_by row_bytes rows
sum-filter p [] = omega arith
sum-filter p (r ∷ rows) =
    elim (p r) as (λ t. sum_by row_bytes (cond t (r ∷ filter p rows) (filter p rows)) ≤ sum_by row_bytes (r ∷ rows)) [
      | true ↦ omega (arith, sum_by-cons row_bytes r (filter p rows), sum_by-cons row_bytes r rows, sum-filter p rows)
      | false ↦ omega (arith, sum_by-cons row_bytes r rows, sum-filter p rows)
    ]

length-filter-le : (p : Row → Bool) (rows : List Row) → length (filter p rows) ≤ length rows
length-filter-le p [] = omega arith
length-filter-le p (r ∷ rows) = elim (p r) as (λ t. length (cond t (r ∷ filter p rows) (filter p rows)) ≤ length (r ∷ rows)) [ true ↦ omega (arith, length-filter-le p rows) | false ↦ omega (arith, length-filter-le p rows) ]

-- fewer rows take less room
pub room-filter : (p : Row → Bool) (rows : List Row) → room_of (filter p rows) ≤ room_of rows
room-filter p rows = omega (arith, room-is (filter p rows), room-is rows, sum-filter p rows, length-filter-le p rows)

pub memory_below : (first : ℕ) (old new : List Row) (count bytes left left_bytes : ℕ) → IsMemory old count bytes → new ≡ filter (is_below first) old → AreInOrder new → left ≡ length new → left_bytes ≡ sum_by row_bytes new → IsMemory new left left_bytes
memory_below first old new count bytes left left_bytes was is order left_is bytes_is = record {
  order = order;
  count_is = left_is;
  bytes_is = bytes_is;
  room = let less : room_of new ≤ room_of old = subst (λ l. room_of l ≤ room_of old) (sym is) (room-filter (is_below first) old) in omega (arith, less, was.room);
}

pub bytes_small : (rows : List Row) (count bytes : ℕ) → IsMemory rows count bytes → bytes + 100 * count < 2 ^ 29
bytes_small rows count bytes memory = omega (arith, memory.room, room-is rows, memory.count_is, memory.bytes_is)

pub sum_small : (p : Row → Bool) (rows new : List Row) (count bytes : ℕ) → IsMemory rows count bytes → new ≡ filter p rows → sum_by row_bytes new < 2 ^ 29
sum_small p rows new count bytes memory is = omega (arith, memory.room, room-is rows, sum-filter p rows, ap (sum_by row_bytes) is)

-- no rows
pub memory_none : (rows : List Row) → rows ≡ [] → IsMemory rows 0 0
memory_none rows none = subst (λ l. IsMemory l 0 0) (sym none) (record { order = record { ascend = sorted_nil row_cmp; below = All-nil (λ row. row.sequence < 2 ^ 56) }; count_is = refl; bytes_is = refl; room = omega (arith, room-is []) })

-- a later sequence is past all that have come
pub past_grown : (first : ℕ) (old now : List Row) (ops : List Op) (sequence : ℕ) (op : Op) (row : Row) → IsGrown first old (batch_rows first ops) now → sequence ≡ first + length ops → row ≡ row_of sequence op → AllBefore row.sequence now
past_grown first old now ops sequence op row grown is row_is =
    let same : first + length (batch_rows first ops) ≡ row.sequence = omega (arith, length-batch first ops, is, ap (λ (r : Row). r.sequence) row_is, sequence-is sequence op) in
    subst (λ n. AllBefore n now) same grown.before

pub op_more : (first : ℕ) (old now new : List Row) (ops : List Op) (i : ℕ) (op : Op) (sequence : ℕ) (row : Row) → i < length ops → op ≡ get_or ops i op → sequence ≡ first + i → IsGrown first old (batch_rows first (take i ops)) now
    → IsPut now row new → row ≡ row_of sequence op → IsGrown first old (batch_rows first (take (i + 1) ops)) new
op_more first old now new ops i op sequence row less op_is is grown put row_is =
    let many : length (take i ops) ≡ i = length-take-le i ops (omega (arith, less)) in
    subst (λ l. IsGrown first old (batch_rows first l) new) (ap (λ o. take i ops ++ o ∷ []) op_is ∙ sym (take_more ops i op less))
    (grown_op first old now new (take i ops) op row grown put (row_is ∙ ap (λ n. row_of n op) (is ∙ ap (λ n. first + n) (sym many))))

-- all operations are done
pub before_all : (first : ℕ) (old now : List Row) (ops : List Op) (i : ℕ) → IsGrown first old (batch_rows first (take i ops)) now → length ops ≤ i → AllBefore (first + length ops) now
before_all first old now ops i grown all =
    let same : first + length (batch_rows first (take i ops)) ≡ first + length ops = omega (arith, length-batch first (take i ops), ap (length {A = Op}) (take_all i ops all)) in
    subst (λ n. AllBefore n now) same grown.before
