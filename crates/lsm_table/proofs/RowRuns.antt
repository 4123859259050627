-- A run of rows, block by block.
use Rattle.std.proofs.Common.{◌≡◌, ℕ, ◌+◌, ◌-◌, ◌*◌, ◌/◌, ◌%◌, ◌^◌, ◌==◌, ◌<◌, ◌≤◌, Bool, true, false, cond, List, [], ◌∷◌, ◌++◌, length, take, drop, get_or, refl, sym, ap, ◌∙◌, subst, arith, zero, suc, min, take-append-drop, if◌then◌else◌}
use Rattle.std.specs.Prelude.{Option, Some, None, All, filter, map, flat_map, unwrap_or}
use Rattle.std.proofs.lemmas.List.{length-append, length-take, length-map, map-append, take_all, append-nil}
use Rattle.std.proofs.lemmas.List.Elements.{All-nil, All-cons, All-head, All-tail, All-take, All-filter}
use Rattle.std.proofs.lemmas.Grind.{flat_map-append}
use Rattle.lsm_disk.specs.Viewed.{Viewed}
use Rattle.lsm_frame.specs.Reader.{Tells, Stays}
use Rattle.lsm_rows.specs.declared.rows.Row.{Row}
use Rattle.lsm_rows.specs.declared.internal_keys.Kind.{Kind}
use Rattle.lsm_rows.specs.declared.internal_keys.Kind.TheVariants.{Delete, Put}
use Rattle.lsm_rows.specs.InternalKeys.{IsInternalKey, internal_key, user_key, trailer, kind_byte}
use Rattle.lsm_rows.proofs.InternalOrder.{trailer_of, user_key_of, kind_small}
use Rattle.lsm_block.specs.declared.entries.Entry.{Entry}
use Rattle.lsm_block.specs.Blocks.{IsKey, keys_of}
use Rattle.lsm_block.specs.Runs.{comes_after, rows_after}
use Rattle.lsm_block.specs.TableText.{kind_of, row_entry}
use Rattle.lsm_table.specs.declared.faults.TableFault.{TableFault}
use Rattle.lsm_table.specs.declared.faults.TableFault.TheVariants.{NoMemory}
use Rattle.lsm_table.specs.Opening.{TellsBlock, IsOutside}
use Rattle.lsm_table.specs.DataBlocks.{StoresBlock, StoresFault}
use Rattle.lsm_table.specs.Rows.{entries_after, row_at, IsOfBlock, AreOfBlocks}
use Rattle.lsm_table.specs.Searching.{IsValue}
use Rattle.lsm_table.proofs.AfterKeys.{after_append, after_nil, none_after}

number_of : (bytes user : List ℕ) (sequence : ℕ) (kind : Kind) → IsInternalKey bytes user sequence kind → trailer bytes ≡ sequence * 256 + kind_byte kind
unfolding internal_key
number_of bytes user sequence kind is = ap trailer is.is ∙ trailer_of user (sequence * 256 + kind_byte kind) (omega (arith, is.below, kind_small kind))

user_of : (bytes user : List ℕ) (sequence : ℕ) (kind : Kind) → IsInternalKey bytes user sequence kind → user_key bytes ≡ user
unfolding internal_key
user_of bytes user sequence kind is = ap user_key is.is ∙ user_key_of user (sequence * 256 + kind_byte kind)

value_read : (kind : Kind) (bytes : List ℕ) (value : Option (List ℕ)) → IsValue kind bytes value → value ≡ (if kind_byte kind == 0 then None else Some bytes)
unfolding IsValue
value_read Put bytes value is = is
value_read Delete bytes value is = is

row_read : (e : Entry) (user key : List ℕ) (sequence : ℕ) (kind : Kind) (value : Option (List ℕ)) → IsInternalKey e.key user sequence kind → key ≡ user → IsValue kind e.value value
    → record { key = key; sequence = sequence; value = value } ≡ row_at e
unfolding row_at
row_read e user key sequence kind value is kept got =
    let number : trailer e.key ≡ sequence * 256 + kind_byte kind = number_of e.key user sequence kind is in
    let key_is : key ≡ user_key e.key = kept ∙ sym (user_of e.key user sequence kind is) in
    let sequence_is : sequence ≡ trailer e.key / 256 = omega (arith, number, kind_small kind) in
    let byte_is : kind_byte kind ≡ trailer e.key % 256 = omega (arith, number, kind_small kind) in
    let value_is : value ≡ (if trailer e.key % 256 == 0 then None else Some e.value) = value_read kind e.value value got ∙ ap (λ (b : ℕ). if b == 0 then None else Some e.value) byte_is in
    (λ i. record { key = key_is i; sequence = sequence_is i; value = value_is i })

pub row_got : (e : Entry) (bytes stored user key : List ℕ) (sequence : ℕ) (kind : Kind) (value : Option (List ℕ)) → bytes ≡ e.key → stored ≡ e.value → IsInternalKey bytes user sequence kind → key ≡ user → IsValue kind stored value
    → record { key = key; sequence = sequence; value = value } ≡ row_at e
row_got e bytes stored user key sequence kind value same value_is is kept got =
    row_read e user key sequence kind value (subst (λ b. IsInternalKey b user sequence kind) same is) kept (subst (λ b. IsValue kind b value) value_is got)

value_of_kind : (value : Option (List ℕ)) → IsValue (kind_of value) (unwrap_or value []) value
unfolding IsValue
value_of_kind None = refl
value_of_kind (Some bytes) = refl

-- a row comes back from its entry
pub row_back : (row : Row) → row.sequence < 2 ^ 56 → row_at (row_entry row) ≡ row
row_back row below = sym (row_read (row_entry row) row.key row.key row.sequence (kind_of row.value) row.value (record { is = refl; below = below }) refl (value_of_kind row.value))

-- the rows after a key are those of the entries after it
pub rows_back : (after : Option (List ℕ)) (rows : List Row) → All (λ row. row.sequence < 2 ^ 56) rows → map row_at (entries_after after (map row_entry rows)) ≡ rows_after after rows
unfolding entries_after rows_after
rows_back after [] below = refl
rows_back after (row ∷ rows) below =
    by_test (entries_after after (map row_entry rows)) (rows_after after rows) (row_entry row) row (comes_after after (row_entry row).key)
    (rows_back after rows (All-tail (λ (r : Row). r.sequence < 2 ^ 56) row rows below)) (row_back row (All-head (λ (r : Row). r.sequence < 2 ^ 56) row rows below))
  where
    by_test : (es : List Entry) (rs : List Row) (e : Entry) (r : Row) (t : Bool) → map row_at es ≡ rs → row_at e ≡ r → map row_at (cond t (e ∷ es) es) ≡ cond t (r ∷ rs) rs
    by_test es rs e r true rest one = (λ i. one i ∷ rest i)
    by_test es rs e r false rest one = rest

-- one block behind another
abbrev pub joined : List (List Entry) → List Entry
joined blocks = flat_map (λ es. es) blocks

-- what a reading of blocks in turn has after so many of them
pub record IsRun (before now : Viewed) (index : List Entry) (after : Option (List ℕ)) (count done : ℕ) (rows : List Row) : Type 0 where
  pub stays : Stays before now
  pub few : length rows ≤ count
  pub are : (text : List ℕ) (blocks : List (List Entry)) → Tells before text → AreOfBlocks text index blocks → rows ≡ map row_at (take count (entries_after after (joined (take done blocks))))

take_nil : (n : ℕ) → take {A = Entry} n [] ≡ []
take_nil zero = refl
take_nil (suc n) = refl

pub run_start : (v : Viewed) (index : List Entry) (after : Option (List ℕ)) (count : ℕ) → IsRun v v index after count 0 []
run_start v index after count = record {
  stays = record { bytes = refl; len = refl; faults = omega arith };
  few = omega arith;
  are = λ text blocks told of. ap (map row_at) (sym (take_nil count) ∙ ap (λ (es : List Entry). take count es) (sym (after_nil after)));
}

-- the block of an entry, and those up to it
pub record IsTurn (text : List ℕ) (blocks : List (List Entry)) (i : ℕ) (e : Entry) : Type 0 where
  pub block : List Entry
  pub more : take (i + 1) blocks ≡ take i blocks ++ block ∷ []
  pub is_of : IsOfBlock text e block

next_suc : (i : ℕ) → suc i + 1 ≡ suc (i + 1)
next_suc i = omega arith

pub turn_of : (text : List ℕ) (index : List Entry) (blocks : List (List Entry)) (i : ℕ) (e : Entry) → AreOfBlocks text index blocks → i < length index → e ≡ get_or index i e → IsTurn text blocks i e
unfolding AreOfBlocks
turn_of text [] [] i e of less is = absurd (omega (arith, less))
turn_of text [] (block ∷ blocks) i e of less is = absurd of
turn_of text (d ∷ index) [] i e of less is = absurd of
turn_of text (d ∷ index) (block ∷ blocks) zero e of less is = record { block = block; more = refl; is_of = subst (λ x. IsOfBlock text x block) (sym is) of.0 }
turn_of text (d ∷ index) (block ∷ blocks) (suc i) e of less is =
    let rest = turn_of text index blocks i e of.1 (omega (arith, less)) is in
    record {
      block = rest.block;
      more = ap (λ (n : ℕ). take n (block ∷ blocks)) (next_suc i) ∙ ap (λ l. block ∷ l) rest.more;
      is_of = rest.is_of;
    }

pub as_many : (text : List ℕ) (index : List Entry) (blocks : List (List Entry)) → AreOfBlocks text index blocks → length index ≡ length blocks
unfolding AreOfBlocks
as_many text [] [] of = refl
as_many text [] (block ∷ blocks) of = absurd of
as_many text (d ∷ index) [] of = absurd of
as_many text (d ∷ index) (block ∷ blocks) of = ap suc (as_many text index blocks of.1)

take_front : (n : ℕ) (a b : List Entry) → n ≤ length a → take n (a ++ b) ≡ take n a
take_front zero a b less = refl
take_front (suc n) [] b less = absurd (omega arith)
take_front (suc n) (e ∷ a) b less = ap (λ l. e ∷ l) (take_front n a b (omega arith))

take_both : (n : ℕ) (a b : List Entry) → take n (a ++ b) ≡ take n a ++ take (n - length a) b
take_both zero a b = let none : 0 - length a ≡ 0 = omega arith in ap (λ (m : ℕ). take m b) (sym none)
take_both (suc n) [] b = let all : suc n - length {A = Entry} [] ≡ suc n = omega arith in ap (λ (m : ℕ). take m b) (sym all)
take_both (suc n) (e ∷ a) b =
    let less : suc n - length (e ∷ a) ≡ n - length a = omega arith in
    ap (λ l. e ∷ l) (take_both n a b) ∙ ap (λ (m : ℕ). e ∷ take n a ++ take m b) (sym less)

joined-push : (blocks : List (List Entry)) (block : List Entry) → joined (blocks ++ block ∷ []) ≡ joined blocks ++ block
joined-push blocks block = flat_map-append (λ (es : List Entry). es) blocks (block ∷ []) ∙ ap (λ l. joined blocks ++ l) (append-nil block)

-- the rows of one block more
pub run_more : (v w u : Viewed) (index : List Entry) (after : Option (List ℕ)) (count i left : ℕ) (e : Entry) (rows rows_now : List Row) (block entries taken : List Entry) → IsRun v w index after count i rows → i < length index → e ≡ get_or index i e
    → Stays w u → left ≡ count - length rows → ((text : List ℕ) (b : List Entry) → Tells w text → IsOfBlock text e b → block ≡ b) → entries ≡ block → taken ≡ take left (entries_after after entries)
    → rows_now ≡ rows ++ map row_at taken → IsRun v u index after count (i + 1) rows_now
run_more v w u index after count i left e rows rows_now block entries taken run less is stays left_is read entries_is taken_is pushed = record {
  stays = record { bytes = stays.bytes ∙ run.stays.bytes; len = stays.len ∙ run.stays.len; faults = omega (arith, stays.faults, run.stays.faults) };
  few = few_now;
  are = λ text blocks told of.
      let turn = turn_of text index blocks i e of less is in
      let same : block ≡ turn.block = read text turn.block (record { bytes = run.stays.bytes ∙ told.bytes; whole = told.whole ∙ sym run.stays.len }) turn.is_of in
      let so_far : List Entry = entries_after after (joined (take i blocks)) in
      let rows_are : rows ≡ map row_at (take count so_far) = run.are text blocks told of in
      let size : length rows ≡ min count (length so_far) = ap (length {A = Row}) rows_are ∙ length-map (take count so_far) row_at ∙ length-take count so_far in
      let left_so : left ≡ count - length so_far = omega (arith, left_is, size) in
      got ∙ (λ j. rows_are j ++ map row_at (take (left_so j) (entries_after after (same j)))) ∙ sym (map-append row_at (take count so_far) (take (count - length so_far) (entries_after after turn.block)))
      ∙ ap (map row_at) (sym (take_both count so_far (entries_after after turn.block))) ∙ ap (λ (es : List Entry). map row_at (take count es))
      (sym (after_append after (joined (take i blocks)) turn.block) ∙ ap (entries_after after) (sym (joined-push (take i blocks) turn.block) ∙ ap joined (sym turn.more)));
}
  where
    got : rows_now ≡ rows ++ map row_at (take left (entries_after after block))
    got = pushed ∙ ap (λ (es : List Entry). rows ++ map row_at es) (taken_is ∙ ap (λ es. take left (entries_after after es)) entries_is)

    few_now : length rows_now ≤ count
    few_now =
        let more : List Entry = entries_after after block in
        omega (arith, run.few, left_is, ap (length {A = Row}) got, length-append rows (map row_at (take left more)), length-map (take left more) row_at, length-take left more)

-- what is read where an entry of a block tells
pub block_read : (w : Viewed) (e : Entry) (block : List Entry) → ((text : List ℕ) → Tells w text → StoresBlock text e block) → (text : List ℕ) (b : List Entry) → Tells w text → IsOfBlock text e b → block ≡ b
block_read w e block stores text b told of = let s = stores text told in of.read s.place s.len block s.tells s.stored

pub fault_read : (w : Viewed) (e : Entry) (fault : TableFault) → ((text : List ℕ) → Tells w text → StoresFault text e fault) → (text : List ℕ) (b : List Entry) → Tells w text → IsOfBlock text e b → IsOutside fault
fault_read w e fault stores text b told of = let s = stores text told in of.outside s.place s.len fault s.tells s.fault_is

-- the keys of entries
pub keys_each : (es : List Entry) → All IsKey (keys_of es) → All (λ e. IsKey e.key) es
keys_each [] keys = All-nil (λ e. IsKey e.key)
keys_each (e ∷ es) keys = All-cons (λ e. IsKey e.key) e es (All-head IsKey e.key (keys_of es) keys) (keys_each es (All-tail IsKey e.key (keys_of es) keys))

-- the keys of entries that were taken
pub keys_taken : (after : Option (List ℕ)) (n : ℕ) (es result : List Entry) → All IsKey (keys_of es) → result ≡ take n (entries_after after es) → All (λ e. IsKey e.key) result
unfolding entries_after
keys_taken after n es result keys is =
    subst (All (λ e. IsKey e.key)) (sym is)
    (All-take (λ e. IsKey e.key) n (filter (λ e. comes_after after e.key) es) (All-filter (λ e. comes_after after e.key) (λ e. IsKey e.key) es (keys_each es keys)))

-- a reading that is refused
pub run_refused : (v w : Viewed) (index : List Entry) (after : Option (List ℕ)) (count i : ℕ) (e : Entry) (rows : List Row) (fault : TableFault) → IsRun v w index after count i rows → i < length index → e ≡ get_or index i e
    → ((text : List ℕ) (b : List Entry) → Tells w text → IsOfBlock text e b → IsOutside fault) → (text : List ℕ) (blocks : List (List Entry)) → Tells v text → AreOfBlocks text index blocks → IsOutside fault
run_refused v w index after count i e rows fault run less is refused text blocks told of =
    let turn = turn_of text index blocks i e of less is in
    refused text turn.block (record { bytes = run.stays.bytes ∙ told.bytes; whole = told.whole ∙ sym run.stays.len }) turn.is_of

pub memory_outside : IsOutside NoMemory
unfolding IsOutside
memory_outside = tt

-- no block is left
pub run_all : (v w : Viewed) (index : List Entry) (after : Option (List ℕ)) (count i : ℕ) (rows : List Row) → IsRun v w index after count i rows → length index ≤ i
    → (text : List ℕ) (blocks : List (List Entry)) → Tells v text → AreOfBlocks text index blocks → rows ≡ map row_at (take count (entries_after after (joined blocks)))
run_all v w index after count i rows run all text blocks told of =
    run.are text blocks told of ∙ ap (λ (l : List (List Entry)). map row_at (take count (entries_after after (joined l)))) (take_all i blocks (omega (arith, all, as_many text index blocks of)))

-- no more rows are wanted
pub run_full : (v w : Viewed) (index : List Entry) (after : Option (List ℕ)) (count i : ℕ) (rows : List Row) → IsRun v w index after count i rows → count - length rows ≡ 0
    → (text : List ℕ) (blocks : List (List Entry)) → Tells v text → AreOfBlocks text index blocks → rows ≡ map row_at (take count (entries_after after (joined blocks)))
run_full v w index after count i rows run full text blocks told of =
    let so_far : List Entry = entries_after after (joined (take i blocks)) in
    let more : List Entry = entries_after after (joined (drop i blocks)) in
    let rows_are : rows ≡ map row_at (take count so_far) = run.are text blocks told of in
    let size : length rows ≡ min count (length so_far) = ap (length {A = Row}) rows_are ∙ length-map (take count so_far) row_at ∙ length-take count so_far in
    let all : entries_after after (joined blocks) ≡ so_far ++ more =
    ap (λ l. entries_after after (joined l)) (sym (take-append-drop i blocks)) ∙ ap (entries_after after) (flat_map-append (λ (es : List Entry). es) (take i blocks) (drop i blocks))
    ∙ after_append after (joined (take i blocks)) (joined (drop i blocks)) in
    rows_are ∙ ap (map row_at) (sym (take_front count so_far more (omega (arith, full, size)))) ∙ ap (λ (es : List Entry). map row_at (take count es)) (sym all)

-- blocks whose last keys don't come after a key have no entry that does
pub skipped : (text : List ℕ) (index : List Entry) (blocks : List (List Entry)) (after : Option (List ℕ)) (n : ℕ) → AreOfBlocks text index blocks → All (λ e. comes_after after e.key ≡ false) (take n index)
    → entries_after after (joined blocks) ≡ entries_after after (joined (drop n blocks))
unfolding AreOfBlocks
skipped text index blocks after zero of up_to = refl
skipped text [] [] after (suc n) of up_to = refl
skipped text [] (block ∷ blocks) after (suc n) of up_to = absurd of
skipped text (e ∷ index) [] after (suc n) of up_to = absurd of
skipped text (e ∷ index) (block ∷ blocks) after (suc n) of up_to =
    let none : entries_after after block ≡ [] =
    none_after after block of.0.is_block (ap (comes_after after) (sym of.0.last) ∙ All-head (λ d. comes_after after d.key ≡ false) e (take n index) up_to) in
    after_append after block (joined blocks) ∙ ap (λ l. l ++ entries_after after (joined blocks)) none
    ∙ skipped text index blocks after n of.1 (All-tail (λ d. comes_after after d.key ≡ false) e (take n index) up_to)

pub of_behind : (text : List ℕ) (index : List Entry) (blocks : List (List Entry)) (n : ℕ) → AreOfBlocks text index blocks → AreOfBlocks text (drop n index) (drop n blocks)
unfolding AreOfBlocks
of_behind text index blocks zero of = of
of_behind text [] [] (suc n) of = tt
of_behind text [] (block ∷ blocks) (suc n) of = absurd of
of_behind text (e ∷ index) [] (suc n) of = absurd of
of_behind text (e ∷ index) (block ∷ blocks) (suc n) of = of_behind text index blocks n of.1

pub tells_behind : (index : List Entry) (n : ℕ) → All TellsBlock index → All TellsBlock (drop n index)
tells_behind index zero all = all
tells_behind [] (suc n) all = all
tells_behind (e ∷ index) (suc n) all = tells_behind index n (All-tail TellsBlock e index all)
