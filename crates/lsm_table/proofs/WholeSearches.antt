-- What a table has of a key is the key's newest row.
use Rattle.std.proofs.Common.{◌≡◌, ℕ, ◌+◌, ◌*◌, ◌^◌, ◌<◌, ◌≤◌, inl, inr, Bool, true, false, cond, List, [], ◌∷◌, ◌++◌, length, refl, sym, ap, ◌∙◌, subst, arith, length-append}
use Rattle.std.specs.Prelude.{Option, Some, None, not, All, Contains, nat_eq, map, option_map, unwrap_or, Result, Ok, Err, IfOk, IfErr, MatchResult}
use Rattle.std.specs.List.{find}
use Rattle.std.specs.List.Sorted.{IsStrictlySortedBy}
use Rattle.std.specs.Ordering.{is_lt, is_eq, eq_by_cmp, ordering_reverse}
use Rattle.std.specs.declared.cmp.Ordering.{Ordering}
use Rattle.std.specs.declared.cmp.Ordering.TheVariants.{Less, Equal, Greater}
use Rattle.std.specs.Cmp.Lexicographic.{pointwise, texts_ties, nat_list_cmp_total}
use Rattle.std.proofs.lemmas.List.Elements.{All-nil, All-cons, All-head, All-tail, All-contains, Contains-append_right, Contains-get_or}
use Rattle.lsm_rows.specs.declared.rows.Row.{Row}
use Rattle.lsm_rows.specs.InternalKeys.{internal_key, user_key, trailer, kind_byte}
use Rattle.lsm_rows.specs.Replay.{key_cmp}
use Rattle.lsm_rows.specs.Contents.{newer, newest}
use Rattle.lsm_rows.proofs.InternalOrder.{trailer_of, kind_small}
use Rattle.lsm_rows.proofs.NewestRows.{same_key, newest_is}
use Rattle.lsm_disk.specs.Viewed.{Viewed}
use Rattle.lsm_frame.specs.Reader.{Tells}
use Rattle.lsm_block.specs.declared.entries.Entry.{Entry}
use Rattle.lsm_block.specs.BlockText.{block_text}
use Rattle.lsm_block.specs.Blocks.{keys_of}
use Rattle.lsm_block.specs.Parts.{last_from, last_key}
use Rattle.lsm_block.specs.Seek.{first_of_user}
use Rattle.lsm_block.specs.TableText.{kind_of, row_entry, data_blocks, blocks_text, index_from, stored, AreTableRows}
use Rattle.lsm_block.proofs.Keys.{last_all, sorted-above, sorted-rest}
use Rattle.lsm_table.specs.declared.faults.TableFault.{TableFault}
use Rattle.lsm_table.specs.declared.parts.Properties.{Properties}
use Rattle.lsm_table.specs.Cuts.{index_entry}
use Rattle.lsm_table.specs.Opening.{IsOutside}
use Rattle.lsm_table.specs.DataBlocks.{IsTold, IsStoredBlock, IsStoredFault, IsDataBlock, IsBlockRefused, IsGot, IsNotGot}
use Rattle.lsm_table.specs.Tables.{Shows, IsLocated}
use Rattle.lsm_table.specs.Searching.{entry_of, IsRowOf}
use Rattle.lsm_table.specs.WholeTables.{IsTable, StandsAt}
use Rattle.lsm_table.proofs.BehindRows.{joined, user-is}
use Rattle.lsm_table.proofs.BuiltRows.{blocks_text-nil, blocks_text-cons}
use Rattle.lsm_table.proofs.Indexes.{not_located}
use Rattle.lsm_table.proofs.Searches.{same_as, test-is, entry-cons, entry-nil, first-cons, first-nil}
use Rattle.lsm_table.proofs.OrderedBlocks.{user_cmp, split_sorted, Ascend, blocks_ordered, entries_are}
use Rattle.lsm_table.proofs.WholeTables.{opened_as, told_both, told_stands, stands_told, stored_stands, stands_once, block_outside}

-- entries before a key, and behind it
pub entry_skip : (key : List ℕ) (a b : List Entry) → All (λ k. key_cmp (user_key k) key ≡ Less) (keys_of a) → entry_of key (a ++ b) ≡ entry_of key b
entry_skip key [] b all = refl
entry_skip key (e ∷ a) b all =
    entry-cons key e (a ++ b) ∙ ap (λ t. cond t (Some e) (entry_of key (a ++ b))) (test-is (user_key e.key) key Less (All-head (λ k. key_cmp (user_key k) key ≡ Less) e.key (keys_of a) all))
    ∙ entry_skip key a b (All-tail (λ k. key_cmp (user_key k) key ≡ Less) e.key (keys_of a) all)

entry_none : (key : List ℕ) (b : List Entry) → All (λ k. key_cmp (user_key k) key ≡ Greater) (keys_of b) → entry_of key b ≡ None
entry_none key [] all = entry-nil key
entry_none key (e ∷ b) all =
    entry-cons key e b ∙ ap (λ t. cond t (Some e) (entry_of key b)) (test-is (user_key e.key) key Greater (All-head (λ k. key_cmp (user_key k) key ≡ Greater) e.key (keys_of b) all))
    ∙ entry_none key b (All-tail (λ k. key_cmp (user_key k) key ≡ Greater) e.key (keys_of b) all)

pub entry_stop : (key : List ℕ) (a b : List Entry) → All (λ k. key_cmp (user_key k) key ≡ Greater) (keys_of b) → entry_of key (a ++ b) ≡ entry_of key a
entry_stop key [] b all = entry_none key b all ∙ sym (entry-nil key)
entry_stop key (e ∷ a) b all =
    entry-cons key e (a ++ b) ∙ ap (λ o. cond (pointwise nat_eq (user_key e.key) key) (Some e) o) (entry_stop key a b all) ∙ sym (entry-cons key e a)

-- where the last key is before a key, all are
below_last : (k : List ℕ) (es : List Entry) (key : List ℕ) → IsStrictlySortedBy user_cmp (k ∷ keys_of es) → key_cmp (user_key (last_from k es)) key ≡ Less → All (λ b. key_cmp (user_key b) key ≡ Less) (k ∷ keys_of es)
below_last k [] key up less = All-cons (λ b. key_cmp (user_key b) key ≡ Less) k [] less (All-nil (λ b. key_cmp (user_key b) key ≡ Less))
below_last k (e ∷ es) key up less =
    let rest = below_last e.key es key (sorted-rest user_cmp k (keys_of (e ∷ es)) up) less in
    let first : user_cmp k e.key ≡ Less = All-head (λ j. user_cmp k j ≡ Less) e.key (keys_of es) (sorted-above user_cmp k (keys_of (e ∷ es)) up) in
    let second : key_cmp (user_key e.key) key ≡ Less = All-head (λ b. key_cmp (user_key b) key ≡ Less) e.key (keys_of es) rest in
    All-cons (λ b. key_cmp (user_key b) key ≡ Less) k (keys_of (e ∷ es)) (nat_list_cmp_total.trans (user_key k) (user_key e.key) key first second) rest

below_all : (es : List Entry) (key : List ℕ) → 1 ≤ length es → IsStrictlySortedBy user_cmp (keys_of es) → key_cmp (user_key (last_key es)) key ≡ Less → All (λ b. key_cmp (user_key b) key ≡ Less) (keys_of es)
unfolding last_key
below_all [] key some up less = absurd (omega (arith, some))
below_all (e ∷ es) key some up less = below_last e.key es key up less

-- where it isn't, all behind are past the key
turned : (a b : List ℕ) (o : Ordering) → key_cmp a b ≡ o → key_cmp b a ≡ ordering_reverse o
turned a b o is = nat_list_cmp_total.antisymm b a ∙ ap ordering_reverse is

past_one : (last j key : List ℕ) (o : Ordering) → (o ≡ Less → ⊥) → key_cmp last key ≡ o → key_cmp last j ≡ Less → key_cmp j key ≡ Greater
past_one last j key Less other is less = absurd (other refl)
past_one last j key Equal other is less = same_as j last key is ∙ turned last j Less less
past_one last j key Greater other is less = turned key j Less (nat_list_cmp_total.trans key last j (turned last key Greater is) less)

past_all : (last key : List ℕ) (o : Ordering) (ks : List (List ℕ)) → (o ≡ Less → ⊥) → key_cmp (user_key last) key ≡ o → All (λ j. user_cmp last j ≡ Less) ks → All (λ j. key_cmp (user_key j) key ≡ Greater) ks
past_all last key o [] other is all = All-nil (λ j. key_cmp (user_key j) key ≡ Greater)
past_all last key o (k ∷ ks) other is all =
    All-cons (λ j. key_cmp (user_key j) key ≡ Greater) k ks (past_one (user_key last) (user_key k) key o other is (All-head (λ j. user_cmp last j ≡ Less) k ks all))
    (past_all last key o ks other is (All-tail (λ j. user_cmp last j ≡ Less) k ks all))

-- the first block whose last key isn't before a key has all that there is of it
record Holds (key : List ℕ) (place : ℕ) (blocks : List (List Entry)) (e : Entry) : Type 0 where
  block : List Entry
  before : List (List Entry)
  behind : List (List Entry)
  is : blocks ≡ before ++ block ∷ behind
  entry_is : e ≡ index_entry (place + length (blocks_text before)) block
  same : entry_of key (joined blocks) ≡ entry_of key block

record Locates (key : List ℕ) (place : ℕ) (blocks : List (List Entry)) (first : Option Entry) : Type 0 where
  absent : first ≡ None → entry_of key (joined blocks) ≡ None
  there : (e : Entry) → first ≡ Some e → Holds key place blocks e

further : (key : List ℕ) (place : ℕ) (es : List Entry) (blocks : List (List Entry)) (e : Entry) → entry_of key (es ++ joined blocks) ≡ entry_of key (joined blocks)
    → Holds key (place + length (stored (block_text es))) blocks e → Holds key place (es ∷ blocks) e
further key place es blocks e skip h = record {
  block = h.block;
  before = es ∷ h.before;
  behind = h.behind;
  is = ap (λ (bs : List (List Entry)). es ∷ bs) h.is;
  entry_is = h.entry_is ∙ ap (λ n. index_entry n h.block) (omega (arith, ap (length {A = ℕ}) (blocks_text-cons es h.before), length-append (stored (block_text es)) (blocks_text h.before)));
  same = skip ∙ h.same;
}

here : (key : List ℕ) (place : ℕ) (es : List Entry) (blocks : List (List Entry)) → entry_of key (es ++ joined blocks) ≡ entry_of key es → Holds key place (es ∷ blocks) (index_entry place es)
here key place es blocks stop = record {
  block = es;
  before = [];
  behind = blocks;
  is = refl;
  entry_is = ap (λ n. index_entry n es) (omega (arith, ap (length {A = ℕ}) blocks_text-nil));
  same = stop;
}

is_here : (key : List ℕ) (place : ℕ) (es : List Entry) (blocks : List (List Entry)) (first : Option Entry) → first ≡ Some (index_entry place es) → entry_of key (es ++ joined blocks) ≡ entry_of key es
    → Locates key place (es ∷ blocks) first
is_here key place es blocks first is stop = record {
  absent = λ none. absurd (let clash : Some (index_entry place es) ≡ None = sym is ∙ none in cc);
  there = λ e some.
      let same : Some (index_entry place es) ≡ Some e = sym is ∙ some in
      let one : index_entry place es ≡ e = cc in
      subst (λ (d : Entry). Holds key place (es ∷ blocks) d) one (here key place es blocks stop);
}

first_locates : (key : List ℕ) (place : ℕ) (blocks : List (List Entry)) → All (λ (d : List Entry). 1 ≤ length d) blocks → IsStrictlySortedBy user_cmp (keys_of (joined blocks))
    → Locates key place blocks (first_of_user key (index_from place blocks))
unfolding index_from
first_locates key place [] some up = record {
  absent = λ none. entry-nil key;
  there = λ e is. absurd (let clash : None ≡ Some e = sym (first-nil key) ∙ is in cc);
}
first_locates key place (es ∷ blocks) some up =
    by_order (key_cmp (user_key (last_key es)) key) refl (first_locates key (place + length (stored (block_text es))) blocks rest parts.back)
  where
    rest : All (λ (d : List Entry). 1 ≤ length d) blocks
    rest = All-tail (λ d. 1 ≤ length d) es blocks some

    one : 1 ≤ length es
    one = All-head (λ (d : List Entry). 1 ≤ length d) es blocks some

    parts : Ascend user_cmp es (joined blocks)
    parts = split_sorted user_cmp es (joined blocks) up

    stops : (o : Ordering) → (o ≡ Less → ⊥) → key_cmp (user_key (last_key es)) key ≡ o → entry_of key (es ++ joined blocks) ≡ entry_of key es
    stops o other is =
        entry_stop key es (joined blocks) (past_all (last_key es) key o (keys_of (joined blocks)) other is (last_all (λ k. All (λ j. user_cmp k j ≡ Less) (keys_of (joined blocks))) es one parts.across))

    by_order : (o : Ordering) → key_cmp (user_key (last_key es)) key ≡ o → Locates key (place + length (stored (block_text es))) blocks (first_of_user key (index_from (place + length (stored (block_text es))) blocks))
        → Locates key place (es ∷ blocks) (first_of_user key (index_entry place es ∷ index_from (place + length (stored (block_text es))) blocks))
    by_order Less is next =
        let more : List Entry = index_from (place + length (stored (block_text es))) blocks in
        let first : first_of_user key (index_entry place es ∷ more) ≡ first_of_user key more = first-cons key (index_entry place es) more ∙ ap (λ t. cond (not (is_lt t)) (Some (index_entry place es)) (first_of_user key more)) is in
        let skip : entry_of key (es ++ joined blocks) ≡ entry_of key (joined blocks) = entry_skip key es (joined blocks) (below_all es key one parts.front is) in
        record { absent = λ none. skip ∙ next.absent (sym first ∙ none); there = λ e found. further key place es blocks e skip (next.there e (sym first ∙ found)) }
    by_order Equal is next =
        let more : List Entry = index_from (place + length (stored (block_text es))) blocks in
        is_here key place es blocks (first_of_user key (index_entry place es ∷ more))
        (first-cons key (index_entry place es) more ∙ ap (λ t. cond (not (is_lt t)) (Some (index_entry place es)) (first_of_user key more)) is) (stops Equal (λ clash. cc) is)
    by_order Greater is next =
        let more : List Entry = index_from (place + length (stored (block_text es))) blocks in
        is_here key place es blocks (first_of_user key (index_entry place es ∷ more))
        (first-cons key (index_entry place es) more ∙ ap (λ t. cond (not (is_lt t)) (Some (index_entry place es)) (first_of_user key more)) is) (stops Greater (λ clash. cc) is)

-- rows with each user key once have one row of a key at most, which is its newest
turned_even : (o : Ordering) → is_eq (ordering_reverse o) ≡ is_eq o
turned_even Less = refl
turned_even Equal = refl
turned_even Greater = refl

tests_same : (row : Row) (key : List ℕ) → pointwise nat_eq (user_key (row_entry row).key) key ≡ eq_by_cmp key_cmp key row.key
tests_same row key =
    ap (λ u. pointwise nat_eq u key) (user-is row) ∙ texts_ties row.key key ∙ ap is_eq (turned key row.key (key_cmp key row.key) refl) ∙ turned_even (key_cmp key row.key)

none_behind : (key : List ℕ) (rows : List Row) → All (λ k. key_cmp key k ≡ Less) (map (λ (r : Row). r.key) rows) → newest key rows ≡ None
none_behind key [] all = refl
none_behind key (r ∷ rows) all =
    ap (λ o. cond (is_eq o) (Some (newer r (newest key rows))) (newest key rows)) (All-head (λ k. key_cmp key k ≡ Less) r.key (map (λ (d : Row). d.key) rows) all)
    ∙ none_behind key rows (All-tail (λ k. key_cmp key k ≡ Less) r.key (map (λ (d : Row). d.key) rows) all)

pub newest_entry : (key : List ℕ) (rows : List Row) → IsStrictlySortedBy key_cmp (map (λ (r : Row). r.key) rows) → entry_of key (map row_entry rows) ≡ option_map row_entry (newest key rows)
newest_entry key [] up = entry-nil key
newest_entry key (r ∷ rows) up =
    entry-cons key (row_entry r) (map row_entry rows) ∙ ap (λ t. cond t (Some (row_entry r)) (entry_of key (map row_entry rows))) (tests_same r key)
    ∙ by_test (eq_by_cmp key_cmp key r.key) refl (newest_entry key rows (sorted-rest key_cmp r.key (map (λ (d : Row). d.key) rows) up))
  where
    by_test : (t : Bool) → eq_by_cmp key_cmp key r.key ≡ t → entry_of key (map row_entry rows) ≡ option_map row_entry (newest key rows)
        → cond t (Some (row_entry r)) (entry_of key (map row_entry rows)) ≡ option_map row_entry (cond t (Some (newer r (newest key rows))) (newest key rows))
    by_test true is rest =
        let alone : newest key rows ≡ None = none_behind key rows (subst (λ k. All (λ j. key_cmp k j ≡ Less) (map (λ (d : Row). d.key) rows)) (sym (same_key key r.key is)) (sorted-above key_cmp r.key (map (λ (d : Row). d.key) rows) up)) in
        ap (λ o. Some (row_entry (newer r o))) (sym alone)
    by_test false is rest = rest

-- a row is known by its entry and its user key
kinds_same : (a b : Option (List ℕ)) → kind_byte (kind_of a) ≡ kind_byte (kind_of b) → ((v : List ℕ) → a ≡ Some v → v ≡ unwrap_or b []) → a ≡ b
kinds_same None None same value = refl
kinds_same None (Some w) same value = absurd (omega (arith, same))
kinds_same (Some v) None same value = absurd (omega (arith, same))
kinds_same (Some v) (Some w) same value = ap Some (value v refl)

trailer_is : (row : Row) → row.sequence < 2 ^ 56 → trailer (row_entry row).key ≡ row.sequence * 256 + kind_byte (kind_of row.value)
unfolding internal_key
trailer_is row below = trailer_of row.key (row.sequence * 256 + kind_byte (kind_of row.value)) (omega (arith, below, kind_small (kind_of row.value)))

pub row_once : (a b : Row) → a.sequence < 2 ^ 56 → b.sequence < 2 ^ 56 → (row_entry a).key ≡ (row_entry b).key → a.key ≡ b.key → ((v : List ℕ) → a.value ≡ Some v → v ≡ (row_entry b).value) → a ≡ b
row_once a b first second keys users value =
    let last : a.sequence * 256 + kind_byte (kind_of a.value) ≡ b.sequence * 256 + kind_byte (kind_of b.value) = sym (trailer_is a first) ∙ ap trailer keys ∙ trailer_is b second in
    let sequence : a.sequence ≡ b.sequence = omega (arith, last, kind_small (kind_of a.value), kind_small (kind_of b.value)) in
    let kind : kind_byte (kind_of a.value) ≡ kind_byte (kind_of b.value) = omega (arith, last, sequence) in
    let values : a.value ≡ b.value = kinds_same a.value b.value kind value in
    λ i. record { key = users i; sequence = sequence i; value = values i }

-- what a block that has all there is of a key gives
block_newest : (b : List Entry) (key : List ℕ) (row newest_row : Option Row) → IsRowOf b key row → entry_of key b ≡ option_map row_entry newest_row
    → ((r : Row) → newest_row ≡ Some r → (r.key ≡ key) × (r.sequence < 2 ^ 56)) → row ≡ newest_row
unfolding IsRowOf
block_newest b key None None is same known = refl
block_newest b key None (Some r) is same known = let clash : Some (row_entry r) ≡ None = sym same ∙ is in cc
block_newest b key (Some row) None is same known = let clash : None ≡ Some is.1 = sym same ∙ is.2 in cc
block_newest b key (Some row) (Some r) is same known =
    let both : Some is.1 ≡ Some (row_entry r) = sym is.2 ∙ same in
    let entry : is.1 ≡ row_entry r = cc in
    let facts = known r refl in
    ap Some (row_once row r is.3.below facts.1 (sym is.3.key_is ∙ ap (λ (e : Entry). e.key) entry) (is.0 ∙ sym facts.0) (λ v some. is.3.value_is v some ∙ ap (λ (e : Entry). e.value) entry))

newest_known : (key : List ℕ) (rows : List Row) (r : Row) → AreTableRows rows → newest key rows ≡ Some r → (r.key ≡ key) × (r.sequence < 2 ^ 56)
newest_known key rows r are is =
    let first = newest_is key rows r is in
    (first.of_key, All-contains (λ (d : Row). d.sequence < 2 ^ 56) rows r are.sequences first.among)

no_newest : (newest_row : Option Row) → option_map row_entry newest_row ≡ None → newest_row ≡ None
no_newest None is = refl
no_newest (Some r) is = cc

-- a search in the index comes to the block that stands there
located_holds : (text : List ℕ) (rows : List Row) (number : ℕ) (session : List ℕ) (key : List ℕ) (place : ℕ) (block : List Entry) → IsTable text rows number session
    → IsLocated key (index_from 0 (data_blocks rows)) (Some place) → StandsAt (data_blocks rows) place block → entry_of key (joined (data_blocks rows)) ≡ entry_of key block
unfolding IsLocated
located_holds text rows number session key place block is located at =
    let ordered = blocks_ordered rows is.is.are_rows in
    let h = (first_locates key 0 (data_blocks rows) ordered.some ordered.users).there located.0 located.1 in
    let both = told_both located.0.value place located.2 (0 + length (blocks_text h.before)) (length (block_text h.block)) located.3 (ap (λ (e : Entry). e.value) h.entry_is) in
    let first : StandsAt (data_blocks rows) place h.block = record { before = h.before; behind = h.behind; is = h.is; place_is = both.0 ∙ omega arith } in
    h.same ∙ ap (entry_of key) (stands_once (data_blocks rows) place h.block block first at)

pub got_newest : (text : List ℕ) (rows : List Row) (number : ℕ) (session : List ℕ) → IsTable text rows number session → (key : List ℕ) (row : Option Row) → IsGot text (index_from 0 (data_blocks rows)) key row → row ≡ newest key rows
got_newest text rows number session is key row (inl (absent, none)) =
    let ordered = blocks_ordered rows is.is.are_rows in
    let entry : entry_of key (joined (data_blocks rows)) ≡ None = (first_locates key 0 (data_blocks rows) ordered.some ordered.users).absent absent in
    none ∙ sym (no_newest (newest key rows) (sym (newest_entry key rows is.is.are_rows.ascend) ∙ ap (entry_of key) (sym (entries_are rows)) ∙ entry))
got_newest text rows number session is key row (inr from) =
    let at = stored_stands text rows number session is from.place from.block from.stands in
    let holds = located_holds text rows number session key from.place from.block is from.located at in
    block_newest from.block key row (newest key rows) from.row_is (sym holds ∙ ap (entry_of key) (entries_are rows) ∙ newest_entry key rows is.is.are_rows.ascend) (λ r some. newest_known key rows r is.is.are_rows some)

-- a search's answer is among what was searched
found_among : (p : Entry → Bool) (es : List Entry) (e : Entry) → find p es ≡ Some e → Contains es e
found_among p [] e is = cc
found_among p (d ∷ es) e is = by_test (p d) is (found_among p es e)
  where
    by_test : (t : Bool) → cond t (Some d) (find p es) ≡ Some e → (find p es ≡ Some e → Contains es e) → Contains (d ∷ es) e
    by_test true found rest = let same : d ≡ e = cc in subst (λ (x : Entry). Contains (d ∷ es) x) same (Contains-get_or (d ∷ es) 0 d (omega arith))
    by_test false found rest = Contains-append_right (d ∷ []) es e (rest found)

user_among : (key : List ℕ) (es : List Entry) (e : Entry) → first_of_user key es ≡ Some e → Contains es e
unfolding first_of_user
user_among key es e is = found_among (λ d. not (is_lt (key_cmp (user_key d.key) key))) es e is

located_told : (key : List ℕ) (index : List Entry) (place : ℕ) → IsLocated key index (Some place) → (len : ℕ) × IsTold index place len
unfolding IsLocated
located_told key index place located = (located.2, record { entry = located.0; among = user_among key index located.0 located.1; tells = located.3 })

-- nothing of a table's text refuses a search
pub not_got_outside : (text : List ℕ) (rows : List Row) (number : ℕ) (session : List ℕ) → IsTable text rows number session → (key : List ℕ) (fault : TableFault) → IsNotGot text (index_from 0 (data_blocks rows)) key fault → IsOutside fault
not_got_outside text rows number session is key fault refused =
    let told = located_told key (index_from 0 (data_blocks rows)) refused.place refused.located in
    let at = told_stands rows refused.place told.0 told.1 in
    block_outside text rows number session refused.place at.block fault is at.stands refused.refused

-- a table that shows a table's text has its index
pub index_of : (viewed : Viewed) (properties : Properties) (index : List Entry) (text : List ℕ) (rows : List Row) (number : ℕ) (session : List ℕ) → Shows viewed properties index → Tells viewed text
    → IsTable text rows number session → index ≡ index_from 0 (data_blocks rows)
unfolding Shows
index_of viewed properties index text rows number session shows told is =
    (opened_as text rows number session properties index is (shows text told)).1

module _ (viewed : Viewed) (properties : Properties) (index : List Entry) (key : List ℕ) (shows : Shows viewed properties index) where
  -- what each exit of a search answers for a table's text
  pub whole_none : IsLocated key index None → (text : List ℕ) (rows : List Row) (number : ℕ) (session : List ℕ) → Tells viewed text → IsTable text rows number session → None ≡ newest key rows
  whole_none located text rows number session told is =
      got_newest text rows number session is key None (inl (not_located key (index_from 0 (data_blocks rows)) (subst (λ (es : List Entry). IsLocated key es None) (index_of viewed properties index text rows number session shows told is) located), refl))

  pub whole_row : (place : ℕ) (block : List Entry) (row : Option Row) → IsLocated key index (Some place) → ((text : List ℕ) → Tells viewed text → IsDataBlock text index place block) → IsRowOf block key row
      → (text : List ℕ) (rows : List Row) (number : ℕ) (session : List ℕ) → Tells viewed text → IsTable text rows number session → row ≡ newest key rows
  whole_row place block row located stands row_is text rows number session told is =
      got_newest text rows number session is key row
      (subst (λ (es : List Entry). IsGot text es key row) (index_of viewed properties index text rows number session shows told is) (inr (record { place = place; located = located; block = block; stands = stands text told; row_is = row_is })))

  pub whole_fault : (place : ℕ) (fault : TableFault) → IsLocated key index (Some place) → ((text : List ℕ) → Tells viewed text → IsBlockRefused text index place fault)
      → (text : List ℕ) (rows : List Row) (number : ℕ) (session : List ℕ) → Tells viewed text → IsTable text rows number session → IsOutside fault
  whole_fault place fault located refused text rows number session told is =
      not_got_outside text rows number session is key fault
      (subst (λ (es : List Entry). IsNotGot text es key fault) (index_of viewed properties index text rows number session shows told is) (record { place = place; located = located; refused = refused text told }))

-- what is read where a block is told
pub whole_block : (viewed : Viewed) (properties : Properties) (index : List Entry) (place len : ℕ) (r : Result (List Entry) TableFault) → Shows viewed properties index → IsTold index place len
    → IfOk r (λ block. (text : List ℕ) → Tells viewed text → IsStoredBlock text place len block) → IfErr r (λ e. (text : List ℕ) → Tells viewed text → IsStoredFault text place len e)
    → (text : List ℕ) (rows : List Row) (number : ℕ) (session : List ℕ) (b : List Entry) → Tells viewed text → IsTable text rows number session → StandsAt (data_blocks rows) place b → MatchResult r (λ got. got ≡ b) IsOutside
whole_block viewed properties index place len (Ok block) shows told ok err text rows number session b tells is at =
    let same = index_of viewed properties index text rows number session shows tells is in
    stands_once (data_blocks rows) place block b
    (stored_stands text rows number session is place block (record { len = len; told = subst (λ (es : List Entry). IsTold es place len) same told; stored = ok text tells })) at
whole_block viewed properties index place len (Err fault) shows told ok err text rows number session b tells is at =
    let same = index_of viewed properties index text rows number session shows tells is in
    block_outside text rows number session place b fault is at (inr (inr (record { len = len; told = subst (λ (es : List Entry). IsTold es place len) same told; fault_is = err text tells })))

pub whole_told : (viewed : Viewed) (properties : Properties) (index : List Entry) (place : ℕ) → Shows viewed properties index → ((len : ℕ) → IsTold index place len → ⊥)
    → (text : List ℕ) (rows : List Row) (number : ℕ) (session : List ℕ) (b : List Entry) → Tells viewed text → IsTable text rows number session → StandsAt (data_blocks rows) place b → ⊥
whole_told viewed properties index place shows none text rows number session b tells is at =
    let same = index_of viewed properties index text rows number session shows tells is in
    none (length (block_text b)) (subst (λ (es : List Entry). IsTold es place (length (block_text b))) (sym same) (stands_told text rows number session place b is at))
