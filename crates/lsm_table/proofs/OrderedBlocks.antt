-- The data blocks of rows whose user keys ascend: each is a block, and so is their index.
use Rattle.std.proofs.Common.{◌≡◌, ℕ, ◌+◌, ◌^◌, ◌<◌, ◌≤◌, ⊎_elim, List, [], ◌∷◌, ◌++◌, length, refl, sym, ap, ◌∙◌, subst, arith, length-append, suc}
use Rattle.std.specs.Prelude.{map, All}
use Rattle.std.specs.List.{flat_map}
use Rattle.std.specs.List.Sorted.{IsStrictlySortedBy}
use Rattle.std.specs.Ordering.{nat_cmp}
use Rattle.std.specs.declared.cmp.Ordering.{Ordering}
use Rattle.std.specs.declared.cmp.Ordering.TheVariants.{Less}
use Rattle.std.proofs.lemmas.Bool.{cases_lt}
use Rattle.std.proofs.lemmas.Grind.{flat_map-append}
use Rattle.std.proofs.lemmas.List.{append-nil, length-map}
use Rattle.std.proofs.lemmas.List.Elements.{All-nil, All-cons, All-head, All-tail, All-push, All-weaker}
use Rattle.lsm_bytes.specs.Varint.{varint}
use Rattle.lsm_rows.specs.declared.rows.Row.{Row}
use Rattle.lsm_rows.specs.InternalKeys.{internal_cmp, user_key, trailer}
use Rattle.lsm_rows.specs.Replay.{key_cmp}
use Rattle.lsm_block.specs.declared.entries.Entry.{Entry}
use Rattle.lsm_block.specs.BlockText.{entries_text, block_text}
use Rattle.lsm_block.specs.Blocks.{IsKey, keys_of, AreEntries, IsBlock}
use Rattle.lsm_block.specs.Parts.{last_key}
use Rattle.lsm_block.specs.TableText.{kind_of, row_entry, Blocks, blocks_of, all_blocks, data_blocks, blocks_text, index_from, stored, AreTableRows}
use Rattle.lsm_block.proofs.EntryLists.{entries_many}
use Rattle.lsm_block.proofs.Keys.{keys_of-append, last_all, sorted-nil, sorted-cons, sorted-above, sorted-rest, sorted-front}
use Rattle.lsm_table.specs.Opening.{TellsBlock}
use Rattle.lsm_table.proofs.Cutting.{entries_le, stored-len}
use Rattle.lsm_table.proofs.BuiltRows.{all_some, all_none, blocks_text-cons, data-is}
use Rattle.lsm_table.proofs.BehindRows.{joined, AreBlocks, blocks_are, split_all, index_all, user-is, then_less}

-- keys by their user keys alone
abbrev pub user_cmp : List ℕ → List ℕ → Ordering
user_cmp a b = key_cmp (user_key a) (user_key b)

pub all-back : {K : Type 0} (P : K → Type 0) (ks js : List K) → All P (ks ++ js) → All P js
all-back P [] js all = all
all-back P (k ∷ ks) js all = all-back P ks js (All-tail P k (ks ++ js) all)

-- parts of keys that ascend
module _ {K : Type 0} (R : K → K → Ordering) where
  sorted-back : (ks js : List K) → IsStrictlySortedBy R (ks ++ js) → IsStrictlySortedBy R js
  sorted-back [] js up = up
  sorted-back (k ∷ ks) js up = sorted-back ks js (sorted-rest R k (ks ++ js) up)

  sorted-across : (ks js : List K) → IsStrictlySortedBy R (ks ++ js) → All (λ k. All (λ j. R k j ≡ Less) js) ks
  sorted-across [] js up = All-nil (λ k. All (λ j. R k j ≡ Less) js)
  sorted-across (k ∷ ks) js up =
      All-cons (λ x. All (λ j. R x j ≡ Less) js) k ks (all-back (λ j. R k j ≡ Less) ks js (sorted-above R k (ks ++ js) up)) (sorted-across ks js (sorted-rest R k (ks ++ js) up))

  sorted-weaker : (S : K → K → Ordering) → ((a b : K) → R a b ≡ Less → S a b ≡ Less) → (ks : List K) → IsStrictlySortedBy R ks → IsStrictlySortedBy S ks
  sorted-weaker S on [] up = sorted-nil S
  sorted-weaker S on (k ∷ ks) up =
      sorted-cons S k ks (All-weaker (λ j. R k j ≡ Less) (λ j. S k j ≡ Less) (λ j. on k j) ks (sorted-above R k ks up)) (sorted-weaker S on ks (sorted-rest R k ks up))

-- what two parts keep of the order of both
pub record Ascend (R : List ℕ → List ℕ → Ordering) (a b : List Entry) : Type 0 where
  pub front : IsStrictlySortedBy R (keys_of a)
  pub back : IsStrictlySortedBy R (keys_of b)
  pub across : All (λ k. All (λ j. R k j ≡ Less) (keys_of b)) (keys_of a)

pub split_sorted : (R : List ℕ → List ℕ → Ordering) (a b : List Entry) → IsStrictlySortedBy R (keys_of (a ++ b)) → Ascend R a b
split_sorted R a b up =
    let s : IsStrictlySortedBy R (keys_of a ++ keys_of b) = subst (λ ks. IsStrictlySortedBy R ks) (keys_of-append a b) up in
    record { front = sorted-front R (keys_of a) (keys_of b) s; back = sorted-back R (keys_of a) (keys_of b) s; across = sorted-across R (keys_of a) (keys_of b) s }

-- keys of rows
user_less : (a b : List ℕ) → user_cmp a b ≡ Less → internal_cmp a b ≡ Less
unfolding internal_cmp
user_less a b less = then_less (key_cmp (user_key a) (user_key b)) (nat_cmp (trailer b) (trailer a)) less

row_above : (row other : Row) → key_cmp row.key other.key ≡ Less → user_cmp (row_entry row).key (row_entry other).key ≡ Less
row_above row other less = (λ i. key_cmp (user-is row i) (user-is other i)) ∙ less

rows_above : (row : Row) (rows : List Row) → All (λ k. key_cmp row.key k ≡ Less) (map (λ (r : Row). r.key) rows) → All (λ k. user_cmp (row_entry row).key k ≡ Less) (keys_of (map row_entry rows))
rows_above row [] all = All-nil (λ k. user_cmp (row_entry row).key k ≡ Less)
rows_above row (r ∷ rows) all =
    All-cons (λ k. user_cmp (row_entry row).key k ≡ Less) (row_entry r).key (keys_of (map row_entry rows)) (row_above row r (All-head (λ k. key_cmp row.key k ≡ Less) r.key (map (λ (d : Row). d.key) rows) all))
    (rows_above row rows (All-tail (λ k. key_cmp row.key k ≡ Less) r.key (map (λ (d : Row). d.key) rows) all))

users_up : (rows : List Row) → IsStrictlySortedBy key_cmp (map (λ (r : Row). r.key) rows) → IsStrictlySortedBy user_cmp (keys_of (map row_entry rows))
users_up [] up = sorted-nil user_cmp
users_up (r ∷ rows) up =
    sorted-cons user_cmp (row_entry r).key (keys_of (map row_entry rows)) (rows_above r rows (sorted-above key_cmp r.key (map (λ (d : Row). d.key) rows) up))
    (users_up rows (sorted-rest key_cmp r.key (map (λ (d : Row). d.key) rows) up))

row_is_key : (row : Row) → row.sequence < 2 ^ 56 → IsKey (row_entry row).key
row_is_key row below = record { user = row.key; sequence = row.sequence; kind = kind_of row.value; is = record { is = refl; below = below } }

rows_are_keys : (rows : List Row) → All (λ (r : Row). r.sequence < 2 ^ 56) rows → All IsKey (keys_of (map row_entry rows))
rows_are_keys [] all = All-nil IsKey
rows_are_keys (r ∷ rows) all =
    All-cons IsKey (row_entry r).key (keys_of (map row_entry rows)) (row_is_key r (All-head (λ (d : Row). d.sequence < 2 ^ 56) r rows all)) (rows_are_keys rows (All-tail (λ (d : Row). d.sequence < 2 ^ 56) r rows all))

-- the data blocks are the rows' entries, and each has some
all_are : (b : Blocks) (es : List Entry) → AreBlocks b es → (joined (all_blocks b) ≡ es) × All (λ d. 1 ≤ length d) (all_blocks b)
all_are b es are =
    ⊎_elim
    (λ (some : 0 < length b.begun). let is : all_blocks b ≡ b.ended ++ b.begun ∷ [] = all_some b (omega arith) in (
      ap joined is ∙ flat_map-append (λ (d : List Entry). d) b.ended (b.begun ∷ []) ∙ ap (λ l. joined b.ended ++ l) (append-nil b.begun) ∙ are.all,
      subst (λ bs. All (λ d. 1 ≤ length d) bs) (sym is) (All-push (λ d. 1 ≤ length d) b.ended b.begun are.some (omega arith)),
    ))
    (λ (none : length b.begun ≤ 0). let is : all_blocks b ≡ b.ended = all_none b (omega arith) in (
      ap joined is ∙ no_begun b.begun none ∙ are.all,
      subst (λ bs. All (λ d. 1 ≤ length d) bs) (sym is) are.some,
    ))
    (cases_lt 0 (length b.begun))
  where
    no_begun : (es : List Entry) → length es ≤ 0 → joined b.ended ≡ joined b.ended ++ es
    no_begun [] none = sym (append-nil (joined b.ended))
    no_begun (e ∷ es) none = absurd (omega (arith, none))

pub entries_are : (rows : List Row) → flat_map (λ (es : List Entry). es) (data_blocks rows) ≡ map row_entry rows
entries_are rows = ap joined (data-is rows) ∙ (all_are (blocks_of (map row_entry rows)) (map row_entry rows) (blocks_are (map row_entry rows))).0

pub blocks_some : (rows : List Row) → All (λ (d : List Entry). 1 ≤ length d) (data_blocks rows)
blocks_some rows = subst (λ bs. All (λ d. 1 ≤ length d) bs) (sym (data-is rows)) (all_are (blocks_of (map row_entry rows)) (map row_entry rows) (blocks_are (map row_entry rows))).1

-- the order of all entries
pub record AreOrdered (blocks : List (List Entry)) : Type 0 where
  pub some : All (λ d. 1 ≤ length d) blocks
  pub keys : All IsKey (keys_of (joined blocks))
  pub users : IsStrictlySortedBy user_cmp (keys_of (joined blocks))
  pub ascend : IsStrictlySortedBy internal_cmp (keys_of (joined blocks))

pub blocks_ordered : (rows : List Row) → AreTableRows rows → AreOrdered (data_blocks rows)
blocks_ordered rows are =
    let back : map row_entry rows ≡ joined (data_blocks rows) = sym (entries_are rows) in
    let users : IsStrictlySortedBy user_cmp (keys_of (map row_entry rows)) = users_up rows are.ascend in
    record {
      some = blocks_some rows;
      keys = subst (λ es. All IsKey (keys_of es)) back (rows_are_keys rows are.sequences);
      users = subst (λ es. IsStrictlySortedBy user_cmp (keys_of es)) back users;
      ascend = subst (λ es. IsStrictlySortedBy internal_cmp (keys_of es)) back (sorted-weaker user_cmp internal_cmp user_less (keys_of (map row_entry rows)) users);
    }

-- how long blocks are
pub blocks_text-append : (a b : List (List Entry)) → blocks_text (a ++ b) ≡ blocks_text a ++ blocks_text b
unfolding blocks_text
blocks_text-append a b = flat_map-append (λ (es : List Entry). stored (block_text es)) a b

-- there are no more entries than bytes
pub joined_len : (blocks : List (List Entry)) → length (joined blocks) ≤ length (blocks_text blocks)
joined_len [] = omega arith
joined_len (es ∷ blocks) =
    omega (
      arith,
      length-append es (joined blocks),
      entries_many 0 [] es,
      entries_le es,
      stored-len (block_text es),
      ap (length {A = ℕ}) (blocks_text-cons es blocks),
      length-append (stored (block_text es)) (blocks_text blocks),
      joined_len blocks,
    )

pub rows_len : (rows : List Row) → length rows ≤ length (blocks_text (data_blocks rows))
rows_len rows = omega (arith, joined_len (data_blocks rows), ap (length {A = Entry}) (entries_are rows), length-map rows row_entry)

pub entries_some : (rows : List Row) → AreTableRows rows → 1 ≤ length (joined (data_blocks rows))
entries_some rows are = omega (arith, are.some, ap (length {A = Entry}) (entries_are rows), length-map rows row_entry)

-- a block among others
part_entries : (front b behind : List Entry) → All IsKey (keys_of (front ++ (b ++ behind))) → IsStrictlySortedBy internal_cmp (keys_of (front ++ (b ++ behind))) → length (entries_text b) < 2 ^ 32 → AreEntries b
part_entries front b behind keys up small = record {
  keys = (split_all IsKey b behind (split_all IsKey front (b ++ behind) keys).1).0;
  ascend = (split_sorted internal_cmp b behind (split_sorted internal_cmp front (b ++ behind) up).back).front;
  small = small;
}

pub joined-at : (before : List (List Entry)) (b : List Entry) (behind : List (List Entry)) → joined (before ++ b ∷ behind) ≡ joined before ++ (b ++ joined behind)
joined-at before b behind = flat_map-append (λ (es : List Entry). es) before (b ∷ behind)

pub block_is : (blocks before : List (List Entry)) (b : List Entry) (behind : List (List Entry)) → blocks ≡ before ++ b ∷ behind → AreOrdered blocks → length (block_text b) < 2 ^ 32 → IsBlock b
block_is blocks before b behind is are small =
    let all : joined blocks ≡ joined before ++ (b ++ joined behind) = ap joined is ∙ joined-at before b behind in
    record {
      some = All-head (λ d. 1 ≤ length d) b behind (all-back (λ d. 1 ≤ length d) before (b ∷ behind) (subst (λ bs. All (λ d. 1 ≤ length d) bs) is are.some));
      entries = part_entries (joined before) b (joined behind) (subst (λ es. All IsKey (keys_of es)) all are.keys) (subst (λ es. IsStrictlySortedBy internal_cmp (keys_of es)) all are.ascend) (omega (arith, entries_le b, small));
    }

-- the index
index_ascends : (place : ℕ) (blocks : List (List Entry)) → All (λ d. 1 ≤ length d) blocks → IsStrictlySortedBy internal_cmp (keys_of (joined blocks)) → IsStrictlySortedBy internal_cmp (keys_of (index_from place blocks))
unfolding index_from
index_ascends place [] some up = sorted-nil internal_cmp
index_ascends place (es ∷ blocks) some up =
    let next : ℕ = place + length (stored (block_text es)) in
    let P : List ℕ → Type 0 = λ k. All (λ j. internal_cmp k j ≡ Less) (keys_of (joined blocks)) in
    let parts = split_sorted internal_cmp es (joined blocks) up in
    let rest : All (λ (d : List Entry). 1 ≤ length d) blocks = All-tail (λ d. 1 ≤ length d) es blocks some in
    let across : P (last_key es) = last_all P es (All-head (λ d. 1 ≤ length d) es blocks some) parts.across in
    sorted-cons internal_cmp (last_key es) (keys_of (index_from next blocks)) (index_all (λ j. internal_cmp (last_key es) j ≡ Less) next blocks rest across) (index_ascends next blocks rest parts.back)

pub index_tells : (place : ℕ) (blocks : List (List Entry)) → place + length (blocks_text blocks) < 2 ^ 64 → All TellsBlock (index_from place blocks)
unfolding index_from
index_tells place [] small = All-nil TellsBlock
index_tells place (es ∷ blocks) small =
    let next : ℕ = place + length (stored (block_text es)) in
    let len : length (blocks_text (es ∷ blocks)) ≡ length (block_text es) + 5 + length (blocks_text blocks) =
    ap (length {A = ℕ}) (blocks_text-cons es blocks) ∙ length-append (stored (block_text es)) (blocks_text blocks) ∙ ap (λ n. n + length (blocks_text blocks)) (stored-len (block_text es)) in
    All-cons TellsBlock (record { key = last_key es; value = varint place ++ varint (length (block_text es)) }) (index_from next blocks)
    (record { place = place; len = length (block_text es); tells = record { text = refl; place_fits = omega (arith, small, len); len_fits = omega (arith, small, len) } })
    (index_tells next blocks (omega (arith, small, len, stored-len (block_text es))))

index_len : (place : ℕ) (blocks : List (List Entry)) → length (index_from place blocks) ≡ length blocks
unfolding index_from
index_len place [] = refl
index_len place (es ∷ blocks) = ap suc (index_len (place + length (stored (block_text es))) blocks)

some_blocks : (blocks : List (List Entry)) → 1 ≤ length (joined blocks) → 1 ≤ length blocks
some_blocks [] some = absurd (omega (arith, some))
some_blocks (es ∷ blocks) some = omega arith

pub index_is : (blocks : List (List Entry)) → AreOrdered blocks → 1 ≤ length (joined blocks) → length (block_text (index_from 0 blocks)) < 2 ^ 32 → IsBlock (index_from 0 blocks)
index_is blocks are some small = record {
  some = omega (arith, index_len 0 blocks, some_blocks blocks some);
  entries = record { keys = index_all IsKey 0 blocks are.some are.keys; ascend = index_ascends 0 blocks are.some are.ascend; small = omega (arith, entries_le (index_from 0 blocks), small) };
}
