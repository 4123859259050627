-- The data blocks of a table that is being built: their keys ascend, and there is room.
use Rattle.std.proofs.Common.{◌≡◌, ℕ, ◌+◌, ◌*◌, ◌^◌, ◌<◌, ◌≤◌, ◌⊎◌, inl, inr, Bool, true, false, List, [], ◌∷◌, ◌++◌, length, drop, get_or, refl, sym, ap, ◌∙◌, subst, arith, append_assoc, length-append, length-drop}
use Rattle.std.specs.Prelude.{All}
use Rattle.std.specs.Int.{w32, to_le_bytes}
use Rattle.std.specs.declared.cmp.Ordering.TheVariants.{Less}
use Rattle.std.proofs.lemmas.Bool.Decides.{nat_tests}
use Rattle.std.proofs.lemmas.Bool.{cases_lt}
use Rattle.std.proofs.lemmas.List.Elements.{All-nil, All-push}
use Rattle.lsm_bytes.specs.Varint.{varint}
use Rattle.lsm_bytes.specs.Checksum.{crc32c, masked}
use Rattle.lsm_rows.specs.InternalKeys.{internal_cmp}
use Rattle.lsm_block.specs.declared.entries.Entry.{Entry}
use Rattle.lsm_block.specs.BlockText.{shared_len, entry_text, entries_from, entries_text, block_text}
use Rattle.lsm_block.specs.Blocks.{IsKey, keys_of}
use Rattle.lsm_block.specs.Parts.{last_from, last_key, next_text, IsPast}
use Rattle.lsm_block.specs.TableText.{stored}
use Rattle.lsm_block.proofs.Prefixes.{shared_le}
use Rattle.lsm_block.proofs.EntryLists.{entries-nil, entries-cons, entries-push, entries_many, entry_some, varint_small}
use Rattle.lsm_block.proofs.Keys.{key_long, keys_of-append, AreEntries-nil, AreEntries-push, last_all}
use Rattle.lsm_block.proofs.Restarts.{block_text-len}
use Rattle.lsm_block.proofs.Writings.{parts_long, entry_most}
use Rattle.lsm_table.specs.Cuts.{Cut, IsCut, index_entry, end_block, added, ended, size_of}

pub size-is : (c : Cut) → size_of c ≡ c.place + length (block_text c.begun)
unfolding size_of
size-is c = refl

-- how long blocks are
pub entries_le : (es : List Entry) → length (entries_text es) ≤ length (block_text es)
entries_le es = omega (arith, block_text-len es)

pub block_more : (es : List Entry) (e : Entry) → length e.key < 2 ^ 64 → length e.value < 2 ^ 64 → length (block_text (es ++ e ∷ [])) ≤ length (block_text es) + 34 + length e.key + length e.value
block_more es e key value =
    omega (arith, block_text-len es, block_text-len (es ++ e ∷ []), entry_most es e key value, length-append es (e ∷ []))

pub block_none : length (block_text []) ≡ 4
block_none = block_text-len [] ∙ omega (arith, ap (length {A = ℕ}) (entries-nil 0 []))

pub stored-len : (contents : List ℕ) → length (stored contents) ≡ length contents + 5
unfolding stored
stored-len contents =
    length-append (contents ++ 0 ∷ []) (to_le_bytes w32 (masked (crc32c (contents ++ 0 ∷ [])))) ∙ omega (arith, length-append contents (0 ∷ []))

-- no key is longer than the entries up to it
entry_long : (number : ℕ) (before : List ℕ) (e : Entry) → length e.key ≤ length before + length (entry_text number before e)
unfolding entry_text
entry_long number before e =
    let s : ℕ = shared_len number before e.key in
    omega (arith, (shared_le number before e.key).0, (shared_le number before e.key).1, length-drop s e.key, parts_long s (drop s e.key) e.value)

last_from_le : (number : ℕ) (before : List ℕ) (es : List Entry) → length (last_from before es) ≤ length before + length (entries_from number before es)
last_from_le number before [] = omega arith
last_from_le number before (e ∷ es) =
    omega (arith, last_from_le (number + 1) e.key es, entry_long number before e, ap (length {A = ℕ}) (entries-cons number before e es), length-append (entry_text number before e) (entries_from (number + 1) e.key es))

pub last_le : (es : List Entry) → length (last_key es) ≤ length (entries_text es)
unfolding last_key
last_le es = omega (arith, last_from_le 0 [] es)

-- what the end of a block asks, and what it leaves
pub record Ends (c : Cut) : Type 0 where
  pub key : IsKey (last_key c.begun)
  pub past : IsPast c.index (last_key c.begun)
  pub small : length (entries_text (c.index ++ index_entry c.place c.begun ∷ [])) < 2 ^ 32
  pub left : size_of c + 9 < 2 ^ 29 → IsCut (end_block c)

index_more : (c : Cut) → IsCut c → 1 ≤ length c.begun → length (entries_text (c.index ++ index_entry c.place c.begun ∷ [])) ≤ 4 * (c.place + length (block_text c.begun) + 5)
index_more c is some =
    let len : ℕ = length (block_text c.begun) in
    let size = size-is c in
    let value : length (varint c.place ++ varint len) ≤ 20 =
    omega (arith, length-append (varint c.place) (varint len), varint_small c.place (omega (arith, is.small, size)), varint_small len (omega (arith, is.small, size))) in
    let key : length (last_key c.begun) ≤ length (entries_text c.begun) = last_le c.begun in
    let long : 8 ≤ length (last_key c.begun) = key_long (last_key c.begun) (last_all IsKey c.begun some is.begun_are.keys) in
    let text = block_text-len c.begun in
    let more = entry_most c.index (index_entry c.place c.begun) (omega (arith, key, text, is.small, size)) (omega (arith, value)) in
    omega (arith, more, value, key, long, text, is.index_small)

pub ends : (c : Cut) → IsCut c → 1 ≤ length c.begun → Ends c
unfolding end_block
ends c is some =
    let more = index_more c is some in
    let size = size-is c in
    let key : IsKey (last_key c.begun) = last_all IsKey c.begun some is.begun_are.keys in
    let past : IsPast c.index (last_key c.begun) = last_all (λ k. IsPast c.index k) c.begun some is.ascend in
    let small : length (entries_text (c.index ++ index_entry c.place c.begun ∷ [])) < 2 ^ 32 = omega (arith, more, is.small, size) in
    record {
      key = key;
      past = past;
      small = small;
      left = λ room. record {
        index_are = AreEntries-push c.index (index_entry c.place c.begun) is.index_are key past small;
        begun_are = AreEntries-nil;
        ascend = All-nil (λ k. All (λ before. internal_cmp before k ≡ Less) (keys_of (c.index ++ index_entry c.place c.begun ∷ [])));
        index_small = omega (arith, more, stored-len (block_text c.begun));
        small = omega (arith, size-is (end_block c), stored-len (block_text c.begun), block_none, room, size);
      };
    }

-- no blocks yet
pub none_cut : IsCut (record { begun = []; index = []; pending = []; place = 0 })
none_cut = record {
  index_are = AreEntries-nil;
  begun_are = AreEntries-nil;
  ascend = All-nil (λ k. All (λ before. internal_cmp before k ≡ Less) []);
  index_small = omega (arith, ap (length {A = ℕ}) (entries-nil 0 []));
  small = omega (arith, size-is (record { begun = []; index = []; pending = []; place = 0 }), block_none);
}

-- an entry that comes into the open block
pub entry_cut : (c : Cut) (e : Entry) → IsCut c → IsKey e.key → IsPast c.begun e.key → IsPast c.index e.key → size_of c + length e.key + length e.value + 100 < 2 ^ 29
    → (length (entries_text (c.begun ++ e ∷ [])) < 2 ^ 32) × IsCut (record c { begun = c.begun ++ e ∷ [] })
    × (size_of (record c { begun = c.begun ++ e ∷ [] }) ≤ size_of c + length e.key + length e.value + 34)
entry_cut c e is key past behind room =
    let size = size-is c in
    let next : Cut = record c { begun = c.begun ++ e ∷ [] } in
    let grown : length (block_text (c.begun ++ e ∷ [])) ≤ length (block_text c.begun) + 34 + length e.key + length e.value = block_more c.begun e (omega (arith, room)) (omega (arith, room)) in
    let bound : size_of next ≤ size_of c + length e.key + length e.value + 34 = omega (arith, size-is next, size, grown) in
    let small : length (entries_text (c.begun ++ e ∷ [])) < 2 ^ 32 = omega (arith, entries_le (c.begun ++ e ∷ []), grown, room, size) in (
      small,
      record {
        index_are = is.index_are;
        begun_are = AreEntries-push c.begun e is.begun_are key past small;
        ascend = subst (All (λ k. All (λ before. internal_cmp before k ≡ Less) (keys_of c.index))) (sym (keys_of-append c.begun (e ∷ []))) (All-push (λ k. All (λ before. internal_cmp before k ≡ Less) (keys_of c.index)) (keys_of c.begun) e.key is.ascend behind);
        index_small = is.index_small;
        small = omega (arith, bound, room);
      },
      bound,
    )

-- where it fills the block, and where it doesn't
pub added_open : (c : Cut) (e : Entry) → length (block_text (c.begun ++ e ∷ [])) < 4096 → added c e ≡ record c { begun = c.begun ++ e ∷ [] }
unfolding added
added_open c e less = grind (arith, nat_tests)

pub added_full : (c : Cut) (e : Entry) → 4096 ≤ length (block_text (c.begun ++ e ∷ [])) → added c e ≡ end_block (record c { begun = c.begun ++ e ∷ [] })
unfolding added
added_full c e full = grind (arith, nat_tests)

pub ended_some : (c : Cut) → 1 ≤ length c.begun → ended c ≡ end_block c
unfolding ended
ended_some c some = grind (arith, nat_tests)

pub ended_none : (c : Cut) → length c.begun ≡ 0 → ended c ≡ c
unfolding ended
ended_none c none = grind (arith, nat_tests)

pub end-is : (c : Cut) → end_block c ≡ record { begun = []; index = c.index ++ index_entry c.place c.begun ∷ []; pending = c.pending ++ stored (block_text c.begun); place = c.place + length (stored (block_text c.begun)) }
unfolding end_block
end-is c = refl

pub size_end : (c : Cut) → size_of (end_block c) ≡ size_of c + 9
unfolding end_block
size_end c = omega (arith, size-is c, size-is (end_block c), stored-len (block_text c.begun), block_none)

-- stored contents, part by part
pub stored-is : (before contents : List ℕ) → before ++ contents ++ (0 ∷ to_le_bytes w32 (masked (crc32c (contents ++ 0 ∷ [])))) ≡ before ++ stored contents
unfolding stored
stored-is before contents =
    append_assoc before contents (0 ∷ to_le_bytes w32 (masked (crc32c (contents ++ 0 ∷ []))))
    ∙ ap (λ s. before ++ s) (sym (append_assoc contents (0 ∷ []) (to_le_bytes w32 (masked (crc32c (contents ++ 0 ∷ []))))))

-- what is known where an entry is added to a builder that is seen as this
pub entry_added : (v now : Cut) (key value : List ℕ) (begun : List Entry) → v ≡ now → IsCut v → IsKey key → IsPast now.begun key → IsPast now.index key → size_of now + length key + length value + 100 < 2 ^ 29
    → begun ≡ v.begun ++ record { key = key; value = value } ∷ []
    → (length (entries_text (v.begun ++ record { key = key; value = value } ∷ [])) < 2 ^ 32) × IsCut (record v { begun = begun })
    × (size_of (record v { begun = begun }) ≤ size_of now + length key + length value + 34) × (1 ≤ length begun)
entry_added v now key value begun view is good past behind room grown =
    let e : Entry = record { key = key; value = value } in
    let facts = entry_cut v e is good (subst (λ (w : Cut). IsPast w.begun key) (sym view) past) (subst (λ (w : Cut). IsPast w.index key) (sym view) behind)
    (subst (λ w. size_of w + length key + length value + 100 < 2 ^ 29) (sym view) room) in (
      facts.0,
      subst (λ b. IsCut (record v { begun = b })) (sym grown) facts.1,
      subst (λ w. size_of (record v { begun = begun }) ≤ size_of w + length key + length value + 34) view
          (subst (λ b. size_of (record v { begun = b }) ≤ size_of v + length key + length value + 34) (sym grown) facts.2),
      omega (arith, ap (length {A = Entry}) grown, length-append v.begun (e ∷ [])),
    )

-- the builder behind the end of a block
pub end_made : (v : Cut) (b i : List Entry) (p : List ℕ) (l : ℕ) → b ≡ [] → i ≡ v.index ++ index_entry v.place v.begun ∷ [] → p ≡ v.pending ++ stored (block_text v.begun) → l ≡ length (stored (block_text v.begun))
    → record { begun = b; index = i; pending = p; place = v.place + l } ≡ end_block v
unfolding end_block
end_made v b i p l b_is i_is p_is l_is = λ j. record { begun = b_is j; index = i_is j; pending = p_is j; place = v.place + l_is j }

pub full_made : (v now : Cut) (key value : List ℕ) (begun b i : List Entry) (p : List ℕ) (l : ℕ) → v ≡ now → begun ≡ v.begun ++ record { key = key; value = value } ∷ [] → 4096 ≤ length (block_text begun)
    → b ≡ [] → i ≡ v.index ++ index_entry v.place begun ∷ [] → p ≡ v.pending ++ stored (block_text begun) → l ≡ length (stored (block_text begun))
    → record { begun = b; index = i; pending = p; place = v.place + l } ≡ added now (record { key = key; value = value })
full_made v now key value begun b i p l view grown full b_is i_is p_is l_is =
    let e : Entry = record { key = key; value = value } in
    end_made (record v { begun = begun }) b i p l b_is i_is p_is l_is ∙ ap (λ g. end_block (record v { begun = g })) grown
    ∙ sym (added_full v e (subst (λ g. 4096 ≤ length (block_text g)) grown full)) ∙ ap (λ w. added w e) view

-- an index's value of a block
pub end_key : (v : Cut) (key : List ℕ) → IsCut v → 1 ≤ length v.begun → key ≡ last_key v.begun → IsKey key
end_key v key is some same = subst IsKey (sym same) (ends v is some).key

pub end_past : (v : Cut) (key : List ℕ) → IsCut v → 1 ≤ length v.begun → key ≡ last_key v.begun → IsPast v.index key
end_past v key is some same = subst (IsPast v.index) (sym same) (ends v is some).past

pub end_small : (v : Cut) (key value : List ℕ) → IsCut v → 1 ≤ length v.begun → key ≡ last_key v.begun → value ≡ varint v.place ++ varint (length (block_text v.begun))
    → length (entries_text (v.index ++ record { key = key; value = value } ∷ [])) < 2 ^ 32
end_small v key value is some key_is value_is =
    subst (λ (e : Entry). length (entries_text (v.index ++ e ∷ [])) < 2 ^ 32) (λ j. record { key = sym key_is j; value = sym value_is j }) (ends v is some).small

-- text that was handed out changes nothing else
pub handed_cut : (v : Cut) (pending : List ℕ) → IsCut v → IsCut (record v { pending = pending })
handed_cut v pending is = record {
  index_are = is.index_are;
  begun_are = is.begun_are;
  ascend = is.ascend;
  index_small = is.index_small;
  small = omega (arith, is.small, size-is v, size-is (record v { pending = pending }));
}

-- what stores contents
pub stored_made : (new mid before contents cells : List ℕ) (m k : ℕ) → new ≡ mid ++ 0 ∷ get_or cells 0 0 ∷ get_or cells 1 0 ∷ get_or cells 2 0 ∷ get_or cells 3 0 ∷ [] → mid ≡ before ++ contents
    → cells ≡ to_le_bytes w32 m → m ≡ masked k → k ≡ crc32c (contents ++ 0 ∷ []) → new ≡ before ++ stored contents
stored_made new mid before contents cells m k is mid_is cells_are m_is k_is =
    is ∙ (λ j. mid_is j ++ 0 ∷ get_or (cells_are j) 0 0 ∷ get_or (cells_are j) 1 0 ∷ get_or (cells_are j) 2 0 ∷ get_or (cells_are j) 3 0 ∷ [])
    ∙ ap (λ n. before ++ contents ++ (0 ∷ to_le_bytes w32 n)) (m_is ∙ ap masked k_is) ∙ stored-is before contents

-- the last block
pub some_begun : (b : Bool) (es : List Entry) → (es ≡ [] → b ≡ true) → b ≡ false → 1 ≤ length es
some_begun b [] none is = let yes : b ≡ true = none refl in let clash : true ≡ false = sym yes ∙ is in cc
some_begun b (e ∷ es) none is = omega arith

pub finish_is : (v now : Cut) → v ≡ now → 1 ≤ length v.begun → ended now ≡ end_block v
finish_is v now view some = ap ended (sym view) ∙ ended_some v some

pub finish_text : (v now : Cut) (text : List ℕ) → v ≡ now → 1 ≤ length v.begun → text ≡ v.pending ++ stored (block_text v.begun) → text ≡ (ended now).pending
finish_text v now text view some is = is ∙ sym (ap (λ (c : Cut). c.pending) (finish_is v now view some ∙ end-is v))

pub finish_index : (v now : Cut) (index : List Entry) → v ≡ now → 1 ≤ length v.begun → index ≡ v.index ++ index_entry v.place v.begun ∷ [] → index ≡ (ended now).index
finish_index v now index view some is = is ∙ sym (ap (λ (c : Cut). c.index) (finish_is v now view some ∙ end-is v))

pub finish_place : (v now : Cut) (len : ℕ) → v ≡ now → 1 ≤ length v.begun → len ≡ length (stored (block_text v.begun)) → v.place + len ≡ (ended now).place
finish_place v now len view some is = ap (λ n. v.place + n) is ∙ sym (ap (λ (c : Cut). c.place) (finish_is v now view some ∙ end-is v))

-- each entry takes some bytes
pub entry_grown : (v now : Cut) (e : Entry) (begun : List Entry) → v ≡ now → begun ≡ v.begun ++ e ∷ [] → size_of now < size_of (record v { begun = begun })
entry_grown v now e begun view grown =
    let next : Cut = record v { begun = begun } in
    omega (
      arith,
      ap size_of (sym view),
      size-is v,
      size-is next,
      block_text-len v.begun,
      block_text-len begun,
      ap (λ es. length (entries_text es)) grown,
      ap (length {A = Entry}) grown,
      length-append v.begun (e ∷ []),
      ap (length {A = ℕ}) (entries-push v.begun e),
      length-append (entries_text v.begun) (next_text v.begun e),
      entry_some (length v.begun) (last_key v.begun) e,
    )

pub size_handed : (v : Cut) (pending : List ℕ) → size_of (record v { pending = pending }) ≡ size_of v
size_handed v pending = omega (arith, size-is v, size-is (record v { pending = pending }))

pub size_none : size_of (record { begun = []; index = []; pending = []; place = 0 }) ≡ 4
size_none = size-is (record { begun = []; index = []; pending = []; place = 0 }) ∙ omega (arith, block_none)

pub ended_small : (c : Cut) → IsCut c → (ended c).place < 2 ^ 30
ended_small c is = by_test (cases_lt 0 (length c.begun))
  where
    by_test : (0 < length c.begun) ⊎ (length c.begun ≤ 0) → (ended c).place < 2 ^ 30
    by_test (inl some) = omega (arith, ap (λ (d : Cut). d.place) (ended_some c (omega arith) ∙ end-is c), stored-len (block_text c.begun), is.small, size-is c)
    by_test (inr none) = omega (arith, ap (λ (d : Cut). d.place) (ended_none c (omega arith)), is.small, size-is c)

-- a whole table is small
index_fits : (index : List Entry) (place : ℕ) → length (entries_text index) ≤ 4 * place → place < 2 ^ 29 + 5 → place + length (block_text index) + 82 < 2 ^ 32
index_fits index place few small = omega (arith, block_text-len index, entries_many 0 [] index, few, small)

pub fits_open : (c : Cut) → IsCut c → c.place + length (block_text c.index) + 82 < 2 ^ 32
fits_open c is = index_fits c.index c.place is.index_small (omega (arith, is.small, size-is c))

pub fits_ended : (c : Cut) (index : List Entry) (len : ℕ) → IsCut c → 1 ≤ length c.begun → index ≡ c.index ++ index_entry c.place c.begun ∷ [] → len ≡ length (stored (block_text c.begun))
    → c.place + len + length (block_text index) + 82 < 2 ^ 32
fits_ended c index len is some index_is len_is =
    index_fits index (c.place + len) (omega (arith, index_more c is some, ap (λ (es : List Entry). length (entries_text es)) index_is, len_is, stored-len (block_text c.begun)))
    (omega (arith, is.small, size-is c, len_is, stored-len (block_text c.begun)))
