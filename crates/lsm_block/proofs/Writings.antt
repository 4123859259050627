-- Writing a block, entry by entry, and how long it gets.
use Rattle.std.proofs.Common.{◌≡◌, ℕ, ◌+◌, ◌-◌, ◌^◌, ◌/◌, ◌<◌, ◌≤◌, List, [], ◌∷◌, ◌++◌, length, take, drop, get_or, refl, sym, ap, ◌∙◌, subst, arith, length-append, length-drop, take-append-drop}
use Rattle.std.specs.Prelude.{Option, Some}
use Rattle.std.specs.Option.{option_to_list}
use Rattle.std.specs.Int.{w32, to_le_bytes}
use Rattle.std.proofs.lemmas.Grind.{take_at_read}
use Rattle.std.proofs.lemmas.List.{length-take-le, take_all}
use Rattle.lsm_bytes.specs.Varint.{varint}
use Rattle.lsm_block.specs.declared.entries.Entry.{Entry}
use Rattle.lsm_block.specs.BlockText.{shared_len, parts_text, entry_text, entries_from, entries_text, block_text}
use Rattle.lsm_block.specs.Blocks.{IsKey, AreEntries}
use Rattle.lsm_block.specs.Parts.{last_from, last_key, IsPast, next_text, restarts_bytes, restart_bytes}
use Rattle.lsm_block.proofs.EntryLists.{entries-nil, entries-append, entries-push, last_key-push, last_key-is, varint_small}
use Rattle.lsm_block.proofs.Keys.{AreEntries-push, AreEntries-front, key-pushed, past-pushed}
use Rattle.lsm_block.proofs.Prefixes.{shared_le}
use Rattle.lsm_block.proofs.Restarts.{restarts_bytes-push, restarts_bytes-nil, restarts_text-is, block_text-is}

-- one more of the entries
take_more : (es : List Entry) (n : ℕ) (e : Entry) → n < length es → e ≡ get_or es n e → take (n + 1) es ≡ take n es ++ e ∷ []
take_more es n e inside is = (take_at_read es n e inside).1 ∙ ap (λ d. take n es ++ d ∷ []) (sym is)

pub written_none : (text noted before : List ℕ) → text ≡ [] → noted ≡ [] → before ≡ [] → (text ≡ entries_text []) × (noted ≡ restarts_bytes []) × (before ≡ last_key [])
written_none text noted before a b d = (a ∙ sym (entries-nil 0 []), b ∙ sym restarts_bytes-nil, d ∙ sym (last_key-is []))

pub written_more : (es : List Entry) (n : ℕ) (e : Entry) (text noted before more more_noted : List ℕ) (len : ℕ) → n < length es → e ≡ get_or es n e
    → (text ≡ entries_text (take n es)) × (noted ≡ restarts_bytes (take n es)) × (before ≡ last_key (take n es))
    → len ≡ length text → more_noted ≡ noted ++ restart_bytes n len → more ≡ text ++ entry_text n before e
    → (more ≡ entries_text (take (n + 1) es)) × (more_noted ≡ restarts_bytes (take (n + 1) es)) × (e.key ≡ last_key (take (n + 1) es))
written_more es n e text noted before more more_noted len inside is was size noting adding =
    let front : List Entry = take n es in
    let count : length front ≡ n = length-take-le n es (omega arith) in
    let next : take (n + 1) es ≡ front ++ e ∷ [] = take_more es n e inside is in (
      adding ∙ (λ i. was.0 i ++ entry_text (sym count i) (was.2 i) e) ∙ sym (entries-push front e) ∙ ap entries_text (sym next),
      noting ∙ (λ i. was.1 i ++ restart_bytes (sym count i) ((size ∙ ap (length {A = ℕ}) was.0) i)) ∙ sym (restarts_bytes-push front e) ∙ ap restarts_bytes (sym next),
      sym (last_key-push front e) ∙ ap last_key (sym next),
    )

-- the front of entries has a shorter text
pub front_le : (es : List Entry) (n : ℕ) → length (entries_text (take n es)) ≤ length (entries_text es)
front_le es n =
    omega (
      arith,
      ap (λ l. length (entries_text l)) (take-append-drop n es),
      ap (length {A = ℕ}) (entries-append 0 [] (take n es) (drop n es)),
      length-append (entries_text (take n es)) (entries_from (0 + length (take n es)) (last_from [] (take n es)) (drop n es)),
    )

pub written_all : (es : List Entry) (n : ℕ) (text noted before count whole : List ℕ) → length es ≤ n → (text ≡ entries_text (take n es)) × (noted ≡ restarts_bytes (take n es)) × (before ≡ last_key (take n es))
    → count ≡ noted ++ to_le_bytes w32 ((length es + 15) / 16) → whole ≡ text ++ count → whole ≡ block_text es
written_all es n text noted before count whole done was counting joined =
    let all : take n es ≡ es = take_all n es done in
    joined ∙ (λ i. (was.0 ∙ ap entries_text all) i ++ (counting ∙ ap (λ s. s ++ to_le_bytes w32 ((length es + 15) / 16)) (was.1 ∙ ap restarts_bytes all) ∙ sym (restarts_text-is es)) i) ∙ sym (block_text-is es)

-- the parts of an entry that is added
pub parts_long : (shared : ℕ) (rest value : List ℕ) → length rest + length value ≤ length (parts_text shared rest value)
unfolding parts_text
parts_long shared rest value =
    omega (arith, length-append (varint shared ++ varint (length rest) ++ varint (length value) ++ rest) value, length-append (varint shared ++ varint (length rest) ++ varint (length value)) rest)

next_parts : (es : List Entry) (e : Entry) (shared : ℕ) (rest : List ℕ) → shared ≡ shared_len (length es) (last_key es) e.key → rest ≡ drop shared e.key → next_text es e ≡ parts_text shared rest e.value
unfolding entry_text
next_parts es e shared rest is behind =
    (λ i. parts_text (sym is i) (drop (sym is i) e.key) e.value) ∙ ap (λ r. parts_text shared r e.value) (sym behind)

pub size_more : (es : List Entry) (e : Entry) (shared : ℕ) (rest : List ℕ) → shared ≡ shared_len (length es) (last_key es) e.key → rest ≡ drop shared e.key
    → (length (entries_text (es ++ e ∷ [])) ≡ length (entries_text es) + length (parts_text shared rest e.value)) × (length rest + length e.value ≤ length (parts_text shared rest e.value))
size_more es e shared rest is behind = (
  ap (length {A = ℕ}) (entries-push es e) ∙ length-append (entries_text es) (next_text es e) ∙ ap (λ t. length (entries_text es) + length t) (next_parts es e shared rest is behind),
  parts_long shared rest e.value,
)

-- what a builder adds
pub added_parts : (items now seen : List Entry) (key value before rest : List ℕ) (count shared : ℕ) → items ≡ now → seen ≡ items → count ≡ length items → before ≡ last_key seen
    → shared ≡ shared_len count before key → rest ≡ drop shared key
    → (length (entries_text (now ++ record { key = key; value = value } ∷ [])) ≡ length (entries_text items) + length (parts_text shared rest value)) × (length rest + length value ≤ length (parts_text shared rest value))
added_parts items now seen key value before rest count shared view seen_is counted last is behind =
    let e : Entry = record { key = key; value = value } in
    let m = size_more items e shared rest (is ∙ (λ i. shared_len (counted i) ((last ∙ ap last_key seen_is) i) key)) behind in
    (ap (λ es. length (entries_text (es ++ e ∷ []))) (sym view) ∙ m.0, m.1)

pub added_entry : (items now : List Entry) (key kept value kept_value : List ℕ) (size : ℕ) → items ≡ now → kept ≡ key → kept_value ≡ value → AreEntries items → IsKey key → IsPast now key
    → length (entries_text (now ++ record { key = key; value = value } ∷ [])) < 2 ^ 32 → size ≡ length (entries_text (now ++ record { key = key; value = value } ∷ []))
    → AreEntries (items ++ record { key = kept; value = kept_value } ∷ []) × (size ≡ length (entries_text (items ++ record { key = kept; value = kept_value } ∷ [])))
added_entry items now key kept value kept_value size view key_is value_is are good past small sized =
    let e : Entry = record { key = key; value = value } in
    let d : Entry = record { key = kept; value = kept_value } in
    let same : d ≡ e = λ i. record { key = key_is i; value = value_is i } in
    let list : now ++ e ∷ [] ≡ items ++ d ∷ [] = λ i. sym view i ++ sym same i ∷ [] in (
      subst AreEntries list (AreEntries-push now e (subst AreEntries view are) good past small),
      sized ∙ ap (λ es. length (entries_text es)) list,
    )

-- an entry takes its bytes and three lengths of ten bytes at most
parts_most : (shared : ℕ) (rest value : List ℕ) → shared < 2 ^ 64 → length rest < 2 ^ 64 → length value < 2 ^ 64 → length (parts_text shared rest value) ≤ 30 + length rest + length value
unfolding parts_text
parts_most shared rest value s r v =
    omega (
      arith,
      varint_small shared s,
      varint_small (length rest) r,
      varint_small (length value) v,
      length-append (varint shared ++ varint (length rest) ++ varint (length value) ++ rest) value,
      length-append (varint shared ++ varint (length rest) ++ varint (length value)) rest,
      length-append (varint shared ++ varint (length rest)) (varint (length value)),
      length-append (varint shared) (varint (length rest)),
    )

pub entry_most : (es : List Entry) (e : Entry) → length e.key < 2 ^ 64 → length e.value < 2 ^ 64 → length (entries_text (es ++ e ∷ [])) ≤ length (entries_text es) + 30 + length e.key + length e.value
entry_most es e key value =
    let s : ℕ = shared_len (length es) (last_key es) e.key in
    let m = size_more es e s (drop s e.key) refl refl in
    let fits : s ≤ length e.key = (shared_le (length es) (last_key es) e.key).1 in
    let size : length (drop s e.key) ≡ length e.key - s = length-drop s e.key in
    let most : length (parts_text s (drop s e.key) e.value) ≤ 30 + length (drop s e.key) + length e.value = parts_most s (drop s e.key) e.value (omega (arith, fits, key)) (omega (arith, size, key)) value in
    omega (arith, m.0, most, size)

-- the entries of a block may be added one after another
pub may_add : (es now : List Entry) (n : ℕ) (e : Entry) → AreEntries es → now ≡ take n es → n < length es → e ≡ get_or es n e
    → IsKey e.key × IsPast now e.key × (length (entries_text (now ++ e ∷ [])) < 2 ^ 32)
may_add es now n e are so inside is =
    let next : take (n + 1) es ≡ now ++ e ∷ [] = take_more es n e inside is ∙ ap (λ l. l ++ e ∷ []) (sym so) in
    let front : AreEntries (now ++ e ∷ []) = subst AreEntries next (AreEntries-front (take (n + 1) es) (drop (n + 1) es) (subst AreEntries (sym (take-append-drop (n + 1) es)) are)) in
    (key-pushed now e front, past-pushed now e front, front.small)

pub may_add_next : (block es now : List Entry) (n : ℕ) (d : Entry) (key value : List ℕ) → AreEntries block → es ≡ block → now ≡ take n block → n < length es → d ≡ get_or es n d
    → key ≡ d.key → value ≡ d.value → IsKey key × IsPast now key × (length (entries_text (now ++ record { key = key; value = value } ∷ [])) < 2 ^ 32)
may_add_next block es now n d key value are same so inside is key_is value_is =
    let m = may_add es now n d (subst AreEntries (sym same) are) (so ∙ ap (take n) (sym same)) inside is in
    let e : Entry = record { key = key; value = value } in
    let entry : d ≡ e = λ i. record { key = sym key_is i; value = sym value_is i } in
    (subst IsKey (sym key_is) m.0, subst (IsPast now) (sym key_is) m.1, subst (λ x. length (entries_text (now ++ x ∷ [])) < 2 ^ 32) entry m.2)

-- what a builder takes back
pub taken_back : (items front seen : List Entry) (o : Option Entry) (e : Entry) (key value before rest : List ℕ) (count shared : ℕ) → AreEntries items → items ≡ front ++ option_to_list o → o ≡ Some e → seen ≡ front
    → count ≡ length front → before ≡ last_key seen → key ≡ e.key → value ≡ e.value → shared ≡ shared_len count before key → rest ≡ drop shared key
    → AreEntries front × (length (entries_text items) ≡ length (entries_text front) + length (parts_text shared rest value)) × (length rest + length value ≤ length (parts_text shared rest value))
taken_back items front seen o e key value before rest count shared are popped is seen_is counted last key_is value_is shared_is rest_is =
    let list : items ≡ front ++ e ∷ [] = popped ∙ ap (λ p. front ++ option_to_list p) is in
    let d : Entry = record { key = key; value = value } in
    let same : e ≡ d = λ i. record { key = sym key_is i; value = sym value_is i } in
    let m = added_parts front front seen key value before rest count shared refl seen_is counted last shared_is rest_is in
    (AreEntries-front front (e ∷ []) (subst AreEntries list are), ap (λ es. length (entries_text es)) (list ∙ ap (λ x. front ++ x ∷ []) same) ∙ m.0, m.1)
