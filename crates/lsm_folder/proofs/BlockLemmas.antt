-- A block's contents are read back as its entries, and no other bytes are.
use Rattle.std.specs.Prelude.{◌≡◌, ℕ, zero, suc, ◌+◌, ◌-◌, ◌*◌, ◌/◌, ◌^◌, ◌<◌, ◌≤◌, Bool, true, false, cond, ◌&&◌, nat_lt, nat_le, List, [], ◌∷◌, ◌++◌, length, take, drop, All, Some, None}
use Rattle.std.proofs.Common.{refl, sym, ap, subst, ◌∙◌, arith, append_assoc, length-append}
use Rattle.std.specs.List.{list_all}
use Rattle.std.specs.List.Sorted.{IsStrictlySortedBy}
use Rattle.std.specs.Int.{w32, to_le_bytes}
use Rattle.std.specs.Ordering.{is_lt}
use Rattle.std.specs.Str.{bytes_eq}
use Rattle.std.specs.declared.cmp.Ordering.TheVariants.{Less}
use Rattle.std.proofs.lemmas.List.Elements.{All-nil, All-cons, All-head, All-tail}
use Rattle.lsm_bytes.specs.Numbers.{number_at}
use Rattle.lsm_bytes.specs.Varint.{varint}
use Rattle.lsm_rows.specs.InternalKeys.{internal_cmp}
use Rattle.lsm_folder.specs.Batches.{number_ahead}
use Rattle.lsm_folder.proofs.NameLemmas.{same_text, equal_texts, and_true}
use Rattle.lsm_block.specs.declared.entries.Entry.{Entry}
use Rattle.lsm_block.specs.BlockText.{shared_len, parts_text, entry_text, entries_from, entries_text, restarts_text, block_text}
use Rattle.lsm_block.specs.Blocks.{IsKey, keys_of, IsBlock, IsBlockText}
use Rattle.lsm_block.specs.Parts.{restarts_bytes}
use Rattle.lsm_block.proofs.EntryLists.{varint_some}
use Rattle.lsm_block.proofs.Keys.{sorted-nil, sorted-cons, sorted-above, sorted-rest}
use Rattle.lsm_block.proofs.Prefixes.{key_joined}
use Rattle.lsm_block.proofs.Readings.{few_entries}
use Rattle.lsm_block.proofs.Restarts.{restarts_text-is, block_text-is, restarts_text-len}
use Rattle.lsm_folder.specs.Keys.{is_internal_key}
use Rattle.lsm_folder.specs.Blocks.{entry_ahead, entries_ahead, before_restarts, claimed_block, keys_ascend, block_fits, block_of}
use Rattle.lsm_folder.proofs.AheadLemmas.{number_back, take_front, drop_front, at_most, within, less_than}
use Rattle.lsm_folder.proofs.KeyLemmas.{key_is_tested, tested_key}
use Rattle.std.proofs.lemmas.Option.{same_Some}
use Rattle.std.proofs.lemmas.Bool.{and_parts}
use Rattle.lsm_block.proofs.Sought.{is_less, less_is}
use Rattle.lsm_rows.proofs.ReplayedRows.{lesser}

-- ---- entries

module _ (before : List ℕ) (shared : ℕ) (rest value more : List ℕ) where
  abbrev behind_value : ℕ → ℕ → ℕ × List ℕ → Entry × List ℕ
  behind_value s r v = (record { key = take s before ++ take r v.1; value = take v.0 (drop r v.1) }, drop v.0 (drop r v.1))

  abbrev behind_rest : ℕ → ℕ × List ℕ → Entry × List ℕ
  behind_rest s r = behind_value s r.0 (number_ahead r.1)

  abbrev behind_shared : ℕ × List ℕ → Entry × List ℕ
  behind_shared s = behind_rest s.0 (number_ahead s.1)

  parts_split : parts_text shared rest value ++ more ≡ varint shared ++ (varint (length rest) ++ (varint (length value) ++ (rest ++ (value ++ more))))
  unfolding parts_text
  parts_split = simp append_assoc

  parts_back : entry_ahead before (parts_text shared rest value ++ more) ≡ (record { key = take shared before ++ rest; value = value }, more)
  unfolding entry_ahead
  parts_back =
      ap behind_shared (ap number_ahead parts_split ∙ number_back shared (varint (length rest) ++ (varint (length value) ++ (rest ++ (value ++ more)))))
      ∙ ap (behind_rest shared) (number_back (length rest) (varint (length value) ++ (rest ++ (value ++ more))))
      ∙ ap (behind_value shared (length rest)) (number_back (length value) (rest ++ (value ++ more)))
      ∙ (λ i. (
        record { key = take shared before ++ take_front rest (value ++ more) i; value = take (length value) (drop_front rest (value ++ more) i) },
        drop (length value) (drop_front rest (value ++ more) i),
      ))
      ∙ (λ i. (record { key = take shared before ++ rest; value = take_front value more i }, drop_front value more i))

entry_back : (number : ℕ) (before : List ℕ) (e : Entry) (more : List ℕ)
    → entry_ahead before (entry_text number before e ++ more) ≡ (e, more)
unfolding entry_text
entry_back number before e more =
    parts_back before (shared_len number before e.key) (drop (shared_len number before e.key) e.key) e.value more
    ∙ (λ i. (record { key = key_joined number before e.key i; value = e.value }, more))

entry_some : (number : ℕ) (before : List ℕ) (e : Entry) (more : List ℕ)
    → suc (length more) ≤ length (entry_text number before e ++ more)
unfolding entry_text
entry_some number before e more =
    let shared = shared_len number before e.key in
    let rest = drop shared e.key in
    let tail = varint (length rest) ++ (varint (length e.value) ++ (rest ++ (e.value ++ more))) in
    omega (
      arith,
      ap (length {A = ℕ}) (parts_split before shared rest e.value more),
      length-append (varint shared) tail,
      length-append (varint (length rest)) (varint (length e.value) ++ (rest ++ (e.value ++ more))),
      length-append (varint (length e.value)) (rest ++ (e.value ++ more)),
      length-append rest (e.value ++ more),
      length-append e.value more,
      varint_some shared,
    )

entries_end : (fuel : ℕ) (before : List ℕ) → entries_ahead fuel before [] ≡ []
entries_end zero before = refl
entries_end (suc fuel) before = refl

entries_step : (fuel : ℕ) (before bytes : List ℕ) → 1 ≤ length bytes
    → entries_ahead (suc fuel) before bytes ≡ (entry_ahead before bytes).0 ∷ entries_ahead fuel (entry_ahead before bytes).0.key
    (entry_ahead before bytes).1
entries_step fuel before [] some = absurd (omega (arith, some))
entries_step fuel before (b ∷ bytes) some = refl

entries_back : (fuel number : ℕ) (before : List ℕ) (es : List Entry) → length (entries_from number before es) ≤ fuel
    → entries_ahead fuel before (entries_from number before es) ≡ es
unfolding entries_from
entries_back fuel number before [] fits = entries_end fuel before
entries_back zero number before (e ∷ es) fits =
    absurd (omega (arith, fits, entry_some number before e (entries_from (number + 1) e.key es)))
entries_back (suc fuel) number before (e ∷ es) fits =
    let more = entries_from (number + 1) e.key es in
    let some = entry_some number before e more in
    entries_step fuel before (entry_text number before e ++ more) (omega (arith, some))
    ∙ ap (λ (r : Entry × List ℕ). r.0 ∷ entries_ahead fuel r.0.key r.1) (entry_back number before e more)
    ∙ ap (λ (l : List Entry). e ∷ l) (entries_back fuel (number + 1) e.key es (omega (arith, some, fits)))

-- ---- which entries make a block

lower_all : (key : List ℕ) (keys : List (List ℕ)) → All (λ (later : List ℕ). internal_cmp key later ≡ Less) keys
    → list_all (λ (later : List ℕ). is_lt (internal_cmp key later)) keys ≡ true
lower_all key [] all = refl
lower_all key (k ∷ keys) all =
    and_true _ _ (less_is (internal_cmp key k) (All-head (λ (later : List ℕ). internal_cmp key later ≡ Less) k keys all))
    (lower_all key keys (All-tail (λ (later : List ℕ). internal_cmp key later ≡ Less) k keys all))

all_lower : (key : List ℕ) (keys : List (List ℕ)) → list_all (λ (later : List ℕ). is_lt (internal_cmp key later)) keys ≡ true
    → All (λ (later : List ℕ). internal_cmp key later ≡ Less) keys
all_lower key [] h = All-nil (λ (later : List ℕ). internal_cmp key later ≡ Less)
all_lower key (k ∷ keys) h =
    let parts = and_parts (is_lt (internal_cmp key k)) (list_all (λ (later : List ℕ). is_lt (internal_cmp key later)) keys) h in
    All-cons (λ (later : List ℕ). internal_cmp key later ≡ Less) k keys (is_less (internal_cmp key k) parts.0)
    (all_lower key keys parts.1)

ascend_tested : (keys : List (List ℕ)) → IsStrictlySortedBy internal_cmp keys → keys_ascend keys ≡ true
ascend_tested [] up = refl
ascend_tested (k ∷ keys) up =
    and_true _ _ (lower_all k keys (sorted-above internal_cmp k keys up))
    (ascend_tested keys (sorted-rest internal_cmp k keys up))

tested_ascend : (keys : List (List ℕ)) → keys_ascend keys ≡ true → IsStrictlySortedBy internal_cmp keys
tested_ascend [] h = sorted-nil internal_cmp
tested_ascend (k ∷ keys) h =
    let parts = and_parts (list_all (λ (later : List ℕ). is_lt (internal_cmp k later)) keys) (keys_ascend keys) h in
    sorted-cons internal_cmp k keys (all_lower k keys parts.0) (tested_ascend keys parts.1)

keys_tested : (keys : List (List ℕ)) → All IsKey keys → list_all is_internal_key keys ≡ true
keys_tested [] all = refl
keys_tested (k ∷ keys) all =
    and_true _ _ (key_is_tested k (All-head IsKey k keys all)) (keys_tested keys (All-tail IsKey k keys all))

tested_keys : (keys : List (List ℕ)) → list_all is_internal_key keys ≡ true → All IsKey keys
tested_keys [] h = All-nil IsKey
tested_keys (k ∷ keys) h =
    let parts = and_parts (is_internal_key k) (list_all is_internal_key keys) h in
    All-cons IsKey k keys (tested_key k parts.0) (tested_keys keys parts.1)

block_tested : (es : List Entry) → IsBlock es → block_fits es ≡ true
unfolding block_fits
block_tested es is =
    and_true _ _
    (and_true _ _ (and_true _ _ (within 1 (length es) is.some) (keys_tested (keys_of es) is.entries.keys)) (ascend_tested (keys_of es) is.entries.ascend))
    (lesser (length (entries_text es)) (2 ^ 32) is.entries.small)

tested_block : (es : List Entry) → block_fits es ≡ true → IsBlock es
unfolding block_fits
tested_block es h =
    let some : Bool = nat_le 1 (length es) in
    let keys : Bool = list_all is_internal_key (keys_of es) in
    let up : Bool = keys_ascend (keys_of es) in
    let one = and_parts (some && keys && up) (nat_lt (length (entries_text es)) (2 ^ 32)) h in
    let two = and_parts (some && keys) up one.0 in
    let three = and_parts some keys two.0 in
    record {
      some = at_most 1 (length es) three.0;
      entries = record { keys = tested_keys (keys_of es) three.1; ascend = tested_ascend (keys_of es) two.1; small = less_than (length (entries_text es)) (2 ^ 32) one.1 };
    }

-- ---- blocks

four_read : (n : ℕ) → n < 2 ^ 32 → number_at 4 (to_le_bytes w32 n) 0 ≡ n
four_read n small = omega arith

four_len : (n : ℕ) → length (to_le_bytes w32 n) ≡ 4
four_len n = refl

module _ (bytes : List ℕ) (es : List Entry) (is : IsBlockText bytes es) where
  abbrev many : ℕ
  many = (length es + 15) / 16

  abbrev front : List ℕ
  front = entries_text es ++ restarts_bytes es

  whole : bytes ≡ entries_text es ++ restarts_text es
  whole = is.is ∙ block_text-is es

  counted : bytes ≡ front ++ to_le_bytes w32 many
  counted =
      whole ∙ ap (λ (l : List ℕ). entries_text es ++ l) (restarts_text-is es)
      ∙ sym (append_assoc (entries_text es) (restarts_bytes es) (to_le_bytes w32 many))

  long : length bytes ≡ length (entries_text es) + (4 * many + 4)
  long =
      ap (length {A = ℕ}) whole ∙ length-append (entries_text es) (restarts_text es)
      ∙ ap (λ (n : ℕ). length (entries_text es) + n) (restarts_text-len es)

  front_len : length bytes - 4 ≡ length front
  front_len = omega (arith, ap (length {A = ℕ}) counted, length-append front (to_le_bytes w32 many), four_len many)

  last_bytes : drop (length bytes - 4) bytes ≡ to_le_bytes w32 many
  last_bytes =
      ap (λ (n : ℕ). drop n bytes) front_len ∙ ap (drop (length front)) counted ∙ drop_front front (to_le_bytes w32 many)

  count_is : number_at 4 bytes (length bytes - 4) ≡ many
  count_is = ap (λ (l : List ℕ). number_at 4 l 0) last_bytes ∙ four_read many (omega (arith, few_entries es is.block.entries))

  front_is : before_restarts bytes ≡ entries_text es
  front_is =
      let cut : length bytes - (4 * number_at 4 bytes (length bytes - 4) + 4) ≡ length (entries_text es) =
      omega (arith, long, count_is) in
      ap (λ (n : ℕ). take n bytes) cut ∙ ap (take (length (entries_text es))) whole
      ∙ take_front (entries_text es) (restarts_text es)

  claimed_is : claimed_block bytes ≡ es
  unfolding claimed_block
  claimed_is = ap (entries_ahead (length bytes) []) front_is ∙ entries_back (length bytes) 0 [] es (omega (arith, long))

  pub block_back : block_of bytes ≡ Some es
  unfolding block_of
  block_back =
      ap (λ (found : List Entry). cond (block_fits found && bytes_eq bytes (block_text found)) (Some found) None) claimed_is
      ∙ ap (λ (b : Bool). cond b (Some es) None)
      (and_true _ _ (block_tested es is.block) (ap (bytes_eq bytes) (sym is.is) ∙ same_text bytes))

-- only a block's contents give its entries
pub block_only : (bytes : List ℕ) (es : List Entry) → block_of bytes ≡ Some es → IsBlockText bytes es
unfolding block_of
block_only bytes es h =
    let found : List Entry = claimed_block bytes in
    elim (block_fits found && bytes_eq bytes (block_text found)) as (λ b. (block_fits found && bytes_eq bytes (block_text found)) ≡ b → cond b (Some found) None ≡ Some es → IsBlockText bytes es) [
      | true ↦ λ is e.
          let parts = and_parts (block_fits found) (bytes_eq bytes (block_text found)) is in
          subst (IsBlockText bytes) (same_Some found es e)
          (record { is = equal_texts bytes (block_text found) parts.1; block = tested_block found parts.0 })
      | false ↦ λ is e. cc
    ] refl h
