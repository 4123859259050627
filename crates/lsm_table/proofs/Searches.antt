-- The first entry at or past a user key is the first one of it, or there is none of it.
use Rattle.std.proofs.Common.{◌≡◌, ℕ, ◌+◌, ◌*◌, ◌⊎◌, inl, inr, Bool, true, false, cond, List, [], ◌∷◌, refl, sym, ap, ◌∙◌, subst}
use Rattle.std.specs.Prelude.{Option, Some, None, not, All, nat_eq}
use Rattle.std.specs.List.{find}
use Rattle.std.specs.List.Sorted.{IsStrictlySortedBy}
use Rattle.std.specs.Ordering.{is_lt, is_eq, ordering_reverse}
use Rattle.std.specs.declared.cmp.Ordering.{Ordering}
use Rattle.std.specs.declared.cmp.Ordering.TheVariants.{Less, Equal, Greater}
use Rattle.std.specs.Cmp.Lexicographic.{pointwise, texts_ties, same_text, nat_list_cmp_total}
use Rattle.std.proofs.lemmas.List.Elements.{All-head, All-tail}
use Rattle.lsm_rows.specs.declared.internal_keys.Kind.{Kind}
use Rattle.lsm_rows.specs.declared.internal_keys.Kind.TheVariants.{Delete, Put}
use Rattle.lsm_rows.specs.InternalKeys.{IsInternalKey, internal_cmp, internal_key, user_key, kind_byte}
use Rattle.lsm_rows.specs.Replay.{key_cmp}
use Rattle.lsm_rows.proofs.InternalOrder.{user_key_of}
use Rattle.lsm_block.specs.declared.entries.Entry.{Entry}
use Rattle.lsm_block.specs.Blocks.{IsKey, IsBlock, keys_of}
use Rattle.lsm_block.specs.Seek.{first_of_user}
use Rattle.lsm_block.specs.TableText.{kind_of}
use Rattle.lsm_block.proofs.Keys.{sorted-above, sorted-rest}
use Rattle.lsm_table.specs.Searching.{entry_of, IsValue, IsRowOf}
use Rattle.lsm_block.proofs.Sought.{internal_users}

pub same_as : (x y key : List ℕ) → key_cmp y key ≡ Equal → key_cmp x key ≡ key_cmp x y
same_as x y key same =
    nat_list_cmp_total.antisymm x key ∙ ap ordering_reverse (sym (nat_list_cmp_total.congr y key x same)) ∙ sym (nat_list_cmp_total.antisymm x y)

-- behind an entry past a user key there is none of it
not_past : (a b key : List ℕ) → internal_cmp a b ≡ Less → key_cmp (user_key a) key ≡ Greater → key_cmp (user_key b) key ≡ Equal → ⊥
not_past a b key less past same = by_users (internal_users a b less)
  where
    greater : key_cmp (user_key a) (user_key b) ≡ Greater
    greater = sym (same_as (user_key a) (user_key b) key same) ∙ past

    by_users : (key_cmp (user_key a) (user_key b) ≡ Less) ⊎ (key_cmp (user_key a) (user_key b) ≡ Equal) → ⊥
    by_users (inl under) = let clash : Less ≡ Greater = sym under ∙ greater in cc
    by_users (inr even) = let clash : Equal ≡ Greater = sym even ∙ greater in cc

pub test-is : (a key : List ℕ) (o : Ordering) → key_cmp a key ≡ o → pointwise nat_eq a key ≡ is_eq o
test-is a key o is = texts_ties a key ∙ ap is_eq is

pub entry-cons : (key : List ℕ) (e : Entry) (es : List Entry) → entry_of key (e ∷ es) ≡ cond (pointwise nat_eq (user_key e.key) key) (Some e) (entry_of key es)
unfolding entry_of
entry-cons key e es = refl

pub first-cons : (key : List ℕ) (e : Entry) (es : List Entry) → first_of_user key (e ∷ es) ≡ cond (not (is_lt (key_cmp (user_key e.key) key))) (Some e) (first_of_user key es)
unfolding first_of_user
first-cons key e es = refl

pub entry-nil : (key : List ℕ) → entry_of key [] ≡ None
unfolding entry_of
entry-nil key = refl

pub first-nil : (key : List ℕ) → first_of_user key [] ≡ None
unfolding first_of_user
first-nil key = refl

none_past : (a key : List ℕ) (es : List Entry) → key_cmp (user_key a) key ≡ Greater → All (λ b. internal_cmp a b ≡ Less) (keys_of es) → entry_of key es ≡ None
none_past a key [] past all = entry-nil key
none_past a key (e ∷ es) past all =
    entry-cons key e es ∙ by_order (key_cmp (user_key e.key) key) refl (none_past a key es past (All-tail (λ b. internal_cmp a b ≡ Less) e.key (keys_of es) all))
  where
    by_order : (o : Ordering) → key_cmp (user_key e.key) key ≡ o → entry_of key es ≡ None → cond (pointwise nat_eq (user_key e.key) key) (Some e) (entry_of key es) ≡ None
    by_order Less is rest = ap (λ t. cond t (Some e) (entry_of key es)) (test-is (user_key e.key) key Less is) ∙ rest
    by_order Equal is rest = absurd (not_past a e.key key (All-head (λ b. internal_cmp a b ≡ Less) e.key (keys_of es) all) past is)
    by_order Greater is rest = ap (λ t. cond t (Some e) (entry_of key es)) (test-is (user_key e.key) key Greater is) ∙ rest

-- what the first entry at or past a user key tells
pub record Tells (key : List ℕ) (es : List Entry) (first : Option Entry) : Type 0 where
  pub absent : first ≡ None → entry_of key es ≡ None
  pub there : (e : Entry) → first ≡ Some e → pointwise nat_eq (user_key e.key) key ≡ true → entry_of key es ≡ Some e
  pub other : (e : Entry) → first ≡ Some e → pointwise nat_eq (user_key e.key) key ≡ false → entry_of key es ≡ None

pub first_tells : (key : List ℕ) (es : List Entry) → IsStrictlySortedBy internal_cmp (keys_of es) → Tells key es (first_of_user key es)
first_tells key [] up = record {
  absent = λ is. entry-nil key;
  there = λ e is. absurd (let clash : None ≡ Some e = sym (first-nil key) ∙ is in cc);
  other = λ e is. absurd (let clash : None ≡ Some e = sym (first-nil key) ∙ is in cc);
}
first_tells key (d ∷ es) up = by_order (key_cmp (user_key d.key) key) refl (first_tells key es (sorted-rest internal_cmp d.key (keys_of es) up))
  where
    by_order : (o : Ordering) → key_cmp (user_key d.key) key ≡ o → Tells key es (first_of_user key es) → Tells key (d ∷ es) (first_of_user key (d ∷ es))
    by_order Less is rest =
        let first : first_of_user key (d ∷ es) ≡ first_of_user key es = first-cons key d es ∙ ap (λ t. cond (not (is_lt t)) (Some d) (first_of_user key es)) is in
        let entry : entry_of key (d ∷ es) ≡ entry_of key es = entry-cons key d es ∙ ap (λ t. cond t (Some d) (entry_of key es)) (test-is (user_key d.key) key Less is) in
        record {
          absent = λ none. entry ∙ rest.absent (sym first ∙ none);
          there = λ e some yes. entry ∙ rest.there e (sym first ∙ some) yes;
          other = λ e some no. entry ∙ rest.other e (sym first ∙ some) no;
        }
    by_order Equal is rest =
        let first : first_of_user key (d ∷ es) ≡ Some d = first-cons key d es ∙ ap (λ t. cond (not (is_lt t)) (Some d) (first_of_user key es)) is in
        let entry : entry_of key (d ∷ es) ≡ Some d = entry-cons key d es ∙ ap (λ t. cond t (Some d) (entry_of key es)) (test-is (user_key d.key) key Equal is) in
        record {
          absent = λ none. absurd (let clash : Some d ≡ None = sym first ∙ none in cc);
          there = λ e some yes. entry ∙ sym first ∙ some;
          other = λ e some no.
              let same : Some d ≡ Some e = sym first ∙ some in
              let same_entry : d ≡ e = cc in
              let yes : pointwise nat_eq (user_key e.key) key ≡ true = ap (λ (x : Entry). pointwise nat_eq (user_key x.key) key) (sym same_entry) ∙ test-is (user_key d.key) key Equal is in
              absurd (let clash : true ≡ false = sym yes ∙ no in cc);
        }
    by_order Greater is rest =
        let first : first_of_user key (d ∷ es) ≡ Some d = first-cons key d es ∙ ap (λ t. cond (not (is_lt t)) (Some d) (first_of_user key es)) is in
        let entry : entry_of key (d ∷ es) ≡ None =
        entry-cons key d es ∙ ap (λ t. cond t (Some d) (entry_of key es)) (test-is (user_key d.key) key Greater is) ∙ none_past d.key key es is (sorted-above internal_cmp d.key (keys_of es) up) in
        record {
          absent = λ none. absurd (let clash : Some d ≡ None = sym first ∙ none in cc);
          there = λ e some yes.
              let same : Some d ≡ Some e = sym first ∙ some in
              let same_entry : d ≡ e = cc in
              let no : pointwise nat_eq (user_key e.key) key ≡ false = ap (λ (x : Entry). pointwise nat_eq (user_key x.key) key) (sym same_entry) ∙ test-is (user_key d.key) key Greater is in
              absurd (let clash : false ≡ true = sym no ∙ yes in cc);
          other = λ e some no. entry;
        }

-- an entry that a search gives is one of the block's
found_in : (p : Entry → Bool) (es : List Entry) (e : Entry) → All IsKey (keys_of es) → find p es ≡ Some e → IsKey e.key
found_in p [] e all is = cc
found_in p (d ∷ es) e all is = by_test (p d) refl is (λ rest. found_in p es e (All-tail IsKey d.key (keys_of es) all) rest)
  where
    by_test : (t : Bool) → p d ≡ t → cond t (Some d) (find p es) ≡ Some e → (find p es ≡ Some e → IsKey e.key) → IsKey e.key
    by_test true passes same next = let one : d ≡ e = cc in subst (λ (x : Entry). IsKey x.key) one (All-head IsKey d.key (keys_of es) all)
    by_test false fails same next = next same

first_in : (key : List ℕ) (es : List Entry) (e : Entry) → All IsKey (keys_of es) → first_of_user key es ≡ Some e → IsKey e.key
unfolding first_of_user
first_in key es e all is = found_in (λ d. not (is_lt (key_cmp (user_key d.key) key))) es e all is

user-is : (bytes user : List ℕ) (sequence : ℕ) (kind : Kind) → IsInternalKey bytes user sequence kind → user_key bytes ≡ user
unfolding internal_key
user-is bytes user sequence kind is = ap user_key is.is ∙ user_key_of user (sequence * 256 + kind_byte kind)

-- what each exit answers
pub absent_row : (es : List Entry) (key : List ℕ) → IsBlock es → first_of_user key es ≡ None → IsRowOf es key None
unfolding IsRowOf
absent_row es key is none = (first_tells key es is.entries.ascend).absent none

pub no_key_row : (es : List Entry) (key : List ℕ) (e : Entry) → IsBlock es → first_of_user key es ≡ Some e → ((user : List ℕ) (sequence : ℕ) (kind : Kind) → IsInternalKey e.key user sequence kind → ⊥) → IsRowOf es key None
no_key_row es key e is some none = let k = first_in key es e is.entries.keys some in absurd (none k.user k.sequence k.kind k.is)

tested : (bytes user key : List ℕ) (sequence : ℕ) (kind : Kind) (b t : Bool) → IsInternalKey bytes user sequence kind → b ≡ not (pointwise nat_eq user key) → b ≡ t → not (pointwise nat_eq (user_key bytes) key) ≡ t
tested bytes user key sequence kind b t is test got = ap (λ u. not (pointwise nat_eq u key)) (user-is bytes user sequence kind is) ∙ sym test ∙ got

not_true : (t : Bool) → not t ≡ true → t ≡ false
not_true true is = cc
not_true false is = refl

not_false : (t : Bool) → not t ≡ false → t ≡ true
not_false true is = refl
not_false false is = cc

pub other_row : (es : List Entry) (key : List ℕ) (e : Entry) (user : List ℕ) (sequence : ℕ) (kind : Kind) (b : Bool) → IsBlock es → first_of_user key es ≡ Some e → IsInternalKey e.key user sequence kind
    → b ≡ not (pointwise nat_eq user key) → b ≡ true → IsRowOf es key None
unfolding IsRowOf
other_row es key e user sequence kind b is some good test got =
    (first_tells key es is.entries.ascend).other e some (not_true (pointwise nat_eq (user_key e.key) key) (tested e.key user key sequence kind b true good test got))

value_kind : (kind : Kind) (bytes : List ℕ) (value : Option (List ℕ)) → IsValue kind bytes value → (kind ≡ kind_of value) × ((v : List ℕ) → value ≡ Some v → v ≡ bytes)
unfolding IsValue
value_kind Put bytes value is = (sym (ap kind_of is), λ v some. let same : Some v ≡ Some bytes = sym some ∙ is in cc)
value_kind Delete bytes value is = (sym (ap kind_of is), λ v some. absurd (let clash : Some v ≡ None = sym some ∙ is in cc))

pub found_row : (es : List Entry) (key kept bytes found user : List ℕ) (sequence : ℕ) (kind : Kind) (value : Option (List ℕ)) (b : Bool) → IsBlock es → first_of_user key es ≡ Some (record { key = found; value = bytes })
    → IsInternalKey found user sequence kind → b ≡ not (pointwise nat_eq user key) → b ≡ false → kept ≡ key → IsValue kind bytes value
    → IsRowOf es key (Some (record { key = kept; sequence = sequence; value = value }))
unfolding IsRowOf
found_row es key kept bytes found user sequence kind value b is some good test got kept_is value_is =
    let e : Entry = record { key = found; value = bytes } in
    let yes : pointwise nat_eq (user_key found) key ≡ true = not_false (pointwise nat_eq (user_key found) key) (tested found user key sequence kind b false good test got) in
    let same : user ≡ kept = sym (user-is found user sequence kind good) ∙ same_text (user_key found) key (sym yes) ∙ sym kept_is in
    let v = value_kind kind bytes value value_is in (
      kept_is,
      e,
      (first_tells key es is.entries.ascend).there e some yes,
      record {
        key_is = good.is ∙ (λ i. internal_key (same i) sequence (kind_byte (v.0 i)));
        value_is = v.1;
        below = good.below;
      },
    )

put_is : (bytes copy : List ℕ) → copy ≡ bytes → IsValue Put bytes (Some copy)
unfolding IsValue
put_is bytes copy same = ap Some same

pub put_value : (kind : Kind) (bytes copy : List ℕ) → kind ≡ Put → copy ≡ bytes → IsValue kind bytes (Some copy)
put_value kind bytes copy is same = subst (λ k. IsValue k bytes (Some copy)) (sym is) (put_is bytes copy same)

delete_is : (bytes : List ℕ) → IsValue Delete bytes None
unfolding IsValue
delete_is bytes = refl

pub delete_value : (kind : Kind) (bytes : List ℕ) → kind ≡ Delete → IsValue kind bytes None
delete_value kind bytes is = subst (λ k. IsValue k bytes None) (sym is) (delete_is bytes)
