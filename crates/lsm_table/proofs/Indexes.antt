-- The two varints of an index's entry.
use Rattle.std.proofs.Common.{◌≡◌, ◌≢◌, ℕ, ◌+◌, All, List, [], ◌∷◌, ◌++◌, length, refl, sym, ap, subst, ◌∙◌, arith, append-nil, Option, Some, None, IfSome, is_some, Bool, true, false, cond}
use Rattle.std.specs.Prelude.{not}
use Rattle.std.specs.List.{find}
use Rattle.std.specs.Ordering.{is_lt}
use Rattle.std.proofs.lemmas.List.Elements.{All-head, All-tail}
use Rattle.std.proofs.lemmas.List.{drop_all, length-drop}
use Rattle.lsm_bytes.specs.Varint.{varint, IsVarintAt}
use Rattle.lsm_rows.proofs.Prefixes.{varint_once}
use Rattle.lsm_block.proofs.EntryParts.{varint_read, varint_written, behind_length}
use Rattle.lsm_block.specs.declared.entries.Entry.{Entry}
use Rattle.lsm_rows.specs.InternalKeys.{user_key}
use Rattle.lsm_rows.specs.Replay.{key_cmp}
use Rattle.lsm_block.specs.Seek.{first_of_user}
use Rattle.lsm_table.specs.Opening.{TellsPlace, TellsBlock}
use Rattle.lsm_table.specs.Tables.{IsLocated}

pub place_told : (value : List ℕ) (place next len end : ℕ) → IsVarintAt value 0 place next → IsVarintAt value next len end → end ≡ length value → TellsPlace value place len
place_told value place next len end one two all = record {
  text =
      varint_read value 0 place next one ∙ ap (λ s. varint place ++ s) (varint_read value next len end two ∙ ap (λ s. varint len ++ s) (drop_all end value (omega (arith, all))) ∙ append-nil (varint len));
  place_fits = one.fits;
  len_fits = two.fits;
}

pub no_place : (value : List ℕ) (place len : ℕ) → ((n next : ℕ) → ¬ IsVarintAt value 0 n next) → ¬ TellsPlace value place len
no_place value place len none tells = none place (0 + length (varint place)) (varint_written value 0 place (varint len) (omega arith) tells.place_fits tells.text)

pub no_length : (value : List ℕ) (n next place len : ℕ) → IsVarintAt value 0 n next → ((m end : ℕ) → ¬ IsVarintAt value next m end) → ¬ TellsPlace value place len
no_length value n next place len one none tells =
    let behind = behind_length value 0 n place next (varint len) one tells.text in
    none len (next + length (varint len)) (varint_written value next len [] one.within tells.len_fits (behind.1 ∙ sym (append-nil (varint len))))

pub long_value : (value : List ℕ) (n next m end place len : ℕ) → IsVarintAt value 0 n next → IsVarintAt value next m end → end ≢ length value → ¬ TellsPlace value place len
long_value value n next m end place len one two more tells =
    let behind = behind_length value 0 n place next (varint len) one tells.text in
    let further = behind_length value next m len end [] two (behind.1 ∙ sym (append-nil (varint len))) in
    more (omega (arith, two.within, length-drop end value, ap (λ (l : List ℕ). length l) further.1))

-- an entry whose value told something
pub tells_some : (e : Entry) (r : Option (ℕ × ℕ)) (value : List ℕ) → value ≡ e.value → IfSome r (λ told. TellsPlace value told.0 told.1) → is_some r ≡ true → TellsBlock e
tells_some e None value same told some = cc
tells_some e (Some t) value same told some = record { place = t.0; len = t.1; tells = subst (λ v. TellsPlace v t.0 t.1) same told }

-- what a search finds has what each element has
found_has : (p : Entry → Bool) (es : List Entry) (e : Entry) → All TellsBlock es → find p es ≡ Some e → TellsBlock e
found_has p [] e all is = cc
found_has p (d ∷ es) e all is = by_test (p d) refl is (found_has p es e (All-tail TellsBlock d es all))
  where
    by_test : (t : Bool) → p d ≡ t → cond t (Some d) (find p es) ≡ Some e → (find p es ≡ Some e → TellsBlock e) → TellsBlock e
    by_test true test found rest = subst TellsBlock (let same : d ≡ e = cc in same) (All-head TellsBlock d es all)
    by_test false test found rest = rest found

pub user_has : (key : List ℕ) (es : List Entry) (e : Entry) → All TellsBlock es → first_of_user key es ≡ Some e → TellsBlock e
unfolding first_of_user
user_has key es e all is = found_has (λ d. not (is_lt (key_cmp (user_key d.key) key))) es e all is

pub located_none : (key : List ℕ) (index : List Entry) (r : Option ℕ) → r ≡ None → first_of_user key index ≡ None → IsLocated key index r
unfolding IsLocated
located_none key index None is none = none
located_none key index (Some place) is none = cc

-- an index whose entries tell blocks has no other entry
pub located_strange : (key : List ℕ) (index : List Entry) (r : Option ℕ) (e : Entry) → All TellsBlock index → first_of_user key index ≡ Some e → ((place len : ℕ) → ¬ TellsPlace e.value place len) → IsLocated key index r
located_strange key index r e all is none = let told = user_has key index e all is in absurd (none told.place told.len told.tells)

pub located_some : (key : List ℕ) (index : List Entry) (e : Entry) (place len : ℕ) → first_of_user key index ≡ Some e → TellsPlace e.value place len → IsLocated key index (Some place)
unfolding IsLocated
located_some key index e place len is tells = (e, is, len, tells)

-- a value tells one place
pub told_once : (value : List ℕ) (place other len long : ℕ) → TellsPlace value place len → TellsPlace value other long → place ≡ other
told_once value place other len long one two = (varint_once place other (varint len) (varint long) (sym one.text ∙ two.text)).0

pub not_located : (key : List ℕ) (index : List Entry) → IsLocated key index None → first_of_user key index ≡ None
unfolding IsLocated
not_located key index is = is
