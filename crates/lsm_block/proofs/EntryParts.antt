-- The parts of an entry stand where they were written, and no others do.
use Rattle.std.proofs.Common.{◌≡◌, ℕ, ◌+◌, ◌-◌, ◌^◌, ◌<◌, ◌≤◌, List, ◌++◌, length, take, drop, sym, ap, ◌∙◌, subst, arith, append_assoc, length-append, length-drop, take-append-drop}
use Rattle.std.proofs.lemmas.List.{drop-drop, length-take-le}
use Rattle.lsm_bytes.specs.Varint.{varint, IsVarintAt}
use Rattle.lsm_bytes.proofs.Spelling.{IsVarint-varint, IsVarint-one_spelling}
use Rattle.lsm_bytes.proofs.Places.{IsVarintAt-placed}
use Rattle.lsm_rows.proofs.Prefixes.{varint_once, same_length}
use Rattle.lsm_block.specs.declared.entries.Entry.{Entry}
use Rattle.lsm_block.specs.BlockText.{shared_len, parts_text, entry_text}
use Rattle.lsm_block.specs.Parts.{AreLengthsAt, ArePartsAt}
use Rattle.lsm_block.proofs.Prefixes.{key_joined}

-- a varint that stands at a place, as a reader gives it and as a text has it
pub varint_read : (bytes : List ℕ) (at n next : ℕ) → IsVarintAt bytes at n next → drop at bytes ≡ varint n ++ drop next bytes
varint_read bytes at n next is =
    sym (take-append-drop (next - at) (drop at bytes))
    ∙ ap (λ s. s ++ drop (next - at) (drop at bytes)) (IsVarint-one_spelling (take (next - at) (drop at bytes)) n is.spelling)
    ∙ ap (λ s. varint n ++ s) (drop-drop (next - at) at bytes ∙ ap (λ k. drop k bytes) (omega (arith, is.ordered)))

pub varint_written : (bytes : List ℕ) (at n : ℕ) (more : List ℕ) → at ≤ length bytes → n < 2 ^ 64 → drop at bytes ≡ varint n ++ more → IsVarintAt bytes at n (at + length (varint n))
varint_written bytes at n more within fits text =
    let size : length (take at bytes) ≡ at = length-take-le at bytes within in
    let whole : take at bytes ++ varint n ++ more ≡ bytes = append_assoc (take at bytes) (varint n) more ∙ ap (λ s. take at bytes ++ s) (sym text) ∙ take-append-drop at bytes in
    subst (λ k. IsVarintAt bytes k n (k + length (varint n))) size
    (subst (λ t. IsVarintAt t (length (take at bytes)) n (length (take at bytes) + length (varint n))) whole (IsVarintAt-placed (take at bytes) (varint n) more n fits (IsVarint-varint n)))

-- three lengths that were read
pub lengths_read : (bytes : List ℕ) (at shared rest value a b next : ℕ) → IsVarintAt bytes at shared a → IsVarintAt bytes a rest b → IsVarintAt bytes b value next
    → AreLengthsAt bytes at shared rest value next
lengths_read bytes at shared rest value a b next one two three = record {
  within = three.within;
  text =
      varint_read bytes at shared a one ∙ ap (λ s. varint shared ++ s) (varint_read bytes a rest b two ∙ ap (λ s. varint rest ++ s) (varint_read bytes b value next three))
      ∙ sym (append_assoc (varint shared) (varint rest) (varint value ++ drop next bytes)) ∙ sym (append_assoc (varint shared ++ varint rest) (varint value) (drop next bytes));
}

-- where the lengths of some text stand, each is read
pub first_length : (bytes : List ℕ) (at shared rest value : ℕ) (more : List ℕ) → at ≤ length bytes → shared < 2 ^ 64 → drop at bytes ≡ varint shared ++ varint rest ++ varint value ++ more
    → IsVarintAt bytes at shared (at + length (varint shared))
first_length bytes at shared rest value more within fits text =
    varint_written bytes at shared (varint rest ++ (varint value ++ more)) within fits
    (text ∙ append_assoc (varint shared ++ varint rest) (varint value) more ∙ append_assoc (varint shared) (varint rest) (varint value ++ more))

-- behind a length that was read stand the others
pub behind_length : (bytes : List ℕ) (at n m next : ℕ) (more : List ℕ) → IsVarintAt bytes at n next → drop at bytes ≡ varint m ++ more → (n ≡ m) × (drop next bytes ≡ more)
behind_length bytes at n m next more is text = varint_once n m (drop next bytes) more (sym (varint_read bytes at n next is) ∙ text)

pub no_first : (bytes : List ℕ) (at shared rest value : ℕ) (more : List ℕ) → at ≤ length bytes → ((n next : ℕ) → IsVarintAt bytes at n next → ⊥) → shared < 2 ^ 64
    → drop at bytes ≡ varint shared ++ varint rest ++ varint value ++ more → ⊥
no_first bytes at shared rest value more within none fits text = none shared (at + length (varint shared)) (first_length bytes at shared rest value more within fits text)

lengths_apart : (shared rest value : ℕ) (more : List ℕ) → varint shared ++ varint rest ++ varint value ++ more ≡ varint shared ++ (varint rest ++ (varint value ++ more))
lengths_apart shared rest value more = append_assoc (varint shared ++ varint rest) (varint value) more ∙ append_assoc (varint shared) (varint rest) (varint value ++ more)

pub no_second : (bytes : List ℕ) (at n a shared rest value : ℕ) (more : List ℕ) → IsVarintAt bytes at n a → ((m next : ℕ) → IsVarintAt bytes a m next → ⊥) → rest < 2 ^ 64
    → drop at bytes ≡ varint shared ++ varint rest ++ varint value ++ more → ⊥
no_second bytes at n a shared rest value more one none fits text =
    let behind = behind_length bytes at n shared a (varint rest ++ (varint value ++ more)) one (text ∙ lengths_apart shared rest value more) in
    none rest (a + length (varint rest)) (varint_written bytes a rest (varint value ++ more) one.within fits behind.1)

pub no_third : (bytes : List ℕ) (at n a m b shared rest value : ℕ) (more : List ℕ) → IsVarintAt bytes at n a → IsVarintAt bytes a m b → ((k next : ℕ) → IsVarintAt bytes b k next → ⊥) → value < 2 ^ 64
    → drop at bytes ≡ varint shared ++ varint rest ++ varint value ++ more → ⊥
no_third bytes at n a m b shared rest value more one two none fits text =
    let behind = behind_length bytes at n shared a (varint rest ++ (varint value ++ more)) one (text ∙ lengths_apart shared rest value more) in
    let further = behind_length bytes a m rest b (varint value ++ more) two behind.1 in
    none value (b + length (varint value)) (varint_written bytes b value more two.within fits further.1)

-- the parts' text, one part behind another
pub parts_apart : (shared : ℕ) (rest value more : List ℕ) → parts_text shared rest value ++ more ≡ varint shared ++ varint (length rest) ++ varint (length value) ++ (rest ++ (value ++ more))
unfolding parts_text
parts_apart shared rest value more =
    append_assoc (varint shared ++ varint (length rest) ++ varint (length value) ++ rest) value more
    ∙ append_assoc (varint shared ++ varint (length rest) ++ varint (length value)) rest (value ++ more)

-- parts that were read behind their lengths
pub parts_read : (bytes : List ℕ) (at shared rest value start next : ℕ) → AreLengthsAt bytes at shared rest value start → rest ≤ length (drop start bytes)
    → value ≤ length (drop rest (drop start bytes)) → next ≡ start + rest + value
    → ArePartsAt bytes at shared (take rest (drop start bytes)) (take value (drop rest (drop start bytes))) next
parts_read bytes at shared rest value start next is long longer ends =
    let t : List ℕ = drop start bytes in
    let r : List ℕ = take rest t in
    let v : List ℕ = take value (drop rest t) in
    let more : List ℕ = drop next bytes in
    let behind : drop value (drop rest t) ≡ more = drop-drop value rest t ∙ drop-drop (rest + value) start bytes ∙ ap (λ k. drop k bytes) (omega (arith, ends)) in
    record {
      within = omega (arith, ends, longer, length-drop rest t, long, length-drop start bytes, is.within);
      text =
          is.text ∙ ap (λ s. varint shared ++ varint rest ++ varint value ++ s) (sym (take-append-drop rest t) ∙ ap (λ s. r ++ s) (sym (take-append-drop value (drop rest t)) ∙ ap (λ s. v ++ s) behind))
          ∙ (λ i. varint shared ++ varint (sym (length-take-le rest t long) i) ++ varint (sym (length-take-le value (drop rest t) longer) i) ++ (r ++ (v ++ more)))
          ∙ sym (parts_apart shared r v more);
    }

-- bytes are the parts of one entry at most
pub record AreSame (shared other : ℕ) (rest rests value values more behind : List ℕ) : Type 0 where
  pub same_shared : shared ≡ other
  pub same_rest : rest ≡ rests
  pub same_value : value ≡ values
  pub same_more : more ≡ behind

pub parts_once : (shared other : ℕ) (rest rests value values more behind : List ℕ) → parts_text shared rest value ++ more ≡ parts_text other rests values ++ behind
    → AreSame shared other rest rests value values more behind
parts_once shared other rest rests value values more behind same =
    let apart = sym (parts_apart shared rest value more ∙ lengths_apart shared (length rest) (length value) (rest ++ (value ++ more))) ∙ same
    ∙ parts_apart other rests values behind ∙ lengths_apart other (length rests) (length values) (rests ++ (values ++ behind)) in
    let one = varint_once shared other (varint (length rest) ++ (varint (length value) ++ (rest ++ (value ++ more)))) (varint (length rests) ++ (varint (length values) ++ (rests ++ (values ++ behind)))) apart in
    let two = varint_once (length rest) (length rests) (varint (length value) ++ (rest ++ (value ++ more))) (varint (length values) ++ (rests ++ (values ++ behind))) one.1 in
    let three = varint_once (length value) (length values) (rest ++ (value ++ more)) (rests ++ (values ++ behind)) two.1 in
    let four = same_length rest rests (value ++ more) (values ++ behind) two.0 three.1 in
    let five = same_length value values more behind three.0 four.1 in
    record { same_shared = one.0; same_rest = four.0; same_value = five.0; same_more = five.1 }

-- where the parts of some entry stand, its lengths do and there is room
pub no_lengths : (bytes : List ℕ) (at shared : ℕ) (rest value more : List ℕ) → at ≤ length bytes → length bytes < 2 ^ 64
    → ((s r v : ℕ) (m : List ℕ) → s < 2 ^ 64 → r < 2 ^ 64 → v < 2 ^ 64 → drop at bytes ≡ varint s ++ varint r ++ varint v ++ m → ⊥)
    → shared < 2 ^ 64 → drop at bytes ≡ parts_text shared rest value ++ more → ⊥
no_lengths bytes at shared rest value more within small none fits text =
    let apart = text ∙ parts_apart shared rest value more in
    let size = ap (length {A = ℕ}) apart ∙ length-append (varint shared ++ varint (length rest) ++ varint (length value)) (rest ++ (value ++ more)) in
    none shared (length rest) (length value) (rest ++ (value ++ more)) fits
    (omega (arith, size, length-append rest (value ++ more), length-drop at bytes, small))
    (omega (arith, size, length-append rest (value ++ more), length-append value more, length-drop at bytes, small)) apart

behind_lengths : (bytes : List ℕ) (at s r v start shared : ℕ) (rest value more : List ℕ) → AreLengthsAt bytes at s r v start → drop at bytes ≡ parts_text shared rest value ++ more
    → (r ≡ length rest) × (v ≡ length value) × (drop start bytes ≡ rest ++ (value ++ more))
behind_lengths bytes at s r v start shared rest value more is text =
    let apart = sym (is.text ∙ lengths_apart s r v (drop start bytes)) ∙ text ∙ parts_apart shared rest value more ∙ lengths_apart shared (length rest) (length value) (rest ++ (value ++ more)) in
    let one = varint_once s shared (varint r ++ (varint v ++ drop start bytes)) (varint (length rest) ++ (varint (length value) ++ (rest ++ (value ++ more)))) apart in
    let two = varint_once r (length rest) (varint v ++ drop start bytes) (varint (length value) ++ (rest ++ (value ++ more))) one.1 in
    let three = varint_once v (length value) (drop start bytes) (rest ++ (value ++ more)) two.1 in
    (two.0, three.0, three.1)

pub no_rest : (bytes : List ℕ) (at s r v start shared : ℕ) (rest value more : List ℕ) → AreLengthsAt bytes at s r v start → length (drop start bytes) < r
    → drop at bytes ≡ parts_text shared rest value ++ more → ⊥
no_rest bytes at s r v start shared rest value more is short text =
    let b = behind_lengths bytes at s r v start shared rest value more is text in
    absurd (omega (arith, b.0, ap (length {A = ℕ}) b.2, length-append rest (value ++ more), short))

pub no_value : (bytes : List ℕ) (at s r v start shared : ℕ) (rest value more : List ℕ) → AreLengthsAt bytes at s r v start → length (drop r (drop start bytes)) < v
    → drop at bytes ≡ parts_text shared rest value ++ more → ⊥
no_value bytes at s r v start shared rest value more is short text =
    let b = behind_lengths bytes at s r v start shared rest value more is text in
    absurd (omega (arith, b.0, b.1, ap (length {A = ℕ}) b.2, length-append rest (value ++ more), length-append value more, length-drop r (drop start bytes), short))

-- one entry behind a key has a text at most
pub entry_once : (number : ℕ) (before : List ℕ) (d e : Entry) (x y : List ℕ) → entry_text number before d ++ x ≡ entry_text number before e ++ y → (d ≡ e) × (x ≡ y)
unfolding entry_text
entry_once number before d e x y same =
    let s : ℕ = shared_len number before d.key in
    let t : ℕ = shared_len number before e.key in
    let p = parts_once s t (drop s d.key) (drop t e.key) d.value e.value x y same in
    let key : d.key ≡ e.key = sym (key_joined number before d.key) ∙ (λ i. take (p.same_shared i) before ++ p.same_rest i) ∙ key_joined number before e.key in
    ((λ i. record { key = key i; value = p.same_value i }), p.same_more)

-- where nothing stands, no parts do
pub none_at_end : (bytes : List ℕ) (at shared : ℕ) (rest value more : List ℕ) → at ≡ length bytes → 1 ≤ length (parts_text shared rest value) → drop at bytes ≡ parts_text shared rest value ++ more → ⊥
none_at_end bytes at shared rest value more ends some text =
    absurd (omega (arith, ends, some, ap (length {A = ℕ}) text, length-drop at bytes, length-append (parts_text shared rest value) more))
