-- What the writer of an edit has written is the edit's text.
use Rattle.std.proofs.Common.{◌≡◌, ℕ, List, [], ◌∷◌, ◌++◌, refl, sym, ap, ◌∙◌, Option, Some, None}
use Rattle.std.specs.Prelude.{map}
use Rattle.std.specs.List.{flat_map}
use Rattle.std.proofs.lemmas.Grind.{flat_map-append}
use Rattle.std.proofs.lemmas.List.{append-nil}
use Rattle.lsm_bytes.specs.Varint.{varint}
use Rattle.lsm_version.specs.declared.edits.Edit.{Edit}
use Rattle.lsm_version.specs.declared.fields.Field.{Field}
use Rattle.lsm_version.specs.declared.fields.Field.TheVariants.{LogNumber, NextNumber, LastSequence, Added, Dropped}
use Rattle.lsm_version.specs.EditText.{field_text, given, edit_text}

pub log_text : (n : ℕ) → field_text (LogNumber n) ≡ 1 ∷ varint n
unfolding field_text
log_text n = refl

pub next_text : (n : ℕ) → field_text (NextNumber n) ≡ 2 ∷ varint n
unfolding field_text
next_text n = refl

pub last_text : (n : ℕ) → field_text (LastSequence n) ≡ 3 ∷ varint n
unfolding field_text
last_text n = refl

-- a number's field is written where there is one
given_text : (field : ℕ → Field) (tag : ℕ) (set : Option ℕ) (old new : List ℕ) → ((n : ℕ) → field_text (field n) ≡ tag ∷ varint n)
    → (set ≡ None → new ≡ old) → ((n : ℕ) → set ≡ Some n → new ≡ old ++ tag ∷ varint n)
    → new ≡ old ++ flat_map field_text (given field set)
given_text field tag None old new is none some = none refl ∙ sym (append-nil old)
given_text field tag (Some n) old new is none some =
    some n refl ∙ ap (λ (t : List ℕ). old ++ t) (sym (is n) ∙ sym (append-nil (field_text (field n))))

-- fields made of a list's members, one behind another
made : {A : Type 0} (field : A → Field) (xs : List A) → flat_map (λ x. field_text (field x)) xs ≡ flat_map field_text (map field xs)
made field [] = refl
made field (x ∷ xs) = ap (λ (t : List ℕ). field_text (field x) ++ t) (made field xs)

-- the writer's five steps make the text
pub written : (edit : Edit) (o a b c d e : List ℕ) → o ≡ []
    → (edit.log ≡ None → a ≡ o) → ((n : ℕ) → edit.log ≡ Some n → a ≡ o ++ 1 ∷ varint n)
    → (edit.next ≡ None → b ≡ a) → ((n : ℕ) → edit.next ≡ Some n → b ≡ a ++ 2 ∷ varint n)
    → (edit.last ≡ None → c ≡ b) → ((n : ℕ) → edit.last ≡ Some n → c ≡ b ++ 3 ∷ varint n)
    → d ≡ c ++ flat_map (λ add. field_text (Added add)) edit.adds
    → e ≡ d ++ flat_map (λ place. field_text (Dropped place)) edit.drops
    → e ≡ edit_text edit
unfolding edit_text
written edit o a b c d e begin log_none log_some next_none next_some last_none last_some adds drops =
    let one : List Field = given LogNumber edit.log in
    let two : List Field = given NextNumber edit.next in
    let three : List Field = given LastSequence edit.last in
    let four : List Field = map Added edit.adds in
    let five : List Field = map Dropped edit.drops in
    let first : a ≡ flat_map field_text one =
    given_text LogNumber 1 edit.log o a log_text log_none log_some ∙ ap (λ (t : List ℕ). t ++ flat_map field_text one) begin in
    let second : b ≡ flat_map field_text (one ++ two) =
    given_text NextNumber 2 edit.next a b next_text next_none next_some ∙ ap (λ (t : List ℕ). t ++ flat_map field_text two) first
    ∙ sym (flat_map-append field_text one two) in
    let third : c ≡ flat_map field_text (one ++ two ++ three) =
    given_text LastSequence 3 edit.last b c last_text last_none last_some ∙ ap (λ (t : List ℕ). t ++ flat_map field_text three) second
    ∙ sym (flat_map-append field_text (one ++ two) three) in
    let fourth : d ≡ flat_map field_text (one ++ two ++ three ++ four) =
    adds ∙ (λ i. third i ++ made Added edit.adds i) ∙ sym (flat_map-append field_text (one ++ two ++ three) four) in
    drops ∙ (λ i. fourth i ++ made Dropped edit.drops i) ∙ sym (flat_map-append field_text (one ++ two ++ three ++ four) five)
