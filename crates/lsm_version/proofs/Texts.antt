-- No field's text begins another's, so a text is of one list of fields.
use Rattle.std.proofs.Common.{◌≡◌, ℕ, List, [], ◌∷◌, ◌++◌, refl, sym, ap, ◌∙◌, append_assoc, true}
use Rattle.std.specs.List.{flat_map}
use Rattle.lsm_bytes.specs.Varint.{varint}
use Rattle.lsm_names.specs.Sessions.{is_session}
use Rattle.lsm_rows.specs.BatchText.{sized}
use Rattle.lsm_rows.proofs.Prefixes.{varint_once, same_length, sized_once}
use Rattle.lsm_version.specs.declared.tables.TableInfo.{TableInfo}
use Rattle.lsm_version.specs.declared.tables.Add.{Add}
use Rattle.lsm_version.specs.declared.tables.Place.{Place}
use Rattle.lsm_version.specs.declared.edits.Edit.{Edit}
use Rattle.lsm_version.specs.declared.fields.Rank.{Rank}
use Rattle.lsm_version.specs.declared.fields.Field.{Field}
use Rattle.lsm_version.specs.declared.fields.Field.TheVariants.{LogNumber, NextNumber, LastSequence, Added, Dropped}
use Rattle.lsm_version.specs.EditText.{place_text, rest_text, field_text, fields_of, edit_text}
use Rattle.lsm_version.specs.Edits.{IsTable, InRange, AreFields, rank_of, start, IsEditText}
use Rattle.lsm_version.proofs.FieldLists.{fields_only}
use Rattle.lsm_names.proofs.SessionLemmas.{length_of_session}

pub place_once : (level number level' number' : ℕ) (x y : List ℕ) → place_text level number ++ x ≡ place_text level' number' ++ y
    → (level ≡ level') × (number ≡ number') × (x ≡ y)
unfolding place_text
place_once level number level' number' x y same =
    let one = varint_once level level' (varint number ++ x) (varint number' ++ y) (sym (append_assoc (varint level) (varint number) x) ∙ same ∙ append_assoc (varint level') (varint number') y) in
    let two = varint_once number number' x y one.1 in
    (one.0, two.0, two.1)

-- what stands behind a table's level and number
pub record IsSameRest (a b : TableInfo) (x y : List ℕ) : Type 0 where
  pub session : a.session ≡ b.session
  pub size : a.size ≡ b.size
  pub smallest : a.smallest ≡ b.smallest
  pub largest : a.largest ≡ b.largest
  pub more : x ≡ y

pub rest_split : (a : TableInfo) (x : List ℕ) → rest_text a ++ x ≡ a.session ++ (varint a.size ++ (sized a.smallest ++ (sized a.largest ++ x)))
unfolding rest_text
rest_split a x = simp append_assoc

pub rest_is : (a : TableInfo) → rest_text a ≡ a.session ++ (varint a.size ++ (sized a.smallest ++ sized a.largest))
unfolding rest_text
rest_is a = simp append_assoc

pub rest_once : (a b : TableInfo) (x y : List ℕ) → is_session a.session ≡ true → is_session b.session ≡ true → rest_text a ++ x ≡ rest_text b ++ y → IsSameRest a b x y
rest_once a b x y is other same =
    let one = same_length a.session b.session (varint a.size ++ (sized a.smallest ++ (sized a.largest ++ x))) (varint b.size ++ (sized b.smallest ++ (sized b.largest ++ y)))
    (length_of_session a.session is ∙ sym (length_of_session b.session other)) (sym (rest_split a x) ∙ same ∙ rest_split b y) in
    let two = varint_once a.size b.size (sized a.smallest ++ (sized a.largest ++ x)) (sized b.smallest ++ (sized b.largest ++ y)) one.1 in
    let three = sized_once a.smallest b.smallest (sized a.largest ++ x) (sized b.largest ++ y) two.1 in
    let four = sized_once a.largest b.largest x y three.1 in
    record { session = one.0; size = two.0; smallest = three.0; largest = four.0; more = four.1 }

add_once : (a b : Add) (x y : List ℕ) → IsTable a.table → IsTable b.table
    → (place_text a.level a.table.number ++ rest_text a.table) ++ x ≡ (place_text b.level b.table.number ++ rest_text b.table) ++ y → (a ≡ b) × (x ≡ y)
add_once a b x y is other same =
    let one = place_once a.level a.table.number b.level b.table.number (rest_text a.table ++ x) (rest_text b.table ++ y)
    (sym (append_assoc (place_text a.level a.table.number) (rest_text a.table) x) ∙ same ∙ append_assoc (place_text b.level b.table.number) (rest_text b.table) y) in
    let two : IsSameRest a.table b.table x y = rest_once a.table b.table x y is.session other.session one.2 in
    ((λ i. record { level = one.0 i; table = record { number = one.1 i; session = two.session i; size = two.size i; smallest = two.smallest i; largest = two.largest i } }), two.more)

drop_once : (a b : Place) (x y : List ℕ) → place_text a.level a.number ++ x ≡ place_text b.level b.number ++ y → (a ≡ b) × (x ≡ y)
drop_once a b x y same =
    let one = place_once a.level a.number b.level b.number x y same in
    ((λ i. record { level = one.0 i; number = one.1 i }), one.2)

pub field_once : (a b : Field) (x y : List ℕ) → InRange a → InRange b → field_text a ++ x ≡ field_text b ++ y → (a ≡ b) × (x ≡ y)
unfolding field_text InRange
field_once (LogNumber m) (LogNumber n) x y is other same =
    let tail : varint m ++ x ≡ varint n ++ y = cc in
    let one = varint_once m n x y tail in
    (ap LogNumber one.0, one.1)
field_once (LogNumber m) (NextNumber n) x y is other same = cc
field_once (LogNumber m) (LastSequence n) x y is other same = cc
field_once (LogNumber m) (Added b) x y is other same = cc
field_once (LogNumber m) (Dropped b) x y is other same = cc
field_once (NextNumber m) (LogNumber n) x y is other same = cc
field_once (NextNumber m) (NextNumber n) x y is other same =
    let tail : varint m ++ x ≡ varint n ++ y = cc in
    let one = varint_once m n x y tail in
    (ap NextNumber one.0, one.1)
field_once (NextNumber m) (LastSequence n) x y is other same = cc
field_once (NextNumber m) (Added b) x y is other same = cc
field_once (NextNumber m) (Dropped b) x y is other same = cc
field_once (LastSequence m) (LogNumber n) x y is other same = cc
field_once (LastSequence m) (NextNumber n) x y is other same = cc
field_once (LastSequence m) (LastSequence n) x y is other same =
    let tail : varint m ++ x ≡ varint n ++ y = cc in
    let one = varint_once m n x y tail in
    (ap LastSequence one.0, one.1)
field_once (LastSequence m) (Added b) x y is other same = cc
field_once (LastSequence m) (Dropped b) x y is other same = cc
field_once (Added a) (LogNumber n) x y is other same = cc
field_once (Added a) (NextNumber n) x y is other same = cc
field_once (Added a) (LastSequence n) x y is other same = cc
field_once (Added a) (Added b) x y is other same =
    let tail : (place_text a.level a.table.number ++ rest_text a.table) ++ x ≡ (place_text b.level b.table.number ++ rest_text b.table) ++ y = cc in
    let one = add_once a b x y is.1 other.1 tail in
    (ap Added one.0, one.1)
field_once (Added a) (Dropped b) x y is other same = cc
field_once (Dropped a) (LogNumber n) x y is other same = cc
field_once (Dropped a) (NextNumber n) x y is other same = cc
field_once (Dropped a) (LastSequence n) x y is other same = cc
field_once (Dropped a) (Added b) x y is other same = cc
field_once (Dropped a) (Dropped b) x y is other same =
    let tail : place_text a.level a.number ++ x ≡ place_text b.level b.number ++ y = cc in
    let one = drop_once a b x y tail in
    (ap Dropped one.0, one.1)

-- a field has one byte at least
pub field_some : (f : Field) (x : List ℕ) → field_text f ++ x ≡ [] → ⊥
unfolding field_text
field_some (LogNumber m) x same = cc
field_some (NextNumber m) x same = cc
field_some (LastSequence m) x same = cc
field_some (Added a) x same = cc
field_some (Dropped a) x same = cc

pub fields_once : (a b : List Field) (after after' : Rank) → AreFields after a → AreFields after' b → flat_map field_text a ≡ flat_map field_text b → a ≡ b
unfolding AreFields
fields_once [] [] after after' are others same = refl
fields_once [] (g ∷ b) after after' are others same = absurd (field_some g (flat_map field_text b) (sym same))
fields_once (f ∷ a) [] after after' are others same = absurd (field_some f (flat_map field_text a) same)
fields_once (f ∷ a) (g ∷ b) after after' are others same =
    let one = field_once f g (flat_map field_text a) (flat_map field_text b) are.0.range others.0.range same in
    let rest = fields_once a b (rank_of f) (rank_of g) are.1 others.1 one.1 in
    λ i. one.0 i ∷ rest i

pub edit_text-is : (edit : Edit) → edit_text edit ≡ flat_map field_text (fields_of edit)
unfolding edit_text
edit_text-is edit = refl

pub edit_once : (text : List ℕ) (edit other : Edit) → IsEditText text edit → IsEditText text other → edit ≡ other
edit_once text edit other is also =
    fields_only edit other (fields_once (fields_of edit) (fields_of other) start start is.edit_is.fields also.edit_is.fields
    (sym (edit_text-is edit) ∙ sym is.is ∙ also.is ∙ edit_text-is other))
