-- An edit's text is read back as the edit, and no other text is.
use Rattle.std.specs.Prelude.{◌≡◌, ◌⊎◌, ℕ, zero, suc, ◌^◌, ◌≤◌, Bool, true, false, cond, ◌&&◌, ◌||◌, ◌==◌, nat_lt, nat_le, List, [], ◌∷◌, ◌++◌, length, take, drop, Option, Some, None}
use Rattle.std.proofs.Common.{refl, sym, ap, subst, ◌∙◌, arith, inl, inr, append_assoc, length-append}
use Rattle.std.proofs.lemmas.Bool.Decides.{nat_tests}
use Rattle.std.proofs.lemmas.List.{take_at, drop_at}
use Rattle.std.specs.List.{fold, flat_map}
use Rattle.std.specs.Str.{bytes_eq}
use Rattle.lsm_bytes.specs.Varint.{varint}
use Rattle.lsm_names.specs.Sessions.{is_session}
use Rattle.lsm_rows.specs.BatchText.{sized}
use Rattle.lsm_rows.specs.InternalKeys.{user_key}
use Rattle.lsm_rows.specs.Limits.{key_limit}
use Rattle.lsm_folder.specs.Batches.{number_ahead, sized_ahead}
use Rattle.lsm_folder.proofs.NameLemmas.{same_text, equal_texts, and_true}
use Rattle.lsm_version.specs.declared.tables.TableInfo.{TableInfo}
use Rattle.lsm_version.specs.declared.tables.Add.{Add}
use Rattle.lsm_version.specs.declared.tables.Place.{Place}
use Rattle.lsm_version.specs.declared.edits.Edit.{Edit}
use Rattle.lsm_version.specs.declared.fields.Rank.{Rank}
use Rattle.lsm_version.specs.declared.fields.Field.{Field}
use Rattle.lsm_version.specs.declared.fields.Field.TheVariants.{LogNumber, NextNumber, LastSequence, Added, Dropped}
use Rattle.lsm_version.specs.EditText.{place_text, rest_text, field_text, fields_of, edit_text}
use Rattle.lsm_version.specs.Edits.{last_level, last_number, IsFileNumber, IsKey, IsTable, IsPlace, InRange, rank_of, Before, start, AreFields, IsEdit, IsEditText}
use Rattle.lsm_version.specs.Reading.{with_field}
use Rattle.lsm_version.proofs.FieldLists.{fields_make}
use Rattle.lsm_folder.specs.Keys.{is_internal_key}
use Rattle.lsm_folder.specs.Edits.{place_ahead, added_ahead, field_ahead, fields_ahead, claimed_edit, number_fits, place_fits, key_fits, table_fits, field_fits, comes_before, fields_fit, edit_of}
use Rattle.lsm_folder.proofs.AheadLemmas.{number_back, sized_back, at_most, within, less_than}
use Rattle.lsm_folder.proofs.KeyLemmas.{user_is, key_tested, tested_key}
use Rattle.std.proofs.lemmas.Option.{same_Some}
use Rattle.std.proofs.lemmas.Bool.{and_parts}
use Rattle.lsm_names.proofs.SessionLemmas.{length_of_session}
use Rattle.lsm_rows.proofs.ReplayedRows.{lesser}
use Rattle.lsm_version.proofs.Texts.{rest_split}

-- ---- fields

abbrev behind_level : ℕ × List ℕ → Place × List ℕ
behind_level level = (record { level = level.0; number = (number_ahead level.1).0 }, (number_ahead level.1).1)

place_back : (level number : ℕ) (rest : List ℕ)
    → place_ahead (place_text level number ++ rest) ≡ (record { level = level; number = number }, rest)
unfolding place_text
place_back level number rest =
    ap behind_level
    (ap number_ahead (append_assoc (varint level) (varint number) rest) ∙ number_back level (varint number ++ rest))
    ∙ ap (λ (n : ℕ × List ℕ). (record { level = level; number = n.0 }, n.1)) (number_back number rest)

module _ (add : Add) (rest : List ℕ) (twenty : length add.table.session ≡ 20) where
  abbrev table : TableInfo
  table = add.table

  abbrev behind_largest : List ℕ → ℕ → List ℕ → List ℕ × List ℕ → Field × List ℕ
  behind_largest session size smallest largest =
      (Added (record { level = add.level; table = record { number = table.number; session = session; size = size; smallest = smallest; largest = largest.0 } }), largest.1)

  abbrev behind_smallest : List ℕ → ℕ → List ℕ × List ℕ → Field × List ℕ
  behind_smallest session size smallest = behind_largest session size smallest.0 (sized_ahead smallest.1)

  abbrev behind_size : List ℕ → ℕ × List ℕ → Field × List ℕ
  behind_size session size = behind_smallest session size.0 (sized_ahead size.1)

  abbrev behind_session : List ℕ → Field × List ℕ
  behind_session bytes = behind_size (take 20 bytes) (number_ahead (drop 20 bytes))

  added_back : added_ahead (record { level = add.level; number = table.number }, rest_text table ++ rest) ≡ (Added add, rest)
  added_back =
      let more : List ℕ = varint table.size ++ (sized table.smallest ++ (sized table.largest ++ rest)) in
      ap behind_session (rest_split table rest)
      ∙ (λ i. behind_size (take_at table.session more 20 twenty i) (number_ahead (drop_at table.session more 20 twenty i)))
      ∙ ap (behind_size table.session) (number_back table.size (sized table.smallest ++ (sized table.largest ++ rest)))
      ∙ ap (behind_smallest table.session table.size) (sized_back table.smallest (sized table.largest ++ rest))
      ∙ ap (behind_largest table.session table.size table.smallest) (sized_back table.largest rest)

field_back : (field : Field) (rest : List ℕ) → InRange field → field_ahead (field_text field ++ rest) ≡ (field, rest)
unfolding field_text field_ahead InRange
field_back (LogNumber n) rest range = ap (λ (r : ℕ × List ℕ). (LogNumber r.0, r.1)) (number_back n rest)
field_back (NextNumber n) rest range = ap (λ (r : ℕ × List ℕ). (NextNumber r.0, r.1)) (number_back n rest)
field_back (LastSequence n) rest range = ap (λ (r : ℕ × List ℕ). (LastSequence r.0, r.1)) (number_back n rest)
field_back (Added add) rest range =
    ap (λ (bytes : List ℕ). added_ahead (place_ahead bytes))
    (append_assoc (place_text add.level add.table.number) (rest_text add.table) rest)
    ∙ ap added_ahead (place_back add.level add.table.number (rest_text add.table ++ rest))
    ∙ added_back add rest (length_of_session add.table.session range.1.session)
field_back (Dropped place) rest range =
    ap (λ (r : Place × List ℕ). (Dropped r.0, r.1)) (place_back place.level place.number rest)

field_some : (field : Field) (rest : List ℕ) → suc (length rest) ≤ length (field_text field ++ rest)
unfolding field_text
field_some (LogNumber n) rest = omega (arith, length-append (varint n) rest)
field_some (NextNumber n) rest = omega (arith, length-append (varint n) rest)
field_some (LastSequence n) rest = omega (arith, length-append (varint n) rest)
field_some (Added add) rest = omega (arith, length-append (place_text add.level add.table.number ++ rest_text add.table) rest)
field_some (Dropped place) rest = omega (arith, length-append (place_text place.level place.number) rest)

fields_end : (fuel : ℕ) → fields_ahead fuel [] ≡ []
fields_end zero = refl
fields_end (suc fuel) = refl

fields_step : (fuel : ℕ) (bytes : List ℕ) → 1 ≤ length bytes
    → fields_ahead (suc fuel) bytes ≡ (field_ahead bytes).0 ∷ fields_ahead fuel (field_ahead bytes).1
fields_step fuel [] some = absurd (omega (arith, some))
fields_step fuel (b ∷ bytes) some = refl

fields_back : (fuel : ℕ) (after : Rank) (fields : List Field) → AreFields after fields
    → length (flat_map field_text fields) ≤ fuel → fields_ahead fuel (flat_map field_text fields) ≡ fields
unfolding AreFields
fields_back fuel after [] are fits = fields_end fuel
fields_back zero after (field ∷ fields) are fits = absurd (omega (arith, fits, field_some field (flat_map field_text fields)))
fields_back (suc fuel) after (field ∷ fields) are fits =
    let more : List ℕ = flat_map field_text fields in
    let some = field_some field more in
    fields_step fuel (field_text field ++ more) (omega (arith, some))
    ∙ ap (λ (r : Field × List ℕ). r.0 ∷ fields_ahead fuel r.1) (field_back field more are.0.range)
    ∙ ap (λ (l : List Field). field ∷ l) (fields_back fuel (rank_of field) fields are.1 (omega (arith, some, fits)))

claimed_back : (edit : Edit) → IsEdit edit → claimed_edit (edit_text edit) ≡ edit
unfolding claimed_edit edit_text
claimed_back edit is =
    let text : List ℕ = flat_map field_text (fields_of edit) in
    ap (fold with_field (record { log = None; next = None; last = None; adds = []; drops = [] }))
    (fields_back (length text) start (fields_of edit) is.fields (omega arith))
    ∙ fields_make edit

-- ---- which fields there are

number_tested : (n : ℕ) → IsFileNumber n → number_fits n ≡ true
number_tested n is = and_true _ _ (within 1 n is.some) (within n last_number is.most)

tested_number : (n : ℕ) → number_fits n ≡ true → IsFileNumber n
tested_number n h =
    let parts = and_parts (nat_le 1 n) (nat_le n last_number) h in
    record { some = at_most 1 n parts.0; most = at_most n last_number parts.1 }

place_tested : (level number : ℕ) → IsPlace level number → place_fits level number ≡ true
place_tested level number is = and_true _ _ (within level last_level is.level_is) (number_tested number is.number_is)

tested_place : (level number : ℕ) → place_fits level number ≡ true → IsPlace level number
tested_place level number h =
    let parts = and_parts (nat_le level last_level) (number_fits number) h in
    record { level_is = at_most level last_level parts.0; number_is = tested_number number parts.1 }

key_fits_so : (bytes : List ℕ) → IsKey bytes → key_fits bytes ≡ true
key_fits_so bytes is =
    let low : length (user_key bytes) ≤ key_limit =
    omega (arith, ap (length {A = ℕ}) (user_is bytes is.key is.sequence is.kind is.parts), is.fits) in
    and_true _ _ (key_tested bytes is.key is.sequence is.kind is.parts) (within (length (user_key bytes)) key_limit low)

fitting_key : (bytes : List ℕ) → key_fits bytes ≡ true → IsKey bytes
fitting_key bytes h =
    let parts = and_parts (is_internal_key bytes) (nat_le (length (user_key bytes)) key_limit) h in
    let key = tested_key bytes parts.0 in
    record {
      key = key.user;
      sequence = key.sequence;
      kind = key.kind;
      parts = key.is;
      fits = omega (arith, ap (length {A = ℕ}) (user_is bytes key.user key.sequence key.kind key.is), at_most (length (user_key bytes)) key_limit parts.1);
    }

table_tested : (table : TableInfo) → IsTable table → table_fits table ≡ true
table_tested table is =
    and_true _ _
    (and_true _ _ (and_true _ _ is.session (lesser table.size (2 ^ 64) is.size)) (key_fits_so table.smallest is.smallest))
    (key_fits_so table.largest is.largest)

tested_table : (table : TableInfo) → table_fits table ≡ true → IsTable table
tested_table table h =
    let session : Bool = is_session table.session in
    let size : Bool = nat_lt table.size (2 ^ 64) in
    let one = and_parts (session && size && key_fits table.smallest) (key_fits table.largest) h in
    let two = and_parts (session && size) (key_fits table.smallest) one.0 in
    let three = and_parts session size two.0 in
    record { session = three.0; size = less_than table.size (2 ^ 64) three.1; smallest = fitting_key table.smallest two.1; largest = fitting_key table.largest one.1 }

field_tested : (field : Field) → InRange field → field_fits field ≡ true
unfolding field_fits InRange
field_tested (LogNumber n) is = number_tested n is
field_tested (NextNumber n) is = and_true _ _ (within 1 n is.0) (lesser n (2 ^ 56) is.1)
field_tested (LastSequence n) is = lesser n (2 ^ 56) is
field_tested (Added add) is = and_true _ _ (place_tested add.level add.table.number is.0) (table_tested add.table is.1)
field_tested (Dropped place) is = place_tested place.level place.number is

tested_field : (field : Field) → field_fits field ≡ true → InRange field
unfolding field_fits InRange
tested_field (LogNumber n) h = tested_number n h
tested_field (NextNumber n) h =
    let parts = and_parts (nat_le 1 n) (nat_lt n (2 ^ 56)) h in (at_most 1 n parts.0, less_than n (2 ^ 56) parts.1)
tested_field (LastSequence n) h = less_than n (2 ^ 56) h
tested_field (Added add) h = let parts = and_parts (place_fits add.level add.table.number) (table_fits add.table) h in (tested_place add.level add.table.number parts.0, tested_table add.table parts.1)
tested_field (Dropped place) h = tested_place place.level place.number h

-- ---- their order

or_left : (a b : Bool) → a ≡ true → (a || b) ≡ true
or_left true b h = refl
or_left false b h = cc

or_right : (a b : Bool) → b ≡ true → (a || b) ≡ true
or_right true b h = refl
or_right false b h = h

or_cases : (a b : Bool) → (a || b) ≡ true → (a ≡ true) ⊎ (b ≡ true)
or_cases true b h = inl refl
or_cases false b h = inr h

number_same : (m n : ℕ) → (m == n) ≡ true → m ≡ n
number_same m n is = grind (arith, nat_tests)

same_number : (m n : ℕ) → m ≡ n → (m == n) ≡ true
same_number m n is = grind (arith, nat_tests)

before_tested : (a b : Rank) → Before a b → comes_before a b ≡ true
unfolding Before comes_before
before_tested a b (inl tag) = or_left _ _ (lesser a.tag b.tag tag)
before_tested a b (inr (tag, inl level)) =
    or_right _ _ (and_true _ _ (same_number a.tag b.tag tag) (or_left _ _ (lesser a.level b.level level)))
before_tested a b (inr (tag, inr (level, number))) =
    or_right _ _ (and_true _ _ (same_number a.tag b.tag tag) (or_right _ _ (and_true _ _ (same_number a.level b.level level) (lesser a.number b.number number))))

number_after : (a b : Rank) → a.tag ≡ b.tag
    → (nat_lt a.level b.level ≡ true) ⊎ ((a.level == b.level && nat_lt a.number b.number) ≡ true) → Before a b
unfolding Before
number_after a b tag (inl level) = inr (tag, inl (less_than a.level b.level level))
number_after a b tag (inr h) =
    let parts = and_parts (a.level == b.level) (nat_lt a.number b.number) h in
    inr (tag, inr (number_same a.level b.level parts.0, less_than a.number b.number parts.1))

level_after : (a b : Rank) → (nat_lt a.tag b.tag ≡ true) ⊎ ((a.tag == b.tag && (nat_lt a.level b.level || (a.level == b.level && nat_lt a.number b.number))) ≡ true) → Before a b
unfolding Before
level_after a b (inl tag) = inl (less_than a.tag b.tag tag)
level_after a b (inr h) =
    let parts = and_parts (a.tag == b.tag) (nat_lt a.level b.level || (a.level == b.level && nat_lt a.number b.number)) h in
    number_after a b (number_same a.tag b.tag parts.0)
    (or_cases (nat_lt a.level b.level) (a.level == b.level && nat_lt a.number b.number) parts.1)

tested_before : (a b : Rank) → comes_before a b ≡ true → Before a b
unfolding comes_before
tested_before a b h = level_after a b (or_cases (nat_lt a.tag b.tag) (a.tag == b.tag && (nat_lt a.level b.level || (a.level == b.level && nat_lt a.number b.number))) h)

fields_tested : (after : Rank) (fields : List Field) → AreFields after fields → fields_fit after fields ≡ true
unfolding AreFields
fields_tested after [] are = refl
fields_tested after (field ∷ fields) are =
    and_true _ _ (and_true _ _ (field_tested field are.0.range) (before_tested after (rank_of field) are.0.behind))
    (fields_tested (rank_of field) fields are.1)

pub tested_fields : (after : Rank) (fields : List Field) → fields_fit after fields ≡ true → AreFields after fields
unfolding AreFields
tested_fields after [] h = tt
tested_fields after (field ∷ fields) h =
    let one = and_parts (field_fits field && comes_before after (rank_of field)) (fields_fit (rank_of field) fields) h in
    let two = and_parts (field_fits field) (comes_before after (rank_of field)) one.0 in
    (record { range = tested_field field two.0; behind = tested_before after (rank_of field) two.1 }, tested_fields (rank_of field) fields one.1)

-- ---- edits

abbrev taken : List ℕ → Edit → Option Edit
taken text edit = cond (fields_fit start (fields_of edit) && bytes_eq text (edit_text edit)) (Some edit) None

pub edit_back : (text : List ℕ) (edit : Edit) → IsEditText text edit → edit_of text ≡ Some edit
unfolding edit_of
edit_back text edit is =
    ap (taken text) (ap claimed_edit is.is ∙ claimed_back edit is.edit_is)
    ∙ ap (λ (b : Bool). cond b (Some edit) None)
    (and_true _ _ (fields_tested start (fields_of edit) is.edit_is.fields) (ap (bytes_eq text) (sym is.is) ∙ same_text text))

-- only an edit's text gives the edit
pub edit_only : (text : List ℕ) (edit : Edit) → edit_of text ≡ Some edit → IsEditText text edit
unfolding edit_of
edit_only text edit h =
    let found : Edit = claimed_edit text in
    elim (fields_fit start (fields_of found) && bytes_eq text (edit_text found)) as (λ b. (fields_fit start (fields_of found) && bytes_eq text (edit_text found)) ≡ b → cond b (Some found) None ≡ Some edit → IsEditText text edit) [
      | true ↦ λ is e.
          let parts = and_parts (fields_fit start (fields_of found)) (bytes_eq text (edit_text found)) is in
          subst (IsEditText text) (same_Some found edit e) (record { is = equal_texts text (edit_text found) parts.1; edit_is = record { fields = tested_fields start (fields_of found) parts.0 } })
      | false ↦ λ is e. cc
    ] refl h
