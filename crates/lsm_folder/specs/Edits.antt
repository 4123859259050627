-- The edit that a text is, as a function. Such a text is read by its own counts and lengths, and the edit that they give
-- is taken where the text is its text.
use Rattle.std.specs.Prelude.{ℕ, ◌^◌, Bool, true, ◌&&◌, ◌||◌, ◌==◌, nat_lt, nat_le, if◌then◌else◌, List, [], ◌∷◌, length, take, drop, Option, Some, None, zero, suc}
use Rattle.std.specs.List.{fold}
use Rattle.std.specs.Str.{bytes_eq}
use Rattle.lsm_names.specs.Sessions.{is_session}
use Rattle.lsm_rows.specs.InternalKeys.{user_key}
use Rattle.lsm_rows.specs.Limits.{key_limit}
use Rattle.lsm_folder.specs.Batches.{number_ahead, sized_ahead}
use Rattle.lsm_version.specs.declared.tables.TableInfo.{TableInfo}
use Rattle.lsm_version.specs.declared.tables.Place.{Place}
use Rattle.lsm_version.specs.declared.edits.Edit.{Edit}
use Rattle.lsm_version.specs.declared.fields.Rank.{Rank}
use Rattle.lsm_version.specs.declared.fields.Field.{Field}
use Rattle.lsm_version.specs.declared.fields.Field.TheVariants.{LogNumber, NextNumber, LastSequence, Added, Dropped}
use Rattle.lsm_version.specs.EditText.{fields_of, edit_text}
use Rattle.lsm_version.specs.Edits.{last_level, last_number, rank_of, start}
use Rattle.lsm_version.specs.Reading.{with_field}
use Rattle.lsm_folder.specs.Keys.{is_internal_key}

-- the level and the number that bytes begin with, and the bytes behind them
abbrev pub place_ahead : List ℕ → Place × List ℕ
place_ahead bytes =
    let level : ℕ × List ℕ = number_ahead bytes in
    let number : ℕ × List ℕ = number_ahead level.1 in
    (record { level = level.0; number = number.0 }, number.1)

-- what bytes begin with that stand behind the level and the number of a table added, and the bytes behind it
abbrev pub added_ahead : Place × List ℕ → Field × List ℕ
added_ahead place =
    let size : ℕ × List ℕ = number_ahead (drop 20 place.1) in
    let smallest : List ℕ × List ℕ = sized_ahead size.1 in
    let largest : List ℕ × List ℕ = sized_ahead smallest.1 in
    let table : TableInfo = record {
      number = place.0.number;
      session = take 20 place.1;
      size = size.0;
      smallest = smallest.0;
      largest = largest.0;
    } in
    (Added (record { level = place.0.level; table = table }), largest.1)

-- the field that bytes begin with, and the bytes behind it
unfoldable pub field_ahead : List ℕ → Field × List ℕ
field_ahead [] = (LogNumber 0, [])
field_ahead (tag ∷ bytes) =
    if tag == 1 then (LogNumber (number_ahead bytes).0, (number_ahead bytes).1)
    else if tag == 2 then (NextNumber (number_ahead bytes).0, (number_ahead bytes).1)
    else if tag == 3 then (LastSequence (number_ahead bytes).0, (number_ahead bytes).1)
    else if tag == 4 then added_ahead (place_ahead bytes)
    else (Dropped (place_ahead bytes).0, (place_ahead bytes).1)

-- the fields that bytes are, so many at most
abbrev pub fields_ahead : ℕ → List ℕ → List Field
fields_ahead zero bytes = []
fields_ahead (suc more) [] = []
fields_ahead (suc more) (b ∷ bytes) = (field_ahead (b ∷ bytes)).0 ∷ fields_ahead more (field_ahead (b ∷ bytes)).1

-- the edit that a text claims to be
unfoldable pub claimed_edit : List ℕ → Edit
claimed_edit text = fold with_field (record { log = None; next = None; last = None; adds = []; drops = [] })
    (fields_ahead (length text) text)

-- ---- which edits there are, as a test

abbrev pub number_fits : ℕ → Bool
number_fits n = nat_le 1 n && nat_le n last_number

abbrev pub place_fits : ℕ → ℕ → Bool
place_fits level number = nat_le level last_level && number_fits number

-- an internal key whose user key is within its limit
abbrev pub key_fits : List ℕ → Bool
key_fits bytes = is_internal_key bytes && nat_le (length (user_key bytes)) key_limit

abbrev pub table_fits : TableInfo → Bool
table_fits table = is_session table.session && nat_lt table.size (2 ^ 64) && key_fits table.smallest && key_fits table.largest

-- the field's values are in their ranges
unfoldable pub field_fits : Field → Bool
field_fits (LogNumber n) = number_fits n
field_fits (NextNumber n) = nat_le 1 n && nat_lt n (2 ^ 56)
field_fits (LastSequence n) = nat_lt n (2 ^ 56)
field_fits (Added add) = place_fits add.level add.table.number && table_fits add.table
field_fits (Dropped place) = place_fits place.level place.number

-- one field comes before another: by tag, of one tag by level, and at one level by number
unfoldable pub comes_before : Rank → Rank → Bool
comes_before a b = nat_lt a.tag b.tag || (a.tag == b.tag && (nat_lt a.level b.level || (a.level == b.level && nat_lt a.number b.number)))

-- the fields are in their ranges and their order, all of them behind this rank
abbrev pub fields_fit : Rank → List Field → Bool
fields_fit after [] = true
fields_fit after (field ∷ fields) = (field_fits field && comes_before after (rank_of field)) && fields_fit (rank_of field) fields

-- the edit of which this is the text
unfoldable pub edit_of : List ℕ → Option Edit
edit_of text =
    let edit : Edit = claimed_edit text in
    if fields_fit start (fields_of edit) && bytes_eq text (edit_text edit) then Some edit else None
