-- The text of an edit, as manifests keep it: its fields one behind another, each a tag byte and the field's parts.
use Rattle.std.specs.Prelude.{ℕ, List, [], ◌∷◌, ◌++◌, map, Option, Some, None}
use Rattle.std.specs.List.{flat_map}
use Rattle.lsm_bytes.specs.Varint.{varint}
use Rattle.lsm_rows.specs.BatchText.{sized}
use Rattle.lsm_version.specs.declared.tables.TableInfo.{TableInfo}
use Rattle.lsm_version.specs.declared.edits.Edit.{Edit}
use Rattle.lsm_version.specs.declared.fields.Field.{Field}
use Rattle.lsm_version.specs.declared.fields.Field.TheVariants.{LogNumber, NextNumber, LastSequence, Added, Dropped}

-- a level and a number, as varints
unfoldable pub place_text : ℕ → ℕ → List ℕ
place_text level number = varint level ++ varint number

-- what stands behind a table's level and number: the session, the size as a varint, and the least and the greatest
-- internal key, each with its length before it
unfoldable pub rest_text : TableInfo → List ℕ
rest_text table = table.session ++ varint table.size ++ sized table.smallest ++ sized table.largest

-- a field: its tag, and its parts
unfoldable pub field_text : Field → List ℕ
field_text (LogNumber n) = 1 ∷ varint n
field_text (NextNumber n) = 2 ∷ varint n
field_text (LastSequence n) = 3 ∷ varint n
field_text (Added add) = 4 ∷ place_text add.level add.table.number ++ rest_text add.table
field_text (Dropped place) = 5 ∷ place_text place.level place.number

-- the fields that an edit's numbers make: none, or one
abbrev pub given : (ℕ → Field) → Option ℕ → List Field
given field None = []
given field (Some n) = field n ∷ []

-- an edit's fields, by their tags ascending
abbrev pub fields_of : Edit → List Field
fields_of edit =
    given LogNumber edit.log ++ given NextNumber edit.next ++ given LastSequence edit.last
    ++ map Added edit.adds ++ map Dropped edit.drops

-- the fields, one behind another
unfoldable pub edit_text : Edit → List ℕ
edit_text edit = flat_map field_text (fields_of edit)
