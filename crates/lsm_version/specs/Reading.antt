-- How an edit's text is read: its pieces, and where bytes stop being one.
use Rattle.std.specs.Prelude.{◌≡◌, ◌⊎◌, ℕ, ◌+◌, ◌*◌, ◌<◌, ◌≤◌, List, [], ◌∷◌, ◌++◌, length, drop, true, Some}
use Rattle.lsm_names.specs.Sessions.{is_session}
use Rattle.lsm_rows.specs.BatchText.{sized}
use Rattle.lsm_rows.specs.Pieces.{Begins, IsFault}
use Rattle.lsm_version.specs.declared.tables.TableInfo.{TableInfo}
use Rattle.lsm_version.specs.declared.tables.Place.{Place}
use Rattle.lsm_version.specs.declared.fields.Rank.{Rank}
use Rattle.lsm_version.specs.declared.fields.Field.{Field}
use Rattle.lsm_version.specs.declared.fields.Field.TheVariants.{LogNumber, NextNumber, LastSequence, Added, Dropped}
use Rattle.lsm_version.specs.declared.edits.Edit.{Edit}
use Rattle.lsm_version.specs.declared.refusals.EditError.{EditError}
use Rattle.lsm_version.specs.declared.refusals.EditError.TheVariants.{BadEdit, NoMemory}
use Rattle.lsm_version.specs.EditText.{place_text, rest_text, field_text}
use Rattle.lsm_version.specs.Edits.{IsKey, IsTable, IsPlace, PlaceBefore, Before, IsNext, last_level, last_number}

-- The least number of 128s, one at least, with which `low` reaches `least`.
pub record IsLeastHigh (least low high : ℕ) : Type 0 where
  pub some : 1 ≤ high
  pub reaches : least ≤ low + 128 * high
  pub first : (h : ℕ) → 1 ≤ h → least ≤ low + 128 * h → high ≤ h

-- the bytes from a place on aren't what a reader wants ahead, and this is the first place of the fault
pub record IsFaultAt (Whole Ahead : List ℕ → Type 0) (bytes : List ℕ) (at place : ℕ) : Type 0 where
  pub skipped : ℕ
  pub placed : place ≡ at + skipped
  pub fault : IsFault Whole Ahead (drop at bytes) skipped

-- why nothing was read: by a fault; or memory was wanting, which says nothing of the bytes
unfoldable pub IsBadAt : (List ℕ → Type 0) → (List ℕ → Type 0) → List ℕ → ℕ → EditError → Type 0
IsBadAt Whole Ahead bytes at (BadEdit place) = IsFaultAt Whole Ahead bytes at place
IsBadAt Whole Ahead bytes at NoMemory = Unit {0}

-- a place behind which another can come
pub record HasNext (behind : Place) : Type 0 where
  pub level : behind.level ≤ last_level
  pub number : behind.number ≤ last_number
  pub more : (behind.level < last_level) ⊎ (behind.number < last_number)

-- the text of a level and a number behind these
pub record IsPlaceIn (behind : Place) (piece : List ℕ) : Type 0 where
  pub level : ℕ
  pub number : ℕ
  pub spelled : piece ≡ place_text level number
  pub place_is : IsPlace level number
  pub after : PlaceBefore behind.level behind.number level number

-- such a text stands at a place, and ends at the next
pub record IsPlaceAt (bytes : List ℕ) (at : ℕ) (behind place : Place) (next : ℕ) : Type 0 where
  pub place_is : IsPlace place.level place.number
  pub after : PlaceBefore behind.level behind.number place.level place.number
  pub ends : next ≡ at + length (place_text place.level place.number)
  pub within : next ≤ length bytes
  pub text : drop at bytes ≡ place_text place.level place.number ++ drop next bytes

-- a session's name
pub record IsSessionIn (piece : List ℕ) : Type 0 where
  pub good : is_session piece ≡ true

-- such a name stands at a place
pub record IsSessionAt (bytes : List ℕ) (at : ℕ) (session : List ℕ) : Type 0 where
  pub good : is_session session ≡ true
  pub within : at + 20 ≤ length bytes
  pub text : drop at bytes ≡ session ++ drop (at + 20) bytes

-- an internal key, with its length before it
pub record IsKeyIn (piece : List ℕ) : Type 0 where
  pub value : List ℕ
  pub spelled : piece ≡ sized value
  pub key_is : IsKey value

-- such a key stands at a place, and ends at the next
pub record IsKeyAt (bytes : List ℕ) (at : ℕ) (value : List ℕ) (next : ℕ) : Type 0 where
  pub key_is : IsKey value
  pub ends : next ≡ at + length (sized value)
  pub within : next ≤ length bytes
  pub text : drop at bytes ≡ sized value ++ drop next bytes

-- what stands behind a table's level and number
pub record IsTableIn (piece : List ℕ) : Type 0 where
  pub table : TableInfo
  pub spelled : piece ≡ rest_text table
  pub table_is : IsTable table

-- such a text stands at a place, and ends at the next
pub record IsTableAt (bytes : List ℕ) (at : ℕ) (table : TableInfo) (next : ℕ) : Type 0 where
  pub table_is : IsTable table
  pub ends : next ≡ at + length (rest_text table)
  pub within : next ≤ length bytes
  pub text : drop at bytes ≡ rest_text table ++ drop next bytes

-- the rank of a field of a table
abbrev pub rank_at : ℕ → ℕ → ℕ → Rank
rank_at tag level number = record { tag = tag; level = level; number = number }

-- a rank that a field may have, or that of the start
pub record IsRank (rank : Rank) : Type 0 where
  pub level : rank.level ≤ last_level
  pub number : rank.number ≤ last_number

-- A table's field of this tag comes behind what has this rank exactly where its place comes behind this one.
pub record IsBehind (tag : ℕ) (after : Rank) (behind : Place) : Type 0 where
  pub more : HasNext behind
  pub makes : (level number : ℕ) → PlaceBefore behind.level behind.number level number → Before after (rank_at tag level number)
  pub needs : (level number : ℕ) → IsPlace level number → Before after (rank_at tag level number)
      → PlaceBefore behind.level behind.number level number

-- the text of a field that may stand behind what has this rank
pub record IsFieldIn (after : Rank) (piece : List ℕ) : Type 0 where
  pub field : Field
  pub spelled : piece ≡ field_text field
  pub next : IsNext after field

-- such a text stands at a place, and ends at the next
pub record IsFieldAt (bytes : List ℕ) (at : ℕ) (after : Rank) (field : Field) (next : ℕ) : Type 0 where
  pub may : IsNext after field
  pub ends : next ≡ at + length (field_text field)
  pub within : next ≤ length bytes
  pub text : drop at bytes ≡ field_text field ++ drop next bytes

-- an edit's text may end, or go on with a field
unfoldable pub IsRest : Rank → List ℕ → Type 0
IsRest after piece = (piece ≡ []) ⊎ IsFieldIn after piece

unfoldable pub GoesOn : Rank → List ℕ → Type 0
GoesOn after bytes = (bytes ≡ []) ⊎ Begins (IsFieldIn after) bytes

-- the edit with one more field
abbrev pub with_field : Edit → Field → Edit
with_field edit (LogNumber n) = record edit { log = Some n }
with_field edit (NextNumber n) = record edit { next = Some n }
with_field edit (LastSequence n) = record edit { last = Some n }
with_field edit (Added add) = record edit { adds = edit.adds ++ add ∷ [] }
with_field edit (Dropped place) = record edit { drops = edit.drops ++ place ∷ [] }
