-- Which edits there are, and where bytes leave the grammar of their texts.
use Rattle.std.specs.Prelude.{◌≡◌, ◌⊎◌, ℕ, ◌-◌, ◌^◌, ◌<◌, ◌≤◌, List, [], ◌∷◌, length, true}
use Rattle.lsm_bytes.specs.Faults.{IsFirstFault}
use Rattle.lsm_names.specs.Sessions.{is_session}
use Rattle.lsm_rows.specs.declared.internal_keys.Kind.{Kind}
use Rattle.lsm_rows.specs.InternalKeys.{IsInternalKey}
use Rattle.lsm_rows.specs.Limits.{key_limit}
use Rattle.lsm_version.specs.declared.tables.TableInfo.{TableInfo}
use Rattle.lsm_version.specs.declared.edits.Edit.{Edit}
use Rattle.lsm_version.specs.declared.fields.Rank.{Rank}
use Rattle.lsm_version.specs.declared.fields.Field.{Field}
use Rattle.lsm_version.specs.declared.fields.Field.TheVariants.{LogNumber, NextNumber, LastSequence, Added, Dropped}
use Rattle.lsm_version.specs.EditText.{fields_of, edit_text}

-- the greatest level
abbrev pub last_level : ℕ
last_level = 6

-- the greatest number of a file
abbrev pub last_number : ℕ
last_number = 2 ^ 56 - 2

-- a number from 1 to the greatest that a file may have
pub record IsFileNumber (n : ℕ) : Type 0 where
  pub some : 1 ≤ n
  pub most : n ≤ last_number

-- the bytes are the internal key of a put or a delete whose user key is within its limit
pub record IsKey (bytes : List ℕ) : Type 0 where
  pub key : List ℕ
  pub sequence : ℕ
  pub kind : Kind
  pub parts : IsInternalKey bytes key sequence kind
  pub fits : length key ≤ key_limit

-- what an edit may say of a table besides its number
pub record IsTable (table : TableInfo) : Type 0 where
  pub session : is_session table.session ≡ true
  pub size : table.size < 2 ^ 64
  pub smallest : IsKey table.smallest
  pub largest : IsKey table.largest

-- a level and a number of a table
pub record IsPlace (level number : ℕ) : Type 0 where
  pub level_is : level ≤ last_level
  pub number_is : IsFileNumber number

-- the field's values are in their ranges
unfoldable pub InRange : Field → Type 0
InRange (LogNumber n) = IsFileNumber n
InRange (NextNumber n) = (1 ≤ n) × (n < 2 ^ 56)
InRange (LastSequence n) = n < 2 ^ 56
InRange (Added add) = IsPlace add.level add.table.number × IsTable add.table
InRange (Dropped place) = IsPlace place.level place.number

-- where a field stands in the order of fields
unfoldable pub rank_of : Field → Rank
rank_of (LogNumber n) = record { tag = 1; level = 0; number = 0 }
rank_of (NextNumber n) = record { tag = 2; level = 0; number = 0 }
rank_of (LastSequence n) = record { tag = 3; level = 0; number = 0 }
rank_of (Added add) = record { tag = 4; level = add.level; number = add.table.number }
rank_of (Dropped place) = record { tag = 5; level = place.level; number = place.number }

-- one place comes before another: by level, and at one level by number
abbrev pub PlaceBefore : ℕ → ℕ → ℕ → ℕ → Type 0
PlaceBefore level number level' number' = (level < level') ⊎ ((level ≡ level') × (number < number'))

-- one field comes before another: by tag, and of one tag by level and number
unfoldable pub Before : Rank → Rank → Type 0
Before a b = (a.tag < b.tag) ⊎ ((a.tag ≡ b.tag) × PlaceBefore a.level a.number b.level b.number)

-- what comes before every field
abbrev pub start : Rank
start = record { tag = 0; level = 0; number = 0 }

-- the field may stand behind what has this rank
pub record IsNext (after : Rank) (field : Field) : Type 0 where
  pub range : InRange field
  pub behind : Before after (rank_of field)

-- the fields are in their ranges and their order, and all of them behind this rank
unfoldable pub AreFields : Rank → List Field → Type 0
AreFields after [] = Unit {0}
AreFields after (field ∷ fields) = IsNext after field × AreFields (rank_of field) fields

-- The edit is in the grammar: its values are in their ranges, and its tables added and its tables dropped each ascend
-- strictly by level and number.
pub record IsEdit (edit : Edit) : Type 0 where
  pub fields : AreFields start (fields_of edit)

-- the text is that of this edit
pub record IsEditText (text : List ℕ) (edit : Edit) : Type 0 where
  pub is : text ≡ edit_text edit
  pub edit_is : IsEdit edit

-- the text is that of some edit
pub record IsSomeEdit (text : List ℕ) : Type 0 where
  pub edit : Edit
  pub text_is : IsEditText text edit

-- the bytes are no edit's text, and this is the first place at which they leave the grammar
pub record IsNoEdit (bytes : List ℕ) (place : ℕ) : Type 0 where
  pub none : ¬ IsSomeEdit bytes
  pub fault : IsFirstFault IsSomeEdit bytes place
