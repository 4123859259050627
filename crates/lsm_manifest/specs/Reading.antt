-- What the text of a manifest reads to: edits, and then what stops the reading.
use Rattle.std.specs.Prelude.{◌≡◌, ◌⊎◌, ℕ, ◌+◌, List, [], ◌∷◌, ◌++◌, length, take, map, All, Option}
use Rattle.lsm_frame.specs.declared.ending.Ending.{Ending}
use Rattle.lsm_frame.specs.declared.ending.Ending.TheVariants as ending
use Rattle.lsm_frame.specs.Records.{front}
use Rattle.lsm_frame.specs.Reader.{Reader, IsRecord, EndsBehind}
use Rattle.lsm_wal.specs.Reading.{open_end}
use Rattle.lsm_version.specs.declared.edits.Edit.{Edit}
use Rattle.lsm_version.specs.EditText.{edit_text}
use Rattle.lsm_version.specs.Edits.{IsEdit, IsEditText, IsSomeEdit}
use Rattle.lsm_manifest.specs.declared.why.ManifestWhy.{ManifestWhy}
use Rattle.lsm_manifest.specs.declared.why.ManifestWhy.TheVariants as why
use Rattle.lsm_manifest.specs.declared.reading.Step.{Step}
use Rattle.lsm_manifest.specs.declared.reading.Step.TheVariants.{More, Over}

-- what stops the reading behind some edits: the text's end, or the record of this place, which is
-- no edit
pub data Stop : Type 0 where
  At_end : (ending : Ending) → Stop
  At_no_edit : (place : ℕ) → Stop

-- the record of this number, counted from 0, stands at this place and is no edit
pub record IsNoEditAt (text : List ℕ) (number place : ℕ) : Type 0 where
  pub payload : List ℕ
  pub stands : IsRecord text number place payload
  pub none : ¬ IsSomeEdit payload

-- behind so many edits this stops the reading
abbrev pub StopsAt : List ℕ → ℕ → Stop → Type 0
StopsAt text number (At_end ending) = EndsBehind text number ending
StopsAt text number (At_no_edit place) = IsNoEditAt text number place

-- The first records of the text are these edits, and then this stops the reading.
pub record IsReading (text : List ℕ) (edits : List Edit) (stop : Stop) : Type 0 where
  pub texts : take (length edits) (front text) ≡ map edit_text edits
  pub each : All IsEdit edits
  pub stops : StopsAt text (length edits) stop

-- what a refusal says of the text; a fault of the view and want of memory say nothing of it
abbrev pub IsTrouble : List ℕ → ManifestWhy → Type 0
IsTrouble text why.ReadFault = Unit {0}
IsTrouble text (why.Damaged place kept found) = (before : List Edit) × IsReading text before (At_end (ending.Damaged place kept found))
IsTrouble text (why.Malformed place) = (before : List Edit) × IsReading text before (At_end (ending.Malformed place))
IsTrouble text why.NoMemory = Unit {0}
IsTrouble text (why.BadEdit place) = (before : List Edit) × IsReading text before (At_no_edit place)

-- ---- one step

-- why a record's payload is not taken as an edit
abbrev pub IsNotTaken : List ℕ → ℕ → ManifestWhy → Type 0
IsNotTaken payload place why.ReadFault = ⊥
IsNotTaken payload place (why.Damaged at kept found) = ⊥
IsNotTaken payload place (why.Malformed at) = ⊥
IsNotTaken payload place why.NoMemory = Unit {0}
IsNotTaken payload place (why.BadEdit at) = (at ≡ place) × ¬ IsSomeEdit payload

-- the record of this number is this edit
pub record IsEditAt (text : List ℕ) (number : ℕ) (edit : Edit) : Type 0 where
  pub place : ℕ
  pub payload : List ℕ
  pub stands : IsRecord text number place payload
  pub text_is : IsEditText payload edit

-- behind so many records an edit stands, or the end
abbrev pub IsNext : List ℕ → ℕ → Step → Type 0
IsNext text number (More edit) = IsEditAt text number edit
IsNext text number (Over torn) = EndsBehind text number (open_end torn)

-- behind so many records this is wrong
abbrev pub IsLost : List ℕ → ℕ → ManifestWhy → Type 0
IsLost text number why.ReadFault = Unit {0}
IsLost text number (why.Damaged place kept found) = EndsBehind text number (ending.Damaged place kept found)
IsLost text number (why.Malformed place) = EndsBehind text number (ending.Malformed place)
IsLost text number why.NoMemory = Unit {0}
IsLost text number (why.BadEdit place) = IsNoEditAt text number place

-- where a reader stands behind a step: an edit leads on by one record
abbrev pub Follows : Reader → Reader → Step → Type 0
Follows old new (More edit) = new.given ≡ old.given + 1
Follows old new (Over torn) = Unit {0}

-- ---- of an image

-- the text reads to these edits, or to these and the new one, and nothing is wrong behind them
pub record ReadsToEither (edits : List Edit) (next : Edit) (text : List ℕ) : Type 0 where
  pub torn : Option ℕ
  pub reads : IsReading text edits (At_end (open_end torn)) ⊎ IsReading text (edits ++ next ∷ []) (At_end (open_end torn))
