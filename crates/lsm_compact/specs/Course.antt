-- The course of a compaction: from its begin to its edit.
use Rattle.std.specs.Prelude.{◌≡◌, ℕ, Bool, List, ◌++◌, Option, Some, None, option_to_list}
use Rattle.lsm_rows.specs.declared.rows.Row.{Row}
use Rattle.lsm_version.specs.declared.choices.Choice.{Choice}
use Rattle.lsm_version.specs.declared.edits.Edit.{Edit}
use Rattle.lsm_version.specs.Levels.{Tables}
use Rattle.lsm_compact.specs.declared.compaction.Compaction.{Compaction}
use Rattle.lsm_compact.specs.Calls.{Called, files_after}
use Rattle.lsm_compact.specs.Compacting.{HasWritten, IsSoundCompaction}
use Rattle.lsm_compact.specs.Given.{AreInOrder, HasGiven}
use Rattle.lsm_compact.specs.Outputs.{IsEditOf}
use Rattle.lsm_compact.specs.Ranges.{has_key}
use Rattle.lsm_compact.specs.Writing.{made_of}
use Rattle.lsm_compact.specs.Written.{input_rows, is_below}

-- A compaction of the inputs of a choice is under way. Since its port was as at the start these calls were made. The rows that
-- are done with, and then the one that is kept, are what was given of the inputs' rows.
pub record IsUnderWay {P : Type 0} (went : P → List Called → P → Type 0) (told : P → Option (ℕ → List Row)) (start now : P)
    (tables : Tables) (choice : Choice) (c : Compaction) : Type 0 where
  pub sound : IsSoundCompaction c
  pub ranges : (key : List ℕ) → has_key c.deeper key ≡ is_below tables choice key
  pub inputs_are : c.inputs ≡ choice.inputs
  pub level_is : c.outputs.level ≡ choice.output
  pub calls : List Called
  pub led : went start calls now
  pub done : List Row
  pub over : Bool
  pub written : HasWritten over c done (files_after calls)
  pub given : (rows : ℕ → List Row) → told now ≡ Some rows → AreInOrder rows choice.inputs
      → HasGiven (told now) (input_rows rows choice) (done ++ option_to_list c.kept) c.reader

-- The compaction is done: the edit is one of these inputs, and the calls that were made since the start have made and sealed
-- the files of its outputs, and left none unsealed.
pub record HasMade {P : Type 0} (went : P → List Called → P → Type 0) (start now : P) (tables : Tables)
    (rows : ℕ → List Row) (choice : Choice) (edit : Edit) : Type 0 where
  pub calls : List Called
  pub led : went start calls now
  pub outputs : List (List Row)
  pub edit_is : IsEditOf tables choice (input_rows rows choice) outputs edit
  pub files_are : files_after calls ≡ record { sealed = made_of outputs edit.adds; begun = None }
