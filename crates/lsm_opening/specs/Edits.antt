-- The edit of a new manifest, and a version with one table more.
use Rattle.std.specs.Prelude.{◌≡◌, ℕ, List, [], ◌∷◌, ◌++◌, Some, None}
use Rattle.std.specs.FinMap as finmap
use Rattle.lsm_version.specs.declared.edits.Edit.{Edit}
use Rattle.lsm_version.specs.declared.tables.Add.{Add}
use Rattle.lsm_version.specs.declared.tables.Place.{Place}
use Rattle.lsm_version.specs.declared.tables.TableInfo.{TableInfo}
use Rattle.lsm_version.specs.Levels.{Tables}
use Rattle.lsm_refine.specs.WholeEdits.{AddAll, whole_edit, place_added, placed_by}

-- the edit adds every table of the version, and sets these numbers
pub record IsWholeEdit (tables : Tables) (log next last : ℕ) (edit : Edit) : Type 0 where
  pub is : edit ≡ whole_edit edit.adds log next last
  pub all : AddAll tables edit.adds

-- the table of a place was added behind the others, as it stands
pub record IsAdded (tables : Tables) (place : Place) (before after : List Add) : Type 0 where
  pub add : Add
  pub after_is : after ≡ before ++ add ∷ []
  pub place_is : place_added add ≡ place
  pub there : finmap.get tables add.table.number ≡ Some (placed_by add)

-- the edit that adds a table at level 0 and sets no number
abbrev pub top_edit : TableInfo → Edit
top_edit info = record { log = None; next = None; last = None; adds = record { level = 0; table = info } ∷ []; drops = [] }
