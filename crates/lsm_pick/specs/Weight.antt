-- What compactions by the shape lower, so that a line of them ends.
use Rattle.std.specs.Prelude.{◌≡◌, ℕ, ◌*◌, ◌-◌, ◌≤◌, All, Some, sum_by}
use Rattle.std.specs.FinMap as finite
use Rattle.lsm_version.specs.declared.choices.Choice.{Choice}
use Rattle.lsm_version.specs.declared.edits.Edit.{Edit}
use Rattle.lsm_version.specs.declared.tables.Add.{Add}
use Rattle.lsm_version.specs.declared.tables.Placed.{Placed}
use Rattle.lsm_version.specs.Edits.{last_level}
use Rattle.lsm_version.specs.Levels.{Tables}
use Rattle.lsm_pick.specs.Picked.{size_of}
use Rattle.lsm_pick.specs.Standing.{standing}

-- a table's bytes, once for each level below its own
abbrev pub weight_of : ℕ × Placed → ℕ
weight_of table = (last_level - table.1.level) * table.1.info.size

-- the bytes of all tables, each once for each level below its table's
abbrev pub weight : Tables → ℕ
weight tables = sum_by weight_of (finite.entries tables)

-- each table's file has bytes
abbrev pub HaveBytes : Tables → Type 0
HaveBytes tables = (number : ℕ) (placed : Placed) → finite.get tables number ≡ Some placed → 1 ≤ placed.info.size

-- The edit takes the inputs away and adds tables at the output level, which have no more bytes together than the inputs.
pub record IsCompaction (tables : Tables) (choice : Choice) (edit : Edit) : Type 0 where
  pub drops : edit.drops ≡ choice.inputs
  pub levels : All (λ (add : Add). add.level ≡ choice.output) edit.adds
  pub bytes : sum_by (λ (add : Add). add.table.size) edit.adds ≤ sum_by size_of (standing tables choice.inputs)
