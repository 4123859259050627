-- What a step of a compaction answers.
use Rattle.std.specs.Prelude.{ℕ, ◌<◌, List, Option, None}
use Rattle.lsm_rows.specs.declared.rows.Row.{Row}
use Rattle.lsm_compact.specs.declared.compaction.Compaction.{Compaction}
use Rattle.lsm_compact.specs.declared.compaction.CompactStep.{CompactStep}
use Rattle.lsm_compact.specs.declared.compaction.CompactStep.TheVariants.{More, Ready}
use Rattle.lsm_compact.specs.Calls.{Called}
use Rattle.lsm_compact.specs.Compacting.{HasEnded, HasMoved}

-- just so many rows were merged, or all that were left, fewer than so many, and the edit was given
abbrev pub IsStep : {P : Type 0} → (P → List Called → P → Type 0) → (P → Option (ℕ → List Row)) → P → P → Compaction
    → Compaction → ℕ → CompactStep → Type 0
IsStep went told before now old new rows More = HasMoved went told before now old new None rows
IsStep went told before now old new rows (Ready edit) =
    (count : ℕ) × (count < rows) × HasEnded went told before now old new edit count
