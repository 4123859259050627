-- The restore of a backup by its identifier.
use Rattle.std.specs.Prelude.{◌≡◌, ◌↔◌, ◌==◌, ℕ, List, length, Option, Some, Result, Ok, Err, IfSome, IfOk}
use Rattle.std.specs.List.{find}
use Rattle.lsm_disk.specs.State.{Story, Seen, state_of}
use Rattle.lsm_disk.specs.Goes.{Went}
use Rattle.lsm_disk.specs.Images.{tree_now}
use Rattle.lsm_disk.specs.Dest.{DestSeen}
use Rattle.lsm_disk.specs.Building.{IsWithin}
use Rattle.lsm_disk.specs.declared.calls.Halt.{Halt}
use Rattle.bk_meta.specs.declared.metas.Meta.{Meta}
use Rattle.bk_restore.specs.Causes.{HasCauses}
use Rattle.bk_restore.specs.Wrong.{in_order, first_wrong, Tells}
use Rattle.bk_restore.specs.Restored.{MayHaveRestored, LeavesBy, TakesBy}
use Rattle.bk_restore.specs.declared.errors.RestoreError.{RestoreError}
use Rattle.bk_restore.specs.declared.errors.RestoreError.TheVariants as restore
use Rattle.bk_engine.specs.declared.errors.EngineError.{EngineError}
use Rattle.bk_engine.specs.declared.errors.EngineError.TheVariants as engine

-- the first meta of this identifier
abbrev pub meta_by : ℕ → List Meta → Option Meta
meta_by id metas = find (λ meta. meta.id == id) metas

-- what the engine answers where a restore was refused so: each refusal has the same name
abbrev pub engine_error : RestoreError → EngineError
engine_error restore.DiskFault = engine.DiskFault
engine_error restore.DestFault = engine.DestFault
engine_error (restore.Halted first) = engine.Halted first
engine_error (restore.DestinationExists dir) = engine.DestinationExists dir
engine_error (restore.Missing name) = engine.Missing name
engine_error (restore.Changed call path) = engine.Changed call path
engine_error (restore.WrongSize name kept found) = engine.WrongSize name kept found
engine_error (restore.Damaged name kept found) = engine.Damaged name kept found
engine_error restore.NoMemory = engine.NoMemory

abbrev pub answered : Result ℕ RestoreError → Result ℕ EngineError
answered (Ok sequence) = Ok sequence
answered (Err e) = Err (engine_error e)

-- The backup of this meta was restored into the folder, or refused: what the backup disk was and is seen as, and the destination.
pub record Restores (meta : Meta) (disk disk_now : Seen) (dest dest_now : DestSeen) (dir : List ℕ)
    (r : Result ℕ RestoreError) : Type 0 where
  pub sequence : IfOk r (λ sequence. sequence ≡ meta.sequence)
  pub halted : (first : Halt) → (r ≡ Err (restore.Halted first)) ↔ (dest.halt ≡ Some first)
  pub taken : TakesBy dir dest.disk.told r
  pub right : IfSome disk.told (λ story. Tells (first_wrong meta.id (tree_now (state_of story)) (in_order meta.id meta.files)) r)
  pub went : (story : Story) → dest.disk.told ≡ Some story
      → Went story dest_now.disk.told (IsWithin dir (length (state_of story).files))
      (MayHaveRestored meta disk.told (state_of story) dir) (LeavesBy meta disk.told (state_of story) dir r)
  pub cause : HasCauses disk disk_now dest.disk dest_now.disk r
