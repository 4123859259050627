-- Why a store's call is refused where a disk call is behind it, on every disk.
use Rattle.std.specs.Prelude.{◌≡◌, ◌≢◌, ◌⊎◌, ℕ, ◌<◌, ◌≤◌, List, Option, Some, None, is_some, true}
use Rattle.std.specs.FinMap as finmap
use Rattle.lsm_io.specs.Causes.{Rose}
use Rattle.lsm_names.specs.declared.file_names.FileName.{FileName}
use Rattle.lsm_names.specs.declared.file_names.FileName.TheVariants.{Table}
use Rattle.lsm_disk.specs.Halts.{halt_at}
use Rattle.lsm_disk.specs.declared.calls.Halt.{Halt}
use Rattle.lsm_disk.specs.declared.calls.DiskCall.{DiskCall}
use Rattle.lsm_disk.specs.declared.calls.DiskCall.TheVariants as call
use Rattle.lsm_model.specs.declared.errors.StoreError.{StoreError}
use Rattle.lsm_model.specs.declared.errors.StoreError.TheVariants as error
use Rattle.lsm_model.specs.Halting.{Aimed, IsMet}
use Rattle.lsm_refine.specs.Kept.{Kept, Shown}

-- ---- what no call changes

-- the folder is the same, and no count of the disk has fallen
pub record CountsHold (v w : Shown) : Type 0 where
  pub dir : w.dir ≡ v.dir
  pub faults : v.disk.faults ≤ w.disk.faults
  pub refusals : v.disk.refusals ≤ w.disk.refusals

-- Each table that had a view has it still, but for one perhaps.
abbrev pub LosesView : Option ℕ → Kept → Kept → Type 0
LosesView lost old new = (number : ℕ) → is_some (finmap.get old.views number) ≡ true
    → (lost ≡ Some number) ⊎ (is_some (finmap.get new.views number) ≡ true)

-- what is kept is the same, but for the views, of which this one may be lost
pub record KeepsAllBut (lost : Option ℕ) (v w : Shown) : Type 0 where
  pub kept : w.kept ≡ record v.kept { views = w.kept.views }
  pub views : LosesView lost v.kept w.kept
  pub halt : w.halt ≡ v.halt

-- ---- refusals of a call that changes the disk

-- An earlier disk call had halted the store, and nothing was done.
abbrev pub WasHalted : Halt → Shown → Shown → Type 0
WasHalted first v w = (v.halt ≡ Some first) × (w ≡ v)

-- A disk call of these failed or found the disk changed, and halts the store; or an earlier one did, and nothing was done; or
-- memory was wanting. A folder that can't be removed halts nothing.
abbrev pub ChangeRefused : List Aimed → Shown → Shown → StoreError → Type 0
ChangeRefused calls v w (error.Halted first) = WasHalted first v w
ChangeRefused calls v w error.DiskFault =
    (v.halt ≡ None) × Rose v.disk.faults w.disk.faults × ((at : Halt) × (w.halt ≡ Some at) × IsMet v.dir at calls)
ChangeRefused calls v w (error.Changed made path) =
    (v.halt ≡ None) × Rose v.disk.refusals w.disk.refusals × (w.halt ≡ Some (halt_at made path))
    × IsMet v.dir (halt_at made path) calls × (made ≢ call.RemoveFolder)
ChangeRefused calls v w error.NoMemory = (v.halt ≡ None) × (w.halt ≡ None)
ChangeRefused calls v w other = ⊥

-- ---- refusals of a reading

-- the file of this name is a live table's
abbrev pub IsLiveTable : Kept → FileName → Type 0
IsLiveTable kept name = (number : ℕ) × (name ≡ Table number) × (is_some (finmap.get kept.version number) ≡ true)

-- A reading of live tables is refused: a view or a disk call failed, or a table's file isn't there, or its bytes as they were
-- read are no table's; or memory was wanting.
abbrev pub TablesRefused : Shown → Shown → StoreError → Type 0
TablesRefused v w error.DiskFault = Rose v.disk.faults w.disk.faults
TablesRefused v w (error.Missing name) = Rose v.disk.refusals w.disk.refusals × IsLiveTable v.kept name
TablesRefused v w (error.Short name kept found) = IsLiveTable v.kept name
TablesRefused v w (error.Damaged name place kept found) = IsLiveTable v.kept name
TablesRefused v w (error.Malformed name place) = IsLiveTable v.kept name
TablesRefused v w error.NoMemory = Unit {0}
TablesRefused v w other = ⊥

-- these disk calls find a folder changed while it is read, which halts nothing
abbrev pub IsReadCall : DiskCall → Type 0
IsReadCall made = (made ≡ call.List) ⊎ ((made ≡ call.Size) ⊎ (made ≡ call.Open))

-- A reading of a folder's files, or of a pin's, is refused. Their bytes, where the disk tells them, say which of the other
-- refusals comes.
abbrev pub FilesRefused : Shown → Shown → StoreError → Type 0
FilesRefused v w error.DiskFault = Rose v.disk.faults w.disk.faults
FilesRefused v w (error.Missing name) = Rose v.disk.refusals w.disk.refusals
FilesRefused v w (error.Changed made path) = Rose v.disk.refusals w.disk.refusals × IsReadCall made
FilesRefused v w (error.Short name kept found) = Unit {0}
FilesRefused v w (error.Damaged name place kept found) = Unit {0}
FilesRefused v w (error.Malformed name place) = Unit {0}
FilesRefused v w (error.TornLog name place) = Unit {0}
FilesRefused v w (error.Gap name kept found) = Unit {0}
FilesRefused v w (error.BadLevels level left right) = Unit {0}
FilesRefused v w error.NoMemory = Unit {0}
FilesRefused v w other = ⊥

-- the same of a folder, which may not be there, or have no CURRENT
abbrev pub FolderRefused : List ℕ → Shown → Shown → StoreError → Type 0
FolderRefused dir v w (error.NoFolder other) = other ≡ dir
FolderRefused dir v w (error.NoCurrent other) = other ≡ dir
FolderRefused dir v w other = FilesRefused v w other

-- The opening or the reading of one pinned file is refused: the disk or a view failed, or the file isn't there, or has fewer
-- bytes than the pin's; or memory was wanting.
abbrev pub OneFileRefused : FileName → ℕ → Shown → Shown → StoreError → Type 0
OneFileRefused name len v w error.DiskFault = Rose v.disk.faults w.disk.faults
OneFileRefused name len v w (error.Missing other) = (other ≡ name) × Rose v.disk.refusals w.disk.refusals
OneFileRefused name len v w (error.Short other kept found) = (other ≡ name) × (kept ≡ len) × (found < kept)
OneFileRefused name len v w error.NoMemory = Unit {0}
OneFileRefused name len v w other = ⊥
