-- The errors of an opening have their causes.
use Rattle.std.specs.Prelude.{ℕ, ◌≤◌, List, Result, Ok, Err}
use Rattle.std.proofs.Common.{arith}
use Rattle.lsm_io.specs.Causes.{Rose}
use Rattle.lsm_disk.specs.State.{Seen}
use Rattle.lsm_disk.specs.Answers.{HasRisen}
use Rattle.lsm_disk.specs.declared.calls.Halt.{Halt}
use Rattle.lsm_disk.specs.declared.calls.DiskError.{DiskError}
use Rattle.lsm_disk.specs.declared.calls.DiskError.TheVariants as disk
use Rattle.lsm_disk.specs.declared.calls.DiskRefusal.{DiskRefusal}
use Rattle.lsm_recover.specs.declared.errors.FolderError.{FolderError}
use Rattle.lsm_recover.specs.declared.errors.FolderError.TheVariants as folder
use Rattle.lsm_recover.specs.Site.{HasSiteRisen}
use Rattle.lsm_recover.specs.Causes.{HasRisenBy}
use Rattle.lsm_opening.specs.declared.errors.OpenError.{OpenError}
use Rattle.lsm_opening.specs.declared.errors.OpenError.TheVariants as opening
use Rattle.lsm_opening.specs.Recovering.{HasOpenRisen}
use Rattle.lsm_model.specs.declared.errors.StoreError.{StoreError}
use Rattle.lsm_model.specs.declared.errors.StoreError.TheVariants as error
use Rattle.lsm_store.specs.Answering.{error_by, error_of}
use Rattle.lsm_store.specs.NewStores.{IsNewRefusal}
use Rattle.lsm_store.specs.Opening.{IsOpenRefusal, OpenedBy, own_error, open_error}

-- a count that has risen since a later moment has since an earlier one
pub rose_since : (old at new : ℕ) → old ≤ at → Rose at new → Rose old new
rose_since old at new before rose = omega (arith, before, rose)

module _ (dir : List ℕ) (old new : Seen) where
  pub site_cause : (e : FolderError) → HasSiteRisen dir old new e → IsOpenRefusal dir old new (own_error e)
  site_cause folder.DiskFault is = is
  site_cause (folder.NoFolder at) is = absurd is
  site_cause (folder.NoCurrent at) is = is
  site_cause (folder.Missing name) is = absurd is
  site_cause (folder.Changed made path) is = is.1
  site_cause (folder.Short name kept found) is = tt
  site_cause (folder.Damaged name place kept found) is = tt
  site_cause (folder.Malformed name place) is = tt
  site_cause (folder.TornLog name place) is = tt
  site_cause (folder.Gap name kept found) is = tt
  site_cause (folder.BadLevels level left right) is = tt
  site_cause folder.NoMemory is = tt

  reading_cause : (e : FolderError) → HasRisenBy dir old new e → IsOpenRefusal dir old new (own_error e)
  reading_cause folder.DiskFault is = is
  reading_cause (folder.NoFolder at) is = is.1
  reading_cause (folder.NoCurrent at) is = is.0
  reading_cause (folder.Missing name) is = is
  reading_cause (folder.Changed made path) is = is.0
  reading_cause (folder.Short name kept found) is = tt
  reading_cause (folder.Damaged name place kept found) is = tt
  reading_cause (folder.Malformed name place) is = tt
  reading_cause (folder.TornLog name place) is = tt
  reading_cause (folder.Gap name kept found) is = tt
  reading_cause (folder.BadLevels level left right) is = tt
  reading_cause folder.NoMemory is = tt

  call_cause : (at : Halt) (e : DiskError) → HasRisen old new e → IsOpenRefusal dir old new (error_by at e)
  call_cause at disk.Fault is = is
  call_cause at disk.NotThere is = is
  call_cause at disk.Exists is = is
  call_cause at disk.NoLinks is = is
  call_cause at disk.NotEmpty is = is
  call_cause at (disk.Short found) is = is
  call_cause at disk.NoMemory is = tt

  pub disk_cause : (r : DiskRefusal) → HasRisen old new r.why → IsOpenRefusal dir old new (error_of r)
  disk_cause r is = call_cause r.at r.why is

  pub open_cause : (e : OpenError) → HasOpenRisen dir old new e → IsOpenRefusal dir old new (open_error e)
  open_cause (opening.Folder why) is = reading_cause why is
  open_cause (opening.Disk refused) is = disk_cause refused is
  open_cause (opening.TablesFull live adding) is = is
  open_cause (opening.NumbersFull next) is = is

  pub new_cause : (calls : List Halt) (m : ℕ) (e : StoreError) → IsNewRefusal calls m old new e → IsOpenRefusal dir old new e
  new_cause calls m error.DiskFault is = is
  new_cause calls m (error.Halted first) is = is
  new_cause calls m (error.SequenceFull last count) is = is
  new_cause calls m (error.NumbersFull next) is = is.0
  new_cause calls m (error.TablesFull live adding) is = absurd is
  new_cause calls m (error.PinsFull live) is = is
  new_cause calls m (error.DisablesFull count) is = is
  new_cause calls m (error.NoSuchPin pin) is = is
  new_cause calls m (error.NotInPin pin name) is = is
  new_cause calls m error.NotDisabled is = is
  new_cause calls m (error.CheckpointExists at) is = is
  new_cause calls m (error.UnderWay at) is = is
  new_cause calls m (error.NoFolder at) is = is
  new_cause calls m (error.NoCurrent at) is = absurd is
  new_cause calls m (error.Missing name) is = absurd is
  new_cause calls m (error.Changed made path) is = is.0
  new_cause calls m (error.Short name kept found) is = tt
  new_cause calls m (error.Damaged name place kept found) is = tt
  new_cause calls m (error.Malformed name place) is = tt
  new_cause calls m (error.TornLog name place) is = tt
  new_cause calls m (error.Gap name kept found) is = tt
  new_cause calls m (error.BadLevels level left right) is = tt
  new_cause calls m error.NoMemory is = tt

module _ (dir : List ℕ) (old at new : Seen) (faults : old.faults ≤ at.faults) (refusals : old.refusals ≤ at.refusals) where
  since : (e : StoreError) → IsOpenRefusal dir at new e → IsOpenRefusal dir old new e
  since error.DiskFault is = rose_since old.faults at.faults new.faults faults is
  since (error.Halted first) is = is
  since (error.SequenceFull last count) is = is
  since (error.NumbersFull next) is = is
  since (error.TablesFull live adding) is = is
  since (error.PinsFull live) is = is
  since (error.DisablesFull count) is = is
  since (error.NoSuchPin pin) is = is
  since (error.NotInPin pin name) is = is
  since error.NotDisabled is = is
  since (error.CheckpointExists folder) is = is
  since (error.UnderWay folder) is = is
  since (error.NoFolder folder) is = is
  since (error.NoCurrent folder) is = is
  since (error.Missing name) is = rose_since old.refusals at.refusals new.refusals refusals is
  since (error.Changed made path) is = rose_since old.refusals at.refusals new.refusals refusals is
  since (error.Short name kept found) is = tt
  since (error.Damaged name place kept found) is = tt
  since (error.Malformed name place) is = tt
  since (error.TornLog name place) is = tt
  since (error.Gap name kept found) is = tt
  since (error.BadLevels level left right) is = tt
  since error.NoMemory is = tt

  -- what was called before doesn't count
  pub opened_since : {T : Type 0} (answer : Result T StoreError) → OpenedBy dir at new answer → OpenedBy dir old new answer
  opened_since (Ok value) by = record {
    faults = omega (arith, faults, by.faults);
    refusals = omega (arith, refusals, by.refusals);
    cause = tt;
  }
  opened_since (Err e) by = record {
    faults = omega (arith, faults, by.faults);
    refusals = omega (arith, refusals, by.refusals);
    cause = since e by.cause;
  }
