-- Which count rose, over one call after another.
use Rattle.std.specs.Prelude.{◌≡◌, ℕ, ◌<◌, ◌≤◌, List, Result, Ok, Err, IfErr}
use Rattle.std.proofs.Common.{arith, sym, subst}
use Rattle.lsm_io.specs.Causes.{Rose}
use Rattle.lsm_disk.specs.State.{Seen}
use Rattle.lsm_disk.specs.Viewed.{Viewed}
use Rattle.lsm_disk.specs.Answers.{HasRisen}
use Rattle.lsm_disk.specs.declared.calls.DiskError.{DiskError}
use Rattle.lsm_disk.specs.declared.calls.DiskError.TheVariants as disk
use Rattle.lsm_disk.specs.declared.calls.Halt.{Halt}
use Rattle.lsm_recover.specs.declared.errors.FolderError.{FolderError}
use Rattle.lsm_recover.specs.declared.errors.FolderError.TheVariants.{DiskFault, NoFolder, NoCurrent, Missing, Changed, Short, Damaged, Malformed, TornLog, Gap, BadLevels, NoMemory}
use Rattle.lsm_disk.specs.declared.calls.DiskRefusal.{DiskRefusal}
use Rattle.lsm_recover.specs.Causes.{error_for, error_by, IsOfReading, HasRisenBy, HasRisenIn, IsOfBytes, HasFolderCause}

pub rose_wider : (first old new last : ℕ) → first ≤ old → new ≤ last → Rose old new → Rose first last
rose_wider first old new last before behind rose = omega (arith, before, behind, rose)

-- a refused disk call
pub call_risen : (dir : List ℕ) (old new : Seen) (missing : FolderError) (at : Halt) (why : DiskError) → IsOfReading at.call → HasRisen old new why
    → (Rose old.refusals new.refusals → HasRisenBy dir old new missing) → HasRisenBy dir old new (error_for missing at why)
call_risen dir old new missing at disk.Fault by rose none = rose
call_risen dir old new missing at disk.NotThere by rose none = none rose
call_risen dir old new missing at disk.Exists by rose none = (rose, by)
call_risen dir old new missing at disk.NoLinks by rose none = (rose, by)
call_risen dir old new missing at disk.NotEmpty by rose none = (rose, by)
call_risen dir old new missing at (disk.Short found) by rose none = (rose, by)
call_risen dir old new missing at disk.NoMemory by rose none = tt

-- an error that a view gave, where the view was closed
pub view_risen : (dir : List ℕ) (old mid new : Seen) (before now : Viewed) (error : FolderError) → HasRisenIn before now error → before.faults ≡ 0 → (0 < now.faults → Rose mid.faults new.faults) → old.faults ≤ mid.faults → HasRisenBy dir old new error
view_risen dir old mid new before now DiskFault rose fresh closed later =
    let some : 0 < now.faults = omega (arith, rose, fresh) in
    let rises : Rose mid.faults new.faults = closed some in
    omega (arith, rises, later)
view_risen dir old mid new before now (NoFolder at) rose fresh closed later = absurd rose
view_risen dir old mid new before now (NoCurrent at) rose fresh closed later = absurd rose
view_risen dir old mid new before now (Missing name) rose fresh closed later = absurd rose
view_risen dir old mid new before now (Changed call path) rose fresh closed later = absurd rose
view_risen dir old mid new before now (Short name kept found) rose fresh closed later = tt
view_risen dir old mid new before now (Damaged name place kept found) rose fresh closed later = tt
view_risen dir old mid new before now (Malformed name place) rose fresh closed later = tt
view_risen dir old mid new before now (TornLog name place) rose fresh closed later = tt
view_risen dir old mid new before now (Gap name kept found) rose fresh closed later = tt
view_risen dir old mid new before now (BadLevels level left right) rose fresh closed later = tt
view_risen dir old mid new before now NoMemory rose fresh closed later = tt

-- an error of a later or an earlier call is one of both
pub risen_wider : (dir : List ℕ) (first old new last : Seen) (error : FolderError) → first.faults ≤ old.faults → first.refusals ≤ old.refusals → new.faults ≤ last.faults → new.refusals ≤ last.refusals
    → HasRisenBy dir old new error → HasRisenBy dir first last error
risen_wider dir first old new last DiskFault f r g q rose = rose_wider first.faults old.faults new.faults last.faults f g rose
risen_wider dir first old new last (NoFolder at) f r g q rose = (rose.0, rose_wider first.refusals old.refusals new.refusals last.refusals r q rose.1)
risen_wider dir first old new last (NoCurrent at) f r g q rose = (rose.0, rose_wider first.refusals old.refusals new.refusals last.refusals r q rose.1)
risen_wider dir first old new last (Missing name) f r g q rose = rose_wider first.refusals old.refusals new.refusals last.refusals r q rose
risen_wider dir first old new last (Changed made path) f r g q rose =
    (rose_wider first.refusals old.refusals new.refusals last.refusals r q rose.0, rose.1)
risen_wider dir first old new last (Short name kept found) f r g q rose = tt
risen_wider dir first old new last (Damaged name place kept found) f r g q rose = tt
risen_wider dir first old new last (Malformed name place) f r g q rose = tt
risen_wider dir first old new last (TornLog name place) f r g q rose = tt
risen_wider dir first old new last (Gap name kept found) f r g q rose = tt
risen_wider dir first old new last (BadLevels level left right) f r g q rose = tt
risen_wider dir first old new last NoMemory f r g q rose = tt

-- ---- whole causes

pub view_cause : {T : Type 0} (dir : List ℕ) (old mid new : Seen) (before now : Viewed) (result : Result T FolderError) → IfErr result (HasRisenIn before now) → before.faults ≡ 0 → (0 < now.faults → Rose mid.faults new.faults)
    → old.faults ≤ mid.faults → mid.faults ≤ new.faults → old.refusals ≤ mid.refusals → mid.refusals ≤ new.refusals → HasFolderCause dir old new result
view_cause dir old mid new before now (Ok x) rose fresh closed f g r q = record { faults_later = omega (arith, f, g); refusals_later = omega (arith, r, q); counted = tt }
view_cause dir old mid new before now (Err error) rose fresh closed f g r q = record { faults_later = omega (arith, f, g); refusals_later = omega (arith, r, q); counted = view_risen dir old mid new before now error rose fresh closed f }

pub call_cause : {T : Type 0} (dir : List ℕ) (old new : Seen) (missing : FolderError) (refused : DiskRefusal) (error : FolderError) → error ≡ error_by missing refused
    → IsOfReading refused.at.call → old.faults ≤ new.faults → old.refusals ≤ new.refusals → HasRisen old new refused.why
    → (Rose old.refusals new.refusals → HasRisenBy dir old new missing) → HasFolderCause {T = T} dir old new (Err error)
call_cause dir old new missing refused error is by f r rose none = record {
  faults_later = f;
  refusals_later = r;
  counted = subst (HasRisenBy dir old new) (sym is) (call_risen dir old new missing refused.at refused.why by rose none);
}

-- a call behind another one that was Ok
pub cause_then : {T : Type 0} (dir : List ℕ) (old mid new : Seen) (result : Result T FolderError) → old.faults ≤ mid.faults → old.refusals ≤ mid.refusals → HasFolderCause dir mid new result → HasFolderCause dir old new result
cause_then dir old mid new (Ok x) f r cause = record { faults_later = omega (arith, f, cause.faults_later); refusals_later = omega (arith, r, cause.refusals_later); counted = tt }
cause_then dir old mid new (Err error) f r cause = record {
  faults_later = omega (arith, f, cause.faults_later);
  refusals_later = omega (arith, r, cause.refusals_later);
  counted = risen_wider dir old mid new new error f r (omega arith) (omega arith) cause.counted;
}

-- ---- errors of the bytes

pub bytes_risen : (before now : Viewed) (error : FolderError) → IsOfBytes error → HasRisenIn before now error
bytes_risen before now DiskFault of = absurd of
bytes_risen before now (NoFolder at) of = absurd of
bytes_risen before now (NoCurrent at) of = absurd of
bytes_risen before now (Missing name) of = absurd of
bytes_risen before now (Changed call path) of = absurd of
bytes_risen before now (Short name kept found) of = tt
bytes_risen before now (Damaged name place kept found) of = tt
bytes_risen before now (Malformed name place) of = tt
bytes_risen before now (TornLog name place) of = tt
bytes_risen before now (Gap name kept found) of = tt
bytes_risen before now (BadLevels level left right) of = tt
bytes_risen before now NoMemory of = tt

-- ---- views that were read for longer

pub risen_in_wider : (first old new last : Viewed) (error : FolderError) → first.faults ≤ old.faults → new.faults ≤ last.faults → HasRisenIn old new error → HasRisenIn first last error
risen_in_wider first old new last DiskFault f g rose = rose_wider first.faults old.faults new.faults last.faults f g rose
risen_in_wider first old new last (NoFolder at) f g rose = rose
risen_in_wider first old new last (NoCurrent at) f g rose = rose
risen_in_wider first old new last (Missing name) f g rose = rose
risen_in_wider first old new last (Changed call path) f g rose = rose
risen_in_wider first old new last (Short name kept found) f g rose = tt
risen_in_wider first old new last (Damaged name place kept found) f g rose = tt
risen_in_wider first old new last (Malformed name place) f g rose = tt
risen_in_wider first old new last (TornLog name place) f g rose = tt
risen_in_wider first old new last (Gap name kept found) f g rose = tt
risen_in_wider first old new last (BadLevels level left right) f g rose = tt
risen_in_wider first old new last NoMemory f g rose = tt
