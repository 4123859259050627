-- What a refused disk call left, by the answer that the destination gives, what halts, and which count rose.
use Rattle.std.specs.Prelude.{◌≡◌, ◌≤◌, List, Option, Some, None, Err}
use Rattle.std.proofs.Common.{sym, subst, ◌∙◌, arith}
use Rattle.lsm_disk.specs.State.{Seen}
use Rattle.lsm_disk.specs.Answers.{LeftBy, RefusesBy, HasRisen, HasDiskCause}
use Rattle.lsm_disk.specs.Halts.{IsAmong}
use Rattle.lsm_disk.specs.Dest.{DestSeen, HaltsAt}
use Rattle.lsm_disk.specs.Building.{RefusedAs}
use Rattle.lsm_disk.specs.declared.calls.DiskError.{DiskError}
use Rattle.lsm_disk.specs.declared.calls.DiskError.TheVariants as disk
use Rattle.lsm_disk.specs.declared.calls.Halt.{Halt}
use Rattle.lsm_disk.specs.declared.calls.DiskRefusal.{DiskRefusal}
use Rattle.lsm_disk.specs.declared.dest.DestError.{DestError}
use Rattle.lsm_dest.specs.FolderDests.{answer_by, halt_by}

-- what a refusal left, where nothing refuses the call but a fault and want of memory
pub refused_as : (same made : Type 0) (refusal : Option DiskError) (at : Halt) (why : DiskError) → (same → refusal ≡ None) → LeftBy same made why → RefusesBy refusal why → RefusedAs same made (answer_by at why)
refused_as same made refusal at disk.Fault free left by = left
refused_as same made refusal at disk.NotThere free left by = let clash : None ≡ Some disk.NotThere = sym (free left) ∙ by in cc
refused_as same made refusal at disk.Exists free left by = let clash : None ≡ Some disk.Exists = sym (free left) ∙ by in cc
refused_as same made refusal at disk.NoLinks free left by = let clash : None ≡ Some disk.NoLinks = sym (free left) ∙ by in cc
refused_as same made refusal at disk.NotEmpty free left by = let clash : None ≡ Some disk.NotEmpty = sym (free left) ∙ by in cc
refused_as same made refusal at (disk.Short found) free left by = let clash : None ≡ Some (disk.Short found) = sym (free left) ∙ by in cc
refused_as same made refusal at disk.NoMemory free left by = left

-- ---- what halts

-- the refused call is one of these, and all but want of memory halts at it
pub halts_by : (calls : List Halt) (old new : DestSeen) (at : Halt) (why : DiskError) (e : DestError) → old.halt ≡ None → e ≡ answer_by at why → new.halt ≡ halt_by old.halt at why → IsAmong at calls → HaltsAt {T = Unit {0}} calls old new (Err e)
halts_by calls old new at why e free is halt among = subst (λ (x : DestError). HaltsAt {T = Unit {0}} calls old new (Err x)) (sym is) (by_why why halt) where
  by_why : (w : DiskError) → new.halt ≡ halt_by old.halt at w → HaltsAt {T = Unit {0}} calls old new (Err (answer_by at w))
  by_why disk.Fault h = (free, (at, h, among))
  by_why disk.NotThere h = (free, h, among)
  by_why disk.Exists h = (free, h, among)
  by_why disk.NoLinks h = (free, h, among)
  by_why disk.NotEmpty h = (free, h, among)
  by_why (disk.Short found) h = (free, h, among)
  by_why disk.NoMemory h = (free, h ∙ free)

-- ---- the counts

module _ (first old new : Seen) (faults : first.faults ≤ old.faults) (refusals : first.refusals ≤ old.refusals) where
  risen_later : (e : DiskError) → HasRisen old new e → HasRisen first new e
  risen_later disk.Fault rose = omega (arith, faults, rose)
  risen_later disk.NotThere rose = omega (arith, refusals, rose)
  risen_later disk.Exists rose = omega (arith, refusals, rose)
  risen_later disk.NoLinks rose = omega (arith, refusals, rose)
  risen_later disk.NotEmpty rose = omega (arith, refusals, rose)
  risen_later (disk.Short found) rose = omega (arith, refusals, rose)
  risen_later disk.NoMemory rose = tt

  -- the cause of a refusal, counted from an earlier call on
  pub cause_later : (r : DiskRefusal) → HasDiskCause {T = Unit {0}} old new (Err r) → HasDiskCause {T = Unit {0}} first new (Err r)
  cause_later r cause = record { faults_later = omega (arith, faults, cause.faults_later); refusals_later = omega (arith, refusals, cause.refusals_later); counted = risen_later r.why cause.counted }
