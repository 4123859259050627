-- Why a creation stopped, over a run of calls.
use Rattle.std.specs.Prelude.{ℕ, ◌+◌, ◌≤◌, List, [], ◌∷◌, Result, Err}
use Rattle.std.proofs.Common.{arith}
use Rattle.lsm_disk.specs.State.{Seen}
use Rattle.lsm_disk.specs.Answers.{HasRisen}
use Rattle.lsm_disk.specs.Viewed.{Viewed}
use Rattle.lsm_disk.specs.declared.calls.DiskError.{DiskError}
use Rattle.lsm_disk.specs.declared.calls.DiskError.TheVariants.{Fault, NotThere, Exists, NoLinks, NotEmpty, Short, NoMemory}
use Rattle.bk_engine.specs.Preparing.{faults_of}
use Rattle.bk_engine.specs.Returning.{AreSameViews}
use Rattle.bk_engine.specs.Stopping.{HasStopped, HasStopCause}
use Rattle.bk_engine.specs.declared.stopping.Stop.{Stop}
use Rattle.bk_engine.specs.declared.stopping.Stop.TheVariants as stops

-- ---- the causes

risen_since : (old mid new : Seen) (e : DiskError) → old.faults ≤ mid.faults → old.refusals ≤ mid.refusals → HasRisen mid new e → HasRisen old new e
risen_since old mid new Fault p q rose = omega (arith, p, rose)
risen_since old mid new NotThere p q rose = omega (arith, q, rose)
risen_since old mid new Exists p q rose = omega (arith, q, rose)
risen_since old mid new NoLinks p q rose = omega (arith, q, rose)
risen_since old mid new NotEmpty p q rose = omega (arith, q, rose)
risen_since old mid new (Short found) p q rose = omega (arith, q, rose)
risen_since old mid new NoMemory p q rose = tt

-- the same of a stop, where other views had so many faults
pub stopped_since : (old mid new : Seen) (before later k first last : ℕ) (s : Stop) → old.faults ≤ mid.faults → old.refusals ≤ mid.refusals → first ≤ before + k → later + k ≤ last
    → HasStopped mid new before later s → HasStopped old new first last s
stopped_since old mid new before later k first last (stops.Refused refusal) p q low high rose = risen_since old mid new refusal.why p q rose
stopped_since old mid new before later k first last stops.Source p q low high rose = omega (arith, rose, low, high)
stopped_since old mid new before later k first last stops.NoMemory p q low high rose = tt

pub views_later : (xs ys : List Viewed) → AreSameViews xs ys → faults_of xs ≤ faults_of ys
views_later [] [] same = omega arith
views_later [] (y ∷ ys) same = absurd same
views_later (x ∷ xs) [] same = absurd same
views_later (x ∷ xs) (y ∷ ys) same = omega (arith, same.0.later, views_later xs ys same.1)

-- a call on the disk alone stopped, after these views were read
pub then_stopped : {T U : Type 0} (old mid new : Seen) (xs ys : List Viewed) (s : Stop) → old.faults ≤ mid.faults → old.refusals ≤ mid.refusals → AreSameViews xs ys
    → HasStopCause {T = T} mid new (faults_of xs) (faults_of xs) (Err s) → HasStopCause {T = U} old new (faults_of xs) (faults_of ys) (Err s)
then_stopped old mid new xs ys s p q same cause = record {
  faults_later = omega (arith, p, cause.faults_later);
  refusals_later = omega (arith, q, cause.refusals_later);
  stopped = stopped_since old mid new (faults_of xs) (faults_of xs) 0 (faults_of xs) (faults_of ys) s p q (omega arith) (omega (arith, views_later xs ys same)) cause.stopped;
}
