-- Why a creation stopped.
use Rattle.std.specs.Prelude.{ℕ, ◌≤◌, Result, IfErr}
use Rattle.lsm_io.specs.Causes.{Rose}
use Rattle.lsm_disk.specs.State.{Seen}
use Rattle.lsm_disk.specs.Answers.{HasRisen}
use Rattle.bk_engine.specs.declared.stopping.Stop.{Stop}
use Rattle.bk_engine.specs.declared.stopping.Stop.TheVariants as stop

-- the count that rose: the disk's by the refusal, or the view's
abbrev pub HasStopped : Seen → Seen → ℕ → ℕ → Stop → Type 0
HasStopped old new before later (stop.Refused refusal) = HasRisen old new refusal.why
HasStopped old new before later stop.Source = Rose before later
HasStopped old new before later stop.NoMemory = Unit {0}

-- no count of the disk has fallen, and one has risen as the stop says
pub record HasStopCause {T : Type 0} (old new : Seen) (before later : ℕ) (result : Result T Stop) : Type 0 where
  pub faults_later : old.faults ≤ new.faults
  pub refusals_later : old.refusals ≤ new.refusals
  pub stopped : IfErr result (HasStopped old new before later)
