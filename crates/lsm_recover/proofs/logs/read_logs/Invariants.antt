use Rattle.std.proofs.Common.{◌≡◌, ◌-◌, ◌^◌, ◌≤◌, true}
use Rattle.std.specs.Prelude.{IfSome}
use Rattle.lsm_names.specs.Paths.{is_path}
use Rattle.lsm_disk.specs.State.{Story}
use Rattle.lsm_recover.proofs.LoopLemmas.{HasReplayed}
use Rattle.lsm_recover.proofs.logs.read_logs.Given as goal

abbrev pub invariant-loop-number : goal.invariant-loop-number
invariant-loop-number g l = record {
  spells : is_path l.dir ≡ true;
  told : (g.D.Disk.seen l.disk).told ≡ (g.D.Disk.seen l.initial.disk).told;
  faults_later : (g.D.Disk.seen l.initial.disk).faults ≤ (g.D.Disk.seen l.disk).faults;
  refusals_later : (g.D.Disk.seen l.initial.disk).refusals ≤ (g.D.Disk.seen l.disk).refusals;
  replayed : IfSome (g.D.Disk.seen l.initial.disk).told (λ (story : Story). HasReplayed l.dir story l.entries l.log l.fn.last l.least l.initial.rows l.rows l.last);
}

abbrev pub decreases-loop-number : goal.decreases-loop-number
decreases-loop-number g l = 2 ^ 64 - l.least
