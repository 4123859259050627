use Rattle.std.proofs.Common.{◌≡◌, ◌≤◌}
use Rattle.std.specs.Prelude.{IfSome}
use Rattle.std.specs.FinMap as finmap
use Rattle.lsm_disk.specs.State.{Story}
use Rattle.lsm_recover.specs.Answers.{files_now}
use Rattle.lsm_recover.proofs.OpenTablesLemmas.{HasOpened}
use Rattle.lsm_recover.proofs.TablesLemmas.{Numbered}
use Rattle.lsm_recover.proofs.open_tables.open_tables.Given as goal

abbrev pub invariant-loop-number : goal.invariant-loop-number
invariant-loop-number g l = record {
  told : (g.D.Disk.seen l.disk).told ≡ (g.D.Disk.seen l.initial.disk).told;
  faults_later : (g.D.Disk.seen l.initial.disk).faults ≤ (g.D.Disk.seen l.disk).faults;
  refusals_later : (g.D.Disk.seen l.initial.disk).refusals ≤ (g.D.Disk.seen l.disk).refusals;
  numbered : Numbered l.number-iterator;
  opened : IfSome (g.D.Disk.seen l.initial.disk).told (λ (story : Story). HasOpened (files_now l.dir story) (finmap.entries l.version) l.number-iterator l.initial.tables l.tables);
}
