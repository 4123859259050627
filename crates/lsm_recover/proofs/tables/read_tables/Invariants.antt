use Rattle.std.proofs.Common.{◌≡◌, ◌≤◌, ℕ, true}
use Rattle.std.specs.Prelude.{All, IfSome}
use Rattle.std.specs.FinMap as finmap
use Rattle.lsm_names.specs.FileNames.{is_file_number}
use Rattle.lsm_disk.specs.State.{Story}
use Rattle.lsm_version.specs.declared.tables.Placed.{Placed}
use Rattle.lsm_recover.specs.Answers.{files_now}
use Rattle.lsm_recover.proofs.TablesLemmas.{HasRead}
use Rattle.lsm_recover.proofs.tables.read_tables.Given as goal

abbrev pub invariant-loop-number : goal.invariant-loop-number
invariant-loop-number g l = record {
  told : (g.D.Disk.seen l.disk).told ≡ (g.D.Disk.seen l.initial.disk).told;
  faults_later : (g.D.Disk.seen l.initial.disk).faults ≤ (g.D.Disk.seen l.disk).faults;
  refusals_later : (g.D.Disk.seen l.initial.disk).refusals ≤ (g.D.Disk.seen l.disk).refusals;
  numbered : All (λ (e : ℕ × Placed). is_file_number e.0 ≡ true) l.number-iterator;
  read : IfSome (g.D.Disk.seen l.initial.disk).told (λ (story : Story). HasRead (files_now l.dir story) (finmap.entries l.version) l.number-iterator l.initial.rows l.rows);
}
