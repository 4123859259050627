use Rattle.std.proofs.Common.{◌≡◌, ◌≤◌, IsTrue}
use Rattle.std.specs.Prelude.{IfSome, ℕ}
use Rattle.lsm_names.specs.FileNames.{is_file_number}
use Rattle.lsm_recover.specs.Listed.{next_log}
use Rattle.lsm_recover.proofs.ListedLemmas.{found_with}
use Rattle.lsm_recover.proofs.listed.next_log.Given as goal

abbrev pub invariant-loop-entry : goal.invariant-loop-entry
invariant-loop-entry l = record {
  found : found_with l.least l.entries l.found l.entry-index ≡ next_log l.least l.entries;
  fits : IfSome l.found (λ (n : ℕ). IsTrue (is_file_number n));
  live : IfSome l.found (λ (n : ℕ). l.least ≤ n);
}
