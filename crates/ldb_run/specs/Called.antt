-- What the top call leaves, by its words.
use Rattle.std.specs.Prelude.{◌≡◌, ◌↔◌, ℕ, List, [], codes}
use Rattle.std.specs.declared.string.String.{String}
use Rattle.ldb_script.specs.Run.{Met, Says, IsRun}
use Rattle.ldb_run.specs.Words.{IsScript, usage_line}

-- The words ask for nothing that is known: nothing was read, the disks and the clock are as they
-- were, and the last line says what is known.
pub record IsUnused (m : Met) : Type 0 where
  pub unread : m.source_after ≡ m.source_before
  pub unchanged : m.disk_after ≡ m.disk_before
  pub untouched : m.backups_after ≡ m.backups_before
  pub undrawn : m.clock_after ≡ m.clock_before
  pub says : Says m [] usage_line

-- The program was called with these words, met this, and ended with this status.
pub record IsCalled {A : Type 0} (words : List (String A)) (m : Met) (status : ℕ) : Type 0 where
  -- status 1 comes exactly where the words are not `script` alone
  pub usage : (status ≡ 1) ↔ ¬ IsScript words
  -- and then nothing is read or changed
  pub unused : status ≡ 1 → IsUnused m
  -- the one command runs a script over a new store in the folder `db`
  pub run : IsScript words → IsRun (codes "db") m status
