-- The addition of rows to a table's file.
use Rattle.std.specs.Prelude.{◌≡◌, ℕ, List, Err}
use Rattle.std.proofs.Common.{refl, sym, subst}
use Rattle.lsm_disk.specs.State.{Seen}
use Rattle.lsm_disk.specs.Refusals.{no_file}
use Rattle.lsm_disk.specs.Answers.{Answers, Appends}
use Rattle.lsm_disk.specs.declared.calls.DiskError.{DiskError}
use Rattle.lsm_disk.specs.declared.calls.DiskRefusal.{DiskRefusal}
use Rattle.lsm_flush.specs.Writing.{Written, HasTaken}
use Rattle.lsm_flush.specs.Adding.{not_appended, HasNotAdded}

-- the disk refused the append of what was taken
pub refused_add : (path bytes : List ℕ) (old new : Seen) (w x : Written) (e : DiskError) (r : DiskRefusal) → HasTaken w x
    → r ≡ not_appended path e → Appends {T = Unit {0}} path bytes old new (Err e) → Answers {T = Unit {0}} (no_file path) old (Err e)
    → HasNotAdded path old new w x r
refused_add path bytes old new w x e r taken same did answer =
    subst (λ (s : DiskRefusal). HasNotAdded path old new w x s) (sym same) (record {
      at = refl;
      piece = bytes;
      left = did;
      answer = answer;
      same = taken.same;
      none = taken.none;
      bytes = taken.bytes;
      later = taken.later;
    })
