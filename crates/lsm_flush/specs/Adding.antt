-- What the addition of rows to a table's file does to the disk.
use Rattle.std.specs.Prelude.{◌≡◌, ℕ, ◌≤◌, List, ◌++◌, None, Err}
use Rattle.lsm_disk.specs.State.{Seen, appended}
use Rattle.lsm_disk.specs.Refusals.{no_file}
use Rattle.lsm_disk.specs.Answers.{Makes, AppendsBy, Answers}
use Rattle.lsm_disk.specs.Halts.{halt_at}
use Rattle.lsm_disk.specs.declared.calls.DiskCall.TheVariants.{Append}
use Rattle.lsm_disk.specs.declared.calls.DiskError.{DiskError}
use Rattle.lsm_disk.specs.declared.calls.DiskRefusal.{DiskRefusal}
use Rattle.lsm_flush.specs.Writing.{Written, IsSameTable, IsFurther, given, in_file, whole}

-- an append to this path was refused so
abbrev pub not_appended : List ℕ → DiskError → DiskRefusal
not_appended path why = record { at = halt_at Append path; why = why }

-- The disk has these bytes more in the file, and the table is further by them.
pub record HasAdded (path : List ℕ) (old new : Seen) (w x : Written) : Type 0 where
  pub piece : List ℕ
  pub made : Makes old.told (appended path piece) new.told
  pub same : IsSameTable w x
  pub bytes : given x ≡ given w ++ piece
  pub later : in_file w ≤ in_file x
  pub further : IsFurther w x

-- The append was refused: a fault has added a front of the bytes or nothing, any other refusal nothing. What was taken is
-- ahead.
pub record HasNotAdded (path : List ℕ) (old new : Seen) (w x : Written) (r : DiskRefusal) : Type 0 where
  pub at : r.at ≡ halt_at Append path
  pub piece : List ℕ
  pub left : AppendsBy {T = Unit {0}} path piece old.told new.told (Err r.why)
  pub answer : Answers {T = Unit {0}} (no_file path) old (Err r.why)
  pub same : IsSameTable w x
  pub none : whole x ≡ None
  pub bytes : given x ≡ given w
  pub later : in_file w ≤ in_file x
