-- Which count rose, from call to call.
use Rattle.std.specs.Prelude.{◌≡◌, ℕ, ◌≤◌, List, Result, Ok, Err, IfErr}
use Rattle.std.specs.Result.{IsErrAnd}
use Rattle.std.proofs.Common.{inl, inr, ⊎_elim, sym, subst, arith}
use Rattle.std.proofs.lemmas.Result.{err_from_is_err_and}
use Rattle.lsm_io.specs.Causes.{Rose}
use Rattle.lsm_disk.specs.State.{Seen}
use Rattle.lsm_disk.specs.Viewed.{Viewed}
use Rattle.lsm_disk.specs.Answers.{HasCause}
use Rattle.lsm_disk.specs.Dest.{HasDestCause}
use Rattle.lsm_disk.specs.declared.calls.DiskCall.{DiskCall}
use Rattle.lsm_disk.specs.declared.calls.DiskError.{DiskError}
use Rattle.lsm_disk.specs.declared.calls.DiskError.TheVariants as disk
use Rattle.lsm_disk.specs.declared.dest.DestError.{DestError}
use Rattle.lsm_disk.specs.declared.dest.DestError.TheVariants as dest
use Rattle.bk_restore.specs.declared.errors.RestoreError.{RestoreError}
use Rattle.bk_restore.specs.declared.errors.RestoreError.TheVariants.{DiskFault, DestFault, Halted, DestinationExists, Missing, Changed, WrongSize, Damaged, NoMemory}
use Rattle.bk_restore.specs.Refusals.{disk_answer, dest_answer}
pub use Rattle.bk_copy.proofs.Files.{later_same, later_trans}
use Rattle.bk_restore.specs.Causes.{CountedBy, AreLater, HasCauses, counts_of, silent}

-- what is known of an error holds of the `?` that hands it on
pub returned : {T : Type 0} (P : RestoreError → Type 0) (r : Result T RestoreError) (e : RestoreError) → IsErrAnd r (λ x. x ≡ e) → P e → IfErr r P
returned {T = T} P r e is p =
    let q = err_from_is_err_and r is in
    subst (λ (x : Result T RestoreError). IfErr x P) (sym q.1) (subst P (sym q.2) p)

-- the same of all that is said of a result
pub returned_as : {T : Type 0} (P : Result T RestoreError → Type 0) (r : Result T RestoreError) (e : RestoreError) → IsErrAnd r (λ x. x ≡ e) → P (Err e) → P r
returned_as P r e is p =
    let q = err_from_is_err_and r is in
    subst P (sym q.1) (subst (λ (x : RestoreError). P (Err x)) (sym q.2) p)

rose_wider : (a b c d : ℕ) → a ≤ b → Rose b c → c ≤ d → Rose a d
rose_wider a b c d before rose after = omega arith

counted_wider : (a b c d e f g h : Type 0) (error : RestoreError) → (a → e) → (b → f) → (c → g) → (d → h) → CountedBy a b c d error → CountedBy e f g h error
counted_wider a b c d e f g h DiskFault x y z w counted = x counted
counted_wider a b c d e f g h DestFault x y z w counted = z counted
counted_wider a b c d e f g h (Halted first) x y z w counted = tt
counted_wider a b c d e f g h (DestinationExists dir) x y z w counted = w counted
counted_wider a b c d e f g h (Missing name) x y z w counted = y counted
counted_wider a b c d e f g h (Changed call path) x y z w counted = ⊎_elim (λ r. inl (y r)) (λ r. inr (w r)) counted
counted_wider a b c d e f g h (WrongSize name kept found) x y z w counted = tt
counted_wider a b c d e f g h (Damaged name kept found) x y z w counted = tt
counted_wider a b c d e f g h NoMemory x y z w counted = tt

-- a call between others
pub causes_within : {T U : Type 0} (d0 d1 d2 d3 t0 t1 t2 t3 : Seen) (e : RestoreError) → AreLater d0 d1 → AreLater d2 d3 → AreLater t0 t1 → AreLater t2 t3
    → HasCauses {T = T} d1 d2 t1 t2 (Err e) → HasCauses {T = U} d0 d3 t0 t3 (Err e)
causes_within d0 d1 d2 d3 t0 t1 t2 t3 e db da tb ta causes = record {
  disk_later = later_trans d0 d1 d3 db (later_trans d1 d2 d3 causes.disk_later da);
  dest_later = later_trans t0 t1 t3 tb (later_trans t1 t2 t3 causes.dest_later ta);
  counted = counted_wider _ _ _ _ _ _ _ _ e
      (λ r. rose_wider d0.faults d1.faults d2.faults d3.faults db.faults r da.faults)
      (λ r. rose_wider d0.refusals d1.refusals d2.refusals d3.refusals db.refusals r da.refusals)
      (λ r. rose_wider t0.faults t1.faults t2.faults t3.faults tb.faults r ta.faults)
      (λ r. rose_wider t0.refusals t1.refusals t2.refusals t3.refusals tb.refusals r ta.refusals)
      causes.counted;
}

pub causes_ok : {T : Type 0} (d0 d1 t0 t1 : Seen) (value : T) → AreLater d0 d1 → AreLater t0 t1 → HasCauses d0 d1 t0 t1 (Ok value)
causes_ok d0 d1 t0 t1 value d t = record { disk_later = d; dest_later = t; counted = tt }

-- a call of the destination
pub dest_caused : {T U : Type 0} (old new d0 d1 : Seen) (dir : List ℕ) (why : DestError) → AreLater d0 d1 → HasDestCause {T = T} old new (Err why) → HasCauses {T = U} d0 d1 old new (Err (dest_answer dir why))
dest_caused old new d0 d1 dir dest.Fault later cause = record { disk_later = later; dest_later = record { faults = cause.faults_later; refusals = cause.refusals_later }; counted = cause.counted }
dest_caused old new d0 d1 dir (dest.Halted first) later cause = record { disk_later = later; dest_later = record { faults = cause.faults_later; refusals = cause.refusals_later }; counted = tt }
dest_caused old new d0 d1 dir dest.Exists later cause = record { disk_later = later; dest_later = record { faults = cause.faults_later; refusals = cause.refusals_later }; counted = cause.counted }
dest_caused old new d0 d1 dir (dest.Changed call path) later cause = record { disk_later = later; dest_later = record { faults = cause.faults_later; refusals = cause.refusals_later }; counted = inr cause.counted }
dest_caused old new d0 d1 dir dest.NoMemory later cause = record { disk_later = later; dest_later = record { faults = cause.faults_later; refusals = cause.refusals_later }; counted = tt }

pub dest_later : {T : Type 0} (old new : Seen) (r : Result T DestError) → HasDestCause old new r → AreLater old new
dest_later old new r cause = record { faults = cause.faults_later; refusals = cause.refusals_later }

-- a view's count, which its close adds to the disk's
pub view_causes : {T U : Type 0} (before opened closed t0 t1 : Seen) (old new : Viewed) (e : RestoreError) → AreLater before opened → AreLater opened closed
    → (Rose old.faults new.faults → Rose opened.faults closed.faults) → HasCauses {T = T} (counts_of old) (counts_of new) t0 t1 (Err e) → HasCauses {T = U} before closed t0 t1 (Err e)
view_causes before opened closed t0 t1 old new e first second close causes = record {
  disk_later = later_trans before opened closed first second;
  dest_later = causes.dest_later;
  counted = counted_wider _ _ _ _ _ _ _ _ e
      (λ r. rose_wider before.faults opened.faults closed.faults closed.faults first.faults (close r) (omega arith))
      (λ r. absurd (omega (arith, r)))
      (λ r. r)
      (λ r. r)
      causes.counted;
}

-- a function over the backup disk alone
pub disk_causes : {T U : Type 0} (d0 d1 t : Seen) (e : RestoreError) → HasCauses {T = T} d0 d1 silent silent (Err e) → HasCauses {T = U} d0 d1 t t (Err e)
disk_causes d0 d1 t e causes = record {
  disk_later = causes.disk_later;
  dest_later = later_same t;
  counted = counted_wider _ _ _ _ _ _ _ _ e (λ r. r) (λ r. r) (λ r. absurd (omega (arith, r))) (λ r. absurd (omega (arith, r))) causes.counted;
}

-- a call of the backup disk
pub disk_caused : {T U : Type 0} (d0 d1 : Seen) (call : DiskCall) (path : List ℕ) (why : DiskError) → HasCause {T = T} d0 d1 (Err why) → HasCauses {T = U} d0 d1 silent silent (Err (disk_answer call path why))
disk_caused d0 d1 call path disk.Fault cause = record { disk_later = record { faults = cause.faults_later; refusals = cause.refusals_later }; dest_later = later_same silent; counted = cause.counted }
disk_caused d0 d1 call path disk.NotThere cause = record { disk_later = record { faults = cause.faults_later; refusals = cause.refusals_later }; dest_later = later_same silent; counted = cause.counted }
disk_caused d0 d1 call path disk.Exists cause = record { disk_later = record { faults = cause.faults_later; refusals = cause.refusals_later }; dest_later = later_same silent; counted = inl cause.counted }
disk_caused d0 d1 call path disk.NoLinks cause = record { disk_later = record { faults = cause.faults_later; refusals = cause.refusals_later }; dest_later = later_same silent; counted = inl cause.counted }
disk_caused d0 d1 call path disk.NotEmpty cause = record { disk_later = record { faults = cause.faults_later; refusals = cause.refusals_later }; dest_later = later_same silent; counted = inl cause.counted }
disk_caused d0 d1 call path (disk.Short found) cause = record { disk_later = record { faults = cause.faults_later; refusals = cause.refusals_later }; dest_later = later_same silent; counted = inl cause.counted }
disk_caused d0 d1 call path disk.NoMemory cause = record { disk_later = record { faults = cause.faults_later; refusals = cause.refusals_later }; dest_later = later_same silent; counted = tt }

-- the same error as another function's
pub causes_as : {T U : Type 0} (d0 d1 t0 t1 : Seen) (e : RestoreError) → HasCauses {T = T} d0 d1 t0 t1 (Err e) → HasCauses {T = U} d0 d1 t0 t1 (Err e)
causes_as d0 d1 t0 t1 e causes = record { disk_later = causes.disk_later; dest_later = causes.dest_later; counted = causes.counted }

-- a function over the destination alone
pub dest_causes : {T U : Type 0} (d t0 t1 : Seen) (e : RestoreError) → HasCauses {T = T} silent silent t0 t1 (Err e) → HasCauses {T = U} d d t0 t1 (Err e)
dest_causes d t0 t1 e causes = record {
  disk_later = later_same d;
  dest_later = causes.dest_later;
  counted = counted_wider _ _ _ _ _ _ _ _ e (λ r. absurd (omega (arith, r))) (λ r. absurd (omega (arith, r))) (λ r. r) (λ r. r) causes.counted;
}
