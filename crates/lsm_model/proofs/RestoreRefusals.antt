-- Why a restore's call is refused.
use Rattle.std.specs.Prelude.{◌≡◌, ℕ, List, Option, Some, None, Result, Ok, Err}
use Rattle.std.proofs.Common.{refl, sym, ap, subst, ◌∙◌, inl, inr}
use Rattle.lsm_disk.specs.declared.calls.DiskCall.{DiskCall}
use Rattle.lsm_disk.specs.declared.calls.DiskCall.TheVariants as disk
use Rattle.lsm_disk.specs.declared.calls.Halt.{Halt}
use Rattle.lsm_disk.specs.declared.dest.DestError.{DestError}
use Rattle.lsm_disk.specs.declared.dest.DestError.TheVariants as dest
use Rattle.lsm_io.specs.Causes.{Rose}
use Rattle.lsm_model.specs.declared.states.State.{State}
use Rattle.lsm_model.specs.Halting.{Aimed}
use Rattle.lsm_model.specs.Moves.{Halts}
use Rattle.lsm_model.specs.Destination.{BeginsFolder, FillsFolder, FinishesFolder}
use Rattle.lsm_model.specs.Steps.{Made, Asked, Began, Filed, Appended, Sealed, Finished, Closed_file, Closed_tables, Makes}
use Rattle.lsm_model.specs.Refusals.{restore_answer, HasRestoreCause, Was_halted, Failed_disk, Taken_name, Wanting_memory}

-- the answer of a refused call
abbrev refusing : DestError → Option (Result (Unit {0}) DestError)
refusing refusal = Some (Err refusal)

refused_so : (a b : DestError) → refusing a ≡ refusing b → b ≡ a
refused_so a b is = cc

done_so : (done : Unit {0}) (b : DestError) → Some (Ok done) ≡ Some (Err b) → ⊥
done_so done b is = cc

-- a fault with the disk call that halts the store
fault_cause : (s : State) (made : Made) (refusal : DestError) (calls : List Aimed) (m t : State) → m.faults ≡ s.faults → refusal ≡ dest.Fault → s.halt ≡ None
    → Halts calls m t → HasRestoreCause s made refusal t
fault_cause s made refusal calls m t same is none h =
    Failed_disk h.first is none (ap (λ (q : State). q.halt) h.rest.rest) (subst (λ (n : ℕ). Rose n t.faults) same h.rose)

begin_cause : (s t : State) (dir : List ℕ) (result : Result (Unit {0}) DestError) (refusal : DestError) → BeginsFolder s dir result t → Some result ≡ Some (Err refusal)
    → HasRestoreCause s (Began dir result) refusal t
begin_cause s t dir (Ok done) refusal h is = absurd (done_so done refusal is)
begin_cause s t dir (Err dest.Fault) refusal h is = elim h.1 [
  | inl f ↦ fault_cause s (Began dir (Err dest.Fault)) refusal _ s t refl (refused_so dest.Fault refusal is) h.0 f
  | inr f ↦ fault_cause s (Began dir (Err dest.Fault)) refusal _ _ t refl (refused_so dest.Fault refusal is) h.0 f.1
]
begin_cause s t dir (Err (dest.Halted first)) refusal h is = Was_halted first (refused_so (dest.Halted first) refusal is) h.0 h.1
begin_cause s t dir (Err dest.Exists) refusal h is =
    let so = refused_so dest.Exists refusal is in
    Taken_name dir (ap (λ (e : DestError). Began dir (Err e)) (sym so)) so h.0 h.1 h.2
begin_cause s t dir (Err (dest.Changed call path)) refusal h is = absurd h
begin_cause s t dir (Err dest.NoMemory) refusal h is = Wanting_memory (refused_so dest.NoMemory refusal is) h.0 h.1

fill_cause : (s t : State) (made : Made) (call : DiskCall) (result : Result (Unit {0}) DestError) (refusal : DestError) → FillsFolder call s result t → Some result ≡ Some (Err refusal)
    → HasRestoreCause s made refusal t
fill_cause s t made call (Ok done) refusal h is = absurd (done_so done refusal is)
fill_cause s t made call (Err dest.Fault) refusal h is = fault_cause s made refusal _ s t refl (refused_so dest.Fault refusal is) h.0 h.1
fill_cause s t made call (Err (dest.Halted first)) refusal h is = Was_halted first (refused_so (dest.Halted first) refusal is) h.0 h.1
fill_cause s t made call (Err dest.Exists) refusal h is = absurd h
fill_cause s t made call (Err (dest.Changed at path)) refusal h is = absurd h
fill_cause s t made call (Err dest.NoMemory) refusal h is = Wanting_memory (refused_so dest.NoMemory refusal is) h.0 h.1

finish_cause : (s t : State) (made : Made) (result : Result (Unit {0}) DestError) (refusal : DestError) → FinishesFolder s result t → Some result ≡ Some (Err refusal)
    → HasRestoreCause s made refusal t
finish_cause s t made (Ok done) refusal h is = absurd (done_so done refusal is)
finish_cause s t made (Err dest.Fault) refusal h is = elim h.1.halts [
  | inl f ↦ fault_cause s made refusal _ s t refl (refused_so dest.Fault refusal is) h.0 f
  | inr f ↦ fault_cause s made refusal _ _ t refl (refused_so dest.Fault refusal is) h.0 f
]
finish_cause s t made (Err (dest.Halted first)) refusal h is = Was_halted first (refused_so (dest.Halted first) refusal is) h.0 h.1
finish_cause s t made (Err dest.Exists) refusal h is = absurd h
finish_cause s t made (Err (dest.Changed call path)) refusal h is = absurd h
finish_cause s t made (Err dest.NoMemory) refusal h is = Wanting_memory (refused_so dest.NoMemory refusal is) h.0 h.1

none_so : (result : Result (Unit {0}) DestError) → None ≡ Some result → ⊥
none_so result is = cc

-- each refusal of a restore's call has its cause
pub restore_cause : (s t : State) (made : Made) (refusal : DestError) → Makes s made t → restore_answer made ≡ Some (Err refusal) → HasRestoreCause s made refusal t
restore_cause s t (Asked e r) refusal h is = absurd (none_so (Err refusal) is)
restore_cause s t (Began dir result) refusal h is = begin_cause s t dir result refusal h is
restore_cause s t (Filed name result) refusal h is = fill_cause s t (Filed name result) disk.Create result refusal h is
restore_cause s t (Appended bytes result) refusal h is = fill_cause s t (Appended bytes result) disk.Append result refusal h is
restore_cause s t (Sealed result) refusal h is = fill_cause s t (Sealed result) disk.Sync result refusal h is
restore_cause s t (Finished current result) refusal h is = finish_cause s t (Finished current result) result refusal h is
restore_cause s t Closed_file refusal h is = absurd (none_so (Err refusal) is)
restore_cause s t Closed_tables refusal h is = absurd (none_so (Err refusal) is)

-- ---- a store that is halted

-- a halted store's answer
abbrev AnswersHalted : State → Halt → Result (Unit {0}) DestError → State → Type 0
AnswersHalted s first result t = (result ≡ Err (dest.Halted first)) × (t ≡ s)

not_both : (s : State) (first : Halt) → s.halt ≡ None → s.halt ≡ Some first → ⊥
not_both s first none some = cc

first_one : (s : State) (first other : Halt) (t : State) → s.halt ≡ Some first → s.halt ≡ Some other → t ≡ s → AnswersHalted s first (Err (dest.Halted other)) t
first_one s first other t is so same = (let e : other ≡ first = cc in ap (λ (at : Halt). Err (dest.Halted at)) e, same)

begin_halted : (s t : State) (dir : List ℕ) (result : Result (Unit {0}) DestError) (first : Halt) → BeginsFolder s dir result t → s.halt ≡ Some first → AnswersHalted s first result t
begin_halted s t dir (Ok done) first h is = absurd (not_both s first h.0 is)
begin_halted s t dir (Err dest.Fault) first h is = absurd (not_both s first h.0 is)
begin_halted s t dir (Err (dest.Halted other)) first h is = first_one s first other t is h.0 h.1
begin_halted s t dir (Err dest.Exists) first h is = absurd (not_both s first h.0 is)
begin_halted s t dir (Err (dest.Changed call path)) first h is = absurd h
begin_halted s t dir (Err dest.NoMemory) first h is = absurd (not_both s first h.0 is)

fill_halted : (s t : State) (call : DiskCall) (result : Result (Unit {0}) DestError) (first : Halt) → FillsFolder call s result t → s.halt ≡ Some first → AnswersHalted s first result t
fill_halted s t call (Ok done) first h is = absurd (not_both s first h.0 is)
fill_halted s t call (Err dest.Fault) first h is = absurd (not_both s first h.0 is)
fill_halted s t call (Err (dest.Halted other)) first h is = first_one s first other t is h.0 h.1
fill_halted s t call (Err dest.Exists) first h is = absurd h
fill_halted s t call (Err (dest.Changed at path)) first h is = absurd h
fill_halted s t call (Err dest.NoMemory) first h is = absurd (not_both s first h.0 is)

finish_halted : (s t : State) (result : Result (Unit {0}) DestError) (first : Halt) → FinishesFolder s result t → s.halt ≡ Some first → AnswersHalted s first result t
finish_halted s t (Ok done) first h is = absurd (not_both s first h.0 is)
finish_halted s t (Err dest.Fault) first h is = absurd (not_both s first h.0 is)
finish_halted s t (Err (dest.Halted other)) first h is = first_one s first other t is h.0 h.1
finish_halted s t (Err dest.Exists) first h is = absurd h
finish_halted s t (Err (dest.Changed call path)) first h is = absurd h
finish_halted s t (Err dest.NoMemory) first h is = absurd (not_both s first h.0 is)

answered_so : (s t : State) (first : Halt) (a b : Result (Unit {0}) DestError) → Some a ≡ Some b → AnswersHalted s first a t → AnswersHalted s first b t
answered_so s t first a b is h = let same : b ≡ a = cc in (same ∙ h.0, h.1)

-- a halted store refuses each of a restore's calls, and stays as it is
pub restore_halted : (s t : State) (made : Made) (result : Result (Unit {0}) DestError) (first : Halt) → Makes s made t → restore_answer made ≡ Some result → s.halt ≡ Some first
    → (result ≡ Err (dest.Halted first)) × (t ≡ s)
restore_halted s t (Asked e r) result first h is so = absurd (none_so result is)
restore_halted s t (Began dir answer) result first h is so = answered_so s t first answer result is (begin_halted s t dir answer first h so)
restore_halted s t (Filed name answer) result first h is so = answered_so s t first answer result is (fill_halted s t disk.Create answer first h so)
restore_halted s t (Appended bytes answer) result first h is so = answered_so s t first answer result is (fill_halted s t disk.Append answer first h so)
restore_halted s t (Sealed answer) result first h is so = answered_so s t first answer result is (fill_halted s t disk.Sync answer first h so)
restore_halted s t (Finished current answer) result first h is so = answered_so s t first answer result is (finish_halted s t answer first h so)
restore_halted s t Closed_file result first h is so = absurd (none_so result is)
restore_halted s t Closed_tables result first h is so = absurd (none_so result is)
