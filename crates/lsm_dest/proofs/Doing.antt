-- What a call of a restore changed on the disk, by the answer that it gives.
use Rattle.std.specs.Prelude.{◌≡◌, ◌≢◌, ◌⊎◌, ℕ, List, Option, Some, None, IfSome, Err}
use Rattle.std.proofs.Common.{⊎_elim, inl, inr, sym, ap, subst, ◌∙◌}
use Rattle.lsm_disk.specs.State.{State, Story, Seen, Change, state_of}
use Rattle.lsm_disk.specs.Tree.{TellsLawful}
use Rattle.lsm_disk.specs.Halts.{halt_at}
use Rattle.lsm_disk.specs.Answers.{Makes, LeftBy, Allowed, RefusesBy}
use Rattle.lsm_disk.specs.declared.calls.DiskError.{DiskError}
use Rattle.lsm_disk.specs.declared.calls.DiskError.TheVariants as disk
use Rattle.lsm_disk.specs.declared.calls.DiskCall.{DiskCall}
use Rattle.lsm_disk.specs.declared.calls.Halt.{Halt}
use Rattle.lsm_disk.specs.declared.calls.DiskRefusal.{DiskRefusal}
use Rattle.lsm_disk.specs.declared.dest.DestError.{DestError}
use Rattle.lsm_dest.specs.FolderDests.{answer_by, begin_answer_by, MakesIn, DidOnce}

-- what would be refused isn't allowed
would_refuse : (refusal : Option DiskError) (why : DiskError) → refusal ≡ Some why → refusal ≢ None
would_refuse refusal why is none = let clash : Some why ≡ None = sym is ∙ none in cc

module _ (made : Type 0) (refusal : State → Option DiskError) (old new : Option Story) where
  refuses : (told : Option Story) (why : DiskError) → IfSome told (λ story. refusal (state_of story) ≡ Some why)
      → IfSome told (λ story. refusal (state_of story) ≢ None)
  refuses None why by = tt
  refuses (Some story) why by = would_refuse (refusal (state_of story)) why by

  abbrev Did : DestError → Type 0
  Did e = DidOnce {T = Unit {0}} made refusal old new (Err e)

  -- by the refusal of the disk call
  pub did_refused : (at : Halt) (why : DiskError) → LeftBy (new ≡ old) (Allowed refusal old × made) why
      → IfSome old (λ story. RefusesBy (refusal (state_of story)) why) → Did (answer_by at why)
  did_refused at disk.Fault left by = left
  did_refused at disk.NotThere left by = (left, refuses old disk.NotThere by)
  did_refused at disk.Exists left by = (left, refuses old disk.Exists by)
  did_refused at disk.NoLinks left by = (left, refuses old disk.NoLinks by)
  did_refused at disk.NotEmpty left by = (left, refuses old disk.NotEmpty by)
  did_refused at (disk.Short found) left by = (left, refuses old (disk.Short found) by)
  did_refused at disk.NoMemory left by = left

  pub did_refused_begin : (at : Halt) (why : DiskError) → LeftBy (new ≡ old) (Allowed refusal old × made) why
      → IfSome old (λ story. RefusesBy (refusal (state_of story)) why) → Did (begin_answer_by at why)
  did_refused_begin at disk.Fault left by = left
  did_refused_begin at disk.NotThere left by = (left, refuses old disk.NotThere by)
  did_refused_begin at disk.Exists left by = left
  did_refused_begin at disk.NoLinks left by = (left, refuses old disk.NoLinks by)
  did_refused_begin at disk.NotEmpty left by = (left, refuses old disk.NotEmpty by)
  did_refused_begin at (disk.Short found) left by = (left, refuses old (disk.Short found) by)
  did_refused_begin at disk.NoMemory left by = left

-- what a made change is, by what the disk call says
pub left_in : (c : State → Change) (refusal : State → Option DiskError) (old new : Seen) (why : DiskError) → TellsLawful old
    → LeftBy (new.told ≡ old.told) (Allowed refusal old.told × Makes old.told c new.told) why
    → LeftBy (new.told ≡ old.told) (Allowed refusal old.told × MakesIn c old new) why
left_in c refusal old new disk.Fault lawful left = ⊎_elim (λ same. inl same) (λ made. inr (made.0, record { lawful = lawful; makes = made.1 })) left
left_in c refusal old new disk.NotThere lawful left = left
left_in c refusal old new disk.Exists lawful left = left
left_in c refusal old new disk.NoLinks lawful left = left
left_in c refusal old new disk.NotEmpty lawful left = left
left_in c refusal old new (disk.Short found) lawful left = left
left_in c refusal old new disk.NoMemory lawful left = left

-- the same at an exit, where the call was on this path
module _ (Made : List ℕ → Type 0) (refusal : List ℕ → State → Option DiskError) (old new : Option Story) (at : DiskCall)
    (path other : List ℕ) (same : path ≡ other) (why : DiskError) (r : DiskRefusal) (answer : DestError)
    (r_is : r ≡ record { at = halt_at at path; why = why }) (left : LeftBy (new ≡ old) (Allowed (refusal path) old × Made path) why)
    (by : IfSome old (λ story. RefusesBy (refusal path (state_of story)) why)) where
  abbrev DidOn : List ℕ → DestError → Type 0
  DidOn p e = DidOnce {T = Unit {0}} (Made p) (refusal p) old new (Err e)

  pub exit_did : answer ≡ answer_by r.at r.why → DidOn other answer
  exit_did is = subst (DidOn other) (sym (is ∙ ap (λ (x : DiskRefusal). answer_by x.at x.why) r_is))
      (subst (λ (p : List ℕ). DidOn p (answer_by (halt_at at path) why)) same
      (did_refused (Made path) (refusal path) old new (halt_at at path) why left by))

  pub exit_did_begin : answer ≡ begin_answer_by r.at r.why → DidOn other answer
  exit_did_begin is = subst (DidOn other) (sym (is ∙ ap (λ (x : DiskRefusal). begin_answer_by x.at x.why) r_is))
      (subst (λ (p : List ℕ). DidOn p (begin_answer_by (halt_at at path) why)) same
      (did_refused_begin (Made path) (refusal path) old new (halt_at at path) why left by))
