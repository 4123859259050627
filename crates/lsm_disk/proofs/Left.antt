-- What a refused call left: a fault may have made the change, and any other refusal has not.
use Rattle.std.specs.Prelude.{◌≡◌, ◌⊎◌, ℕ, List, take, Option, IfSome}
use Rattle.std.proofs.Common.{subst, ◌∙◌}
use Rattle.lsm_disk.specs.State.{State, Story, Change, after, state_of, appended}
use Rattle.lsm_disk.specs.Images.{Tree}
use Rattle.lsm_disk.specs.Goes.{Shows, Went}
use Rattle.lsm_disk.specs.Answers.{Makes, MakesFront, LeftBy, Allowed, RefusesBy}
use Rattle.lsm_disk.specs.Refusals.{no_file}
use Rattle.lsm_disk.specs.declared.calls.DiskError.{DiskError}
use Rattle.lsm_disk.specs.declared.calls.DiskError.TheVariants.{Fault, NotThere, Exists, NoLinks, NotEmpty, Short, NoMemory}
use Rattle.lsm_disk.proofs.Runs.{went_weaker, went_err, went_append_err}

module _ {start : Story} {q : Change → Type 0} {P : State → Tree → Type 0} where
  -- nothing was changed
  pub went_same : {told now : Option Story} (I : State → Type 0) (refusal : State → Option DiskError) (e : DiskError) → now ≡ told → IfSome told (λ story. RefusesBy (refusal (state_of story)) e) → Went start told q P I
      → Went start now q P (λ s. I s × RefusesBy (refusal s) e)
  went_same I refusal e same by w = record {
    story = w.story;
    tells = same ∙ w.tells;
    goes = w.goes;
    now = (w.now, subst (λ (o : Option Story). IfSome o (λ story. RefusesBy (refusal (state_of story)) e)) w.tells by);
  }

  pub went_left : {told now : Option Story} (I J : State → Type 0) (c : State → Change) (refusal : State → Option DiskError) (e : DiskError) → LeftBy (now ≡ told) (Allowed refusal told × Makes told c now) e → IfSome told (λ story. RefusesBy (refusal (state_of story)) e)
      → ((s : State) → I s → q (c s)) → ((s : State) → I s → J (after s (c s))) → ((s : State) → J s → Shows P s) → Went start told q P I → Went start now q P (λ s. LeftBy (I s) (J s) e × RefusesBy (refusal s) e)
  went_left I J c refusal Fault did by kind step shows w = went_weaker (λ s. I s ⊎ J s) (λ s. (I s ⊎ J s) × Unit {0}) (λ s i. (i, tt)) (went_err I J c refusal Fault did kind step shows w)
  went_left I J c refusal NotThere did by kind step shows w = went_same I refusal NotThere did by w
  went_left I J c refusal Exists did by kind step shows w = went_same I refusal Exists did by w
  went_left I J c refusal NoLinks did by kind step shows w = went_same I refusal NoLinks did by w
  went_left I J c refusal NotEmpty did by kind step shows w = went_same I refusal NotEmpty did by w
  went_left I J c refusal (Short found) did by kind step shows w = went_same I refusal (Short found) did by w
  went_left I J c refusal NoMemory did by kind step shows w = went_same I refusal NoMemory did by w

  -- the same of an append, where a fault has made a front
  pub went_append_left : {told now : Option Story} (I : State → Type 0) (J : ℕ → State → Type 0) (path bytes : List ℕ) (e : DiskError) → LeftBy (now ≡ told) (Allowed (no_file path) told × MakesFront path bytes told now) e → IfSome told (λ story. RefusesBy (no_file path (state_of story)) e)
      → ((n : ℕ) (s : State) → I s → q (appended path (take n bytes) s)) → ((n : ℕ) (s : State) → I s → J n (after s (appended path (take n bytes) s))) → ((n : ℕ) (s : State) → J n s → Shows P s)
      → Went start told q P I → Went start now q P (λ s. LeftBy (I s) ((n : ℕ) × J n s) e × RefusesBy (no_file path s) e)
  went_append_left I J path bytes Fault did by kind step shows w = went_weaker (λ s. I s ⊎ ((n : ℕ) × J n s)) (λ s. (I s ⊎ ((n : ℕ) × J n s)) × Unit {0}) (λ s i. (i, tt)) (went_append_err I J path bytes Fault did kind step shows w)
  went_append_left I J path bytes NotThere did by kind step shows w = went_same I (no_file path) NotThere did by w
  went_append_left I J path bytes Exists did by kind step shows w = went_same I (no_file path) Exists did by w
  went_append_left I J path bytes NoLinks did by kind step shows w = went_same I (no_file path) NoLinks did by w
  went_append_left I J path bytes NotEmpty did by kind step shows w = went_same I (no_file path) NotEmpty did by w
  went_append_left I J path bytes (Short found) did by kind step shows w = went_same I (no_file path) (Short found) did by w
  went_append_left I J path bytes NoMemory did by kind step shows w = went_same I (no_file path) NoMemory did by w
