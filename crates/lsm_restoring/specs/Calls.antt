-- What a call of a restore leaves of the store whose disk it is made on, and where a run of calls leads.
use Rattle.std.specs.Prelude.{◌≡◌, List, ◌++◌, Option, Result}
use Rattle.lsm_names.specs.declared.file_names.FileName.{FileName}
use Rattle.lsm_disk.specs.State.{Seen}
use Rattle.lsm_disk.specs.Images.{Tree}
use Rattle.lsm_disk.specs.Goes.{Went}
use Rattle.lsm_disk.specs.Dest.{Begun, DestSeen, HaltsAt, Leaves, HasDestCause}
use Rattle.lsm_disk.specs.declared.calls.Halt.{Halt}
use Rattle.lsm_disk.specs.declared.dest.DestError.{DestError}
use Rattle.lsm_model.specs.declared.states.State.{State}
use Rattle.lsm_model.specs.Steps.{Made, Makes, Run}
use Rattle.lsm_refine.specs.Kept.{Shown}
use Rattle.lsm_refine.specs.Good.{Good}
use Rattle.lsm_refine.specs.Moments.{ReadsAsCrashed, ImagesShow}

-- ---- one call

-- what is seen of a store as the place of a restored folder
abbrev pub dest_of : Shown → DestSeen
dest_of v = record { disk = v.disk; halt = v.halt; begun = v.kept.begun; hand = v.kept.hand }

-- the store with this folder begun and this file in hand, which this disk call halted, if one did
abbrev pub restoring_shown : Seen → Option Halt → Option Begun → Option FileName → Shown → Shown
restoring_shown seen halt begun hand v = record v { disk = seen; halt = halt; kept = record v.kept { begun = begun; hand = hand } }

-- The call is answered as one of a destination that makes these disk calls, after which this folder is begun and this file in
-- hand. Of what the store keeps no more has changed.
pub record IsAnswered (calls : List Halt) (begun : Option Begun) (hand : Option FileName) (v w : Shown)
    (result : Result (Unit {0}) DestError) : Type 0 where
  pub rest : w ≡ restoring_shown w.disk w.halt w.kept.begun w.kept.hand v
  pub halt : HaltsAt calls (dest_of v) (dest_of w) result
  pub leaves : Leaves begun hand (dest_of v) (dest_of w) result
  pub cause : HasDestCause v.disk w.disk result

-- For whichever state the store was good, the call with its answer is a step to one for which it is good; and each image of the
-- disk on the way reads as a crash leaves the one or the other.
abbrev pub StepsBy : Made → Shown → Shown → Type 0
StepsBy made v w = (s : State) → (good : Good v s)
    → (t : State) × Makes s made t × Good w t × ImagesShow good.story w.disk.told s t

-- ---- a run of calls

-- The tree reads as a crash leaves one of the states that these calls pass.
pub record IsOnTheWay (s : State) (steps : List Made) (t : Tree) : Type 0 where
  pub front : List Made
  pub rest : List Made
  pub are : steps ≡ front ++ rest
  pub at : State
  pub run : Run s front at
  pub reads : ReadsAsCrashed at t

-- A run of calls leads from the state to one for which the later store is good, and each image of the disk on the way reads as
-- a crash leaves one of the states that it passes.
pub record RunsTo (v : Shown) (s : State) (before : Good v s) (w : Shown) : Type 0 where
  pub steps : List Made
  pub end : State
  pub run : Run s steps end
  pub good : Good w end
  pub images : Went before.story w.disk.told (λ c. Unit {0}) (λ d t. IsOnTheWay s steps t) (λ d. Unit {0})

-- for whichever state the earlier store was good
abbrev pub LeadsOn : Shown → Shown → Type 0
LeadsOn v w = (s : State) → (before : Good v s) → RunsTo v s before w
