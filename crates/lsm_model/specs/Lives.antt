-- Lives of a store: the run of one open after another, each ended by a crash or a closing, or given up.
use Rattle.std.specs.Prelude.{◌≡◌, List, [], ◌∷◌, ◌++◌, Option, Ok}
use Rattle.lsm_rows.specs.declared.operations.Op.{Op}
use Rattle.lsm_model.specs.declared.events.Event.{Event}
use Rattle.lsm_model.specs.declared.replies.Reply.{Reply}
use Rattle.lsm_model.specs.declared.states.State.{State}
use Rattle.lsm_model.specs.States.{none_or_one}
use Rattle.lsm_model.specs.Steps.{Made, Asked, Run}
use Rattle.lsm_model.specs.Runs.{accepted_in}
use Rattle.lsm_model.specs.Crashes.{Crashed, Closes, Opened}
use Rattle.lsm_model.specs.Counts.{IsSynced}

-- an open ends by a crash, by a closing that is answered Ok, or with nothing done, as where its program ends
pub data Ends (s t : State) : Type 0 where
  By_crash : Crashed s t → Ends s t
  By_closing : Closes s (Ok tt) t → Ends s t
  Given_up : t ≡ s → Ends s t

-- one life: a run of these steps, its end, and the next opening, which leaves the second state
pub record Life (s : State) (steps : List Made) (t : State) : Type 0 where
  pub end : State
  pub found : State
  pub run : Run s steps end
  pub ends : Ends end found
  pub opened : Opened found t

-- lives, one after another
abbrev pub Lives : State → List (List Made) → State → Type 0
Lives s [] t = t ≡ s
Lives s (steps ∷ lives) t = (next : State) × Life s steps next × Lives next lives t

-- What a life leaves of its batches: a front of the accepted ones, perhaps with one more behind all of them whose write met a
-- fault. All that were accepted up to a write with `sync` or a sync, answered Ok, are among them.
pub record IsLeft (steps : List Made) (left : List (List Op)) : Type 0 where
  pub doubtful : Option (List Op)
  pub gone : List (List Op)
  pub front : accepted_in steps ++ none_or_one doubtful ≡ left ++ gone
  pub synced : (before after : List Made) (e : Event) (r : Reply) → steps ≡ before ++ (Asked e r) ∷ after → IsSynced e r
      → (more : List (List Op)) × (left ≡ accepted_in (before ++ (Asked e r) ∷ []) ++ more)

-- what lives leave, one behind another
abbrev pub AreLeft : List (List Made) → List (List Op) → Type 0
AreLeft [] left = left ≡ []
AreLeft (steps ∷ lives) left =
    (first : List (List Op)) × (rest : List (List Op)) × IsLeft steps first × AreLeft lives rest × (left ≡ first ++ rest)
