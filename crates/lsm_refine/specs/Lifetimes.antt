-- Lives of a store that lead to what is seen of it.
use Rattle.std.specs.Prelude.{List}
use Rattle.lsm_model.specs.declared.states.State.{State}
use Rattle.lsm_model.specs.Steps.{Made}
use Rattle.lsm_model.specs.Lives.{Lives}
use Rattle.lsm_refine.specs.Kept.{Shown}
use Rattle.lsm_refine.specs.Good.{Good}

-- These lives, one after another, each of a run, its end and the next opening, lead from the start to what is seen of a store:
-- to a state for which the store is good.
pub record LivesLead (start : State) (lives : List (List Made)) (v : Shown) : Type 0 where
  pub end : State
  pub lived : Lives start lives end
  pub good : Good v end
