-- Lives that lead to a store lead on by each further one.
use Rattle.std.specs.Prelude.{List, [], ◌∷◌, ◌++◌, Ok}
use Rattle.std.proofs.Common.{refl, subst}
use Rattle.lsm_model.specs.declared.states.State.{State}
use Rattle.lsm_model.specs.Steps.{Made}
use Rattle.lsm_model.specs.Crashes.{Closes}
use Rattle.lsm_model.specs.Lives.{By_crash, By_closing, Given_up, Life, Lives}
use Rattle.lsm_refine.specs.Kept.{Shown}
use Rattle.lsm_refine.specs.Good.{Good, Leads}
use Rattle.lsm_refine.specs.Openings.{OpensTo, ReopensTo}
use Rattle.lsm_refine.specs.Lifetimes.{LivesLead}

lives_more : (s t u : State) (lives : List (List Made)) (steps : List Made) → Lives s lives t → Life t steps u
    → Lives s (lives ++ steps ∷ []) u
lives_more s t u [] steps same life = (u, subst (λ (q : State). Life q steps u) same life, refl)
lives_more s t u (first ∷ lives) steps lived life = (lived.0, lived.1, lives_more lived.0 t u lives steps lived.2 life)

pub lives_none : (s : State) (v : Shown) → Good v s → LivesLead s [] v
lives_none s v good = record { end = s; lived = refl; good = good }

module _ (start : State) (lives : List (List Made)) (steps : List Made) (v u w : Shown) (lead : LivesLead start lives v)
    (run : Leads lead.end steps u) where
  lead_on : (next : State) → Life lead.end steps next → Good w next → LivesLead start (lives ++ steps ∷ []) w
  lead_on next life good = record { end = next; lived = lives_more start lead.end next lives steps lead.lived life; good = good }

  pub crash_leads_on : ReopensTo run.end w → LivesLead start (lives ++ steps ∷ []) w
  crash_leads_on again =
      lead_on again.opens.state (record {
        end = run.end;
        found = again.left;
        run = run.run;
        ends = By_crash again.crashed;
        opened = again.opens.opened;
      }) again.opens.good

  pub giving_up_leads_on : OpensTo run.end w → LivesLead start (lives ++ steps ∷ []) w
  giving_up_leads_on opens = lead_on opens.state (record {
    end = run.end;
    found = run.end;
    run = run.run;
    ends = Given_up refl;
    opened = opens.opened;
  }) opens.good

  pub closing_leads_on : (found : State) → Closes run.end (Ok tt) found → OpensTo found w → LivesLead start (lives ++ steps ∷ []) w
  closing_leads_on found closes opens =
      lead_on opens.state (record {
        end = run.end;
        found = found;
        run = run.run;
        ends = By_closing closes;
        opened = opens.opened;
      }) opens.good
