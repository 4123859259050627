-- Calls that lead to a store lead on by each further one.
use Rattle.std.specs.Prelude.{List, [], ◌∷◌, ◌++◌}
use Rattle.std.proofs.Common.{refl}
use Rattle.lsm_model.specs.declared.states.State.{State}
use Rattle.lsm_model.specs.Steps.{Made, Makes}
use Rattle.lsm_refine.specs.Kept.{Shown}
use Rattle.lsm_refine.specs.Good.{Good, Leads}
use Rattle.lsm_model.proofs.Histories.{run_more}

pub leads_none : (s : State) (v : Shown) → Good v s → Leads s [] v
leads_none s v good = record { end = s; run = refl; good = good }

pub leads_more : (start : State) (steps : List Made) (v w : Shown) (made : Made) (t : State) → (leads : Leads start steps v)
    → Makes leads.end made t → Good w t
    → Leads start (steps ++ made ∷ []) w
leads_more start steps v w made t leads step good = record {
  end = t;
  run = run_more start leads.end t steps made leads.run step;
  good = good;
}

pub leads_call : (start : State) (steps : List Made) (v w : Shown) (made : Made)
    → ((s : State) → Good v s → (t : State) × Makes s made t × Good w t)
    → Leads start steps v → Leads start (steps ++ made ∷ []) w
leads_call start steps v w made call leads =
    let next = call leads.end leads.good in
    leads_more start steps v w made next.0 leads next.1 next.2
