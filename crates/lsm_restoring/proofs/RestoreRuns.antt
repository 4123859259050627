-- A run of a restore's calls, with what the disk's images on the way read as.
use Rattle.std.specs.Prelude.{◌≡◌, ◌⊎◌, List, [], ◌∷◌, ◌++◌}
use Rattle.std.proofs.Common.{⊎_elim, refl, sym, ap, subst, ◌∙◌}
use Rattle.std.proofs.lemmas.List.{append-nil, append_assoc}
use Rattle.lsm_disk.specs.State as disk
use Rattle.lsm_disk.specs.State.{Story, Change, state_of}
use Rattle.lsm_disk.specs.Images.{Tree, IsImage}
use Rattle.lsm_disk.proofs.Files.{same_some}
use Rattle.lsm_disk.proofs.Runs.{went_start, went_weaker, went_then, went_wider}
use Rattle.lsm_model.specs.declared.states.State.{State}
use Rattle.lsm_model.specs.Steps.{Made, Makes, Run}
use Rattle.lsm_model.proofs.Histories.{run_more}
use Rattle.lsm_refine.specs.Kept.{Shown}
use Rattle.lsm_refine.specs.Moments.{ReadsAsCrashed, ImagesShow}
use Rattle.lsm_refine.proofs.MomentLemmas.{reads_crashed}
use Rattle.lsm_restoring.specs.Calls.{StepsBy, IsOnTheWay, LeadsOn}

abbrev Any : Change → Type 0
Any c = Unit {0}

abbrev Reached : disk.State → Type 0
Reached d = Unit {0}

-- no call leads from a store to itself
pub leads_nowhere : (v : Shown) → LeadsOn v v
leads_nowhere v s before = record {
  steps = [];
  end = s;
  run = refl;
  good = before;
  images = went_weaker (λ (d : disk.State). d ≡ state_of before.story) Reached (λ d is. tt)
      (went_start (λ (d : disk.State). d ≡ state_of before.story) before.told refl (λ d is. record {
        each = λ t image. record {
          front = [];
          rest = [];
          are = refl;
          at = s;
          run = refl;
          reads = reads_crashed v s before t (subst (λ (x : disk.State). IsImage x t) is image);
        };
      }));
}

module _ (s m t : State) (steps : List Made) (made : Made) (run : Run s steps m) (step : Makes m made t) where
  -- what was on the way is still
  still_on_way : (tree : Tree) → IsOnTheWay s steps tree → IsOnTheWay s (steps ++ made ∷ []) tree
  still_on_way tree is = record {
    front = is.front;
    rest = is.rest ++ made ∷ [];
    are = ap (λ (l : List Made). l ++ made ∷ []) is.are ∙ append_assoc is.front is.rest (made ∷ []);
    at = is.at;
    run = is.run;
    reads = is.reads;
  }

  -- and so is what the last call shows
  last_on_way : (tree : Tree) → ReadsAsCrashed m tree ⊎ ReadsAsCrashed t tree → IsOnTheWay s (steps ++ made ∷ []) tree
  last_on_way tree shows = ⊎_elim
      (λ before. record { front = steps; rest = made ∷ []; are = refl; at = m; run = run; reads = before })
      (λ behind. record {
        front = steps ++ made ∷ [];
        rest = [];
        are = sym (append-nil (steps ++ made ∷ []));
        at = t;
        run = run_more s m t steps made run step;
        reads = behind;
      })
      shows

-- a call more leads on
pub leads_further : (first v w : Shown) (made : Made) → StepsBy made v w → LeadsOn first v → LeadsOn first w
leads_further first v w made call leads s before =
    let so_far = leads s before in
    let next = call so_far.end so_far.good in
    let steps : List Made = so_far.steps in
    record {
      steps = steps ++ made ∷ [];
      end = next.0;
      run = run_more s so_far.end next.0 steps made so_far.run next.1;
      good = next.2;
      images = went_then
          (went_wider Any Any (λ (d : disk.State) (t : Tree). IsOnTheWay s steps t)
          (λ (d : disk.State) (t : Tree). IsOnTheWay s (steps ++ made ∷ []) t) (λ c is. is)
          (λ d t is. still_on_way s so_far.end next.0 steps made so_far.run next.1 t is) so_far.images)
          (λ mid tells is. went_wider Any Any
          (λ (d : disk.State) (t : Tree). ReadsAsCrashed so_far.end t ⊎ ReadsAsCrashed next.0 t)
          (λ (d : disk.State) (t : Tree). IsOnTheWay s (steps ++ made ∷ []) t) (λ c is. is)
          (λ d t is. last_on_way s so_far.end next.0 steps made so_far.run next.1 t is)
          (subst (λ (story : Story). ImagesShow story w.disk.told so_far.end next.0)
          (same_some so_far.good.story mid (sym so_far.good.told ∙ tells)) next.3));
    }
