-- Events and their replies, as the steps of a run.
use Rattle.std.specs.Prelude.{◌≡◌, ℕ, ◌+◌, List, [], ◌∷◌, ◌++◌, length}
use Rattle.std.specs.List.{zip}
use Rattle.std.proofs.Common.{refl, sym, ap, subst, ◌∙◌, length-append, arith}
use Rattle.std.proofs.lemmas.List.{map-append}
use Rattle.lsm_model.specs.declared.events.Event.{Event}
use Rattle.lsm_model.specs.declared.replies.Reply.{Reply}
use Rattle.lsm_model.specs.declared.states.State.{State}
use Rattle.lsm_model.specs.Steps.{Step, Made, Asked, Run, all_asked}
use Rattle.lsm_model.proofs.Histories.{run_more}

pub none_left : {A : Type 0} (xs : List A) → length xs ≡ 0 → xs ≡ []
none_left [] none = refl
none_left (x ∷ xs) none = absurd (omega arith)

zip_more : (es : List Event) (rs : List Reply) (e : Event) (r : Reply) → length rs ≡ length es → zip (es ++ e ∷ []) (rs ++ r ∷ []) ≡ zip es rs ++ (e, r) ∷ []
zip_more [] [] e r same = refl
zip_more [] (x ∷ rs) e r same = absurd (omega arith)
zip_more (x ∷ es) [] e r same = absurd (omega arith)
zip_more (x ∷ es) (y ∷ rs) e r same = ap (λ (l : List (Event × Reply)). (x, y) ∷ l) (zip_more es rs e r (omega arith))

-- one event more is answered
pub play_more : (s m t : State) (es : List Event) (rs : List Reply) (e : Event) (r : Reply)
    → length rs ≡ length es → Run s (all_asked (zip es rs)) m → Step m e r t → Run s (all_asked (zip (es ++ e ∷ []) (rs ++ r ∷ []))) t
play_more s m t es rs e r same run step =
    let all : all_asked (zip (es ++ e ∷ []) (rs ++ r ∷ [])) ≡ all_asked (zip es rs) ++ Asked e r ∷ [] =
    ap all_asked (zip_more es rs e r same) ∙ map-append (λ (pair : Event × Reply). Asked pair.0 pair.1) (zip es rs) ((e, r) ∷ []) in
    subst (λ (l : List Made). Run s l t) (sym all) (run_more s m t (all_asked (zip es rs)) (Asked e r) run step)

pub one_more : {A B : Type 0} (xs : List A) (ys : List B) (x : A) (y : B) → length xs ≡ length ys → length (xs ++ x ∷ []) ≡ length (ys ++ y ∷ [])
one_more xs ys x y same = length-append xs (x ∷ []) ∙ ap (λ (n : ℕ). n + 1) same ∙ sym (length-append ys (y ∷ []))
