-- Steps of a merge, one after another.
use Rattle.std.proofs.Common.{inl, inr, ⊎_elim, ◌≡◌, ℕ, ◌<◌, Bool, List, ◌++◌, length, get_or, sym, ap, ◌∙◌, subst, arith}
use Rattle.std.specs.Prelude.{Contains, Option, Some, Result, Ok, Err, IsErrAnd, slice_get}
use Rattle.std.proofs.lemmas.List.{append_assoc}
use Rattle.std.proofs.lemmas.List.Elements.{Contains-append_right}
use Rattle.std.proofs.lemmas.Option.{slice_get_within, slice_get-get_or}
use Rattle.lsm_rows.specs.declared.rows.Row.{Row}
use Rattle.lsm_merge.specs.declared.faults.MergeFault.{MergeFault}
use Rattle.lsm_merge.specs.declared.faults.MergeFault.TheVariants.{Source}
use Rattle.lsm_merge.specs.Merging.{Merging, IsOutdone, KeepsRows, HasGiven, IsAhead, HasAnswered, IsRefusedBy, ToldFaults}
use Rattle.lsm_merge.specs.Steps.{IsStep}

-- lists of one length have the same places
there : {S : Type 0} (xs ys : List S) (place : ℕ) (x : S) → length ys ≡ length xs → slice_get xs place ≡ Some x
    → (y : S) × (slice_get ys place ≡ Some y)
there xs ys place x count is =
    let within : place < length xs = slice_get_within xs place x is in
    (get_or ys place x, slice_get-get_or ys place x (omega (arith, count, within)))

module _ {S : Type 0} (left : S → List Row) (ended : S → Bool) where
  rows_then : (a b c : Merging S) → KeepsRows left a b → KeepsRows left b c → KeepsRows left a c
  unfolding IsOutdone
  rows_then a b c first second = record {
    found = λ row is. second.found row (first.found row is);
    kept = λ row is. first.kept row (second.kept row is);
    others = λ row is. ⊎_elim (λ stays. second.others row stays)
        (λ outdone. inr (outdone.0, second.found outdone.0 outdone.1, outdone.2, outdone.3)) (first.others row is);
  }

  given_then : (a b c : S) → HasGiven left ended a b → HasGiven left ended b c → HasGiven left ended a c
  given_then a b c first second = record {
    gone = first.gone ++ second.gone;
    rows = first.rows ∙ ap (λ (l : List Row). first.gone ++ l) second.rows ∙ sym (append_assoc first.gone second.gone (left c));
    end = λ e. second.end (first.end e);
  }

  ahead_then : (a b c : Merging S) → IsAhead left ended a b → IsAhead left ended b c → IsAhead left ended a c
  ahead_then a b c first second = record {
    count = second.count ∙ first.count;
    asked = let low = first.asked in let high = second.asked in omega (arith, low, high);
    given = λ at before after was is. let mid = there a.sources b.sources at before first.count was in given_then
        before mid.0 after (first.given at before mid.0 was mid.1) (second.given at mid.0 after mid.1 is);
    heads = λ head has. ⊎_elim (λ held. first.heads head held)
        (λ given. let before = there b.sources a.sources head.place given.0 (sym first.count) given.1 in
        let gave = first.given head.place before.0 given.0 before.1 given.1 in
        inr (
          before.0,
          before.1,
          subst (λ (l : List Row). Contains l head.row) (sym gave.rows)
              (Contains-append_right gave.gone (left given.0) head.row given.2),
        ))
        (second.heads head has);
  }

module _ {S F : Type 0} (left : S → List Row) (ended : S → Bool) (fault_of : S → Option F) where
  answered_then : (a b c : S) → HasAnswered fault_of a b → HasAnswered fault_of b c → HasAnswered fault_of a c
  unfolding HasAnswered
  answered_then a b c first second = ⊎_elim
      (λ same. ⊎_elim (λ was. inl (same ∙ was)) (λ told. inr (same ∙ told)) first) (λ told. inr told) second

  never_refused : {U : Type 0} (u : U) (place : ℕ) (source : S) → IsRefusedBy fault_of {A = U} (Ok u) place source → ⊥
  unfolding IsRefusedBy
  never_refused u place source refused = let clash = refused.1 in cc

  answers_then : {U V : Type 0} (u : U) (result : Result V (MergeFault F)) (a b c : List S) → length b ≡ length a
      → ToldFaults fault_of {A = U} (Ok u) a b → ToldFaults fault_of result b c → ToldFaults fault_of result a c
  unfolding ToldFaults
  answers_then {U} u result a b c count first second = λ at before after was is.
      let mid = there a b at before count was in
      ⊎_elim
      (λ answered. ⊎_elim (λ later. inl (answered_then before mid.0 after answered later)) (λ refused. inr refused)
      (second at mid.0 after mid.1 is))
      (λ refused. absurd (never_refused u at mid.0 refused))
      (first at before mid.0 was mid.1)

  -- a step behind one that was Ok
  pub step_then : {U V : Type 0} (u : U) (result : Result V (MergeFault F)) (a b c : Merging S)
      → IsStep {A = U} left ended fault_of (Ok u) a b → IsStep {A = V} left ended fault_of result b c
      → IsStep {A = V} left ended fault_of result a c
  step_then u result a b c first second = record {
    rows = rows_then left ended a b c first.rows second.rows;
    count = let low = first.count in let high = second.count in omega (arith, low, high);
    answers = answers_then u result a.sources b.sources c.sources first.ahead.count first.answers second.answers;
    cause = second.cause;
    ahead = ahead_then left ended a b c first.ahead second.ahead;
    ready = second.ready;
  }

  refused_by : (V W : Type 0) (fault : MergeFault F) (place : ℕ) (source : S) → IsRefusedBy fault_of {A = W}
      (Err fault) place source → IsRefusedBy fault_of {A = V} (Err fault) place source
  unfolding IsRefusedBy
  refused_by V W fault place source refused =
      (refused.0, let same : fault ≡ Source place refused.0 = cc in ap Err same, refused.2)

  -- a refusal of a call of another type
  pub refused_as : (V W : Type 0) (fault : MergeFault F) (b c : Merging S) → IsStep {A = W} left ended fault_of
      (Err fault) b c → IsStep {A = V} left ended fault_of (Err fault) b c
  unfolding ToldFaults
  refused_as V W fault b c step = record {
    rows = step.rows;
    count = step.count;
    answers = λ at before after was is. ⊎_elim (λ answered. inl answered)
        (λ refused. inr (refused_by V W fault at after refused)) (step.answers at before after was is);
    cause = step.cause;
    ahead = step.ahead;
    ready = step.ready;
  }

  -- a step behind one that was Ok, where the second was refused and its fault is handed on
  pub step_refused : {U V : Type 0} (W : Type 0) (u : U) (fault : MergeFault F) (result : Result V (MergeFault F))
      (a b c : Merging S) → IsErrAnd result (λ e. e ≡ fault) → IsStep {A = U} left ended fault_of (Ok u) a b
      → IsStep {A = W} left ended fault_of (Err fault) b c → IsStep {A = V} left ended fault_of result a c
  step_refused W u fault (Ok v) a b c is first second = absurd is
  step_refused {U} {V} W u fault (Err e) a b c is first second =
      subst (λ (x : MergeFault F). IsStep {A = V} left ended fault_of (Err x) a c) (sym is)
      (step_then u (Err fault) a b c first (refused_as V W fault b c second))

  -- an Ok of a call of another type
  pub answers_as : {U V : Type 0} (u : U) (v : V) (a b : List S) → ToldFaults fault_of {A = U} (Ok u) a b
      → ToldFaults fault_of {A = V} (Ok v) a b
  unfolding ToldFaults
  answers_as {U} u v a b told = λ at before after was is. ⊎_elim (λ answered. inl answered)
      (λ refused. absurd (never_refused u at after refused)) (told at before after was is)

  -- a fault that is handed on
  pub handed_on : {V : Type 0} (W : Type 0) (fault : MergeFault F) (result : Result V (MergeFault F))
      (a b : Merging S) → IsErrAnd result (λ e. e ≡ fault) → IsStep {A = W} left ended fault_of (Err fault) a b
      → IsStep {A = V} left ended fault_of result a b
  handed_on W fault (Ok v) a b is step = absurd is
  handed_on {V} W fault (Err e) a b is step = subst
      (λ (x : MergeFault F). IsStep {A = V} left ended fault_of (Err x) a b) (sym is) (refused_as V W fault a b step)
