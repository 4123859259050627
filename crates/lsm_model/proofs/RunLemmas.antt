-- Runs taken apart at one of their steps, and what is shown there.
use Rattle.std.specs.Prelude.{◌≡◌, ℕ, ◌+◌, ◌≤◌, Bool, List, [], ◌∷◌, ◌++◌, length, Option, Ok}
use Rattle.std.proofs.Common.{refl, sym, ap, ◌∙◌, arith, append_assoc}
use Rattle.std.specs.FinMap as finite
use Rattle.lsm_rows.specs.declared.operations.Op.{Op}
use Rattle.lsm_rows.specs.Replay.{Contents, replayed, sequence_after}
use Rattle.lsm_model.specs.declared.events.Event.TheVariants as event
use Rattle.lsm_model.specs.declared.replies.Reply.TheVariants as reply
use Rattle.lsm_model.specs.declared.replies.Shown.{Shown}
use Rattle.lsm_model.specs.declared.states.State.{State}
use Rattle.lsm_model.specs.States.{shown_after, contents_now, last_of}
use Rattle.lsm_model.specs.Answers.{Done, Failed, Wanting, Refused}
use Rattle.lsm_model.specs.Steps.{Step, Made, Asked, Makes, Run}
use Rattle.lsm_model.specs.Runs.{added, accepted_in, shown_behind}
use Rattle.lsm_model.proofs.Histories.{run_more, run_accepted, run_base, run_last}

-- ---- a run at one step

pub run_at : (s t : State) (before : List Made) (step : Made) (after : List Made) → Run s (before ++ step ∷ after) t
    → (m : State) × (n : State) × Run s before m × Makes m step n × Run n after t
run_at s t [] step after run = (s, run.0, refl, run.1, run.2)
run_at s t (x ∷ before) step after run =
    let at = run_at run.0 t before step after run.2 in
    (at.0, at.1, (run.0, run.1, at.2), at.3, at.4)

-- the accepted batches of one list of steps and then of another
pub accepted_append : (xs ys : List Made) → accepted_in (xs ++ ys) ≡ accepted_in xs ++ accepted_in ys
accepted_append [] ys = refl
accepted_append (x ∷ xs) ys = ap (λ (l : List (List Op)). added x ++ l) (accepted_append xs ys) ∙ sym (append_assoc (added x) (accepted_in xs) (accepted_in ys))

-- an accepted write's batch stands behind those before it and before those behind it
pub accepted_between : (before after : List Made) (ops : List Op) (sync : Bool) (last : ℕ)
    → accepted_in (before ++ (Asked (event.Write ops sync) (reply.Write (Ok last))) ∷ after) ≡ accepted_in before ++ ops ∷ accepted_in after
accepted_between before after ops sync last = accepted_append before ((Asked (event.Write ops sync) (reply.Write (Ok last))) ∷ after)

-- ---- single steps

got : (s t : State) (key : List ℕ) (value : Option (List ℕ)) → Step s (event.Get key) (reply.Get (Ok value)) t → value ≡ finite.get (contents_now s) key
unfolding Step
got s t key value step = elim step [
  | Done other is known d ↦ let same : value ≡ other = cc in same ∙ d.0
  | Failed is known f ↦ absurd (cc)
  | Wanting is known w ↦ absurd (cc)
  | Refused e is known w ↦ absurd w
]

scanned : (s t : State) (pairs : Contents) → Step s event.Scan (reply.Scan (Ok pairs)) t → pairs ≡ contents_now s
unfolding Step
scanned s t pairs step = elim step [
  | Done other is known d ↦ let same : pairs ≡ other = cc in same ∙ d.0
  | Failed is known f ↦ absurd (cc)
  | Wanting is known w ↦ absurd (cc)
  | Refused e is known w ↦ absurd w
]

told : (s t : State) (last : ℕ) → Step s event.Last (reply.Last last) t → last ≡ last_of s
unfolding Step
told s t last step = step.0

-- a write's answer is the last sequence behind it, and that before it and the count of its operations
pub wrote : (s t : State) (ops : List Op) (sync : Bool) (last : ℕ) → Step s (event.Write ops sync) (reply.Write (Ok last)) t → (last ≡ last_of s + length ops) × (last ≡ last_of t)
unfolding Step
wrote s t ops sync last step =
    let behind : last_of t ≡ last_of s + length ops = run_last s t ((Asked (event.Write ops sync) (reply.Write (Ok last))) ∷ []) (t, step, refl) in
    elim step [
      | Done other is known d ↦ let same : last ≡ other = cc in (same ∙ d.0, same ∙ d.0 ∙ sym behind)
      | Failed is known f ↦ absurd (cc)
      | Wanting is known w ↦ absurd (cc)
      | Refused e is known w ↦ absurd (cc)
    ]

-- ---- what is shown behind a run

pub shown_now : (s m : State) (before : List Made) → Run s before m → shown_after m m.accepted ≡ shown_behind s before
shown_now s m before run =
    let base = run_base s m before run in
    let all = run_accepted s m before run in
    λ i. record { sequence = sequence_after (base.2 i) (all i); contents = replayed (base.1 i) (all i) }

pub get_shows : (s t : State) (before after : List Made) (key : List ℕ) (value : Option (List ℕ))
    → Run s (before ++ (Asked (event.Get key) (reply.Get (Ok value))) ∷ after) t → value ≡ finite.get (shown_behind s before).contents key
get_shows s t before after key value run =
    let at = run_at s t before (Asked (event.Get key) (reply.Get (Ok value))) after run in
    got at.0 at.1 key value at.3 ∙ ap (λ (shown : Shown). finite.get shown.contents key) (shown_now s at.0 before at.2)

pub scan_shows : (s t : State) (before after : List Made) (pairs : Contents)
    → Run s (before ++ (Asked event.Scan (reply.Scan (Ok pairs))) ∷ after) t → pairs ≡ (shown_behind s before).contents
scan_shows s t before after pairs run =
    let at = run_at s t before (Asked event.Scan (reply.Scan (Ok pairs))) after run in
    scanned at.0 at.1 pairs at.3 ∙ ap (λ (shown : Shown). shown.contents) (shown_now s at.0 before at.2)

pub last_shows : (s t : State) (before after : List Made) (last : ℕ)
    → Run s (before ++ (Asked event.Last (reply.Last last)) ∷ after) t → last ≡ (shown_behind s before).sequence
last_shows s t before after last run =
    let at = run_at s t before (Asked event.Last (reply.Last last)) after run in
    told at.0 at.1 last at.3 ∙ ap (λ (shown : Shown). shown.sequence) (shown_now s at.0 before at.2)

-- ---- the sequences that writes answer

-- a write's answer is the last sequence behind it
pub write_answers : (s t : State) (before after : List Made) (ops : List Op) (sync : Bool) (last : ℕ)
    → Run s (before ++ (Asked (event.Write ops sync) (reply.Write (Ok last))) ∷ after) t → last ≡ (shown_behind s (before ++ (Asked (event.Write ops sync) (reply.Write (Ok last))) ∷ [])).sequence
write_answers s t before after ops sync last run =
    let at = run_at s t before (Asked (event.Write ops sync) (reply.Write (Ok last))) after run in
    (wrote at.0 at.1 ops sync last at.3).1
    ∙ ap (λ (shown : Shown). shown.sequence) (shown_now s at.1 (before ++ (Asked (event.Write ops sync) (reply.Write (Ok last))) ∷ []) (run_more s at.0 at.1 before (Asked (event.Write ops sync) (reply.Write (Ok last))) at.2 at.3))

pub sequence_rises : (start : ℕ) (batches : List (List Op)) → start ≤ sequence_after start batches
sequence_rises start [] = omega arith
sequence_rises start (ops ∷ batches) = let more = sequence_rises (start + length ops) batches in omega (arith, more)

-- of two accepted writes the later one's answer is past the earlier one's by its operations at least
pub writes_rise : (s t : State) (before between after : List Made) (first second : List Op) (sync also : Bool) (earlier later : ℕ)
    → Run s (before ++ (Asked (event.Write first sync) (reply.Write (Ok earlier))) ∷ (between ++ (Asked (event.Write second also) (reply.Write (Ok later))) ∷ after)) t
    → earlier + length second ≤ later
writes_rise s t before between after first second sync also earlier later run =
    let one = run_at s t before (Asked (event.Write first sync) (reply.Write (Ok earlier))) (between ++ (Asked (event.Write second also) (reply.Write (Ok later))) ∷ after) run in
    let two = run_at one.1 t between (Asked (event.Write second also) (reply.Write (Ok later))) after one.4 in
    let answered = wrote one.0 one.1 first sync earlier one.3 in
    let then_answered = wrote two.0 two.1 second also later two.3 in
    let behind = run_last one.1 two.0 between two.2 in
    let rises = sequence_rises (last_of one.1) (accepted_in between) in
    omega (arith, answered.1, then_answered.0, behind, rises)
