-- What lives leave: each opening finds the replay of a front of what each life before it wrote.
use Rattle.std.specs.Prelude.{◌≡◌, ℕ, ◌-◌, ◌≤◌, List, [], ◌∷◌, ◌++◌, length, take, drop}
use Rattle.std.proofs.Common.{refl, sym, ap, subst, ◌∙◌, inl, inr, arith, append_assoc, take-append-drop}
use Rattle.std.proofs.lemmas.List.{append-nil, length-append}
use Rattle.lsm_rows.specs.declared.operations.Op.{Op}
use Rattle.lsm_rows.specs.Replay.{Contents, replayed, sequence_after}
use Rattle.lsm_rows.proofs.Replaying.{replayed_both, sequence_both}
use Rattle.lsm_model.specs.declared.events.Event.{Event}
use Rattle.lsm_model.specs.declared.replies.Reply.{Reply}
use Rattle.lsm_model.specs.declared.states.State.{State}
use Rattle.lsm_model.specs.States.{written, none_or_one}
use Rattle.lsm_model.specs.Steps.{Made, Asked, Run}
use Rattle.lsm_model.specs.Runs.{accepted_in}
use Rattle.lsm_model.specs.Crashes.{Opened}
use Rattle.lsm_model.specs.Counts.{IsCounted, IsSynced}
use Rattle.lsm_model.specs.Lives.{Ends, By_crash, By_closing, Given_up, Life, Lives, IsLeft, AreLeft}
use Rattle.lsm_model.proofs.Histories.{run_more, run_accepted, run_base}
use Rattle.lsm_model.proofs.RunLemmas.{run_at}
use Rattle.lsm_model.proofs.DurableLemmas.{run_keeps}
use Rattle.lsm_model.proofs.CountLemmas.{longer_front, synced_all, run_counted, opened_counted}
use Rattle.lsm_model.proofs.OpeningLemmas.{OpensAs, crash_opens, close_opens, doubt_opens}

-- ---- one life

-- the front of the written batches that the next opening finds, with the durable ones
record IsFound (m t : State) : Type 0 where
  count : ℕ
  durable : m.durable ≤ count
  opens : OpensAs m t (take count (written m))

-- the accepted batches are a front of the written ones
front_accepted : (m : State) → take (length m.accepted) (written m) ≡ m.accepted
front_accepted m =
    let none : length m.accepted - length m.accepted ≡ 0 = omega arith in
    longer_front (length m.accepted) m.accepted (none_or_one m.doubtful) (omega arith)
    ∙ ap (λ (n : ℕ). m.accepted ++ take n (none_or_one m.doubtful)) none
    ∙ append-nil m.accepted

-- and all of them too
front_written : (m : State) → take (length (written m)) (written m) ≡ written m
front_written m =
    let none : length (written m) - length (written m) ≡ 0 = omega arith in
    ap (take (length (written m))) (sym (append-nil (written m)))
    ∙ longer_front (length (written m)) (written m) [] (omega arith)
    ∙ ap (λ (n : ℕ). written m ++ take n []) none
    ∙ append-nil (written m)

opens_front : (m t : State) (count : ℕ) (batches : List (List Op)) → m.durable ≤ count → take count (written m) ≡ batches → OpensAs m t batches → IsFound m t
opens_front m t count batches durable is opens = record { count = count; durable = durable; opens = subst (OpensAs m t) (sym is) opens }

within_written : (m : State) → IsCounted m → m.durable ≤ length (written m)
within_written m counted = let long = length-append m.accepted (none_or_one m.doubtful) in let few = counted.durable in omega (arith, long, few)

found_at : (m found t : State) → IsCounted m → Ends m found → Opened found t → IsFound m t
found_at m found t counted ends opened = elim ends [
  | By_crash c ↦ let opens = crash_opens m found t c opened in record { count = opens.0; durable = opens.1; opens = (opens.2, opens.3) }
  | By_closing c ↦ opens_front m t (length m.accepted) m.accepted counted.durable (front_accepted m) (close_opens m found t c opened)
  | Given_up is ↦ elim (doubt_opens m t (subst (λ (q : State). Opened q t) is opened)) [
    | inl opens ↦ opens_front m t (length m.accepted) m.accepted counted.durable (front_accepted m) opens
    | inr opens ↦ opens_front m t (length (written m)) (written m) (within_written m counted) (front_written m) opens
  ]
]

-- a front that is long enough begins with what was synced
synced_front : (s m : State) (before after : List Made) (e : Event) (r : Reply) (count : ℕ) → IsCounted s → s.accepted ≡ [] → Run s (before ++ (Asked e r) ∷ after) m → IsSynced e r
    → m.durable ≤ count → (more : List (List Op)) × (take count (written m) ≡ accepted_in (before ++ (Asked e r) ∷ []) ++ more)
synced_front s m before after e r count counted none run synced durable =
    let at = run_at s m before (Asked e r) after run in
    let front : List (List Op) = accepted_in (before ++ (Asked e r) ∷ []) in
    let there : at.1.accepted ≡ front =
    run_accepted s at.1 (before ++ (Asked e r) ∷ []) (run_more s at.0 at.1 before (Asked e r) at.2 at.3) ∙ ap (λ (l : List (List Op)). l ++ front) none in
    let parts : m.accepted ≡ front ++ accepted_in after = run_accepted at.1 m after at.4 ∙ ap (λ (l : List (List Op)). l ++ accepted_in after) there in
    let all : at.1.durable ≡ length at.1.accepted = synced_all at.0 at.1 e r at.3 synced in
    let long : length at.1.accepted ≡ length front = ap (λ (l : List (List Op)). length l) there in
    let rises = (run_keeps at.1 m after at.4 (omega (arith, all))).0 in
    let rest : List (List Op) = accepted_in after ++ none_or_one m.doubtful in
    let whole : written m ≡ front ++ rest = ap (λ (l : List (List Op)). l ++ none_or_one m.doubtful) parts ∙ append_assoc front (accepted_in after) (none_or_one m.doubtful) in
    (take (count - length front) rest, ap (take count) whole ∙ longer_front count front rest (omega (arith, all, long, rises, durable)))

-- what the life leaves, and the state that the next one begins with
record Leaves (s : State) (steps : List Made) (t : State) : Type 0 where
  left : List (List Op)
  is : IsLeft steps left
  opens : OpensAs s t left
  counted : IsCounted t
  none : t.accepted ≡ []

life_leaves : (s t : State) (steps : List Made) → IsCounted s → s.accepted ≡ [] → Life s steps t → Leaves s steps t
life_leaves s t steps counted none life =
    let m : State = life.end in
    let found = found_at m life.found t (run_counted s m steps life.run counted) life.ends life.opened in
    let base = run_base s m steps life.run in
    let all : m.accepted ≡ accepted_in steps = run_accepted s m steps life.run ∙ ap (λ (l : List (List Op)). l ++ accepted_in steps) none in
    let left : List (List Op) = take found.count (written m) in
    record {
      left = left;
      is = record {
        doubtful = m.doubtful;
        gone = drop found.count (written m);
        front = ap (λ (l : List (List Op)). l ++ none_or_one m.doubtful) (sym all) ∙ sym (take-append-drop found.count (written m));
        synced = λ before after e r is synced. synced_front s m before after e r found.count counted none
            (subst (λ (l : List Made). Run s l m) is life.run) synced found.durable;
      };
      opens = (found.opens.0 ∙ ap (λ (c : Contents). replayed c left) base.1, found.opens.1 ∙ ap (λ (n : ℕ). sequence_after n left) base.2);
      counted = opened_counted life.found t life.opened;
      none = ap (λ (q : State). q.accepted) life.opened.rest;
    }

-- ---- lives

pub lives_leave : (s t : State) (lives : List (List Made)) → IsCounted s → s.accepted ≡ [] → Lives s lives t
    → (left : List (List Op)) × AreLeft lives left × (t.opening ≡ replayed s.opening left) × (t.began ≡ sequence_after s.began left)
lives_leave s t [] counted none lives = ([], refl, ap (λ (q : State). q.opening) lives, ap (λ (q : State). q.began) lives)
lives_leave s t (steps ∷ rest) counted none lives =
    let one = life_leaves s lives.0 steps counted none lives.1 in
    let more = lives_leave lives.0 t rest one.counted one.none lives.2 in (
      one.left ++ more.0,
      (one.left, more.0, one.is, more.1, refl),
      more.2 ∙ ap (λ (c : Contents). replayed c more.0) one.opens.0 ∙ replayed_both s.opening one.left more.0,
      more.3 ∙ ap (λ (n : ℕ). sequence_after n more.0) one.opens.1 ∙ sequence_both s.began one.left more.0,
    )
