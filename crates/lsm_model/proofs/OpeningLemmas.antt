-- What an opening finds: after a crash, after a closing, and after a call that failed.
use Rattle.std.specs.Prelude.{◌≡◌, ◌⊎◌, ℕ, zero, suc, ◌-◌, ◌≤◌, true, List, [], ◌∷◌, ◌++◌, length, take, Option, Some, None, Ok}
use Rattle.std.proofs.Common.{refl, sym, ap, ◌∙◌, inl, inr}
use Rattle.std.proofs.lemmas.List.{append-nil}
use Rattle.lsm_rows.specs.declared.operations.Op.{Op}
use Rattle.lsm_rows.specs.Replay.{replayed, sequence_after}
use Rattle.lsm_model.specs.declared.events.Event.{Event}
use Rattle.lsm_model.specs.declared.replies.Reply.{Reply}
use Rattle.lsm_model.specs.declared.replies.Shown.{Shown}
use Rattle.lsm_model.specs.declared.states.State.{State}
use Rattle.lsm_model.specs.declared.states.FolderRead.{FolderRead}
use Rattle.lsm_model.specs.States.{shown_after, contents_now, last_of, written, none_or_one, folder_of}
use Rattle.lsm_model.specs.Answers.{Done, Failed, Wanting, Refused}
use Rattle.lsm_model.specs.Steps.{Made, Asked, Run}
use Rattle.lsm_model.specs.Runs.{accepted_in}
use Rattle.lsm_model.specs.Crashes.{Crashed, Closes, Opened}
use Rattle.lsm_model.specs.Counts.{IsCounted, IsSynced}
use Rattle.lsm_model.proofs.Histories.{run_base}
use Rattle.lsm_model.proofs.CountLemmas.{longer_front, synced_outlives}

-- an opening shows the batches as its contents and its sequence
abbrev pub OpensAs : State → State → List (List Op) → Type 0
OpensAs s t batches = (t.opening ≡ replayed s.opening batches) × (t.began ≡ sequence_after s.began batches)

shown_opens : (s t : State) (batches : List (List Op)) → shown_after t [] ≡ shown_after s batches → OpensAs s t batches
shown_opens s t batches same = (ap (λ (shown : Shown). shown.contents) same, ap (λ (shown : Shown). shown.sequence) same)

opens_by : (s m t : State) (xs ys : List (List Op)) → m.opening ≡ s.opening → m.began ≡ s.began → xs ≡ ys → OpensAs m t xs → OpensAs s t ys
opens_by s m t xs ys opening began same opens = (opens.0 ∙ (λ i. replayed (opening i) (same i)), opens.1 ∙ (λ i. sequence_after (began i) (same i)))

-- a front of no batches
take_none : (n : ℕ) (batches : List (List Op)) → batches ≡ [] → take n batches ≡ batches
take_none zero batches is = sym is
take_none (suc n) [] is = refl
take_none (suc n) (ops ∷ batches) is = absurd (cc)

-- a front of none or one is nothing or all
at_most_one : (doubtful : Option (List Op)) (n : ℕ) → (take n (none_or_one doubtful) ≡ []) ⊎ (take n (none_or_one doubtful) ≡ none_or_one doubtful)
at_most_one doubtful zero = inl refl
at_most_one None (suc n) = inl refl
at_most_one (Some ops) (suc zero) = inr refl
at_most_one (Some ops) (suc (suc n)) = inr refl

-- with nothing doubtful an opening has the accepted batches
opens_all : (s t : State) → Opened s t → s.doubtful ≡ None → OpensAs s t s.accepted
opens_all s t o none =
    let plain : written s ≡ s.accepted ++ [] = ap (λ (d : Option (List Op)). s.accepted ++ none_or_one d) none in
    let all : take o.kept (written s) ≡ s.accepted = ap (take o.kept) plain ∙ longer_front o.kept s.accepted [] o.accepted
    ∙ ap (λ (l : List (List Op)). s.accepted ++ l) (take_none (o.kept - length s.accepted) [] refl) ∙ append-nil s.accepted in
    shown_opens s t s.accepted (o.shown ∙ ap (shown_after s) all)

-- after a crash it has the first of those that were written, the durable ones among them
pub crash_opens : (s m t : State) → Crashed s m → Opened m t → (kept : ℕ) × (s.durable ≤ kept) × (t.opening ≡ replayed s.opening (take kept (written s))) × (t.began ≡ sequence_after s.began (take kept (written s)))
crash_opens s m t c o =
    let opens = opens_by s m t m.accepted (take c.kept (written s)) (ap (λ (q : State). q.opening) c.rest) (ap (λ (q : State). q.began) c.rest) c.accepted
    (opens_all m t o (ap (λ (q : State). q.doubtful) c.rest)) in
    (c.kept, c.durable, opens.0, opens.1)

-- after a closing it has all
pub close_opens : (s m t : State) → Closes s (Ok tt) m → Opened m t → (t.opening ≡ contents_now s) × (t.began ≡ last_of s)
close_opens s m t closes o = elim closes [
  | Done x is known d ↦ opens_by s m t m.accepted s.accepted (ap (λ (q : State). q.opening) d.rest) (ap (λ (q : State). q.began) d.rest) (ap (λ (q : State). q.accepted) d.rest)
      (opens_all m t o (ap (λ (q : State). q.doubtful) d.rest))
  | Failed is known f ↦ absurd (cc)
  | Wanting is known w ↦ absurd w
  | Refused e is known same ↦ absurd (cc)
]

-- after a failed call it has the accepted batches, and the doubtful one or not
pub doubt_opens : (s t : State) → Opened s t → OpensAs s t s.accepted ⊎ OpensAs s t (written s)
doubt_opens s t o =
    let front = longer_front o.kept s.accepted (none_or_one s.doubtful) o.accepted in
    let behind : List (List Op) → List (List Op) = λ (l : List (List Op)). s.accepted ++ l in
    elim (at_most_one s.doubtful (o.kept - length s.accepted)) [
      | inl none ↦ inl (shown_opens s t s.accepted (o.shown ∙ ap (shown_after s) (front ∙ ap behind none ∙ append-nil s.accepted)))
      | inr all ↦ inr (shown_opens s t (written s) (o.shown ∙ ap (shown_after s) (front ∙ ap behind all)))
    ]

-- ---- folders

pub sure_opens : (s m t : State) (name : List ℕ) (folder : FolderRead) → Crashed s m → Opened m t → folder_of name s.folders ≡ Some folder → folder.sure ≡ true → folder_of name t.folders ≡ Some folder
sure_opens s m t name folder c o found sure = o.sure name folder (c.folders name folder found sure) sure

-- ---- over a run

-- what was synced in a run is in the contents that the next opening after a crash finds
pub synced_opens : (s m c t : State) (before after : List Made) (e : Event) (r : Reply) → IsCounted s → Run s (before ++ (Asked e r) ∷ after) m → IsSynced e r
    → Crashed m c → Opened c t → (more : List (List Op))
    × (t.opening ≡ replayed s.opening ((s.accepted ++ accepted_in (before ++ (Asked e r) ∷ [])) ++ more))
    × (t.began ≡ sequence_after s.began ((s.accepted ++ accepted_in (before ++ (Asked e r) ∷ [])) ++ more))
synced_opens s m c t before after e r counted run synced crash o =
    let kept = synced_outlives s m c before after e r counted run synced crash in
    let base = run_base s m (before ++ (Asked e r) ∷ after) run in
    let opens = opens_by s c t c.accepted ((s.accepted ++ accepted_in (before ++ (Asked e r) ∷ [])) ++ kept.0)
    (ap (λ (q : State). q.opening) crash.rest ∙ base.1) (ap (λ (q : State). q.began) crash.rest ∙ base.2) kept.1
    (opens_all c t o (ap (λ (q : State). q.doubtful) crash.rest)) in
    (kept.0, opens.0, opens.1)
