-- A state's counts go with its lists, over steps, runs, crashes, closings and openings.
use Rattle.std.specs.Prelude.{◌≡◌, ℕ, ◌+◌, ◌-◌, ◌≤◌, true, false, ◌==◌, cond, List, [], ◌∷◌, ◌++◌, length, take, drop, All, Option, Some, None, ◌⊎◌, Result, Ok}
use Rattle.std.proofs.Common.{refl, sym, ap, subst, ◌∙◌, inl, inr, arith, append_assoc, take-append-drop}
use Rattle.std.proofs.lemmas.List.{length-append, length-take-le}
use Rattle.std.proofs.lemmas.Slice.Eq.{bytes_eq-Decides}
use Rattle.std.proofs.lemmas.List.Elements.{All-nil, All-cons, All-head, All-tail, All-push, All-weaker}
use Rattle.std.proofs.Math.Seq.{take-append-add}
use Rattle.lsm_rows.specs.declared.operations.Op.{Op}
use Rattle.lsm_model.specs.declared.errors.StoreError.{StoreError}
use Rattle.lsm_model.specs.declared.events.Event.{Event}
use Rattle.lsm_model.specs.declared.events.Event.TheVariants as event
use Rattle.lsm_model.specs.declared.replies.Reply.{Reply}
use Rattle.lsm_model.specs.declared.replies.Reply.TheVariants as reply
use Rattle.lsm_model.specs.declared.states.State.{State}
use Rattle.lsm_model.specs.declared.states.Pin.{Pin}
use Rattle.lsm_model.specs.States.{pin_of, with_pin, without_pin, written, none_or_one, folder_of, with_folder}
use Rattle.lsm_model.specs.Answers.{Done, Failed, Wanting, Refused}
use Rattle.lsm_model.specs.Steps.{Step, Made, Asked, Makes, Run}
use Rattle.lsm_model.specs.Runs.{Core, core, Moves, Same, Wrote, Pinned, Spent, Unpinned, Stepped, Published, Counted, Founded, Changed, added, added_by, accepted_in}
use Rattle.lsm_model.specs.Crashes.{Crashed, Closes, Opened}
use Rattle.lsm_model.specs.Counts.{IsCounted, IsThere}
use Rattle.lsm_model.specs.Counts as counts
use Rattle.lsm_model.specs.Destination.{BeginsFolder, FillsFolder, FinishesFolder}
use Rattle.lsm_disk.specs.declared.calls.DiskCall.{DiskCall}
use Rattle.lsm_disk.specs.declared.dest.DestError.{DestError}
use Rattle.lsm_model.specs.declared.states.FolderRead.{FolderRead}
use Rattle.lsm_model.proofs.PinLemmas.{folder_stays, folder_new, folder_placed}
use Rattle.lsm_model.proofs.RestoreLemmas.{Alike, begins, fills, finishes}
use Rattle.lsm_model.proofs.MadeLemmas.{moves, begin_moves, fill_moves, finish_moves}
use Rattle.lsm_model.proofs.Cores.{moved, becomes_same, reading_same, halts_settling_same}
use Rattle.lsm_model.proofs.DurableLemmas.{Keeps, keeps_as, becomes, reading, halts_settling, step_keeps, made_keeps, run_keeps}
use Rattle.lsm_model.proofs.Histories.{run_more, run_accepted}
use Rattle.lsm_model.proofs.RunLemmas.{run_at}
use Rattle.lsm_model.proofs.CrashLemmas.{durable_stay}

-- ---- what holds of each pin of a list

module _ (P : Pin → Type 0) where
  all_without : (number : ℕ) (pins : List Pin) → All P pins → All P (without_pin number pins)
  all_without number [] all = all
  all_without number (pin ∷ pins) all =
      elim (pin.number == number) as (λ b. All P (cond b (without_pin number pins) (pin ∷ without_pin number pins))) [
        | true ↦ all_without number pins (All-tail P pin pins all)
        | false ↦ All-cons P pin (without_pin number pins) (All-head P pin pins all) (all_without number pins (All-tail P pin pins all))
      ]

  all_with : (new : Pin) (pins : List Pin) → P new → All P pins → All P (with_pin new pins)
  all_with new [] holds all = all
  all_with new (pin ∷ pins) holds all =
      elim (pin.number == new.number) as (λ b. All P (cond b (new ∷ pins) (pin ∷ with_pin new pins))) [
        | true ↦ All-cons P new pins holds (All-tail P pin pins all)
        | false ↦ All-cons P pin (with_pin new pins) (All-head P pin pins all) (all_with new pins holds (All-tail P pin pins all))
      ]

  pub all_found : (number : ℕ) (pins : List Pin) (pin : Pin) → All P pins → pin_of number pins ≡ Some pin → P pin
  all_found number [] pin all found = absurd (cc)
  all_found number (first ∷ pins) pin all found =
      elim (first.number == number) as (λ b. cond b (Some first) (pin_of number pins) ≡ Some pin → P pin) [
        | true ↦ λ is. let same : first ≡ pin = cc in subst P same (All-head P first pins all)
        | false ↦ λ is. all_found number pins pin (All-tail P first pins all) is
      ] found

-- ---- pins of a core

abbrev HasNumber : ℕ → Pin → Type 0
HasNumber greatest pin = pin.number ≤ greatest

abbrev HasFront : ℕ → Pin → Type 0
HasFront count pin = pin.batches ≤ count

-- the pins have numbers that were given, and fronts of the accepted batches; and the folder that is begun is there
record AreWithin (c : Core) : Type 0 where
  numbers : All (HasNumber c.greatest_pin) c.pins
  fronts : All (HasFront (length c.accepted)) c.pins
  begun : IsThere c.folders c.begun

-- the folder that is begun is there with one folder more
there_more : (folders : List FolderRead) (new : FolderRead) (begun : Option (List ℕ)) → IsThere folders begun → IsThere (folders ++ new ∷ []) begun
there_more folders new None there = tt
there_more folders new (Some dir) there = (there.0, folder_stays dir folders there.0 new there.1, there.2)

there_new : (folders : List FolderRead) (new : FolderRead) → folder_of new.name folders ≡ None → new.sure ≡ false
    → IsThere (folders ++ new ∷ []) (Some new.name)
there_new folders new free unsure = (new, folder_new new.name folders new free ((bytes_eq-Decides new.name new.name).1 refl), unsure)

module _ (a b : Core) (batches : List (List Op)) (within : AreWithin a) where
  founds : (new : FolderRead) (begun : Option (List ℕ)) → folder_of new.name a.folders ≡ None → new.sure ≡ false
      → (begun ≡ a.begun) ⊎ (begun ≡ Some new.name) → IsThere (a.folders ++ new ∷ []) begun
  founds new begun free unsure kept = elim kept [
    | inl old ↦ subst (IsThere (a.folders ++ new ∷ [])) (sym old) (there_more a.folders new a.begun within.begun)
    | inr now ↦ subst (IsThere (a.folders ++ new ∷ [])) (sym now) (there_new a.folders new free unsure)
  ]

  changes : (new : FolderRead) (begun : Option (List ℕ)) → a.begun ≡ Some new.name
      → ((begun ≡ a.begun) × (new.sure ≡ false)) ⊎ (begun ≡ None) → IsThere (with_folder new a.folders) begun
  changes new begun was kept = elim kept [
    | inl old ↦ subst (IsThere (with_folder new a.folders)) (sym (old.0 ∙ was)) (new, folder_placed new a.folders, old.1)
    | inr none ↦ subst (IsThere (with_folder new a.folders)) (sym none) tt
  ]

  more : (ops : List Op) → length a.accepted ≤ length (a.accepted ++ ops ∷ [])
  more ops = let long = length-append a.accepted (ops ∷ []) in omega (arith, long)

  raised : (pins : List Pin) → All (HasNumber a.greatest_pin) pins → All (HasNumber (a.greatest_pin + 1)) pins
  raised pins all = All-weaker (HasNumber a.greatest_pin) (HasNumber (a.greatest_pin + 1)) (λ pin h. omega (arith, h)) pins all

  moves_within : Moves a b batches → AreWithin b
  moves_within m = elim m [
    | Same none is ↦ subst AreWithin (sym is) within
    | Wrote ops one is ↦ subst AreWithin (sym is) (record {
      numbers = within.numbers;
      fronts = All-weaker (HasFront (length a.accepted)) (HasFront (length (a.accepted ++ ops ∷ []))) (λ pin h. let longer = more ops in omega (arith, h, longer)) a.pins within.fronts;
      begun = within.begun;
    })
    | Pinned holder manifest files none is ↦ subst AreWithin (sym is) (record {
      numbers = All-push (HasNumber (a.greatest_pin + 1)) a.pins (record { number = a.greatest_pin + 1; batches = length a.accepted; manifest = manifest; files = files; holder = holder }) (raised a.pins within.numbers) (omega arith);
      fronts = All-push (HasFront (length a.accepted)) a.pins (record { number = a.greatest_pin + 1; batches = length a.accepted; manifest = manifest; files = files; holder = holder }) within.fronts (omega arith);
      begun = within.begun;
    })
    | Spent none is ↦ subst AreWithin (sym is) (record { numbers = raised a.pins within.numbers; fronts = within.fronts; begun = within.begun })
    | Unpinned number none is ↦ subst AreWithin (sym is) (record {
      numbers = all_without (HasNumber a.greatest_pin) number a.pins within.numbers;
      fronts = all_without (HasFront (length a.accepted)) number a.pins within.fronts;
      begun = within.begun;
    })
    | Stepped number pin holder none found same is ↦ subst AreWithin (sym is) (record {
      numbers = all_with (HasNumber a.greatest_pin) (record pin { holder = holder }) a.pins (all_found (HasNumber a.greatest_pin) number a.pins pin within.numbers found) within.numbers;
      fronts = all_with (HasFront (length a.accepted)) (record pin { holder = holder }) a.pins (all_found (HasFront (length a.accepted)) number a.pins pin within.fronts found) within.fronts;
      begun = within.begun;
    })
    | Published number folder none is ↦ subst AreWithin (sym is) (record {
      numbers = all_without (HasNumber a.greatest_pin) number a.pins within.numbers;
      fronts = all_without (HasFront (length a.accepted)) number a.pins within.fronts;
      begun = there_more a.folders folder a.begun within.begun;
    })
    | Counted count none is ↦ subst AreWithin (sym is) (record { numbers = within.numbers; fronts = within.fronts; begun = within.begun })
    | Founded new begun none free unsure kept is ↦ subst AreWithin (sym is) (record { numbers = within.numbers; fronts = within.fronts; begun = founds new begun free unsure kept })
    | Changed new begun none was kept is ↦ subst AreWithin (sym is) (record { numbers = within.numbers; fronts = within.fronts; begun = changes new begun was kept })
  ]

-- ---- steps and runs

-- what moves the core so, and keeps the count, leaves the counts with the lists
moves_counted : (s t : State) (batches : List (List Op)) → Moves (core s) (core t) batches → Keeps s t → IsCounted s → IsCounted t
moves_counted s t batches m keeps counted =
    let within = moves_within (core s) (core t) batches (record { numbers = counted.numbers; fronts = counted.fronts; begun = counted.begun }) m in
    record { durable = (keeps counted.durable).1; numbers = within.numbers; fronts = within.fronts; begun = within.begun }

pub step_counted : (s t : State) (e : Event) (r : Reply) → Step s e r t → IsCounted s → IsCounted t
step_counted s t e r step = moves_counted s t (added_by e r) (moved s t e r step) (step_keeps s t e r step)

pub made_counted : (s t : State) (made : Made) → Makes s made t → IsCounted s → IsCounted t
made_counted s t made h = moves_counted s t (added made) (moves s t made h) (made_keeps s t made h)

pub run_counted : (s t : State) (steps : List Made) → Run s steps t → IsCounted s → IsCounted t
run_counted s t [] run counted = subst IsCounted (sym run) counted
run_counted s t (x ∷ steps) run counted = run_counted run.0 t steps run.2 (made_counted s run.0 x run.1 counted)

-- a restore's calls, whichever disk call one makes
restores : (s t : State) → Moves (core s) (core t) [] → Alike s t → IsCounted s → IsCounted t
restores s t m same = moves_counted s t [] m (keeps_as s t same.0 same.1)

pub restore_counted : (s t : State) (dir : List ℕ) (call : DiskCall) (result : Result (Unit {0}) DestError)
    → BeginsFolder s dir result t ⊎ (FillsFolder call s result t ⊎ FinishesFolder s result t) → IsCounted s → IsCounted t
restore_counted s t dir call result h = elim h [
  | inl b ↦ restores s t (begin_moves s t dir result b) (begins s t dir result b)
  | inr r ↦ elim r [
    | inl f ↦ restores s t (fill_moves s t call result f) (fills s t call result f)
    | inr f ↦ restores s t (finish_moves s t result f) (finishes s t result f)
  ]
]

-- ---- crashes, closings and openings

-- with no pins and no folder begun the counts go with the lists where the durable ones do
without_pins : (t : State) → t.durable ≤ length t.accepted → t.pins ≡ [] → t.begun ≡ None → IsCounted t
without_pins t durable none unbegun = record {
  durable = durable;
  numbers = subst (All (HasNumber t.greatest_pin)) (sym none) (All-nil (HasNumber t.greatest_pin));
  fronts = subst (All (HasFront (length t.accepted))) (sym none) (All-nil (HasFront (length t.accepted)));
  begun = subst (IsThere t.folders) (sym unbegun) tt;
}

pub crashed_counted : (s t : State) → Crashed s t → IsCounted t
crashed_counted s t c = without_pins t (let all = c.all in omega (arith, all)) (ap (λ (q : State). q.pins) c.rest) (ap (λ (q : State). q.begun) c.rest)

pub opened_counted : (s t : State) → Opened s t → IsCounted t
opened_counted s t o =
    let none : t.durable ≡ 0 = ap (λ (q : State). q.durable) o.rest in
    without_pins t (omega (arith, none)) (ap (λ (q : State). q.pins) o.rest) (ap (λ (q : State). q.begun) o.rest)

-- where the core stays
same_counted : (s t : State) → core t ≡ core s → Keeps s t → IsCounted s → IsCounted t
same_counted s t same keeps counted = moves_counted s t [] (Same refl same) keeps counted

pub closed_counted : (s t : State) (result : Result (Unit {0}) StoreError) → Closes s result t → IsCounted s → IsCounted t
closed_counted s t result closes counted = elim closes [
  | Done x is known d ↦
      let count : t.durable ≡ length s.accepted = ap (λ (q : State). q.durable) d.rest in
      let long : length t.accepted ≡ length s.accepted = ap (λ (q : State). length q.accepted) d.rest in
      without_pins t (omega (arith, count, long)) (ap (λ (q : State). q.pins) d.rest) (ap (λ (q : State). q.begun) d.rest)
  | Failed is known f ↦ elim f [
    | inl g ↦ same_counted s t (reading_same g) (reading g) counted
    | inr g ↦ same_counted s t (halts_settling_same g) (halts_settling g) counted
  ]
  | Wanting is known w ↦ absurd w
  | Refused e is known same ↦ same_counted s t (becomes_same same) (becomes same) counted
]

-- ---- what is durable outlives a crash

written_all : (s t : State) (ops : List Op) (last : ℕ) → Step s (event.Write ops true) (reply.Write (Ok last)) t → t.durable ≡ length t.accepted
unfolding Step
written_all s t ops last step = elim step [
  | Done other is known d ↦
      let count : t.durable ≡ length s.accepted + 1 = ap (λ (q : State). q.durable) d.1.rest.rest in
      let long : length t.accepted ≡ length (s.accepted ++ ops ∷ []) = ap (λ (q : State). length q.accepted) d.1.rest.rest in
      let more = length-append s.accepted (ops ∷ []) in
      omega (arith, count, long, more)
  | Failed is known f ↦ absurd (cc)
  | Wanting is known w ↦ absurd (cc)
  | Refused e is known w ↦ absurd (cc)
]

synced_so : (s t : State) → Step s event.SyncLog (reply.SyncLog (Ok tt)) t → t.durable ≡ length t.accepted
unfolding Step
synced_so s t step = elim step [
  | Done done is known d ↦
      let count : t.durable ≡ length s.accepted = ap (λ (q : State). q.durable) d.rest in
      let long : length t.accepted ≡ length s.accepted = ap (λ (q : State). length q.accepted) d.rest in
      omega (arith, count, long)
  | Failed is known f ↦ absurd (cc)
  | Wanting is known w ↦ absurd w
  | Refused e is known w ↦ absurd (cc)
]

-- a write with `sync` or a sync, answered Ok, leaves all durable
pub synced_all : (s t : State) (e : Event) (r : Reply) → Step s e r t → counts.IsSynced e r → t.durable ≡ length t.accepted
unfolding Step
synced_all s t e r step synced = elim synced [
  | counts.Wrote ops last e_is r_is ↦ written_all s t ops last (subst (λ (q : Reply). Step s (event.Write ops true) q t) r_is (subst (λ (q : Event). Step s q r t) e_is step))
  | counts.Synced e_is r_is ↦ synced_so s t (subst (λ (q : Reply). Step s event.SyncLog q t) r_is (subst (λ (q : Event). Step s q r t) e_is step))
]

-- a longer front of a list has the list's beginning
pub longer_front : {A : Type 0} (count : ℕ) (xs ys : List A) → length xs ≤ count → take count (xs ++ ys) ≡ xs ++ take (count - length xs) ys
longer_front count xs ys le =
    let more : count ≡ length xs + (count - length xs) = omega (arith, le) in
    ap (λ (n : ℕ). take n (xs ++ ys)) more ∙ take-append-add xs ys (count - length xs)

-- what a crash leaves begins with any front that is durable
crash_keeps : (s t : State) (front rest : List (List Op)) → Crashed s t → s.accepted ≡ front ++ rest → length front ≤ s.durable
    → (more : List (List Op)) × (t.accepted ≡ front ++ more)
crash_keeps s t front rest c parts durable =
    let kept : length front ≤ c.kept = let low = c.durable in omega (arith, durable, low) in
    let all : written s ≡ front ++ (rest ++ none_or_one s.doubtful) = ap (λ (l : List (List Op)). l ++ none_or_one s.doubtful) parts ∙ append_assoc front rest (none_or_one s.doubtful) in
    (take (c.kept - length front) (rest ++ none_or_one s.doubtful), c.accepted ∙ ap (take c.kept) all ∙ longer_front c.kept front (rest ++ none_or_one s.doubtful) kept)

-- what is durable at one moment of a run is there after a crash at its end
pub durable_outlives : (s m t : State) (steps : List Made) → IsCounted s → Run s steps m → Crashed m t
    → (more : List (List Op)) × (t.accepted ≡ take s.durable s.accepted ++ more)
durable_outlives s m t steps counted run crash =
    let parts : m.accepted ≡ take s.durable s.accepted ++ (drop s.durable s.accepted ++ accepted_in steps) =
    run_accepted s m steps run
    ∙ ap (λ (l : List (List Op)). l ++ accepted_in steps) (sym (take-append-drop s.durable s.accepted))
    ∙ append_assoc (take s.durable s.accepted) (drop s.durable s.accepted) (accepted_in steps) in
    let long : length (take s.durable s.accepted) ≡ s.durable = length-take-le s.durable s.accepted counted.durable in
    let rises = (run_keeps s m steps run counted.durable).0 in
    crash_keeps m t (take s.durable s.accepted) (drop s.durable s.accepted ++ accepted_in steps) crash parts (omega (arith, long, rises))

-- what was accepted before a write with `sync` or a sync that was answered Ok, and by it, is there after a crash
pub synced_outlives : (s m t : State) (before after : List Made) (e : Event) (r : Reply) → IsCounted s → Run s (before ++ (Asked e r) ∷ after) m
    → counts.IsSynced e r → Crashed m t → (more : List (List Op)) × (t.accepted ≡ (s.accepted ++ accepted_in (before ++ (Asked e r) ∷ [])) ++ more)
synced_outlives s m t before after e r counted run synced crash =
    let at = run_at s m before (Asked e r) after run in
    let there : at.1.accepted ≡ s.accepted ++ accepted_in (before ++ (Asked e r) ∷ []) = run_accepted s at.1 (before ++ (Asked e r) ∷ []) (run_more s at.0 at.1 before (Asked e r) at.2 at.3) in
    let parts : m.accepted ≡ (s.accepted ++ accepted_in (before ++ (Asked e r) ∷ [])) ++ accepted_in after =
    run_accepted at.1 m after at.4 ∙ ap (λ (l : List (List Op)). l ++ accepted_in after) there in
    let all : at.1.durable ≡ length at.1.accepted = synced_all at.0 at.1 e r at.3 synced in
    let long : length at.1.accepted ≡ length (s.accepted ++ accepted_in (before ++ (Asked e r) ∷ [])) = ap (λ (l : List (List Op)). length l) there in
    let rises = (run_keeps at.1 m after at.4 (omega (arith, all))).0 in
    crash_keeps m t (s.accepted ++ accepted_in (before ++ (Asked e r) ∷ [])) (accepted_in after) crash parts (omega (arith, all, long, rises))

-- the durable batches themselves are as they were
pub crash_front : (s m t : State) (steps : List Made) → IsCounted s → Run s steps m → Crashed m t → take m.durable t.accepted ≡ take m.durable m.accepted
crash_front s m t steps counted run crash = durable_stay m t crash (run_counted s m steps run counted).durable

pub durable_rises : (s t : State) (steps : List Made) → Run s steps t → IsCounted s → s.durable ≤ t.durable
durable_rises s t steps run counted = (run_keeps s t steps run counted.durable).0
