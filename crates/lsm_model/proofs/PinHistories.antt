-- What a pin and a finished checkpoint show later in a run.
use Rattle.std.specs.Prelude.{◌≡◌, ℕ, ◌+◌, ◌≤◌, Bool, true, false, ◌==◌, cond, List, [], ◌∷◌, ◌++◌, length, All, Option, Some, None, Ok, suc, map, Contains}
use Rattle.std.proofs.Common.{refl, sym, ap, subst, ◌∙◌, inl, inr, arith}
use Rattle.std.proofs.Math.Seq.{take-length}
use Rattle.std.proofs.lemmas.List.Elements.{All-head, All-tail}
use Rattle.lsm_names.specs.declared.file_names.FileName.{FileName}
use Rattle.lsm_names.specs.declared.file_names.FileName.TheVariants as name
use Rattle.lsm_model.specs.declared.cuts.CutFile.{CutFile}
use Rattle.lsm_model.specs.declared.errors.StoreError.{StoreError}
use Rattle.lsm_model.specs.declared.cuts.Cut.{Cut}
use Rattle.lsm_model.specs.declared.cuts.FlushRule.{FlushRule}
use Rattle.lsm_model.specs.declared.events.Event.{Event}
use Rattle.lsm_model.specs.declared.events.Event.TheVariants as event
use Rattle.lsm_model.specs.declared.replies.Reply.{Reply}
use Rattle.lsm_model.specs.declared.replies.Reply.TheVariants as reply
use Rattle.lsm_model.specs.declared.replies.JobStart.{JobStart}
use Rattle.lsm_model.specs.declared.replies.Shown.{Shown}
use Rattle.lsm_model.specs.declared.states.State.{State}
use Rattle.lsm_model.specs.declared.states.Pin.{Pin}
use Rattle.lsm_model.specs.declared.states.PinnedFile.{PinnedFile}
use Rattle.lsm_model.specs.declared.states.Holder.{Holder}
use Rattle.lsm_model.specs.declared.states.Holder.TheVariants.{Caller, Checkpoint}
use Rattle.lsm_model.specs.States.{shown_after, shown_at, last_of, pin_of, built_by}
use Rattle.lsm_model.specs.Moves.{Becomes}
use Rattle.lsm_model.specs.Causes.{files_of, file_in, same_name}
use Rattle.lsm_model.specs.Answers.{Done, Failed, Wanting, Refused, AnswersFlushing, Usual, No_number, No_place, does_flush}
use Rattle.lsm_model.specs.Steps.{Step, Made, Asked, Run}
use Rattle.lsm_model.specs.Runs.{Core, core, shown_behind}
use Rattle.lsm_model.specs.Counts.{IsCounted}
use Rattle.lsm_model.specs.Reads.{shown_by_pin}
use Rattle.lsm_model.specs.Pins as pins
use Rattle.lsm_model.specs.Checkpoints as checkpoints
use Rattle.lsm_model.specs.Checkpoints.{IsFinished, checkpoint_folder}
use Rattle.lsm_model.proofs.PinLemmas.{found_number, same_if, other_if}
use Rattle.lsm_model.proofs.Cores.{becomes_same, cuts_at_same, with_new_pin}
use Rattle.lsm_model.proofs.Histories.{pin_stays, shown_stays}
use Rattle.lsm_model.proofs.RunLemmas.{run_at, shown_now}
use Rattle.lsm_model.proofs.CountLemmas.{all_found, run_counted}
use Rattle.lsm_disk.proofs.Paths.{itself}

-- ---- a pin that is given

-- no pin has a number that wasn't given yet
fresh : (greatest : ℕ) (pins : List Pin) → All (λ (pin : Pin). pin.number ≤ greatest) pins → pin_of (greatest + 1) pins ≡ None
fresh greatest [] all = refl
fresh greatest (pin ∷ pins) all =
    let first : pin.number ≤ greatest = All-head (λ (pin : Pin). pin.number ≤ greatest) pin pins all in
    ap (λ (b : Bool). cond b (Some pin) (pin_of (greatest + 1) pins)) (other_if pin.number (greatest + 1) (λ e. absurd (omega (arith, e, first))))
    ∙ fresh greatest pins (All-tail (λ (pin : Pin). pin.number ≤ greatest) pin pins all)

found_last : (pins : List Pin) (new : Pin) → pin_of new.number pins ≡ None → pin_of new.number (pins ++ new ∷ []) ≡ Some new
found_last [] new none = ap (λ (b : Bool). cond b (Some new) None) (itself new.number)
found_last (first ∷ pins) new none =
    elim (first.number == new.number) as (λ b. cond b (Some first) (pin_of new.number pins) ≡ None → cond b (Some first) (pin_of new.number (pins ++ new ∷ [])) ≡ Some new) [
      | true ↦ λ is. absurd (cc)
      | false ↦ λ is. found_last pins new is
    ] none

-- the step gives the pin of this number, which has all accepted batches, and builds this folder or none
pub record GivesPin (m n : State) (number : ℕ) (built : Option (List ℕ)) (files : List PinnedFile) : Type 0 where
  pub pin : Pin
  pub found : pin_of number n.pins ≡ Some pin
  pub given : number ≤ n.greatest_pin
  pub batches : pin.batches ≡ length m.accepted
  pub builds : built_by pin.holder ≡ built
  pub has : pin.files ≡ files

gives_pin : (m at n : State) (holder : Holder) (manifest : ℕ) (files : List PinnedFile) (number : ℕ) → IsCounted m → core at ≡ core m → Becomes (pins.pinned holder manifest files at) n
    → number ≡ m.greatest_pin + 1 → GivesPin m n number (built_by holder) files
gives_pin m at n holder manifest files number counted same becomes is =
    let new : Pin = record { number = m.greatest_pin + 1; batches = length m.accepted; manifest = manifest; files = files; holder = holder } in
    let moved : core n ≡ with_new_pin holder manifest files (core m) = becomes_same becomes ∙ ap (with_new_pin holder manifest files) same in
    let all : n.pins ≡ m.pins ++ new ∷ [] = ap (λ (c : Core). c.pins) moved in
    let greatest : n.greatest_pin ≡ m.greatest_pin + 1 = ap (λ (c : Core). c.greatest_pin) moved in
    record {
      pin = new;
      found = ap (λ (k : ℕ). pin_of k n.pins) is ∙ ap (pin_of (m.greatest_pin + 1)) all ∙ found_last m.pins new (fresh m.greatest_pin m.pins counted.numbers);
      given = omega (arith, is, greatest);
      batches = refl;
      builds = refl;
      has = refl;
    }

-- what an answer Ok did, where rows may be flushed before
pub flushing_done : {A : Type 0} {known : Option StoreError} {by : FlushRule} {s t : State} {Does : A → Type 0} (x : A) → AnswersFlushing known by s Does (Ok x) t → Does x
flushing_done {Does = Does} x a = elim a [
  | Usual b ↦ elim b [
    | Done y is known d ↦ let same : y ≡ x = cc in subst Does same d
    | Failed is known f ↦ absurd (cc)
    | Wanting is known w ↦ absurd (cc)
    | Refused e is known h ↦ absurd (cc)
  ]
  | No_number next is known l ↦ absurd (cc)
  | No_place live adding is known l ↦ absurd (cc)
]

cut_gives : (m n : State) (rule : FlushRule) (cut : Cut) → IsCounted m → Step m (event.Cut rule) (reply.Cut (Ok cut)) n → (files : List PinnedFile) × GivesPin m n cut.pin None files × (cut.sequence ≡ last_of m) × (map pins.listed cut.files ≡ map pins.held files)
unfolding Step
cut_gives m n rule cut counted step =
    let done : pins.IsCut m rule cut n = flushing_done cut step in
    (done.files, gives_pin m done.at n Caller cut.manifest done.files cut.pin counted (cuts_at_same m done.at (does_flush rule m) done.flushed) done.rest done.pin, done.sequence, done.lists)

pub begin_gives : (m n : State) (dir : List ℕ) (size : ℕ) (start : JobStart) → IsCounted m → Step m (event.CheckpointBegin dir size) (reply.CheckpointBegin (Ok start)) n
    → (files : List PinnedFile) × GivesPin m n start.pin (Some dir) files × (start.sequence ≡ last_of m)
unfolding Step
begin_gives m n dir size start counted step = elim step [
  | checkpoints.Refused e is known w ↦ absurd (cc)
  | checkpoints.Failed is known f ↦ absurd (cc)
  | checkpoints.Exists is known taken b ↦ absurd (cc)
  | checkpoints.Cut known free a ↦
      let done : checkpoints.IsBegun m dir (checkpoints.size_rule size) start n = flushing_done start a in
      (done.files, gives_pin m done.at n (Checkpoint dir (length done.files)) done.manifest done.files start.pin counted (cuts_at_same m done.at (does_flush (checkpoints.size_rule size) m) done.flushed) done.rest done.pin, done.sequence)
  | checkpoints.Given_up known free g ↦ elim g.why [ inl f ↦ absurd (let no = f.0 in cc) | inr w ↦ absurd (let no = w.0 in cc) ]
]

-- ---- what it shows later

-- the pin that was given shows what the store had then
pub pin_later : (m n q : State) (number : ℕ) (built : Option (List ℕ)) (files : List PinnedFile) (e : Event) (r : Reply) (between : List Made) (later : Pin) → GivesPin m n number built files
    → Step m e r n → Run n between q → pin_of number q.pins ≡ Some later → (shown_at q later.batches ≡ shown_after m m.accepted) × (built_by later.holder ≡ built) × (later.files ≡ files)
pin_later m n q number built files e r between later gives step run found =
    let stays = pin_stays n q between number gives.pin later run gives.given gives.found found in (
      ap (shown_at q) (stays.0 ∙ gives.batches)
          ∙ shown_stays m q (length m.accepted) ((Asked e r) ∷ between) (n, step, run) (omega arith)
          ∙ ap (shown_after m) (take-length m.accepted),
      stays.2 ∙ gives.builds,
      stays.1 ∙ gives.has,
    )

-- the pin that is shown
record IsShown (q : State) (number : ℕ) (shown : Shown) : Type 0 where
  pin : Pin
  found : pin_of number q.pins ≡ Some pin
  is : shown ≡ shown_at q pin.batches

shown_found : (q : State) (number : ℕ) (shown : Shown) (o : Option Pin) → pin_of number q.pins ≡ o → Some shown ≡ shown_by_pin q o → IsShown q number shown
shown_found q number shown None found is = absurd (cc)
shown_found q number shown (Some pin) found is = record { pin = pin; found = found; is = cc }

pin_shown : (q u : State) (number : ℕ) (shown : Shown) → Step q (event.ShowPin number) (reply.ShowPin (Ok shown)) u → IsShown q number shown
unfolding Step
pin_shown q u number shown step = elim step [
  | Done other is known d ↦ let same : other ≡ shown = cc in shown_found q number shown (pin_of number q.pins) refl (ap (λ (x : Shown). Some x) (sym same) ∙ d.0)
  | Failed is known f ↦ absurd (cc)
  | Wanting is known w ↦ absurd (cc)
  | Refused e is known w ↦ absurd (cc)
]

pub cut_shown : (s t : State) (before between after : List Made) (rule : FlushRule) (cut : Cut) (shown : Shown) → IsCounted s
    → Run s (before ++ (Asked (event.Cut rule) (reply.Cut (Ok cut))) ∷ (between ++ (Asked (event.ShowPin cut.pin) (reply.ShowPin (Ok shown))) ∷ after)) t
    → (shown ≡ shown_behind s before) × (cut.sequence ≡ shown.sequence)
cut_shown s t before between after rule cut shown counted run =
    let one = run_at s t before (Asked (event.Cut rule) (reply.Cut (Ok cut))) (between ++ (Asked (event.ShowPin cut.pin) (reply.ShowPin (Ok shown))) ∷ after) run in
    let two = run_at one.1 t between (Asked (event.ShowPin cut.pin) (reply.ShowPin (Ok shown))) after one.4 in
    let gives = cut_gives one.0 one.1 rule cut (run_counted s one.0 before one.2 counted) one.3 in
    let there = pin_shown two.0 two.1 cut.pin shown two.3 in
    let later = pin_later one.0 one.1 two.0 cut.pin None gives.0 (event.Cut rule) (reply.Cut (Ok cut)) between there.pin gives.1 one.3 two.2 there.found in
    let is : shown ≡ shown_after one.0 one.0.accepted = there.is ∙ later.0 in
    (is ∙ shown_now s one.0 before one.2, gives.2 ∙ ap (λ (x : Shown). x.sequence) (sym is))

pub begun_shown : (s t : State) (before between after : List Made) (dir : List ℕ) (size : ℕ) (start : JobStart) (shown : Shown) → IsCounted s
    → Run s (before ++ (Asked (event.CheckpointBegin dir size) (reply.CheckpointBegin (Ok start))) ∷ (between ++ (Asked (event.ShowPin start.pin) (reply.ShowPin (Ok shown))) ∷ after)) t
    → (shown ≡ shown_behind s before) × (start.sequence ≡ shown.sequence)
begun_shown s t before between after dir size start shown counted run =
    let one = run_at s t before (Asked (event.CheckpointBegin dir size) (reply.CheckpointBegin (Ok start))) (between ++ (Asked (event.ShowPin start.pin) (reply.ShowPin (Ok shown))) ∷ after) run in
    let two = run_at one.1 t between (Asked (event.ShowPin start.pin) (reply.ShowPin (Ok shown))) after one.4 in
    let gives = begin_gives one.0 one.1 dir size start (run_counted s one.0 before one.2 counted) one.3 in
    let there = pin_shown two.0 two.1 start.pin shown two.3 in
    let later = pin_later one.0 one.1 two.0 start.pin (Some dir) gives.0 (event.CheckpointBegin dir size) (reply.CheckpointBegin (Ok start)) between there.pin gives.1 one.3 two.2 there.found in
    let is : shown ≡ shown_after one.0 one.0.accepted = there.is ∙ later.0 in
    (is ∙ shown_now s one.0 before one.2, gives.2 ∙ ap (λ (x : Shown). x.sequence) (sym is))

-- ---- the files of a pin

-- the pin that has the file
record HasFile (q : State) (number : ℕ) (name : FileName) (bytes : List ℕ) : Type 0 where
  pin : Pin
  found : pin_of number q.pins ≡ Some pin
  is : Some bytes ≡ file_in name pin.files

file_found : (q : State) (number : ℕ) (name : FileName) (bytes : List ℕ) (o : Option Pin) → pin_of number q.pins ≡ o → Some bytes ≡ file_in name (files_of o) → HasFile q number name bytes
file_found q number name bytes None found is = absurd (cc)
file_found q number name bytes (Some pin) found is = record { pin = pin; found = found; is = is }

file_read : (q u : State) (number : ℕ) (name : FileName) (bytes : List ℕ) → Step q (event.ReadPinned number name) (reply.ReadPinned (Ok bytes)) u → HasFile q number name bytes
unfolding Step
file_read q u number name bytes step = elim step [
  | Done other is known d ↦ let same : other ≡ bytes = cc in file_found q number name bytes (pin_of number q.pins) refl (ap (λ (x : List ℕ). Some x) (sym same) ∙ d.0)
  | Failed is known f ↦ absurd (cc)
  | Wanting is known w ↦ absurd (cc)
  | Refused e is known w ↦ absurd (cc)
]

pub file_same : (s t : State) (before between after : List Made) (number : ℕ) (name : FileName) (first second : List ℕ) → IsCounted s
    → Run s (before ++ (Asked (event.ReadPinned number name) (reply.ReadPinned (Ok first))) ∷ (between ++ (Asked (event.ReadPinned number name) (reply.ReadPinned (Ok second))) ∷ after)) t
    → second ≡ first
file_same s t before between after number name first second counted run =
    let one = run_at s t before (Asked (event.ReadPinned number name) (reply.ReadPinned (Ok first))) (between ++ (Asked (event.ReadPinned number name) (reply.ReadPinned (Ok second))) ∷ after) run in
    let two = run_at one.1 t between (Asked (event.ReadPinned number name) (reply.ReadPinned (Ok second))) after one.4 in
    let here = file_read one.0 one.1 number name first one.3 in
    let later = file_read two.0 two.1 number name second two.3 in
    let given : number ≤ one.0.greatest_pin =
    let small = all_found (λ (pin : Pin). pin.number ≤ one.0.greatest_pin) number one.0.pins here.pin (run_counted s one.0 before one.2 counted).numbers here.found in
    let same = found_number number one.0.pins here.pin here.found in
    omega (arith, small, same) in
    let stays = pin_stays one.0 two.0 ((Asked (event.ReadPinned number name) (reply.ReadPinned (Ok first))) ∷ between) number here.pin later.pin (one.1, one.3, two.2) given here.found later.found in
    let same : Some second ≡ Some first = later.is ∙ ap (file_in name) stays.1 ∙ sym here.is in
    cc

-- ---- the files that a cut lists

same_name_is : (a b : FileName) → same_name a b ≡ true → a ≡ b
same_name_is (name.Log m) (name.Log n) test = ap name.Log (same_if m n test)
same_name_is (name.Table m) (name.Table n) test = ap name.Table (same_if m n test)
same_name_is (name.Manifest m) (name.Manifest n) test = ap name.Manifest (same_if m n test)
same_name_is (name.Temp m) (name.Temp n) test = ap name.Temp (same_if m n test)
same_name_is name.Current name.Current test = refl
same_name_is a b test = absurd (cc)

-- an element of a list's rest is one of the list
later_one : {A : Type 0} (x : A) (xs : List A) (y : A) → Contains xs y → Contains (x ∷ xs) y
later_one x xs y at = let within = at.1 in (suc at.0, omega (arith, within), at.2)

-- a file that is found by its name is listed with its length
listed_as : (name : FileName) (bytes : List ℕ) (cut : List CutFile) (files : List PinnedFile) → map pins.listed cut ≡ map pins.held files → Some bytes ≡ file_in name files
    → (file : CutFile) × Contains cut file × (file.name ≡ name) × (file.len ≡ length bytes)
listed_as name bytes cut [] lists is = absurd (cc)
listed_as name bytes [] (held ∷ files) lists is = absurd (cc)
listed_as name bytes (file ∷ cut) (held ∷ files) lists is =
    let first : pins.listed file ≡ pins.held held = cc in
    let rest : map pins.listed cut ≡ map pins.held files = cc in
    elim (same_name held.name name) as (λ b. same_name held.name name ≡ b → Some bytes ≡ cond b (Some held.bytes) (file_in name files)
    → (found : CutFile) × Contains (file ∷ cut) found × (found.name ≡ name) × (found.len ≡ length bytes)) [
      | true ↦ λ test here.
          let same : bytes ≡ held.bytes = cc in
          (file, (0, omega arith, refl), ap (λ (x : FileName × ℕ). x.0) first ∙ same_name_is held.name name test, ap (λ (x : FileName × ℕ). x.1) first ∙ ap (λ (l : List ℕ). length l) (sym same))
      | false ↦ λ test later.
          let found = listed_as name bytes cut files rest later in
          (found.0, later_one file cut found.0 found.1, found.2, found.3)
    ] refl is

-- what is read of a cut's file has the length that the cut lists
pub file_listed : (s t : State) (before between after : List Made) (rule : FlushRule) (cut : Cut) (name : FileName) (bytes : List ℕ) → IsCounted s
    → Run s (before ++ (Asked (event.Cut rule) (reply.Cut (Ok cut))) ∷ (between ++ (Asked (event.ReadPinned cut.pin name) (reply.ReadPinned (Ok bytes))) ∷ after)) t
    → (file : CutFile) × Contains cut.files file × (file.name ≡ name) × (file.len ≡ length bytes)
file_listed s t before between after rule cut name bytes counted run =
    let one = run_at s t before (Asked (event.Cut rule) (reply.Cut (Ok cut))) (between ++ (Asked (event.ReadPinned cut.pin name) (reply.ReadPinned (Ok bytes))) ∷ after) run in
    let two = run_at one.1 t between (Asked (event.ReadPinned cut.pin name) (reply.ReadPinned (Ok bytes))) after one.4 in
    let gives = cut_gives one.0 one.1 rule cut (run_counted s one.0 before one.2 counted) one.3 in
    let there = file_read two.0 two.1 cut.pin name bytes two.3 in
    let later = pin_later one.0 one.1 two.0 cut.pin None gives.0 (event.Cut rule) (reply.Cut (Ok cut)) between there.pin gives.1 one.3 two.2 there.found in
    listed_as name bytes cut.files gives.0 gives.3 (there.is ∙ ap (file_in name) later.2)
