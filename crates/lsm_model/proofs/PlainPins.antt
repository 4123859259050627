-- What a plain store's answers on pins, folders and checkpoints are steps of.
use Rattle.std.specs.Prelude.{◌≡◌, ℕ, zero, suc, ◌+◌, ◌<◌, ◌≤◌, Bool, true, false, not, ◌==◌, ◌||◌, nat_lt, nat_le, cond, List, [], ◌∷◌, ◌++◌, length, map, get_or, All, is_some, Option, Some, None, Result, Ok, Err, MatchResult}
use Rattle.std.proofs.Common.{refl, sym, ap, subst, ◌∙◌, arith}
use Rattle.std.specs.Str.{bytes_eq}
use Rattle.std.proofs.lemmas.List.{map-append}
use Rattle.std.proofs.lemmas.List.Elements.{All-nil, All-push}
use Rattle.std.specs.Option.{option_map}
use Rattle.lsm_names.specs.declared.file_names.FileName.{FileName}
use Rattle.lsm_disk.specs.declared.calls.Halt.{Halt}
use Rattle.lsm_model.specs.declared.errors.StoreError.{StoreError}
use Rattle.lsm_model.specs.declared.errors.StoreError.TheVariants as error
use Rattle.lsm_model.specs.declared.replies.JobStart.{JobStart}
use Rattle.lsm_model.specs.declared.replies.Shown.{Shown}
use Rattle.lsm_model.specs.declared.states.State.{State}
use Rattle.lsm_model.specs.declared.states.Pin.{Pin}
use Rattle.lsm_model.specs.declared.states.PinnedFile.{PinnedFile}
use Rattle.lsm_model.specs.declared.states.FolderRead.{FolderRead}
use Rattle.lsm_model.specs.declared.states.Holder.{Holder}
use Rattle.lsm_model.specs.declared.states.Holder.TheVariants.{Checkpoint}
use Rattle.lsm_model.specs.declared.lookups.Job.{Job}
use Rattle.lsm_model.specs.declared.lookups.PlainFolder.{PlainFolder}
use Rattle.lsm_model.specs.declared.plain.PlainLists.{PlainLists}
use Rattle.lsm_model.specs.States.{shown_at, pin_of, with_pin, without_pin, built_by, folder_of}
use Rattle.lsm_model.specs.Moves.{Becomes}
use Rattle.lsm_model.specs.Causes.{pin_limit, halted, under_way, pins_full, refused_if, first_of, is_none, is_own, is_job, builds, files_of, file_in, no_job, is_taken}
use Rattle.lsm_model.specs.Answers.{Done, Wanting, Refused, Usual, MayFlush, does_flush}
use Rattle.lsm_model.specs.Reads.{ShowsPin, ReadsPinned, shown_by_pin}
use Rattle.lsm_model.specs.Pins.{Unpins, CutsAt, FreeOfLogs, pinned, unpinned}
use Rattle.lsm_model.specs.Checkpoints as checkpoints
use Rattle.lsm_model.specs.Checkpoints.{BeginsCheckpoint, StepsCheckpoint, FinishesCheckpoint, StopsCheckpoint, begin_refusal, size_rule, checkpoint_folder, published}
use Rattle.lsm_model.specs.Plain.{state_of, plain_folder, HasFront, IsPlain, IsPlainPin, IsJobOf}
use Rattle.lsm_model.proofs.PinLemmas.{found_number}
use Rattle.lsm_model.proofs.PlainLemmas.{test_yes, test_no, le_yes, le_no, same_state, runs_on, first_runs, first_halted, flushed, flushed_now}

-- ---- the list of pins

-- what all pins have the found one has
pub found_has : (P : Pin → Type 0) (number : ℕ) (pins : List Pin) (pin : Pin) → All P pins → pin_of number pins ≡ Some pin → P pin
found_has P number [] pin all found = absurd (cc)
found_has P number (first ∷ pins) pin all found =
    elim (first.number == number) as (λ b. cond b (Some first) (pin_of number pins) ≡ Some pin → P pin) [
      | true ↦ λ is. let same : first ≡ pin = cc in subst P same (all zero first (omega arith))
      | false ↦ λ is. found_has P number pins pin (λ k d less. all (suc k) d (omega (arith, less))) is
    ] found

fewer : (number : ℕ) (pins : List Pin) → length (without_pin number pins) ≤ length pins
fewer number [] = omega arith
fewer number (pin ∷ pins) =
    let less = fewer number pins in
    elim (pin.number == number) as (λ b. length (cond b (without_pin number pins) (pin ∷ without_pin number pins)) ≤ suc (length pins)) [ true ↦ omega (arith, less) | false ↦ omega (arith, less) ]

-- what all pins have those that stay have
stay_so : (P : Pin → Type 0) (number : ℕ) (pins : List Pin) → All P pins → All P (without_pin number pins)
stay_so P number [] all = all
stay_so P number (pin ∷ pins) all =
    let rest : All P (without_pin number pins) = stay_so P number pins (λ k d less. all (suc k) d (omega (arith, less))) in
    elim (pin.number == number) as (λ b. All P (cond b (without_pin number pins) (pin ∷ without_pin number pins))) [
      | true ↦ rest
      | false ↦ λ k. elim k as (λ k. (d : Pin) → k < suc (length (without_pin number pins)) → P (get_or (pin ∷ without_pin number pins) k d)) [
        | zero ↦ λ d less. all zero pin (omega arith)
        | suc j ↦ λ d less. rest j d (omega (arith, less))
      ]
    ]

-- a pin in its own place
with_same : (new : Pin) (pins : List Pin) → pin_of new.number pins ≡ Some new → with_pin new pins ≡ pins
with_same new [] found = refl
with_same new (pin ∷ pins) found =
    elim (pin.number == new.number) as (λ b. cond b (Some pin) (pin_of new.number pins) ≡ Some new → cond b (new ∷ pins) (pin ∷ with_pin new pins) ≡ pin ∷ pins) [
      | true ↦ λ is. let same : pin ≡ new = cc in ap (λ (p : Pin). p ∷ pins) (sym same)
      | false ↦ λ is. ap (λ (l : List Pin). pin ∷ l) (with_same new pins is)
    ] found

pub plain_unpinned : (p q : PlainLists) (number : ℕ) → IsPlain p → q.pins.items ≡ without_pin number p.pins.items → IsPlain (record p { pins = q.pins })
plain_unpinned p q number is less =
    let count = ap length less in
    let short = fewer number p.pins.items in
    record {
      sequence = is.sequence;
      last = is.last;
      durable = is.durable;
      few = omega (arith, count, short, is.few);
      pins = subst (All (IsPlainPin p.accepted.items)) (sym less) (stay_so (IsPlainPin p.accepted.items) number p.pins.items is.pins);
      folders = is.folders;
    }

-- ---- unpin

pub unpin_none : (p : PlainLists) (number : ℕ) → is_own (pin_of number p.pins.items) ≡ false → Unpins (state_of p) number (Err (error.NoSuchPin number)) (state_of p)
unpin_none p number none = Refused (error.NoSuchPin number) refl (test_yes _ _ (ap not none)) refl

pub unpinned_now : (p : PlainLists) (t : State) (number : ℕ) → is_own (pin_of number p.pins.items) ≡ true → t ≡ unpinned number (state_of p) → Unpins (state_of p) number (Ok tt) t
unpinned_now p t number own state = Done tt refl (test_no _ _ (ap not own)) state

-- ---- pins shown and read

abbrev pub Tells : PlainLists → ℕ → Result Shown StoreError → Type 0
Tells p count result = MatchResult result (λ shown. shown ≡ shown_at (state_of p) count) (λ refusal. refusal ≡ error.NoMemory)

pub pin_none : (p : PlainLists) (number : ℕ) → None ≡ pin_of number p.pins.items → ShowsPin (state_of p) number (Err (error.NoSuchPin number)) (state_of p)
pin_none p number none = Refused (error.NoSuchPin number) refl (ap (λ (o : Option Pin). refused_if (is_none o) (error.NoSuchPin number)) (sym none)) refl

pub pin_shown : (p : PlainLists) (number : ℕ) (pin : Pin) (r : Result Shown StoreError) → Some pin ≡ pin_of number p.pins.items → Tells p pin.batches r → ShowsPin (state_of p) number r (state_of p)
pin_shown p number pin (Ok shown) found is =
    Done shown refl (ap (λ (o : Option Pin). refused_if (is_none o) (error.NoSuchPin number)) (sym found))
    (ap (λ (x : Shown). Some x) is ∙ ap (shown_by_pin (state_of p)) found, same_state (state_of p))
pin_shown p number pin (Err e) found is =
    Wanting (ap (λ (x : StoreError). Err x) is) (ap (λ (o : Option Pin). refused_if (is_none o) (error.NoSuchPin number)) (sym found)) (same_state (state_of p))

pub no_pin_read : (p : PlainLists) (number : ℕ) (name : FileName) → None ≡ pin_of number p.pins.items → ReadsPinned (state_of p) number name (Err (error.NoSuchPin number)) (state_of p)
no_pin_read p number name none =
    Refused (error.NoSuchPin number) refl
    (ap (λ (o : Option Pin). first_of (refused_if (is_none o) (error.NoSuchPin number) ∷ refused_if (is_none (file_in name (files_of o))) (error.NotInPin number name) ∷ [])) (sym none)) refl

pub no_file_read : (p : PlainLists) (number : ℕ) (name : FileName) (pin : Pin) → IsPlain p → Some pin ≡ pin_of number p.pins.items → ReadsPinned (state_of p) number name (Err (error.NotInPin number name)) (state_of p)
no_file_read p number name pin is found =
    let plain : IsPlainPin p.accepted.items pin = found_has (IsPlainPin p.accepted.items) number p.pins.items pin is.pins (sym found) in
    Refused (error.NotInPin number name) refl
    (ap (λ (o : Option Pin). first_of (refused_if (is_none o) (error.NoSuchPin number) ∷ refused_if (is_none (file_in name (files_of o))) (error.NotInPin number name) ∷ [])) (sym found)
    ∙ ap (λ (files : List PinnedFile). first_of (None ∷ refused_if (is_none (file_in name files)) (error.NotInPin number name) ∷ [])) plain.none)
    refl

-- ---- folders

pub taken_own : (p : PlainLists) (dir : List ℕ) → bytes_eq p.own dir ≡ true → true ≡ is_taken dir (state_of p)
unfolding is_taken
taken_own p dir own = sym (ap (λ (b : Bool). b || is_some (folder_of dir (state_of p).folders)) own)

pub taken_else : (p : PlainLists) (dir : List ℕ) (found : Option FolderRead) → bytes_eq p.own dir ≡ false → found ≡ folder_of dir (state_of p).folders → is_some found ≡ is_taken dir (state_of p)
unfolding is_taken
taken_else p dir found other is = ap is_some is ∙ sym (ap (λ (b : Bool). b || is_some (folder_of dir (state_of p).folders)) other)

-- ---- checkpoints begin

pub begin_built : (p : PlainLists) (dir : List ℕ) (size : ℕ) → p.halt ≡ None → builds dir p.pins.items ≡ true → BeginsCheckpoint (state_of p) dir size (Err (error.UnderWay dir)) (state_of p)
begin_built p dir size runs built =
    checkpoints.Refused (error.UnderWay dir) refl
    (first_runs (state_of p) (under_way dir (state_of p) ∷ pins_full (state_of p) ∷ []) runs ∙ ap (λ (b : Bool). first_of (refused_if b (error.UnderWay dir) ∷ pins_full (state_of p) ∷ [])) built) refl

not_built : (p : PlainLists) (dir : List ℕ) → p.halt ≡ None → builds dir p.pins.items ≡ false → begin_refusal (state_of p) dir ≡ first_of (pins_full (state_of p) ∷ [])
not_built p dir runs free = first_runs (state_of p) (under_way dir (state_of p) ∷ pins_full (state_of p) ∷ []) runs ∙ ap (λ (b : Bool). first_of (refused_if b (error.UnderWay dir) ∷ pins_full (state_of p) ∷ [])) free

pub begin_full : (p : PlainLists) (dir : List ℕ) (size : ℕ) → p.halt ≡ None → builds dir p.pins.items ≡ false → length p.pins.items ≡ pin_limit → BeginsCheckpoint (state_of p) dir size (Err (error.PinsFull 64)) (state_of p)
begin_full p dir size runs free full =
    checkpoints.Refused (error.PinsFull 64) refl
    (not_built p dir runs free
    ∙ ap (λ (o : Option StoreError). first_of (o ∷ [])) (test_yes _ _ (le_yes pin_limit (length p.pins.items) (omega (arith, full))))
    ∙ ap (λ (n : ℕ). Some (error.PinsFull n)) full) refl

begins : (p : PlainLists) (dir : List ℕ) → p.halt ≡ None → builds dir p.pins.items ≡ false → length p.pins.items < pin_limit → begin_refusal (state_of p) dir ≡ None
begins p dir runs free room = not_built p dir runs free ∙ ap (λ (o : Option StoreError). first_of (o ∷ [])) (test_no _ _ (le_no pin_limit (length p.pins.items) room))

pub begin_exists : (p : PlainLists) (dir : List ℕ) (size : ℕ) → p.halt ≡ None → builds dir p.pins.items ≡ false → length p.pins.items < pin_limit → is_taken dir (state_of p) ≡ true
    → BeginsCheckpoint (state_of p) dir size (Err (error.CheckpointExists dir)) (state_of p)
begin_exists p dir size runs free room taken = checkpoints.Exists refl (begins p dir runs free room) taken (same_state (state_of p))

may_stay : (p : PlainLists) (flushing : Bool) → IsPlain p → MayFlush flushing (state_of p) (state_of p)
may_stay p true is = flushed p p.active p.frozen p.active_len p.frozen_len is
may_stay p false is = same_state (state_of p)

pub begin_wanting : (p : PlainLists) (t : State) (dir : List ℕ) (size : ℕ) → IsPlain p → p.halt ≡ None → builds dir p.pins.items ≡ false → length p.pins.items < pin_limit → is_taken dir (state_of p) ≡ false
    → t ≡ state_of p → BeginsCheckpoint (state_of p) dir size (Err error.NoMemory) t
begin_wanting p t dir size is runs free room taken state =
    subst (BeginsCheckpoint (state_of p) dir size (Err error.NoMemory)) (sym state)
    (checkpoints.Cut (begins p dir runs free room) taken (Usual (Wanting refl refl (may_stay p (does_flush (size_rule size) (state_of p)) is))))

-- a checkpoint's size flushes where the logs reach it; they always reach 0
pub size_flushes : (p : PlainLists) (size : ℕ) → does_flush (size_rule size) (state_of p) ≡ nat_le size (p.frozen_len + p.active_len)
size_flushes p zero = sym (le_yes 0 (p.frozen_len + p.active_len) (omega arith))
size_flushes p (suc n) = refl

pub cuts_flushed : (p : PlainLists) (flushing : Bool) → IsPlain p → flushing ≡ true → CutsAt flushing (state_of p) (state_of (record p { active = 0; frozen = 0; active_len = 0; frozen_len = 0 }))
cuts_flushed p flushing is all = subst (λ (b : Bool). CutsAt b (state_of p) (state_of (record p { active = 0; frozen = 0; active_len = 0; frozen_len = 0 }))) (sym all) (flushed_now p is)

pub cuts_as_is : (p : PlainLists) (flushing : Bool) → flushing ≡ false → CutsAt flushing (state_of p) (state_of p)
cuts_as_is p flushing none = subst (λ (b : Bool). CutsAt b (state_of p) (state_of p)) (sym none) (same_state (state_of p))

-- a pin more doesn't change how long the logs are
pub still_reaches : (p q : PlainLists) (holder : Holder) (bytes : ℕ) (test : Bool) → state_of q ≡ pinned holder 0 [] (state_of p) → test ≡ nat_le bytes (q.frozen_len + q.active_len)
    → nat_le bytes (p.frozen_len + p.active_len) ≡ test
still_reaches p q holder bytes test same is = sym (is ∙ ap (λ (s : State). nat_le bytes (s.frozen_len + s.active_len)) same)

no_logs : (flushing : Bool) → FreeOfLogs flushing []
no_logs true = All-nil _
no_logs false = tt

pub begun_now : (p : PlainLists) (t at : State) (dir : List ℕ) (size : ℕ) (start : JobStart) → IsPlain p → p.halt ≡ None → builds dir p.pins.items ≡ false → length p.pins.items < pin_limit → is_taken dir (state_of p) ≡ false
    → CutsAt (does_flush (size_rule size) (state_of p)) (state_of p) at → t ≡ pinned (Checkpoint dir 0) 0 [] at → start.pin ≡ p.greatest_pin + 1 → start.sequence ≡ p.sequence
    → BeginsCheckpoint (state_of p) dir size (Ok start) t
begun_now p t at dir size start is runs free room taken flushes state number sequence =
    checkpoints.Cut (begins p dir runs free room) taken (Usual (Done start refl refl (record {
      at = at;
      manifest = 0;
      files = [];
      free = taken;
      flushed = flushes;
      pin = number;
      sequence = sequence ∙ is.sequence;
      logs = no_logs (does_flush (size_rule size) (state_of p));
      rest = subst (Becomes (pinned (Checkpoint dir 0) 0 [] at)) (sym state) (same_state (pinned (Checkpoint dir 0) 0 [] at));
    })))

-- ---- checkpoints go on

is_known : (p : PlainLists) (number : ℕ) (job : Job) → IsJobOf job (pin_of number p.pins.items) → no_job number (state_of p) ≡ None
is_known p number job j =
    let there : is_job (pin_of number p.pins.items) ≡ true = ap is_job j.is ∙ ap (λ (h : Holder). is_some (built_by h)) j.holder in
    test_no _ _ (ap not there)

no_job_known : (p : PlainLists) (number : ℕ) → is_job (pin_of number p.pins.items) ≡ false → no_job number (state_of p) ≡ Some (error.NoSuchPin number)
no_job_known p number none = test_yes _ _ (ap not none)

pub step_none : (p : PlainLists) (number : ℕ) → is_job (pin_of number p.pins.items) ≡ false → StepsCheckpoint (state_of p) number (Err (error.NoSuchPin number)) (state_of p)
step_none p number none = Refused (error.NoSuchPin number) refl (ap (λ (o : Option StoreError). first_of (o ∷ halted (state_of p) ∷ [])) (no_job_known p number none)) refl

pub stepped_now : (p : PlainLists) (number : ℕ) (job : Job) → IsJobOf job (pin_of number p.pins.items) → p.halt ≡ None → StepsCheckpoint (state_of p) number (Ok (nat_lt 0 job.left)) (state_of p)
stepped_now p number job j runs =
    let same : record j.pin { holder = Checkpoint job.dir job.left } ≡ j.pin = λ i. record j.pin { holder = sym j.holder i } in
    let here : pin_of j.pin.number p.pins.items ≡ Some j.pin = ap (λ (n : ℕ). pin_of n p.pins.items) (found_number number p.pins.items j.pin j.is) ∙ j.is in
    let pins : with_pin (record j.pin { holder = Checkpoint job.dir job.left }) p.pins.items ≡ p.pins.items = ap (λ (x : Pin). with_pin x p.pins.items) same ∙ with_same j.pin p.pins.items here in
    Done (nat_lt 0 job.left) refl (ap (λ (o : Option StoreError). first_of (o ∷ halted (state_of p) ∷ [])) (is_known p number job j) ∙ first_runs (state_of p) [] runs) (record {
      pin = j.pin;
      dir = job.dir;
      left = job.left;
      now = job.left;
      job = record { found = j.is; holder = j.holder };
      fewer = omega arith;
      one = omega arith;
      answer = refl;
      rest = subst (λ (l : List Pin). Becomes (record (state_of p) { pins = l }) (state_of p)) (sym pins) (same_state (state_of p));
    })

pub step_halted : (p : PlainLists) (number : ℕ) (job : Job) (first : Halt) → IsJobOf job (pin_of number p.pins.items) → p.halt ≡ Some first → StepsCheckpoint (state_of p) number (Err (error.Halted first)) (state_of p)
step_halted p number job first j is =
    Refused (error.Halted first) refl
    (ap (λ (o : Option StoreError). first_of (o ∷ halted (state_of p) ∷ [])) (is_known p number job j) ∙ first_halted (state_of p) [] (error.Halted first) (ap (option_map error.Halted) is)) refl

pub stop_none : (p : PlainLists) (number : ℕ) → is_job (pin_of number p.pins.items) ≡ false → StopsCheckpoint (state_of p) number (Err (error.NoSuchPin number)) (state_of p)
stop_none p number none = Refused (error.NoSuchPin number) refl (no_job_known p number none) refl

pub stopped_now : (p : PlainLists) (t : State) (number : ℕ) (job : Job) → IsJobOf job (pin_of number p.pins.items) → t ≡ unpinned number (state_of p) → StopsCheckpoint (state_of p) number (Ok tt) t
stopped_now p t number job j state = Done tt refl (is_known p number job j) state

-- ---- checkpoints finish

pub finish_none : (p : PlainLists) (number : ℕ) → is_job (pin_of number p.pins.items) ≡ false → FinishesCheckpoint (state_of p) number (Err (error.NoSuchPin number)) (state_of p)
finish_none p number none = checkpoints.No_job (error.NoSuchPin number) refl (no_job_known p number none) refl

module _ (p : PlainLists) (number : ℕ) (job : Job) (j : IsJobOf job (pin_of number p.pins.items)) where
  becomes : (t : State) → t ≡ unpinned number (state_of p) → Becomes (unpinned number (state_of p)) t
  becomes t state = subst (Becomes (unpinned number (state_of p))) (sym state) (same_state (unpinned number (state_of p)))

  pub finish_halted : (t : State) (first : Halt) → p.halt ≡ Some first → t ≡ unpinned number (state_of p) → FinishesCheckpoint (state_of p) number (Err (error.Halted first)) t
  finish_halted t first is state = checkpoints.Halted (error.Halted first) refl (is_known p number job j) (ap (option_map error.Halted) is) state

  pub finish_taken : (t : State) → p.halt ≡ None → is_taken job.dir (state_of p) ≡ true → t ≡ unpinned number (state_of p) → FinishesCheckpoint (state_of p) number (Err (error.CheckpointExists job.dir)) t
  finish_taken t runs taken state = checkpoints.Taken job.dir refl (runs_on (state_of p) runs) (record { pin = j.pin; left = job.left; job = record { found = j.is; holder = j.holder }; taken = taken; rest = becomes t state })

  pub finish_wanting : (t : State) → p.halt ≡ None → t ≡ unpinned number (state_of p) → FinishesCheckpoint (state_of p) number (Err error.NoMemory) t
  finish_wanting t runs state = checkpoints.Wanting refl (is_known p number job j) (runs_on (state_of p) runs) (becomes t state)

  pub finish_done : (q r : PlainLists) (sequence : ℕ) → p.halt ≡ None → is_taken job.dir (state_of p) ≡ false → state_of q ≡ unpinned number (state_of p)
      → r.folders.items ≡ q.folders.items ++ (record { name = job.dir; batches = Some job.batches }) ∷ [] → sequence ≡ (shown_at (state_of p) job.batches).sequence
      → FinishesCheckpoint (state_of p) number (Ok sequence) (state_of (record q { folders = r.folders }))
  finish_done q r sequence runs free state more is =
      let s : State = state_of p in
      let folder : PlainFolder = record { name = job.dir; batches = Some job.batches } in
      let with_one : State → State = λ u. record u { folders = u.folders ++ plain_folder u.accepted folder ∷ [] } in
      let grown : state_of (record q { folders = r.folders }) ≡ with_one (state_of q)
      = ap (λ (l : List FolderRead). record (state_of q) { folders = l }) (ap (map (plain_folder q.accepted.items)) more ∙ map-append (plain_folder q.accepted.items) q.folders.items (folder ∷ [])) in
      let number_is : number ≡ j.pin.number = sym (found_number number p.pins.items j.pin j.is) in
      let named : with_one (unpinned number s) ≡ published s j.pin job.dir true
      = λ i. record (unpinned (number_is i) s) { folders = s.folders ++ (record { name = job.dir; reading = Ok (shown_at s (sym j.batches i)); sure = true }) ∷ [] } in
      let all : state_of (record q { folders = r.folders }) ≡ published s j.pin job.dir true = grown ∙ ap with_one state ∙ named in
      checkpoints.Done sequence refl (runs_on s runs) (record {
        pin = j.pin;
        dir = job.dir;
        left = job.left;
        job = record { found = j.is; holder = j.holder };
        free = free;
        sequence_is = is ∙ ap (λ (n : ℕ). (shown_at s n).sequence) (sym j.batches);
        rest = subst (Becomes (published s j.pin job.dir true)) (sym all) (same_state (published s j.pin job.dir true));
      })

  pub finish_plain : (q r : PlainLists) → IsPlain p → IsPlain q → state_of q ≡ unpinned number (state_of p) → r.folders.items ≡ q.folders.items ++ (record { name = job.dir; batches = Some job.batches }) ∷ []
      → IsPlain (record q { folders = r.folders })
  finish_plain q r is after state more =
      let plain : IsPlainPin p.accepted.items j.pin = found_has (IsPlainPin p.accepted.items) number p.pins.items j.pin is.pins j.is in
      let accepted : length q.accepted.items ≡ length p.accepted.items = ap (λ (u : State). length u.accepted) state in
      record {
        sequence = after.sequence;
        last = after.last;
        durable = after.durable;
        few = after.few;
        pins = after.pins;
        folders = subst (All (HasFront q.accepted.items)) (sym more)
            (All-push (HasFront q.accepted.items) q.folders.items (record { name = job.dir; batches = Some job.batches }) after.folders (omega (arith, plain.front, accepted, j.batches)));
      }
