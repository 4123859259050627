-- What is seen of a disk in memory, and how its calls follow its plan.
use Rattle.std.specs.Prelude.{◌≡◌, ◌⊎◌, ℕ, ◌+◌, ◌-◌, ◌^◌, ◌<◌, ◌==◌, min, if◌then◌else◌, List, [], ◌∷◌, length, take, Option, Some, None, Result, Ok, Err, IsSome, IfSome, refl}
use Rattle.std.specs.Coded.{Coded, code_by, coded×, coded_ℕ, coded_list}
use Rattle.lsm_disk.specs.State.{Seen, Story, State, Change, state_of, appended}
use Rattle.lsm_disk.specs.Codes.{coded_seen}
use Rattle.lsm_disk.specs.declared.calls.DiskError.{DiskError}
use Rattle.lsm_disk.specs.Answers.{pushed}
use Rattle.lsm_disk.specs.declared.calls.DiskError.TheVariants.{Fault, NotThere, Exists, NoLinks, NotEmpty, Short, NoMemory}
use Rattle.lsm_volume.specs.Clock.{FaultsAtEnd}
use Rattle.lsm_memdisk.specs.Plan as plan
use Rattle.lsm_memdisk.specs.declared.plan.Effect.{Effect}
use Rattle.lsm_memdisk.specs.declared.plan.Effect.TheVariants.{Nothing, Done, Part}

pub record Shown : Type 0 where
  -- the disk itself
  pub disk : Seen
  -- which of its calls are to fail
  pub plan : plan.Shown
  -- how many views it gave, how many reads at place 0 came back with views, and which reads of which views are to fail
  pub opened : ℕ
  pub starts : ℕ
  pub reads : List (ℕ × ℕ)

abbrev pub coded_disk : Coded Shown
coded_disk =
    code_by (Seen × (plan.Shown × (ℕ × (ℕ × List (ℕ × ℕ)))))
    (coded× coded_seen (coded× plan.coded_plan (coded× coded_ℕ (coded× coded_ℕ (coded_list (coded× coded_ℕ coded_ℕ))))))
    (λ m. (m.disk, (m.plan, (m.opened, (m.starts, m.reads)))))
    (λ t. record { disk = t.0; plan = t.1.0; opened = t.1.1.0; starts = t.1.1.1.0; reads = t.1.1.1.1 }) (λ _. refl)

abbrev pub with_plan : (plan.Shown → plan.Shown) → Shown → Shown
with_plan change m = record m { plan = change m.plan }

abbrev pub with_reads : List (ℕ × ℕ) → Shown → Shown
with_reads reads m = record m { reads = reads }

-- the reads of this view that are to fail
abbrev pub reads_for : ℕ → List (ℕ × ℕ) → List ℕ
reads_for view [] = []
reads_for view (r ∷ rs) = if r.0 == view then r.1 ∷ reads_for view rs else reads_for view rs

-- the number of the view that the next successful `open` gives; it stays at its last value
abbrev pub next_view : Shown → ℕ
next_view m = min (m.opened + 1) (2 ^ 64 - 1)

-- A call that changes nothing counts, and fails exactly where it is planned to. No call changes which reads are to fail.
pub record Follows {T : Type 0} (old new : Shown) (result : Result T DiskError) : Type 0 where
  pub counted : new.plan ≡ plan.begun old.plan
  pub fails : IsSome (plan.planned old.plan) → result ≡ Err Fault
  pub works : plan.planned old.plan ≡ None → result ≡ Err Fault → ⊥
  pub starts : new.starts ≡ old.starts
  pub reads : new.reads ≡ old.reads

-- ---- calls that change something

-- the change of a call that fails, for one that changes all or nothing
abbrev pub whole : (State → Change) → Effect → Option (State → Change)
whole change Nothing = None
whole change Done = Some change
whole change (Part n) = None

-- and for an append, of which a part is its first bytes
abbrev pub front : List ℕ → List ℕ → Effect → Option (State → Change)
front path bytes Nothing = None
front path bytes Done = Some (appended path bytes)
front path bytes (Part n) = Some (appended path (take n bytes))

-- the story with the change, where it isn't refused
abbrev pub done_by : Option DiskError → (State → Change) → Story → Story
done_by None change story = pushed change story
done_by (Some e) change story = story

-- The change is made exactly where it isn't refused. At the clock's end it may be or not.
abbrev pub IsDone : (State → Change) → (State → Option DiskError) → Seen → Seen → Type 0
IsDone change refusal old new = IfSome old.told (λ story. length story.log < 2 ^ 64 - 1
    → new.told ≡ Some (done_by (refusal (state_of story)) change story))

-- Without a change nothing is done. With one it is done, but that want of memory may come before the fault, and then nothing is.
abbrev pub IsFailed : {T : Type 0} → Option (State → Change) → (State → Option DiskError) → Seen → Seen → Result T DiskError → Type 0
IsFailed None refusal old new result = (result ≡ Err Fault) × (new.told ≡ old.told)
IsFailed (Some change) refusal old new result = ((result ≡ Err Fault) × IsDone change refusal old new)
    ⊎ ((result ≡ Err NoMemory) × (new.told ≡ old.told))

-- A call counts, fails where it is planned to and has its effect, and else fails at the clock's end alone.
pub record Obeys {T : Type 0} (effect : Effect → Option (State → Change)) (refusal : State → Option DiskError)
    (old new : Shown) (result : Result T DiskError) : Type 0 where
  pub counted : new.plan ≡ plan.begun old.plan
  pub fails : (e : Effect) → plan.planned old.plan ≡ Some e → IsFailed (effect e) refusal old.disk new.disk result
  pub works : plan.planned old.plan ≡ None → FaultsAtEnd old.disk result
  pub starts : new.starts ≡ old.starts
  pub reads : new.reads ≡ old.reads

abbrev pub failed_by : DiskError → DiskError
failed_by Fault = Fault
failed_by NotThere = Fault
failed_by Exists = Fault
failed_by NoLinks = Fault
failed_by NotEmpty = Fault
failed_by (Short found) = Fault
failed_by NoMemory = NoMemory

-- the answer of a call that was made to fail, where this was done or refused
abbrev pub failed : Result (Unit {0}) DiskError → Result (Unit {0}) DiskError
failed (Ok value) = Err Fault
failed (Err e) = Err (failed_by e)
