-- Codes of a state and its parts, by which it may be a model's value.
use Rattle.std.specs.Prelude.{◌≡◌, ◌⊎◌, ℕ, zero, suc, Bool, List, [], ◌∷◌, Option, Result, refl}
use Rattle.std.proofs.Common.{inl, inr}
use Rattle.std.specs.Coded.{Coded, code_by, coded×, coded⊎, coded_ℕ, coded_bool, coded_list, coded_option, coded_result}
use base.Stored.{coded_unit}
use Rattle.lsm_disk.specs.declared.calls.DiskCall.{DiskCall}
use Rattle.lsm_disk.specs.declared.calls.DiskCall.TheVariants as call
use Rattle.lsm_disk.specs.declared.calls.Halt.{Halt}
use Rattle.lsm_disk.specs.CallCodes.{coded_call, coded_halt}
use Rattle.lsm_names.specs.declared.file_names.FileName.{FileName}
use Rattle.lsm_names.specs.declared.file_names.FileName.TheVariants.{Current}
use Rattle.lsm_names.specs.Codes.{coded_name}
use Rattle.lsm_rows.specs.declared.operations.Op.{Op}
use Rattle.lsm_rows.specs.declared.operations.Op.TheVariants.{Put, Delete}
use Rattle.lsm_rows.specs.Pairs.{coded_bytes, coded_contents}
use Rattle.lsm_rows.specs.Replay.{Contents}
use Rattle.lsm_version.specs.declared.tables.Place.{Place}
use Rattle.lsm_model.specs.declared.errors.StoreError.{StoreError}
use Rattle.lsm_model.specs.declared.errors.StoreError.TheVariants as error
use Rattle.lsm_model.specs.declared.replies.Shown.{Shown}
use Rattle.lsm_model.specs.declared.states.State.{State}
use Rattle.lsm_model.specs.declared.states.Pin.{Pin}
use Rattle.lsm_model.specs.declared.states.PinnedFile.{PinnedFile}
use Rattle.lsm_model.specs.declared.states.Holder.{Holder}
use Rattle.lsm_model.specs.declared.states.Holder.TheVariants.{Caller, Checkpoint}
use Rattle.lsm_model.specs.declared.states.FolderRead.{FolderRead}
use Rattle.lsm_model.specs.declared.states.LiveTable.{LiveTable}

-- the thing at a place of a list, or the last one
abbrev pub thing_at : {A : Type 0} → A → List A → ℕ → A
thing_at last [] n = last
thing_at last (x ∷ xs) zero = x
thing_at last (x ∷ xs) (suc n) = thing_at last xs n

-- ---- refusals: which of them it is, and what any of them carries

pub record Carried : Type 0 where
  pub call : DiskCall
  pub path : List ℕ
  pub name : FileName
  pub one : ℕ
  pub two : ℕ
  pub three : ℕ

abbrev pub nothing : Carried
nothing = record { call = call.Kind; path = []; name = Current; one = 0; two = 0; three = 0 }

abbrev pub error_to : StoreError → ℕ × Carried
error_to error.DiskFault = (0, nothing)
error_to (error.Halted first) = (1, record nothing { call = first.call; path = first.path })
error_to (error.SequenceFull last count) = (2, record nothing { one = last; two = count })
error_to (error.NumbersFull next) = (3, record nothing { one = next })
error_to (error.TablesFull live adding) = (4, record nothing { one = live; two = adding })
error_to (error.PinsFull live) = (5, record nothing { one = live })
error_to (error.DisablesFull count) = (6, record nothing { one = count })
error_to (error.NoSuchPin pin) = (7, record nothing { one = pin })
error_to (error.NotInPin pin name) = (8, record nothing { name = name; one = pin })
error_to error.NotDisabled = (9, nothing)
error_to (error.CheckpointExists dir) = (10, record nothing { path = dir })
error_to (error.UnderWay dir) = (11, record nothing { path = dir })
error_to (error.NoFolder dir) = (12, record nothing { path = dir })
error_to (error.NoCurrent dir) = (13, record nothing { path = dir })
error_to (error.Missing name) = (14, record nothing { name = name })
error_to (error.Changed call path) = (15, record nothing { call = call; path = path })
error_to (error.Short name kept found) = (16, record nothing { name = name; one = kept; two = found })
error_to (error.Damaged name place kept found) = (17, record nothing { name = name; one = place; two = kept; three = found })
error_to (error.Malformed name place) = (18, record nothing { name = name; one = place })
error_to (error.TornLog name place) = (19, record nothing { name = name; one = place })
error_to (error.Gap name kept found) = (20, record nothing { name = name; one = kept; two = found })
error_to (error.BadLevels level left right) = (21, record nothing { one = level; two = left; three = right })
error_to error.NoMemory = (22, nothing)

abbrev pub errors_with : Carried → List StoreError
errors_with c =
    error.DiskFault ∷ error.Halted (record { call = c.call; path = c.path }) ∷ error.SequenceFull c.one c.two ∷ error.NumbersFull c.one
    ∷ error.TablesFull c.one c.two ∷ error.PinsFull c.one ∷ error.DisablesFull c.one ∷ error.NoSuchPin c.one ∷ error.NotInPin c.one c.name
    ∷ error.NotDisabled ∷ error.CheckpointExists c.path ∷ error.UnderWay c.path ∷ error.NoFolder c.path ∷ error.NoCurrent c.path
    ∷ error.Missing c.name ∷ error.Changed c.call c.path ∷ error.Short c.name c.one c.two ∷ error.Damaged c.name c.one c.two c.three
    ∷ error.Malformed c.name c.one ∷ error.TornLog c.name c.one ∷ error.Gap c.name c.one c.two ∷ error.BadLevels c.one c.two c.three ∷ []

abbrev pub error_from : ℕ × Carried → StoreError
error_from p = thing_at error.NoMemory (errors_with p.1) p.0

pub error_again : (e : StoreError) → error_from (error_to e) ≡ e
error_again error.DiskFault = refl
error_again (error.Halted first) = refl
error_again (error.SequenceFull last count) = refl
error_again (error.NumbersFull next) = refl
error_again (error.TablesFull live adding) = refl
error_again (error.PinsFull live) = refl
error_again (error.DisablesFull count) = refl
error_again (error.NoSuchPin pin) = refl
error_again (error.NotInPin pin name) = refl
error_again error.NotDisabled = refl
error_again (error.CheckpointExists dir) = refl
error_again (error.UnderWay dir) = refl
error_again (error.NoFolder dir) = refl
error_again (error.NoCurrent dir) = refl
error_again (error.Missing name) = refl
error_again (error.Changed call path) = refl
error_again (error.Short name kept found) = refl
error_again (error.Damaged name place kept found) = refl
error_again (error.Malformed name place) = refl
error_again (error.TornLog name place) = refl
error_again (error.Gap name kept found) = refl
error_again (error.BadLevels level left right) = refl
error_again error.NoMemory = refl

abbrev pub coded_carried : Coded Carried
coded_carried =
    code_by (DiskCall × (List ℕ × (FileName × (ℕ × (ℕ × ℕ)))))
    (coded× coded_call (coded× coded_bytes (coded× coded_name (coded× coded_ℕ (coded× coded_ℕ coded_ℕ)))))
    (λ c. (c.call, (c.path, (c.name, (c.one, (c.two, c.three))))))
    (λ p. record { call = p.0; path = p.1.0; name = p.1.1.0; one = p.1.1.1.0; two = p.1.1.1.1.0; three = p.1.1.1.1.1 }) (λ _. refl)

abbrev pub coded_error : Coded StoreError
coded_error = code_by (ℕ × Carried) (coded× coded_ℕ coded_carried) error_to error_from error_again

-- ---- operations, pins and folders

abbrev pub op_to : Op → (List ℕ × List ℕ) ⊎ List ℕ
op_to (Put key value) = inl (key, value)
op_to (Delete key) = inr key

abbrev pub op_from : (List ℕ × List ℕ) ⊎ List ℕ → Op
op_from (inl pair) = Put pair.0 pair.1
op_from (inr key) = Delete key

pub op_again : (op : Op) → op_from (op_to op) ≡ op
op_again (Put key value) = refl
op_again (Delete key) = refl

abbrev pub coded_operation : Coded Op
coded_operation = code_by ((List ℕ × List ℕ) ⊎ List ℕ) (coded⊎ (coded× coded_bytes coded_bytes) coded_bytes) op_to op_from op_again

abbrev pub holder_to : Holder → Unit {0} ⊎ (List ℕ × ℕ)
holder_to Caller = inl tt
holder_to (Checkpoint dir left) = inr (dir, left)

abbrev pub holder_from : Unit {0} ⊎ (List ℕ × ℕ) → Holder
holder_from (inl _) = Caller
holder_from (inr job) = Checkpoint job.0 job.1

pub holder_again : (h : Holder) → holder_from (holder_to h) ≡ h
holder_again Caller = refl
holder_again (Checkpoint dir left) = refl

abbrev pub coded_holder : Coded Holder
coded_holder = code_by (Unit {0} ⊎ (List ℕ × ℕ)) (coded⊎ coded_unit (coded× coded_bytes coded_ℕ)) holder_to holder_from holder_again

abbrev pub coded_pinned : Coded PinnedFile
coded_pinned = code_by (FileName × List ℕ) (coded× coded_name coded_bytes) (λ f. (f.name, f.bytes))
    (λ p. record { name = p.0; bytes = p.1 }) (λ _. refl)

abbrev pub coded_pin : Coded Pin
coded_pin =
    code_by (ℕ × (ℕ × (ℕ × (List PinnedFile × Holder)))) (coded× coded_ℕ
    (coded× coded_ℕ (coded× coded_ℕ (coded× (coded_list coded_pinned) coded_holder))))
    (λ p. (p.number, (p.batches, (p.manifest, (p.files, p.holder)))))
    (λ p. record { number = p.0; batches = p.1.0; manifest = p.1.1.0; files = p.1.1.1.0; holder = p.1.1.1.1 }) (λ _. refl)

abbrev pub coded_shown : Coded Shown
coded_shown = code_by (ℕ × Contents) (coded× coded_ℕ coded_contents) (λ s. (s.sequence, s.contents))
    (λ p. record { sequence = p.0; contents = p.1 }) (λ _. refl)

abbrev pub coded_folder : Coded FolderRead
coded_folder =
    code_by (List ℕ × (Result Shown StoreError × Bool)) (coded× coded_bytes (coded× (coded_result coded_shown coded_error) coded_bool))
    (λ f. (f.name, (f.reading, f.sure))) (λ p. record { name = p.0; reading = p.1.0; sure = p.1.1 }) (λ _. refl)

abbrev pub coded_live : Coded LiveTable
coded_live = code_by (ℕ × (ℕ × ℕ)) (coded× coded_ℕ (coded× coded_ℕ coded_ℕ)) (λ t. (t.level, (t.number, t.size)))
    (λ p. record { level = p.0; number = p.1.0; size = p.1.1 }) (λ _. refl)

abbrev pub coded_place : Coded Place
coded_place = code_by (ℕ × ℕ) (coded× coded_ℕ coded_ℕ) (λ p. (p.level, p.number)) (λ p. record { level = p.0; number = p.1 }) (λ _. refl)

-- ---- a state, in four parts

-- the own name, the opening, the batches, and how many of them are durable
abbrev pub Written : Type 0
Written = List ℕ × (Contents × (ℕ × (List (List Op) × (ℕ × Option (List Op)))))

-- what is kept of them
abbrev pub Held : Type 0
Held = List Pin × (ℕ × (List FolderRead × (Option (List ℕ) × ℕ)))

-- the rows in memory with their logs, and the tables
abbrev pub Rows : Type 0
Rows = (ℕ × ℕ) × ((ℕ × ℕ) × (List LiveTable × (Option (List Place) × (ℕ × (ℕ × ℕ)))))

-- what became of the disk
abbrev pub OfDisk : Type 0
OfDisk = Option Halt × (ℕ × ℕ)

abbrev pub Parts : Type 0
Parts = Written × (Held × (Rows × OfDisk))

abbrev pub parts_of : State → Parts
parts_of s = (
  (s.own, (s.opening, (s.began, (s.accepted, (s.durable, s.doubtful))))),
  (
    (s.pins, (s.greatest_pin, (s.folders, (s.begun, s.disables)))),
    (
      ((s.active, s.active_len), ((s.frozen, s.frozen_len), (s.tables, (s.merging, (s.outputs, (s.next, s.manifest_len)))))),
      (s.halt, (s.faults, s.refusals)),
    ),
  ),
)

abbrev pub state_from : Parts → State
state_from p = record {
  own = p.0.0;
  opening = p.0.1.0;
  began = p.0.1.1.0;
  accepted = p.0.1.1.1.0;
  durable = p.0.1.1.1.1.0;
  doubtful = p.0.1.1.1.1.1;
  pins = p.1.0.0;
  greatest_pin = p.1.0.1.0;
  folders = p.1.0.1.1.0;
  begun = p.1.0.1.1.1.0;
  disables = p.1.0.1.1.1.1;
  active = p.1.1.0.0.0;
  active_len = p.1.1.0.0.1;
  frozen = p.1.1.0.1.0.0;
  frozen_len = p.1.1.0.1.0.1;
  tables = p.1.1.0.1.1.0;
  merging = p.1.1.0.1.1.1.0;
  outputs = p.1.1.0.1.1.1.1.0;
  next = p.1.1.0.1.1.1.1.1.0;
  manifest_len = p.1.1.0.1.1.1.1.1.1;
  halt = p.1.1.1.0;
  faults = p.1.1.1.1.0;
  refusals = p.1.1.1.1.1;
}

abbrev pub coded_written : Coded Written
coded_written = coded× coded_bytes (coded× coded_contents (coded× coded_ℕ
    (coded× (coded_list (coded_list coded_operation)) (coded× coded_ℕ (coded_option (coded_list coded_operation))))))

abbrev pub coded_held : Coded Held
coded_held = coded× (coded_list coded_pin) (coded× coded_ℕ (coded× (coded_list coded_folder) (coded× (coded_option coded_bytes) coded_ℕ)))

abbrev pub coded_rows : Coded Rows
coded_rows = coded× (coded× coded_ℕ coded_ℕ) (coded× (coded× coded_ℕ coded_ℕ)
    (coded× (coded_list coded_live) (coded× (coded_option (coded_list coded_place)) (coded× coded_ℕ (coded× coded_ℕ coded_ℕ)))))

abbrev pub coded_of_disk : Coded OfDisk
coded_of_disk = coded× (coded_option coded_halt) (coded× coded_ℕ coded_ℕ)

abbrev pub coded_state : Coded State
coded_state = code_by Parts (coded× coded_written (coded× coded_held (coded× coded_rows coded_of_disk))) parts_of state_from (λ _. refl)
