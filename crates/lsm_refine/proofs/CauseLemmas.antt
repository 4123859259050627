-- Why each event's call is refused, on every disk.
use Rattle.std.specs.Prelude.{◌≡◌, ℕ, ◌+◌, ◌<◌, Bool, true, if◌then◌else◌, List, [], Option, Some, None, Result, Ok, Err}
use Rattle.std.proofs.Common.{refl, sym, ap, subst, ◌∙◌, arith, inl, inr}
use Rattle.lsm_names.specs.declared.file_names.FileName.{FileName}
use Rattle.lsm_rows.specs.declared.operations.Op.{Op}
use Rattle.lsm_model.specs.declared.cuts.FlushRule.{FlushRule}
use Rattle.lsm_model.specs.declared.errors.StoreError.{StoreError}
use Rattle.lsm_model.specs.declared.errors.StoreError.TheVariants as error
use Rattle.lsm_model.specs.declared.events.Event.{Event}
use Rattle.lsm_model.specs.declared.events.Event.TheVariants as event
use Rattle.lsm_model.specs.declared.events.Which.{Which}
use Rattle.lsm_model.specs.declared.replies.Reply.{Reply}
use Rattle.lsm_model.specs.declared.replies.Shown as replies
use Rattle.lsm_model.specs.Causes.{last_sequence}
use Rattle.lsm_model.specs.Checkpoints.{size_rule}
use Rattle.lsm_model.specs.Halting.{Aimed, write_calls, sync_calls, freeze_calls, table_calls, flush_calls, copy_calls, end_calls}
use Rattle.lsm_model.specs.Pins.{flush_rule}
use Rattle.lsm_model.specs.Refusals.{refused, refusal_in}
use Rattle.lsm_model.specs.Steps as Steps
use Rattle.lsm_model.specs.Steps.{Given}
use Rattle.lsm_model.proofs.RefusalLemmas.{none_some, same_some}
use Rattle.lsm_refine.specs.Kept.{KeptPin, Shown}
use Rattle.lsm_refine.specs.Refused.{ChangeRefused, TablesRefused, FilesRefused, FolderRefused, OneFileRefused}
use Rattle.lsm_refine.specs.Caused.{flushes, rows_draws, WroteBy, SyncedBy, ReadBy, FrozeBy, FlushedBy, BegunBy, MergedBy, DeletedBy, unlink_call, MoveRefused, CutBy, ListedBy, UnpinnedBy, DisabledBy, EnabledBy, IsUnderWay, StartedBy, WorkRefused, SteppedBy, FinishedBy, StoppedBy, ReadFolderBy, ReadPinBy, OpenedPinBy, CausedBy, Caused}
use Rattle.lsm_refine.specs.KeptCauses.{moving_draws, AddsOne, WouldAdd, draws_of, Reads, StaysBut, HasKeptCause, Was_halted, Disk_failed, Disk_changed, File_missing, Memory_wanting, Sequence_full, Numbers_full, Tables_full, Pins_full, Disables_full, Not_disabled, Lacks_pin, Lacks_name, Folder_under_way, Name_taken, Read_so}

-- ---- each relation of a refusal

module _ (v w : Shown) (e : Event) where
  change_cause : (calls : List Aimed) (refusal : StoreError) → (w ≡ v → StaysBut e v w) → ChangeRefused calls v w refusal
      → HasKeptCause v e refusal w
  change_cause calls error.DiskFault stays h = Disk_failed refl h.1
  change_cause calls (error.Halted first) stays h = Was_halted first refl h.0 (stays h.1)
  change_cause calls (error.Changed made path) stays h = Disk_changed made path refl h.1
  change_cause calls error.NoMemory stays h = Memory_wanting refl
  change_cause calls other stays h = absurd h

  tables_cause : (refusal : StoreError) → Reads e → TablesRefused v w refusal → HasKeptCause v e refusal w
  tables_cause error.DiskFault reads h = Disk_failed refl h
  tables_cause (error.Missing name) reads h = File_missing name refl h.0
  tables_cause (error.Short name kept found) reads h = Read_so tt reads
  tables_cause (error.Damaged name place kept found) reads h = Read_so tt reads
  tables_cause (error.Malformed name place) reads h = Read_so tt reads
  tables_cause error.NoMemory reads h = Memory_wanting refl
  tables_cause other reads h = absurd h

  files_cause : (refusal : StoreError) → Reads e → FilesRefused v w refusal → HasKeptCause v e refusal w
  files_cause error.DiskFault reads h = Disk_failed refl h
  files_cause (error.Missing name) reads h = File_missing name refl h
  files_cause (error.Changed made path) reads h = Disk_changed made path refl h.0
  files_cause (error.Short name kept found) reads h = Read_so tt reads
  files_cause (error.Damaged name place kept found) reads h = Read_so tt reads
  files_cause (error.Malformed name place) reads h = Read_so tt reads
  files_cause (error.TornLog name place) reads h = Read_so tt reads
  files_cause (error.Gap name kept found) reads h = Read_so tt reads
  files_cause (error.BadLevels level left right) reads h = Read_so tt reads
  files_cause error.NoMemory reads h = Memory_wanting refl
  files_cause other reads h = absurd h

  folder_cause : (dir : List ℕ) (refusal : StoreError) → Reads e → FolderRefused dir v w refusal → HasKeptCause v e refusal w
  folder_cause dir (error.NoFolder other) reads h = Read_so tt reads
  folder_cause dir (error.NoCurrent other) reads h = Read_so tt reads
  folder_cause dir other reads h = files_cause other reads h

  one_file_cause : (name : FileName) (len : ℕ) (refusal : StoreError) → Reads e → OneFileRefused name len v w refusal
      → HasKeptCause v e refusal w
  one_file_cause name len error.DiskFault reads h = Disk_failed refl h
  one_file_cause name len (error.Missing other) reads h = File_missing other refl h.1
  one_file_cause name len (error.Short other kept found) reads h = Read_so tt reads
  one_file_cause name len error.NoMemory reads h = Memory_wanting refl
  one_file_cause name len other reads h = absurd h

  -- where rows are flushed the rule's numbers are drawn
  drawn_by : (rule : FlushRule) (next : ℕ) → flushes rule v.kept ≡ true → next < v.kept.next + rows_draws v.kept
      → next < v.kept.next + moving_draws rule v.kept
  drawn_by rule next is less = subst (λ (b : Bool). next < v.kept.next + (if b then rows_draws v.kept else 0)) (sym is) less

  move_cause : (rule : FlushRule) (refusal : StoreError) → draws_of e v.kept ≡ moving_draws rule v.kept
      → ((live adding : ℕ) → AddsOne w.kept live adding → WouldAdd e v.kept w.kept live adding)
      → (w ≡ v → StaysBut e v w) → MoveRefused rule v w refusal → HasKeptCause v e refusal w
  move_cause rule (error.NumbersFull next) draws adds stays h =
      Numbers_full next refl h.2 h.3 (subst (λ (n : ℕ). next < v.kept.next + n) (sym draws) (drawn_by rule next h.1 h.4))
  move_cause rule (error.TablesFull live adding) draws adds stays h = Tables_full live adding refl h.4 (adds live adding (h.2, h.3))
  move_cause rule error.NoMemory draws adds stays h = Memory_wanting refl
  move_cause rule error.DiskFault draws adds stays h = change_cause flush_calls error.DiskFault stays h.1
  move_cause rule (error.Changed made path) draws adds stays h = change_cause flush_calls (error.Changed made path) stays h.1
  move_cause rule (error.Halted first) draws adds stays h = change_cause [] (error.Halted first) stays h
  move_cause rule other draws adds stays h = absurd h

  work_cause : (calls : List Aimed) (pin : KeptPin) (refusal : StoreError) → Reads e → WorkRefused calls pin v w refusal
      → HasKeptCause v e refusal w
  work_cause calls pin error.NoMemory reads h = Memory_wanting refl
  work_cause calls pin (error.Changed made path) reads h = Disk_changed made path refl h.1
  work_cause calls pin error.DiskFault reads h = Disk_failed refl h.0
  work_cause calls pin (error.Missing name) reads h = one_file_cause h.1.0 h.1.1 (error.Missing name) reads h.1.2
  work_cause calls pin (error.Short name kept found) reads h = Read_so tt reads
  work_cause calls pin other reads h = absurd h

-- ---- each event

next_within : (next old : ℕ) → next ≡ old → next < old + 1
next_within next old is = omega (arith, is)

module _ (v w : Shown) where
  write_cause : (ops : List Op) (sync : Bool) (refusal : StoreError) → WroteBy ops v w (Err refusal)
      → HasKeptCause v (event.Write ops sync) refusal w
  write_cause ops sync (error.SequenceFull last count) h =
      Sequence_full ops sync last refl (ap (λ (n : ℕ). error.SequenceFull last n) h.2) h.1
      (subst (λ (n : ℕ). last_sequence < last + n) h.2 h.3) h.4
  write_cause ops sync other h = change_cause v w (event.Write ops sync) write_calls other (λ same. same) h.0

  sync_cause : (T : Type 0) (refusal : StoreError) → SyncedBy {T = T} v w (Err refusal) → HasKeptCause v event.SyncLog refusal w
  sync_cause T error.NoMemory h = absurd h
  sync_cause T other h = change_cause v w event.SyncLog sync_calls other (λ same. same) h.0

  freeze_cause : (refusal : StoreError) → FrozeBy v w (Err refusal) → HasKeptCause v event.Freeze refusal w
  freeze_cause (error.NumbersFull next) h = Numbers_full next refl (h.2 ∙ ap (λ (x : Shown). x.kept.next) (sym h.4)) h.3
      (next_within next v.kept.next h.2)
  freeze_cause error.NoMemory h = Memory_wanting refl
  freeze_cause (error.Halted first) h = Was_halted first refl h.0 h.1
  freeze_cause other h = change_cause v w event.Freeze freeze_calls other (λ same. same) h.0

  flush_cause : (refusal : StoreError) → FlushedBy v w (Err refusal) → HasKeptCause v event.FlushStep refusal w
  flush_cause (error.NumbersFull next) h = Numbers_full next refl h.1 h.2 h.3
  flush_cause (error.TablesFull live adding) h = Tables_full live adding refl h.3 (h.1, h.2)
  flush_cause error.NoMemory h = Memory_wanting refl
  flush_cause (error.Halted first) h = Was_halted first refl h.0 h.1
  flush_cause other h = change_cause v w event.FlushStep table_calls other (λ same. same) h.0

  begin_cause : (which : Which) (refusal : StoreError) → BegunBy which v w (Err refusal)
      → HasKeptCause v (event.CompactBegin which) refusal w
  begin_cause which error.NoMemory h = Memory_wanting refl
  begin_cause which (error.Halted first) h = Was_halted first refl h.0 h.1
  begin_cause which other h = absurd h

  merge_cause : (rows : ℕ) (refusal : StoreError) → MergedBy rows v w (Err refusal) → HasKeptCause v (event.CompactStep rows) refusal w
  merge_cause rows (error.NumbersFull next) h = Numbers_full next refl h.1 h.2 h.3
  merge_cause rows (error.TablesFull live adding) h = Tables_full live adding refl h.1.full h.1
  merge_cause rows error.NoMemory h = Memory_wanting refl
  merge_cause rows (error.Halted first) h = Was_halted first refl h.0 h.1
  merge_cause rows other h = elim h [
    | inl c ↦ change_cause v w (event.CompactStep rows) table_calls other (λ same. same) c.0
    | inr c ↦ tables_cause v w (event.CompactStep rows) other tt c.1
  ]

  delete_cause : (refusal : StoreError) → DeletedBy v w (Err refusal) → HasKeptCause v event.DeleteStep refusal w
  delete_cause (error.Missing name) h = File_missing name refl h.3
  delete_cause (error.Halted first) h = Was_halted first refl h.0 h.1
  delete_cause error.DiskFault h = change_cause v w event.DeleteStep (unlink_call v h.2.0) error.DiskFault (λ same. same) h.2.2
  delete_cause other h = absurd h

  cut_cause : (rule : FlushRule) (refusal : StoreError) → CutBy rule v w (Err refusal) → HasKeptCause v (event.Cut rule) refusal w
  cut_cause rule (error.PinsFull live) h = Pins_full live refl h.1 h.2 h.3
  cut_cause rule other h = move_cause v w (event.Cut rule) rule other refl (λ live adding a. a) (λ same. same) h

  list_cause : (flush : Bool) (refusal : StoreError) → ListedBy (flush_rule flush) v w (Err refusal)
      → HasKeptCause v (event.LiveFiles flush) refusal w
  list_cause flush refusal h = move_cause v w (event.LiveFiles flush) (flush_rule flush) refusal refl (λ live adding a. a) (λ same. same) h

  unpin_cause : (pin : ℕ) (refusal : StoreError) → UnpinnedBy pin v w (Err refusal) → HasKeptCause v (event.Unpin pin) refusal w
  unpin_cause pin (error.NoSuchPin other) h = Lacks_pin other refl (h.0, h.1) h.2
  unpin_cause pin other h = absurd h

  disable_cause : (refusal : StoreError) → DisabledBy v w (Err refusal) → HasKeptCause v event.Disable refusal w
  disable_cause (error.DisablesFull count) h = Disables_full count refl h.0 h.1 h.2
  disable_cause other h = absurd h

  enable_cause : (refusal : StoreError) → EnabledBy v w (Err refusal) → HasKeptCause v event.Enable refusal w
  enable_cause error.NotDisabled h = Not_disabled refl h.0 h.1
  enable_cause other h = absurd h

  start_cause : (dir : List ℕ) (size : ℕ) (refusal : StoreError) → StartedBy dir (size_rule size) v w (Err refusal)
      → HasKeptCause v (event.CheckpointBegin dir size) refusal w
  start_cause dir size (error.UnderWay other) h = Folder_under_way other refl h.1
      (subst (λ (d : List ℕ). IsUnderWay d v.kept) (sym h.1) h.2) h.3
  start_cause dir size (error.PinsFull live) h = Pins_full live refl h.1 h.2 h.3
  start_cause dir size (error.CheckpointExists other) h = Name_taken other refl h.1
  start_cause dir size error.DiskFault h = Disk_failed refl h.0
  start_cause dir size (error.Changed made path) h = Disk_changed made path refl h.0
  start_cause dir size error.NoMemory h = Memory_wanting refl
  start_cause dir size other h = move_cause v w (event.CheckpointBegin dir size) (size_rule size) other refl
      (λ live adding a. a) (λ same. same) h

  step_cause : (pin : ℕ) (refusal : StoreError) → SteppedBy pin v w (Err refusal) → HasKeptCause v (event.CheckpointStep pin) refusal w
  step_cause pin (error.NoSuchPin other) h = Lacks_pin other refl h.0 h.1
  step_cause pin (error.Halted first) h = Was_halted first refl h.1.0 h.1.1
  step_cause pin other h = work_cause v w (event.CheckpointStep pin) (copy_calls h.0.job.dir) h.0.pin other tt h.0.why

  finish_cause : (pin : ℕ) (refusal : StoreError) → FinishedBy pin v w (Err refusal) → HasKeptCause v (event.CheckpointFinish pin) refusal w
  finish_cause pin (error.NoSuchPin other) h = Lacks_pin other refl h.0 h.1
  finish_cause pin (error.Halted first) h = Was_halted first refl h.1 h.2
  finish_cause pin (error.CheckpointExists dir) h = Name_taken dir refl h.1
  finish_cause pin other h = work_cause v w (event.CheckpointFinish pin) (end_calls h.0.job.dir) h.0.pin other tt h.0.why

  stop_cause : (pin : ℕ) (refusal : StoreError) → StoppedBy pin v w (Err refusal) → HasKeptCause v (event.CheckpointStop pin) refusal w
  stop_cause pin (error.NoSuchPin other) h = Lacks_pin other refl h.0 h.1
  stop_cause pin other h = absurd h

  show_pin_cause : (T : Type 0) (pin : ℕ) (refusal : StoreError) → ReadPinBy {T = T} pin v w (Err refusal)
      → HasKeptCause v (event.ShowPin pin) refusal w
  show_pin_cause T pin (error.NoSuchPin other) h = Lacks_pin other refl h.0 h.1
  show_pin_cause T pin other h = files_cause v w (event.ShowPin pin) other tt h.1

  open_cause : (pin : ℕ) (name : FileName) (refusal : StoreError) → OpenedPinBy pin name v w (Err refusal)
      → HasKeptCause v (event.ReadPinned pin name) refusal w
  open_cause pin name (error.NoSuchPin other) h = Lacks_pin other refl h.0 h.1
  open_cause pin name (error.NotInPin other at) h =
      Lacks_name pin name refl (ap (λ (n : ℕ). error.NotInPin n at) h.0 ∙ ap (λ (x : FileName). error.NotInPin pin x) h.1) h.2 h.3
  open_cause pin name other h = one_file_cause v w (event.ReadPinned pin name) name h.0.0 other tt h.0.2

-- ---- every event

-- a refusal is the answer's
given_refusal : {A : Type 0} (P : StoreError → Type 0) (refusal : StoreError) (o : Option (Result A StoreError))
    (By : Result A StoreError → Type 0)
    → Given o By → refused o ≡ Some refusal → ((other : StoreError) → By (Err other) → P other) → P refusal
given_refusal P refusal None By h refuses k = absurd h
given_refusal P refusal (Some (Ok x)) By h refuses k = absurd (none_some refuses)
given_refusal P refusal (Some (Err other)) By h refuses k = subst P (same_some refuses) (k other h)

caused_by : (v w : Shown) (e : Event) (r : Reply) (refusal : StoreError) → CausedBy v e r w → refusal_in e r ≡ Some refusal
    → HasKeptCause v e refusal w
unfolding CausedBy
caused_by v w (event.Write ops sync) r refusal h refuses = given_refusal
    (λ (x : StoreError). HasKeptCause v (event.Write ops sync) x w) refusal (Steps.to_write r) (WroteBy ops v w) h refuses
    (write_cause v w ops sync)
caused_by v w event.SyncLog r refusal h refuses = given_refusal (λ (x : StoreError). HasKeptCause v event.SyncLog x w) refusal
    (Steps.to_sync_log r) (SyncedBy v w) h refuses (sync_cause v w (Unit {0}))
caused_by v w (event.Get key) r refusal h refuses = given_refusal
    (λ (x : StoreError). HasKeptCause v (event.Get key) x w) refusal (Steps.to_get r) (ReadBy v w) h refuses
    (λ other by. tables_cause v w (event.Get key) other tt by.0)
caused_by v w event.Scan r refusal h refuses = given_refusal (λ (x : StoreError). HasKeptCause v event.Scan x w) refusal
    (Steps.to_scan r) (ReadBy v w) h refuses (λ other by. tables_cause v w event.Scan other tt by.0)
caused_by v w event.Last r refusal h refuses = absurd (none_some refuses)
caused_by v w event.WantsFreeze r refusal h refuses = absurd (none_some refuses)
caused_by v w event.Freeze r refusal h refuses = given_refusal (λ (x : StoreError). HasKeptCause v event.Freeze x w) refusal
    (Steps.to_freeze r) (FrozeBy v w) h refuses (freeze_cause v w)
caused_by v w event.FlushStep r refusal h refuses = given_refusal
    (λ (x : StoreError). HasKeptCause v event.FlushStep x w) refusal (Steps.to_flush_step r) (FlushedBy v w) h refuses (flush_cause v w)
caused_by v w (event.CompactBegin which) r refusal h refuses =
    given_refusal (λ (x : StoreError). HasKeptCause v (event.CompactBegin which) x w) refusal (Steps.to_compact_begin r)
    (BegunBy which v w) h refuses (begin_cause v w which)
caused_by v w (event.CompactStep rows) r refusal h refuses =
    given_refusal (λ (x : StoreError). HasKeptCause v (event.CompactStep rows) x w) refusal (Steps.to_compact_step r)
    (MergedBy rows v w) h refuses (merge_cause v w rows)
caused_by v w event.DeleteStep r refusal h refuses = given_refusal
    (λ (x : StoreError). HasKeptCause v event.DeleteStep x w) refusal (Steps.to_delete_step r) (DeletedBy v w) h refuses (delete_cause v w)
caused_by v w (event.Cut rule) r refusal h refuses = given_refusal
    (λ (x : StoreError). HasKeptCause v (event.Cut rule) x w) refusal (Steps.to_cut r) (CutBy rule v w) h refuses (cut_cause v w rule)
caused_by v w (event.LiveFiles flush) r refusal h refuses = given_refusal
    (λ (x : StoreError). HasKeptCause v (event.LiveFiles flush) x w) refusal (Steps.to_live_files r)
    (ListedBy (flush_rule flush) v w) h refuses (list_cause v w flush)
caused_by v w (event.Unpin pin) r refusal h refuses = given_refusal
    (λ (x : StoreError). HasKeptCause v (event.Unpin pin) x w) refusal (Steps.to_unpin r) (UnpinnedBy pin v w) h refuses
    (unpin_cause v w pin)
caused_by v w event.Disable r refusal h refuses = given_refusal (λ (x : StoreError). HasKeptCause v event.Disable x w) refusal
    (Steps.to_disable r) (DisabledBy v w) h refuses (disable_cause v w)
caused_by v w event.Enable r refusal h refuses = given_refusal (λ (x : StoreError). HasKeptCause v event.Enable x w) refusal
    (Steps.to_enable r) (EnabledBy v w) h refuses (enable_cause v w)
caused_by v w (event.CheckpointBegin dir size) r refusal h refuses =
    given_refusal (λ (x : StoreError). HasKeptCause v (event.CheckpointBegin dir size) x w) refusal
    (Steps.to_checkpoint_begin r) (StartedBy dir (size_rule size) v w) h refuses (start_cause v w dir size)
caused_by v w (event.CheckpointStep pin) r refusal h refuses =
    given_refusal (λ (x : StoreError). HasKeptCause v (event.CheckpointStep pin) x w) refusal (Steps.to_checkpoint_step r)
    (SteppedBy pin v w) h refuses (step_cause v w pin)
caused_by v w (event.CheckpointFinish pin) r refusal h refuses =
    given_refusal (λ (x : StoreError). HasKeptCause v (event.CheckpointFinish pin) x w) refusal (Steps.to_checkpoint_finish r)
    (FinishedBy pin v w) h refuses (finish_cause v w pin)
caused_by v w (event.CheckpointStop pin) r refusal h refuses =
    given_refusal (λ (x : StoreError). HasKeptCause v (event.CheckpointStop pin) x w) refusal (Steps.to_checkpoint_stop r)
    (StoppedBy pin v w) h refuses (stop_cause v w pin)
caused_by v w (event.Show dir) r refusal h refuses = given_refusal
    (λ (x : StoreError). HasKeptCause v (event.Show dir) x w) refusal (Steps.to_show r) (ReadFolderBy dir v w) h refuses
    (λ other by. folder_cause v w (event.Show dir) dir other tt by.0)
caused_by v w (event.ShowPin pin) r refusal h refuses = given_refusal
    (λ (x : StoreError). HasKeptCause v (event.ShowPin pin) x w) refusal (Steps.to_show_pin r) (ReadPinBy pin v w) h refuses
    (show_pin_cause v w replies.Shown pin)
caused_by v w (event.ReadPinned pin name) r refusal h refuses =
    given_refusal (λ (x : StoreError). HasKeptCause v (event.ReadPinned pin name) x w) refusal (Steps.to_read_pinned r)
    (OpenedPinBy pin name v w) h refuses (open_cause v w pin name)

pub has_kept_cause : (v w : Shown) (e : Event) (r : Reply) (refusal : StoreError) → Caused v e r w
    → refusal_in e r ≡ Some refusal → HasKeptCause v e refusal w
has_kept_cause v w e r refusal c refuses = caused_by v w e r refusal c.by refuses
