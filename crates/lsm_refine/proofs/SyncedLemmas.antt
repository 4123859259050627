-- A good store stays good where its last log is synced, running on or halted there.
use Rattle.std.specs.Prelude.{◌≡◌, ◌⊎◌, ℕ, ◌≤◌, length, Option, Some, None, option_map}
use Rattle.std.proofs.Common.{⊎_elim, inl, refl, sym, ap, subst, ◌∙◌, arith}
use Rattle.std.proofs.lemmas.List.Elements.{All-weaker}
use Rattle.lsm_names.specs.declared.file_names.FileName.TheVariants.{Log, Table}
use Rattle.lsm_disk.specs.State as disk
use Rattle.lsm_disk.specs.State.{Seen, Story, state_of, after, file_synced}
use Rattle.lsm_disk.specs.Images.{Tree, IsImage, tree_now, bytes_at}
use Rattle.lsm_disk.specs.Answers.{Makes, pushed}
use Rattle.lsm_disk.specs.Dest.{path_in}
use Rattle.lsm_disk.specs.declared.calls.Halt.{Halt}
use Rattle.lsm_disk.proofs.Kept.{syncs_in}
use Rattle.lsm_disk.proofs.Runs.{state_push, went_start, went_ok, went_weaker}
use Rattle.lsm_wal.proofs.Changed.{synced}
use Rattle.lsm_wal.proofs.Texts.{sequence_length}
use Rattle.lsm_model.specs.declared.states.State.{State}
use Rattle.lsm_refine.specs.Kept.{Unfinished, Shown}
use Rattle.lsm_refine.specs.Parts.{Parts}
use Rattle.lsm_refine.specs.Sane.{Sane}
use Rattle.lsm_refine.specs.Folders.{StandsFrom}
use Rattle.lsm_refine.specs.Good.{IsRunning, IsInMode, Good}
use Rattle.lsm_refine.specs.Moments.{ReadsAsCrashed, ImagesShow}
use Rattle.lsm_refine.specs.Beside.{WritesAt, IsGiven, HasLast, last_path, last_batches}
use Rattle.lsm_refine.specs.Grown.{sure_batches, synced_shown, synced_state, halted_shown, halted_state}
use Rattle.lsm_refine.proofs.BesideLemmas.{writes_none, file_writes}
use Rattle.lsm_refine.proofs.GoodLemmas.{running_image, running_now}
use Rattle.lsm_refine.proofs.HaltLemmas.{left_same, halts_good}
use Rattle.lsm_refine.proofs.PartsLemmas.{readable_beside}
use Rattle.lsm_refine.proofs.TableSyncs.{readable_synced}
use Rattle.lsm_refine.proofs.MomentLemmas.{crash_reads}
use Rattle.lsm_refine.proofs.PinnedLemmas.{pins_alike}
use Rattle.lsm_refine.proofs.TiedLemmas.{logged_many}
use Rattle.lsm_refine.proofs.WritingLemmas.{table_apart, last_lone, durable_few, beside, folders_beside}

module _ (v : Shown) (s : State) (good : Good v s) (run : IsRunning (state_of good.story) v s) where
  abbrev d : disk.State
  d = state_of good.story

  abbrev parts : Parts
  parts = run.parts

  abbrev IsWritten : disk.State → Type 0
  IsWritten x = WritesAt v.dir (Log run.parts.last.number) (state_of good.story) x

  pub all_sure : length s.accepted ≤ sure_batches run.tied.flushed run.parts (length run.parts.last.batches)
  all_sure = omega (arith, logged_many run.parts s run.tied)

  -- ---- so many are synced

  synced_sane : (x : disk.State) → IsWritten x → (many : ℕ) → HasLast x v.dir run.parts many
      → Sane x v.dir v.kept (record parts { synced = many })
  synced_sane x writes many wal =
      let is = (beside v s good run x writes).sane in
      record {
        current = is.current;
        edits = is.edits (λ same. cc);
        tables = is.tables;
        logs = record {
          numbers = is.logs.numbers;
          ascend = is.logs.ascend;
          live = is.logs.live;
          older = is.logs.older;
          last = wal;
          only = is.logs.only;
          frozen = is.logs.frozen;
          active = run.sane.logs.active;
        };
        quiet = is.quiet;
        known = is.known;
        files = is.files;
        lawful = is.lawful;
        written = record {
          tables = All-weaker (IsGiven x v.dir (Log parts.last.number))
              (λ (table : Unfinished). bytes_at (tree_now x) (path_in v.dir (Table table.number)) ≡ Some table.bytes)
              (λ table given. given (table_apart v.dir table.number parts.last.number)) v.kept.unfinished is.given;
          alone = is.alone;
        };
        restored = is.restored;
      }

  module _ (seen : Seen) (durable : ℕ) where
    abbrev t : State
    t = synced_state seen durable s

    pub synced_runs : (x : disk.State) → WritesAt v.dir (Log run.parts.last.number) (state_of good.story) x → (many : ℕ)
        → HasLast x v.dir run.parts many
        → durable ≤ sure_batches run.tied.flushed run.parts many → IsRunning x (synced_shown seen v) (synced_state seen durable s)
    synced_runs x writes many wal enough =
        let jobs = (beside v s good run x writes).jobs in
        record {
          parts = record parts { synced = many };
          sane = synced_sane x writes many wal;
          tied = record {
            flushed = run.tied.flushed;
            within = run.tied.within;
            below = run.tied.below;
            last = run.tied.last;
            above = run.tied.above;
            durable = enough;
          };
          works = record {
            active = run.works.active;
            frozen = run.works.frozen;
            log_len = run.works.log_len;
            older_len = run.works.older_len;
            active_len = run.works.active_len;
            frozen_len = run.works.frozen_len;
            tables = run.works.tables;
            merging = run.works.merging;
            outputs = run.works.outputs;
            next = run.works.next;
            manifest_len = run.works.manifest_len;
          };
          jobs = record { apart = jobs.apart; each = jobs.each };
          certain = run.certain;
        }

    -- the store runs on
    pub synced_good : (story : Story) → seen.told ≡ Some story → v.halt ≡ None
        → WritesAt v.dir (Log run.parts.last.number) (state_of good.story) (state_of story)
        → (many : ℕ) → HasLast (state_of story) v.dir run.parts many
        → durable ≤ sure_batches run.tied.flushed run.parts many → durable ≤ length s.accepted
        → Good (synced_shown seen v) (synced_state seen durable s)
    synced_good story told none writes many wal enough few =
        let x : disk.State = state_of story in
        let all = beside v s good run x writes in
        let read = folders_beside v s good run x writes in
        record {
          story = story;
          told = told;
          mode = subst (λ (h : Option Halt). IsInMode h x (synced_shown seen v) t) (sym none) (synced_runs x writes many wal enough);
          pinned = record { pins = pins_alike s t refl refl refl v.kept.pins s.pins good.pinned.pins; files = all.pinned };
          folders = record { now = read.now; sure = read.sure };
          clear = all.clear;
          counted = record { durable = few; numbers = good.counted.numbers; fronts = good.counted.fronts; begun = good.counted.begun };
          kept = record {
            own = good.kept.own;
            sequence = good.kept.sequence;
            greatest_pin = good.kept.greatest_pin;
            disables = good.kept.disables;
            begun = good.kept.begun;
            halt = good.kept.halt;
          };
          counts = record { faults = refl; refusals = refl };
        }

  -- ---- what the folder stands for meanwhile

  -- a seen of no disk
  abbrev nowhere : Seen
  nowhere = record { told = None; faults = 0; refusals = 0 }

  module _ (x : disk.State) (writes : WritesAt v.dir (Log run.parts.last.number) (state_of good.story) x) (many : ℕ)
      (wal : HasLast x v.dir run.parts many) where
    -- each image stands for as many batches as are synced
    pub image_stands : (tree : Tree) → IsImage x tree → (durable : ℕ) → durable ≤ sure_batches run.tied.flushed run.parts many
        → StandsFrom s durable tree
    image_stands tree i durable enough =
        let is = running_image x (synced_shown nowhere v) (synced_state nowhere durable s) good.kept.own
        (synced_runs nowhere durable x writes many wal enough) tree i in
        record {
          count = is.count;
          enough = is.enough;
          within = is.within;
          stands = record { folder = is.stands.folder; stands = is.stands.stands };
        }

    pub now_stands : StandsFrom s (length s.accepted) (tree_now x)
    now_stands =
        let is = running_now x (synced_shown nowhere v) (synced_state nowhere 0 s) good.kept.own
        (synced_runs nowhere 0 x writes many wal (omega arith)) in
        record {
          count = is.count;
          enough = is.enough;
          within = is.within;
          stands = record { folder = is.stands.folder; stands = is.stands.stands };
        }

    pub image_reads : s.durable ≤ sure_batches run.tied.flushed run.parts many → (tree : Tree) → IsImage x tree → ReadsAsCrashed s tree
    image_reads enough tree i = crash_reads x s tree i (folders_beside v s good run x writes) (image_stands tree i s.durable enough)

  -- the store is halted there
  pub synced_halts : (seen : Seen) (at : Halt) (story : Story) → seen.told ≡ Some story
      → WritesAt v.dir (Log run.parts.last.number) (state_of good.story) (state_of story) → (many : ℕ)
      → HasLast (state_of story) v.dir run.parts many
      → s.durable ≤ sure_batches run.tied.flushed run.parts many → Good (halted_shown seen at v) (halted_state seen at s.doubtful s)
  synced_halts seen at story told writes many wal enough =
      let x : disk.State = state_of story in
      let all = beside v s good run x writes in
      halts_good v s good run seen at s.doubtful story told
      (left_same x v run.parts.rows s all.sane.tables (now_stands x writes many wal)
      (λ tree i. image_stands x writes many wal tree i s.durable enough) all.pinned (folders_beside v s good run x writes) all.clear
      all.sane.files (readable_synced x v.dir v.kept run.parts
      (readable_beside x v.dir v.kept run.parts (Log run.parts.last.number) all.sane (λ same. cc))))

  -- ---- the disk call

  abbrev pub syncing : disk.State → disk.Change
  syncing x = file_synced (last_path v.dir run.parts) x

  -- the disk with the log synced
  abbrev pub log_synced : disk.State
  log_synced = after (state_of good.story) (syncing (state_of good.story))

  pub sync_writes : WritesAt v.dir (Log run.parts.last.number) (state_of good.story) log_synced
  sync_writes =
      let wal = run.sane.logs.last in
      file_writes v.dir (Log run.parts.last.number) d wal.id (last_lone v s good run) (syncing d)
      (syncs_in d (last_path v.dir parts) wal.id wal.file wal.kept)

  pub sync_last : HasLast log_synced v.dir run.parts (length run.parts.last.batches)
  sync_last = subst (HasLast log_synced v.dir run.parts) (sequence_length _ parts.last.batches)
      (synced d (last_path v.dir parts) (last_batches parts) parts.synced run.sane.logs.last)

  abbrev synced_story : Story
  synced_story = pushed syncing good.story

  at_synced : state_of synced_story ≡ log_synced
  at_synced = state_push good.story (syncing (state_of good.story))

  tells_synced : (told : Option Story) → Makes v.disk.told syncing told → told ≡ Some synced_story
  tells_synced told makes = makes ∙ ap (option_map (pushed syncing)) good.told

  moved_writes : WritesAt v.dir (Log run.parts.last.number) (state_of good.story) (state_of synced_story)
  moved_writes = subst (WritesAt v.dir (Log run.parts.last.number) (state_of good.story)) (sym at_synced) sync_writes

  moved_last : HasLast (state_of synced_story) v.dir run.parts (length run.parts.last.batches)
  moved_last = subst (λ (x : disk.State). HasLast x v.dir run.parts (length run.parts.last.batches)) (sym at_synced) sync_last

  -- Ok: all accepted batches are durable
  pub sync_good : (seen : Seen) → Makes v.disk.told syncing seen.told → v.halt ≡ None
      → Good (synced_shown seen v) (synced_state seen (length s.accepted) s)
  sync_good seen makes none =
      synced_good seen (length s.accepted) synced_story (tells_synced seen.told makes) none moved_writes
      (length run.parts.last.batches) moved_last all_sure (omega arith)

  -- a fault halts the store, whether the log was synced or not
  pub sync_halts : (seen : Seen) (at : Halt) → (seen.told ≡ v.disk.told) ⊎ Makes v.disk.told syncing seen.told
      → Good (halted_shown seen at v) (halted_state seen at s.doubtful s)
  sync_halts seen at left = ⊎_elim
      (λ same. synced_halts seen at good.story (same ∙ good.told)
      (writes_none v.dir (Log run.parts.last.number) d) run.parts.synced run.sane.logs.last run.tied.durable)
      (λ makes. synced_halts seen at synced_story (tells_synced seen.told makes) moved_writes
      (length run.parts.last.batches) moved_last (omega (arith, durable_few v s good run, all_sure)))
      left

  -- each image reads as a crash leaves the state before
  pub sync_shows : (told : Option Story) → (told ≡ v.disk.told) ⊎ Makes v.disk.told syncing told → (later : State)
      → ImagesShow good.story told s later
  sync_shows told left later = ⊎_elim (λ same. started told (same ∙ good.told)) (λ makes. gone makes) left
    where
      at_start : (x : disk.State) → x ≡ state_of good.story → (tree : Tree) → IsImage x tree
          → ReadsAsCrashed s tree ⊎ ReadsAsCrashed later tree
      at_start x is tree i = inl (image_reads (state_of good.story)
          (writes_none v.dir (Log run.parts.last.number) d) run.parts.synced run.sane.logs.last run.tied.durable tree
          (subst (λ (y : disk.State). IsImage y tree) is i))

      at_end : (x : disk.State) → x ≡ log_synced → (tree : Tree) → IsImage x tree → ReadsAsCrashed s tree ⊎ ReadsAsCrashed later tree
      at_end x is tree i = inl (image_reads log_synced sync_writes (length run.parts.last.batches) sync_last
          (omega (arith, durable_few v s good run, all_sure)) tree (subst (λ (y : disk.State). IsImage y tree) is i))

      started : (o : Option Story) → o ≡ Some good.story → ImagesShow good.story o s later
      started o is = went_weaker (λ x. x ≡ state_of good.story) (λ x. Unit {0}) (λ x at. tt)
          (went_start (λ x. x ≡ state_of good.story) is refl (λ x at. record { each = at_start x at }))

      gone : Makes v.disk.told syncing told → ImagesShow good.story told s later
      gone makes = went_weaker (λ x. x ≡ log_synced) (λ x. Unit {0}) (λ x at. tt)
          (went_ok (λ x. x ≡ state_of good.story) (λ x. x ≡ log_synced) syncing makes (λ x at. tt)
          (λ x at. ap (λ (y : disk.State). after y (syncing y)) at) (λ x at. record { each = at_end x at })
          (went_start (λ x. x ≡ state_of good.story) good.told refl (λ x at. record { each = at_start x at })))
