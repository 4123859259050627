-- While an edit is appended to the manifest of a running store each image reads as a crash leaves the state, and a halt
-- leaves a good store.
use Rattle.std.specs.Prelude.{map, ◌≡◌, ◌≢◌, ℕ, ◌+◌, ◌≤◌, List, [], ◌∷◌, ◌++◌, take, length, All, Option, Some, None}
use Rattle.std.proofs.Common.{⊎_elim, inl, inr, refl, sym, ap, subst, ◌∙◌, arith}
use Rattle.std.proofs.lemmas.List.{append-nil, take_all}
use Rattle.std.proofs.lemmas.List.Elements.{All-weaker}
use Rattle.std.specs.FinMap as finmap
use Rattle.lsm_names.specs.FileNames.{IsFileName}
use Rattle.lsm_names.specs.declared.file_names.FileName.TheVariants.{Log, Manifest, Current}
use Rattle.lsm_names.proofs.FolderLemmas.{folder_has_bytes}
use Rattle.lsm_rows.specs.declared.operations.Op.{Op}
use Rattle.lsm_rows.specs.declared.rows.Row.{Row}
use Rattle.lsm_rows.specs.Replay.{replayed, sequence_after}
use Rattle.lsm_disk.specs.Names.{Folder_node, Names, id_of}
use Rattle.lsm_disk.specs.State as disk
use Rattle.lsm_disk.specs.State.{Seen, Story, state_of, file_at}
use Rattle.lsm_disk.specs.Images.{Tree, IsImage, tree_now}
use Rattle.lsm_disk.specs.Kept.{InFile}
use Rattle.lsm_disk.specs.Goes.{Went}
use Rattle.lsm_disk.specs.Dest.{path_in}
use Rattle.lsm_disk.specs.declared.calls.Halt.{Halt}
use Rattle.lsm_disk.proofs.Images.{reads_image}
use Rattle.lsm_disk.proofs.Named.{name_image}
use Rattle.lsm_folder.specs.Names.{current_text}
use Rattle.lsm_folder.specs.Files.{files_in}
use Rattle.lsm_version.specs.declared.edits.Edit.{Edit}
use Rattle.lsm_version.specs.EditText.{edit_text}
use Rattle.lsm_folder.specs.Manifests.{tables_after, log_after}
use Rattle.lsm_folder.specs.Needed.{Stands}
use Rattle.lsm_folder.specs.Parts.{AreLawful, IsManifest, HasParts}
use Rattle.lsm_model.specs.declared.states.State.{State}
use Rattle.lsm_model.specs.States.{written, none_or_one}
use Rattle.lsm_refine.specs.Kept.{Kept, Shown}
use Rattle.lsm_refine.specs.Parts.{LogPart, Parts, batches_in, first_logged}
use Rattle.lsm_refine.specs.Sane.{HasTables, MayStand, IsOlder, TablesAreSynced}
use Rattle.lsm_refine.specs.Tied.{Tied}
use Rattle.lsm_refine.specs.Fronts.{logs_with, last_text, batches_with}
use Rattle.lsm_refine.specs.Folders.{StandsFor, StandsFrom}
use Rattle.lsm_refine.specs.Good.{IsRunning, Good}
use Rattle.lsm_refine.specs.Moments.{ReadsAsCrashed}
use Rattle.lsm_refine.specs.Beside.{WritesAt, IsLone, SaneBeside, HasLast}
use Rattle.lsm_refine.specs.Grown.{IsLeftHalted, halted_shown, halted_state}
use Rattle.lsm_refine.specs.Naming.{IsReadyFor, HasEither, NamesManifest, IsReadableBut}
use Rattle.lsm_refine.proofs.BesideLemmas.{writes_none, went_beside}
use Rattle.lsm_refine.proofs.ChangeLemmas.{kept_name_stays}
use Rattle.lsm_refine.proofs.FileLemmas.{whole_image}
use Rattle.lsm_refine.proofs.GoodLemmas.{front_stands}
use Rattle.lsm_refine.proofs.HaltLemmas.{left_same, halts_good}
use Rattle.lsm_refine.proofs.InstalledLemmas.{folders_with, manifest_lone, manifest_beside}
use Rattle.lsm_refine.proofs.LastLogLemmas.{last_is, older_are}
use Rattle.lsm_refine.proofs.MomentLemmas.{crash_reads}
use Rattle.lsm_refine.proofs.OtherFileLemmas.{dir_apart, tables_at, wal_at, synced_at}
use Rattle.lsm_refine.proofs.TableSyncs.{names_synced}
use Rattle.lsm_refine.proofs.TiedLemmas.{logged_many, tied_reads}
use Rattle.lsm_refine.proofs.TornLemmas.{torn_first, torn_all}

-- ---- a folder whose manifest is being written

module _ (d : disk.State) (dir : List ℕ) (kept : Kept) (parts : Parts)
    (is : SaneBeside d dir kept parts (Manifest kept.manifest))
    (x : disk.State) (writes : WritesAt dir (Manifest kept.manifest) d x) where
  log_differs : (number : ℕ) → Log number ≢ Manifest kept.manifest
  log_differs number same = cc

  others : All (λ (log : LogPart). IsFileName (Log log.number) × (Log log.number ≢ Manifest kept.manifest)) parts.older
  others = All-weaker (IsOlder kept parts.last.number) (λ (log : LogPart). IsFileName (Log log.number)
      × (Log log.number ≢ Manifest kept.manifest))
      (λ log older. (older.0, log_differs log.number)) parts.older (older_are d dir kept parts is.logs)

  same_file : (path : List ℕ) → file_at x path ≡ file_at d path
  same_file path = ap (λ (names : Names). id_of (finmap.get names path)) writes.names

  only_still : (number : ℕ) → MayStand d dir kept number → MayStand x dir kept number
  only_still number may_stand = ⊎_elim (λ among. inl among)
      (λ free. inr (same_file (path_in dir (Log number)) ∙ free)) may_stand

  -- all else reads as it did
  pub writing_reads : kept.version ≡ tables_after parts.edits → kept.log ≡ log_after parts.edits
      → IsReadableBut x dir kept parts
  writing_reads version log = record {
    named = is.current.named;
    folder = kept_name_stays (path_in dir (Manifest kept.manifest)) d x writes.at dir
        (dir_apart dir (Manifest kept.manifest) is.current.named is.current.numbered) (Some Folder_node) is.current.folder;
    version = version;
    log = log;
    tables = tables_at dir (Manifest kept.manifest) is.current.named is.current.numbered d x writes.at kept parts.rows
        (λ number placed found same. cc) is.tables;
    logs = record {
      numbers = is.logs.numbers;
      ascend = is.logs.ascend;
      live = is.logs.live;
      older = synced_at dir (Manifest kept.manifest) is.current.named is.current.numbered d x writes.at
          (first_logged parts) parts.older others is.logs.older;
      only = λ number least fits. only_still number (is.logs.only number least fits);
      frozen = is.logs.frozen;
    };
    quiet = λ number least fits. writes.quiet (path_in dir (Log number)) (is.quiet.spares (Log number) fits (inl least));
  }

  pub writing_last : HasLast x dir parts parts.synced
  writing_last =
      wal_at dir (Manifest kept.manifest) is.current.named is.current.numbered d x writes.at parts.last.number _ _
      (last_is d dir kept parts is.logs).1 (log_differs parts.last.number) (is.last (λ same. cc))

-- ---- what it stands for

module _ (d : disk.State) (dir : List ℕ) (kept : Kept) (parts : Parts) (s : State) (own : dir ≡ s.own)
    (lawful : AreLawful parts.edits parts.rows) (tied : Tied parts s) (certain : s.doubtful ≡ None)
    (reads : IsReadableBut d dir kept parts) (last : HasLast d dir parts parts.synced) (t : Tree) (i : IsImage d t)
    (names : NamesManifest dir parts.edits t) where
  abbrev older : ℕ
  older = length (batches_in parts.older)

  written_is : written s ≡ s.accepted
  written_is = ap (λ (o : Option (List Op)). s.accepted ++ none_or_one o) certain ∙ append-nil s.accepted

  stands_for : (many : ℕ) (log : List ℕ)
      → HasParts (files_in dir t) parts.edits parts.rows (logs_with parts log)
      (batches_with parts (take many parts.last.batches))
      → parts.synced ≤ many → StandsFor s t (tied.flushed + (older + many))
  stands_for many log has enough =
      let count : ℕ = tied.flushed + (older + many) in
      record {
        folder = ap (λ (p : List ℕ). finmap.get t.names p) (sym own) ∙ name_image d dir (Some Folder_node) reads.folder t i;
        stands = subst (λ (p : List ℕ). Stands (files_in p t) (replayed s.opening (take count (written s)))
            (sequence_after s.began (take count (written s)))) own
            (subst (λ (l : List (List Op)). Stands (files_in dir t) (replayed s.opening (take count l))
            (sequence_after s.began (take count l))) (sym written_is)
            (front_stands parts s lawful tied (files_in dir t) many log has enough));
      }

  within_of : (many : ℕ) → many ≤ length parts.last.batches → tied.flushed + (older + many) ≤ length (written s)
  within_of many few = subst (λ (l : List (List Op)). tied.flushed + (older + many) ≤ length l) (sym written_is)
      (omega (arith, logged_many parts s tied, few))

  pub torn_stands : StandsFrom s s.durable t
  torn_stands =
      let first = torn_first d dir kept parts reads t i names last in
      record {
        count = tied.flushed + (older + first.count);
        enough = (tied_reads parts s lawful tied first.count first.enough).durable;
        within = within_of first.count first.within;
        stands = stands_for first.count first.text first.has first.enough;
      }

  pub torn_now : t ≡ tree_now d → StandsFrom s (length s.accepted) t
  torn_now same =
      let all : take (length parts.last.batches) parts.last.batches ≡ parts.last.batches =
      take_all (length parts.last.batches) parts.last.batches (omega arith) in
      let first = torn_first d dir kept parts reads t i names last in
      record {
        count = tied.flushed + (older + length parts.last.batches);
        enough = omega (arith, logged_many parts s tied);
        within = within_of (length parts.last.batches) (omega arith);
        stands = stands_for (length parts.last.batches) (last_text parts)
            (subst (λ (l : List (List Op)). HasParts (files_in dir t) parts.edits parts.rows (logs_with parts (last_text parts))
            (batches_with parts l)) (sym all) (torn_all d dir kept parts reads t i names last same))
            (omega (arith, first.enough, first.within));
      }

-- ---- an edit is appended

module _ (v : Shown) (s : State) (good : Good v s) (run : IsRunning (state_of good.story) v s) (kept : Kept) (parts : Parts)
    (ready : IsReadyFor (state_of good.story) v s kept parts) (next : Edit)
    (more : parts.edits ≡ run.parts.edits ++ next ∷ []) where
  module _ (x : disk.State) (writes : WritesAt v.dir (Manifest v.kept.manifest) (state_of good.story) x) where
    module _ (t : Tree) (i : IsImage x t)
        (either : HasEither (path_in v.dir (Manifest v.kept.manifest)) run.parts.edits next t) where
      -- CURRENT still names the manifest
      names_either : {edits : List Edit} → IsManifest either.bytes edits → NamesManifest v.dir edits t
      names_either says =
          let is = (manifest_beside v s good run x writes).sane.current in
          record {
            number = v.kept.manifest;
            numbered = is.numbered;
            current = whole_image x (path_in v.dir Current) (current_text v.kept.manifest) is.file t i;
            text = either.bytes;
            there = either.there;
            says = says;
          }

      without_edit : IsManifest either.bytes run.parts.edits
          → StandsFrom s s.durable t × (t ≡ tree_now x → StandsFrom s (length s.accepted) t)
      without_edit says =
          let sane = (manifest_beside v s good run x writes).sane in
          let none = writes_none v.dir (Manifest v.kept.manifest) x in
          let reads = writing_reads x v.dir v.kept run.parts sane x none run.sane.edits.version run.sane.edits.log in
          let wal = writing_last x v.dir v.kept run.parts sane x none in (
            torn_stands x v.dir v.kept run.parts s good.kept.own run.sane.lawful run.tied run.certain reads wal t i
                (names_either says),
            torn_now x v.dir v.kept run.parts s good.kept.own run.sane.lawful run.tied run.certain reads wal t i
                (names_either says),
          )

      with_edit : IsManifest either.bytes parts.edits
          → StandsFrom s s.durable t × (t ≡ tree_now x → StandsFrom s (length s.accepted) t)
      with_edit says =
          let moves = subst (λ (n : ℕ). WritesAt v.dir (Manifest n) (state_of good.story) x) (sym ready.manifest) writes in
          let reads = writing_reads (state_of good.story) v.dir kept parts ready.beside x moves ready.version ready.log in
          let wal = writing_last (state_of good.story) v.dir kept parts ready.beside x moves in (
            torn_stands x v.dir kept parts s good.kept.own ready.beside.lawful ready.tied run.certain reads wal t i
                (names_either says),
            torn_now x v.dir kept parts s good.kept.own ready.beside.lawful ready.tied run.certain reads wal t i
                (names_either says),
          )

      either_stands : StandsFrom s s.durable t × (t ≡ tree_now x → StandsFrom s (length s.accepted) t)
      either_stands = ⊎_elim
          (λ old. without_edit (record { are = run.sane.edits.are; records = old; ends = either.ends }))
          (λ new. with_edit (record {
            are = ready.are;
            records = new ∙ ap (λ (edits : List Edit). map edit_text edits) (sym more);
            ends = either.ends;
          }))
          either.records

      -- either way the tables are synced that the manifest names
      either_synced : t ≡ tree_now x → TablesAreSynced x v.dir
      either_synced same = ⊎_elim
          (λ old. synced_by v.kept run.parts.edits run.parts.rows
          (record { are = run.sane.edits.are; records = old; ends = either.ends }) run.sane.edits.version
          (manifest_beside v s good run x writes).sane.tables)
          (λ new. synced_by kept parts.edits parts.rows (record {
            are = ready.are;
            records = new ∙ ap (λ (edits : List Edit). map edit_text edits) (sym more);
            ends = either.ends;
          }) ready.version
          (writing_reads (state_of good.story) v.dir kept parts ready.beside x
          (subst (λ (n : ℕ). WritesAt v.dir (Manifest n) (state_of good.story) x) (sym ready.manifest) writes) ready.version
          ready.log).tables)
          either.records
        where
          synced_by : (k : Kept) (edits : List Edit) (rows : ℕ → List Row) → IsManifest either.bytes edits
              → k.version ≡ tables_after edits → HasTables x v.dir k rows → TablesAreSynced x v.dir
          synced_by k edits rows says version tables =
              names_synced x v.dir k edits rows (folder_has_bytes v.dir run.sane.current.named)
              (subst (NamesManifest v.dir edits) same (names_either says)) version tables

      -- with the edit and without, the folder stands for what it did
      pub edit_reads : ReadsAsCrashed s t
      edit_reads = crash_reads x s t i (folders_with v s good x writes.inside) either_stands.0

    -- a halt leaves a good store
    pub edit_halts : ((t : Tree) → IsImage x t
        → HasEither (path_in v.dir (Manifest v.kept.manifest)) run.parts.edits next t)
        → (seen : Seen) (at : Halt) (story : Story) → seen.told ≡ Some story → state_of story ≡ x
        → Good (halted_shown seen at v) (halted_state seen at s.doubtful s)
    edit_halts either seen at story told same =
        let beside = manifest_beside v s good run x writes in
        halts_good v s good run seen at s.doubtful story told
        (subst (λ (y : disk.State). IsLeftHalted y v run.parts.rows s s.doubtful) (sym same)
        (left_same x v run.parts.rows s beside.sane.tables
        ((either_stands (tree_now x) (reads_image x) (either (tree_now x) (reads_image x))).1 refl)
        (λ t i. (either_stands t i (either t i)).0) beside.pinned (folders_with v s good x writes.inside) beside.clear
        beside.sane.files (either_synced (tree_now x) (reads_image x) (either (tree_now x) (reads_image x)) refl)))

  -- each image on the way reads so
  pub edit_went : (told : Option Story) (P : disk.State → Tree → Type 0) (J : disk.State → Type 0)
      → ((x : disk.State) (t : Tree) → P x t
      → HasEither (path_in v.dir (Manifest v.kept.manifest)) run.parts.edits next t)
      → Went good.story told (InFile run.sane.edits.file.id) P J
      → Went good.story told (InFile run.sane.edits.file.id) (λ x t. ReadsAsCrashed s t)
      (λ x. J x × (WritesAt v.dir (Manifest v.kept.manifest) (state_of good.story) x
      × IsLone x v.dir (Manifest v.kept.manifest) run.sane.edits.file.id))
  edit_went told P J as_either went =
      went_beside v.dir (Manifest v.kept.manifest) good.story told run.sane.edits.file.id P (λ x t. ReadsAsCrashed s t) J
      (manifest_lone v s good run) (λ x t writes i held. edit_reads x writes t i (as_either x t held)) went
