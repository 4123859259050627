-- While a new manifest with a running store's new edits takes the place of the old one each image reads as a crash leaves the
-- state, and a halt leaves a good store; and what such a store keeps behind it.
use Rattle.std.specs.Prelude.{◌≡◌, ◌≢◌, ◌⊎◌, ℕ, ◌≤◌, true, is_some, ◌-◌, take, List, [], ◌∷◌, ◌++◌, map, length, All, Contains, Option, Some, None}
use Rattle.std.specs.List.{flat_map}
use Rattle.std.specs.FinMap as finmap
use Rattle.std.proofs.Common.{⊎_elim, inl, inr, refl, sym, ap, subst, ◌∙◌, arith}
use Rattle.std.proofs.lemmas.List.Elements.{All-nil, All-cons, All-head, All-tail, All-append, All-map, All-weaker, All-contains, All-contains_itself, All-take}
use Rattle.lsm_names.specs.Folders.{is_folder_name}
use Rattle.lsm_names.specs.FileNames.{IsFileName, spelled}
use Rattle.lsm_names.specs.declared.file_names.FileName.{FileName}
use Rattle.lsm_names.specs.declared.file_names.FileName.TheVariants.{Log, Table, Manifest, Temp, Current}
use Rattle.lsm_disk.specs.Names.{Folder_node, under}
use Rattle.lsm_disk.specs.State as disk
use Rattle.lsm_disk.specs.State.{Seen, Story, state_of, file_at, names_now}
use Rattle.lsm_disk.specs.Images.{Tree, IsImage, tree_now}
use Rattle.lsm_disk.specs.Kept.{OpSpares}
use Rattle.lsm_disk.specs.Goes.{Went}
use Rattle.lsm_disk.specs.Dest.{Begun, path_in}
use Rattle.lsm_disk.specs.declared.calls.Halt.{Halt}
use Rattle.lsm_disk.proofs.Images.{reads_image}
use Rattle.lsm_version.specs.declared.edits.Edit.{Edit}
use Rattle.lsm_folder.specs.Manifests.{manifest_text, tables_after, log_after, last_after}
use Rattle.lsm_folder.specs.Parts.{AreEdits}
use Rattle.lsm_folder.proofs.ManifestLemmas.{manifest_written}
use Rattle.lsm_model.specs.declared.states.State.{State}
use Rattle.lsm_model.specs.declared.states.Pin.{Pin}
use Rattle.lsm_model.specs.declared.states.PinnedFile.{PinnedFile}
use Rattle.lsm_model.specs.Halting.{built_in}
use Rattle.lsm_model.specs.Pins.{held}
use Rattle.lsm_names.proofs.FolderLemmas.{folder_has_bytes}
use Rattle.lsm_refine.specs.Kept.{Job, KeptPin, Unfinished, Kept, Shown}
use Rattle.lsm_refine.specs.Parts.{LogPart, Parts, AreRowsOf, first_logged, first_in_last}
use Rattle.lsm_refine.specs.Sane.{IsAlone, HasTables, MayStand, IsOlder, AreKnown, AreFiles, TablesAreSynced, RestoreBuilds, Sane, appended_to, in_hand, names_held}
use Rattle.lsm_refine.specs.Pins.{PinFiles, IsKeptPin, ArePins, HasCopy, HasFront, IsAbsent, HasJob, BuildsJob, JobsBuild, begun_files, absent_files}
use Rattle.lsm_refine.specs.Folders.{StandsFrom}
use Rattle.lsm_refine.specs.Good.{IsRunning, Good}
use Rattle.lsm_refine.specs.Moments.{ReadsAsCrashed}
use Rattle.lsm_refine.specs.Beside.{LeadToFiles, SaneBeside, HasLast}
use Rattle.lsm_refine.specs.Among.{IsElsewhere, ChangesAmong, switched_names, switched_kept}
use Rattle.lsm_refine.specs.Grown.{IsLeftHalted, halted_shown, halted_state}
use Rattle.lsm_refine.specs.Naming.{IsReadyFor, NamesWhole, NamesManifest, IsReadableBut, Replaces, ReplacesAt, HasReplaced, MayBeNext}
use Rattle.lsm_refine.proofs.AmongLemmas.{file_among, bytes_among, kept_name_among, whole_among}
use Rattle.lsm_refine.proofs.BesideLemmas.{writes_none}
use Rattle.lsm_refine.proofs.TableWorkLemmas.{pins_are_there}
use Rattle.lsm_refine.proofs.ChangeLemmas.{at_cut}
use Rattle.lsm_refine.proofs.EditedLemmas.{both_all, manifest_apart}
use Rattle.lsm_refine.proofs.HaltLemmas.{left_same, halts_good}
use Rattle.lsm_refine.proofs.InstalledLemmas.{folders_with, manifest_beside, rest}
use Rattle.lsm_refine.proofs.LastLogLemmas.{last_is, older_are}
use Rattle.lsm_refine.proofs.MomentLemmas.{crash_reads}
use Rattle.lsm_refine.proofs.OtherFileLemmas.{name_apart, outside, not_built}
use Rattle.lsm_refine.proofs.PinnedLemmas.{pins_fit, pins_both}
use Rattle.lsm_refine.proofs.ReplacedFrames.{file_off, went_replacing}
use Rattle.lsm_refine.proofs.SwitchedLemmas.{dir_elsewhere, name_elsewhere, wal_among, synced_among, files_among, clear_among, restored_among}
use Rattle.lsm_refine.proofs.TableSyncs.{names_synced}
use Rattle.lsm_refine.proofs.TornReads.{torn_stands, torn_now}

-- ---- what holds of each held name

unmapped : {X Y : Type 0} (P : Y → Type 0) (f : X → Y) (xs : List X) → All P (map f xs) → All (λ (x : X). P (f x)) xs
unmapped P f [] each = All-nil (λ x. P (f x))
unmapped P f (x ∷ xs) each = All-cons (λ y. P (f y)) x xs (All-head P (f x) (map f xs) each)
    (unmapped P f xs (All-tail P (f x) (map f xs) each))

abbrev HasEach : (FileName → Type 0) → Pin → Type 0
HasEach P pin = All (λ (file : PinnedFile). P file.name) pin.files

-- holds of each file of the pins
pins_have : (P : FileName → Type 0) (s : State) (kept : List KeptPin) (pins : List Pin) → ArePins (IsKeptPin s) kept pins
    → All P (flat_map names_held kept) → ArePins (λ (k : KeptPin) (pin : Pin). HasEach P pin) kept pins
pins_have P s [] [] are each = tt
pins_have P s [] (pin ∷ pins) are each = are
pins_have P s (k ∷ kept) [] are each = are
pins_have P s (k ∷ kept) (pin ∷ pins) are each =
    let parts = both_all P (λ (file : FileName × ℕ). file.0) k.files (flat_map names_held kept) each in (
      unmapped (λ (file : FileName × ℕ). P file.0) held pin.files
          (subst (All (λ (file : FileName × ℕ). P file.0)) are.0.files parts.0),
      pins_have P s kept pins are.1 parts.1,
    )

all_pins : (P : FileName → Type 0) (kept : List KeptPin) (pins : List Pin)
    → ArePins (λ (k : KeptPin) (pin : Pin). HasEach P pin) kept pins
    → All (HasEach P) pins
all_pins P [] [] are = All-nil (HasEach P)
all_pins P [] (pin ∷ pins) are = absurd are
all_pins P (k ∷ kept) [] are = absurd are
all_pins P (k ∷ kept) (pin ∷ pins) are = All-cons (HasEach P) pin pins are.0 (all_pins P kept pins are.1)

-- ---- a folder in which the three names change

module _ (dir : List ℕ) (named : is_folder_name dir ≡ true) (number : ℕ) (manifest_fits : IsFileName (Manifest number))
    (temp_fits : IsFileName (Temp number)) (d x : disk.State) (at : ChangesAmong dir (switched_names number number) d x) where
  abbrev names : List FileName
  names = switched_names number number

  pub each_name : (P : FileName → Type 0) → P (Manifest number) → P (Temp number) → P Current
      → All P (switched_names number number)
  each_name P manifest temp now = All-cons P (Manifest number) (Temp number ∷ Current ∷ []) manifest
      (All-cons P (Temp number) (Current ∷ []) temp (All-cons P Current [] now (All-nil P)))

  pub fits : All IsFileName (switched_names number number)
  fits = each_name IsFileName manifest_fits temp_fits tt

  pub log_elsewhere : (n : ℕ) → IsFileName (Log n) → IsElsewhere dir (switched_names number number) (path_in dir (Log n))
  log_elsewhere n is = name_elsewhere dir named names fits d x at (Log n) is
      (each_name (λ (m : FileName). Log n ≢ m) (λ same. cc) (λ same. cc) (λ same. cc))

  pub table_elsewhere : (n : ℕ) → IsFileName (Table n) → IsElsewhere dir (switched_names number number) (path_in dir (Table n))
  table_elsewhere n is = name_elsewhere dir named names fits d x at (Table n) is
      (each_name (λ (m : FileName). Table n ≢ m) (λ same. cc) (λ same. cc) (λ same. cc))

  folder_elsewhere : (folder rest : List ℕ) → folder ≢ dir
      → IsElsewhere dir (switched_names number number) (folder ++ 47 ∷ rest)
  folder_elsewhere folder rest other = All-weaker IsFileName (λ (m : FileName). folder ++ 47 ∷ rest ≢ path_in dir m)
      (λ m fit. outside dir m named fit folder rest other) names fits

  module _ (kept : Kept) (parts : Parts) (is : SaneBeside d dir kept parts (Manifest kept.manifest)) where
    others : All (λ (log : LogPart). IsElsewhere dir (switched_names number number) (path_in dir (Log log.number))) parts.older
    others = All-weaker (IsOlder kept parts.last.number)
        (λ (log : LogPart). IsElsewhere dir names (path_in dir (Log log.number)))
        (λ log older. log_elsewhere log.number older.0) parts.older (older_are d dir kept parts is.logs)

    only_still : (n : ℕ) → IsFileName (Log n) → MayStand d dir kept n → MayStand x dir kept n
    only_still n fit may = ⊎_elim (λ among. inl among) (λ free. inr
        (file_among dir names d x at (path_in dir (Log n)) (log_elsewhere n fit) ∙ free)) may

    pub replaced_tables : HasTables x dir kept parts.rows
    replaced_tables = record {
      each = λ n placed found. let table = is.tables.each n placed found in
          record {
            numbered = table.numbered;
            bytes = table.bytes;
            file = whole_among dir names d x at (path_in dir (Table n))
                (table_elsewhere n table.numbered) table.bytes table.file;
            table = table.table;
            size = table.size;
            viewed = table.viewed;
          };
    }

    pub replaced_last : HasLast x dir parts parts.synced
    replaced_last = wal_among dir named names fits d x at parts.last.number _ _
        (log_elsewhere parts.last.number (last_is d dir kept parts is.logs).1) (is.last (λ same. cc))

    pub replaced_reads : ((n : ℕ) → kept.log ≤ n → IsFileName (Log n) → All (OpSpares (path_in dir (Log n))) x.pending)
        → kept.version ≡ tables_after parts.edits → kept.log ≡ log_after parts.edits → IsReadableBut x dir kept parts
    replaced_reads quiet version log = record {
      named = named;
      folder = kept_name_among dir names d x at dir (dir_elsewhere dir named names fits d x at)
          (Some Folder_node) is.current.folder;
      version = version;
      log = log;
      tables = replaced_tables;
      logs = record {
        numbers = is.logs.numbers;
        ascend = is.logs.ascend;
        live = is.logs.live;
        older = synced_among dir named names fits d x at (first_logged parts) parts.older others is.logs.older;
        only = λ n least fit. only_still n fit (is.logs.only n least fit);
        frozen = is.logs.frozen;
      };
      quiet = quiet;
    }

    -- ---- CURRENT names the new manifest

    abbrev table_path : Unfinished → List ℕ
    table_path table = path_in dir (Table table.number)

    pub hand_alone : (begun : Option Begun) (hand : Option FileName) → RestoreBuilds d dir begun hand
        → All (IsAlone d) (in_hand begun hand) → All (IsAlone x) (in_hand begun hand)
    hand_alone None hand builds are = All-nil (IsAlone x)
    hand_alone (Some begun) None builds are = All-nil (IsAlone x)
    hand_alone (Some begun) (Some name) builds are =
        All-cons (IsAlone x) (path_in begun.folder name) []
        (at.alone (path_in begun.folder name) (folder_elsewhere begun.folder (spelled name) builds.apart)
        (All-head (IsAlone d) (path_in begun.folder name) [] are))
        (All-nil (IsAlone x))

    module _ (done : HasReplaced x dir number parts.edits)
        (tables_fit : All (λ (table : Unfinished). IsFileName (Table table.number)) kept.unfinished)
        (len next : ℕ) (known : List FileName) where
      replaced_alone : All (IsAlone x) (appended_to dir (switched_kept number len next known kept) parts.last.number)
      replaced_alone =
          let old : List ℕ = path_in dir (Manifest kept.manifest) in
          let log : List ℕ = path_in dir (Log parts.last.number) in
          let rest : List (List ℕ) = map table_path kept.unfinished ++ in_hand kept.begun kept.hand in
          let logs : All (IsAlone d) (log ∷ rest) = All-tail (IsAlone d) old (log ∷ rest) is.alone in
          let ends = both_all (IsAlone d) table_path kept.unfinished (in_hand kept.begun kept.hand)
          (All-tail (IsAlone d) log rest logs) in
          All-cons (IsAlone x) (path_in dir (Manifest number)) (log ∷ rest) done.alone
          (All-cons (IsAlone x) log rest (at.alone log (log_elsewhere parts.last.number (last_is d dir kept parts is.logs).1)
          (All-head (IsAlone d) log rest logs))
          (All-append (IsAlone x) (map table_path kept.unfinished) (in_hand kept.begun kept.hand)
          (All-map (IsAlone x) table_path kept.unfinished (λ k default within.
          at.alone _ (table_elsewhere _ (tables_fit k default within)) (ends.0 k default within)))
          (hand_alone kept.begun kept.hand is.restored ends.1)))

      pub replaced_sane : AreEdits parts.edits → AreRowsOf (first_in_last parts) parts.last.batches kept.active
          → kept.version ≡ tables_after parts.edits → kept.log ≡ log_after parts.edits → kept.last ≡ last_after parts.edits
          → len ≡ length (manifest_text parts.edits) → AreKnown x dir (switched_kept number len next known kept)
          → Sane x dir (switched_kept number len next known kept) parts
      replaced_sane are active version log last long is_known =
          let reads = replaced_reads (λ n least fit. none_pending (path_in dir (Log n))) version log in
          record {
            current = record { named = named; folder = reads.folder; numbered = manifest_fits; file = done.current };
            edits = record { are = are; file = done.manifest; len = long; version = version; log = log; last = last };
            tables = record {
              each = λ n placed found. let table = reads.tables.each n placed found in
                  record {
                    numbered = table.numbered;
                    bytes = table.bytes;
                    file = table.file;
                    table = table.table;
                    size = table.size;
                    viewed = table.viewed;
                  };
            };
            logs = record {
              numbers = reads.logs.numbers;
              ascend = reads.logs.ascend;
              live = reads.logs.live;
              older = reads.logs.older;
              last = replaced_last;
              only = reads.logs.only;
              frozen = reads.logs.frozen;
              active = active;
            };
            quiet = record { spares = λ name fit held. none_pending (path_in dir name) };
            known = is_known;
            files = files_among dir named names fits d x at is.files;
            lawful = is.lawful;
            written = record {
              tables = λ k default within. bytes_among dir names d x at _ (table_elsewhere _ (tables_fit k default within)) _
                  (is.given k default within (manifest_apart dir _ kept.manifest is.current.numbered));
              alone = replaced_alone;
            };
            restored = restored_among dir named names fits d x at is.files kept.begun kept.hand is.restored;
          }
        where
          none_pending : (path : List ℕ) → All (OpSpares path) x.pending
          none_pending path = subst (All (OpSpares path)) (sym done.quiet) (All-nil (OpSpares path))

  -- ---- pins and checkpoints, where no pin has one of the names

  abbrev IsApart : FileName → Type 0
  IsApart name = IsElsewhere dir names (path_in dir name)

  module _ (files : List PinnedFile)
      (apart : All (λ (file : PinnedFile). IsElsewhere dir (switched_names number number) (path_in dir file.name)) files) where
    replaced_pin : PinFiles d dir files → PinFiles x dir files
    replaced_pin are = λ k default within. let has = are k default within in
        record {
          fits = has.fits;
          more = has.more;
          there = bytes_among dir names d x at _ (apart k default within) _ has.there;
        }

  module _ (job : Job) where
    abbrev built : List ℕ
    built = built_in job.dir

    built_elsewhere : (rest : List ℕ) → IsElsewhere dir (switched_names number number) (built_in job.dir ++ 47 ∷ rest)
    built_elsewhere rest = folder_elsewhere built rest (not_built dir job.dir named)

    copy_among : (file : PinnedFile) → IsApart file.name → HasCopy d dir built file → HasCopy x dir built file
    copy_among file apart is = record {
      whole = bytes_among dir names d x at (path_in built file.name) (built_elsewhere (spelled file.name)) file.bytes is.whole;
      of = ⊎_elim
          (λ link. inl (file_among dir names d x at (path_in built file.name) (built_elsewhere (spelled file.name)) ∙ link
          ∙ sym (file_among dir names d x at (path_in dir file.name) apart)))
          (λ own. inr (at.alone (path_in built file.name) (built_elsewhere (spelled file.name)) own)) is.of;
    }

    front_among : (file : PinnedFile) → HasFront d built job.copied file → HasFront x built job.copied file
    front_among file is = record {
      fewer = is.fewer;
      front = bytes_among dir names d x at (path_in built file.name) (built_elsewhere (spelled file.name))
          (take job.copied file.bytes) is.front;
      alone = at.alone (path_in built file.name) (built_elsewhere (spelled file.name)) is.alone;
    }

    job_among : AreFiles d dir → (all : List PinnedFile) → All (λ (file : PinnedFile). IsApart file.name) all
        → HasJob d dir job all → HasJob x dir job all
    job_among files all apart is = record {
      left = is.left;
      unmade = is.unmade;
      folder = at.now built (All-weaker IsFileName (λ (m : FileName). built ≢ path_in dir m)
          (λ m fit same. files.no_folder m (length d.pending) fit
          (at_cut d (path_in dir m) (Some Folder_node) (ap (λ (p : List ℕ). finmap.get (names_now d) p) (sym same)
          ∙ is.folder))) names fits) ∙ is.folder;
      whole = λ k default within. copy_among _
          (All-take (λ (file : PinnedFile). IsApart file.name) (length all - job.left) all apart k default within)
          (is.whole k default within);
      hand = All-weaker (HasFront d built job.copied) (HasFront x built job.copied) front_among (begun_files job all) is.hand;
      absent = All-weaker (IsAbsent d built) (IsAbsent x built)
          (λ file free. at.now (path_in built file.name) (built_elsewhere (spelled file.name))
          ∙ free) (absent_files job all) is.absent;
      only = λ file is_file there. is.only file is_file (ap is_some
          (sym (at.now (path_in built file) (built_elsewhere (spelled file)))) ∙ there);
    }

  builds_among : AreFiles d dir → (job : Option Job) (pin : Pin) → HasEach IsApart pin → BuildsJob d dir job pin
      → BuildsJob x dir job pin
  builds_among files None pin apart is = tt
  builds_among files (Some job) pin apart is = job_among job files pin.files apart is

  pub replaced_jobs : AreFiles d dir → (kept : List KeptPin) (s : State)
      → ArePins (λ (k : KeptPin) (pin : Pin). HasEach IsApart pin) kept s.pins
      → JobsBuild d dir kept s → JobsBuild x dir kept s
  replaced_jobs files kept s apart is = record {
    apart = is.apart;
    each = pins_fit (λ (k : KeptPin) (pin : Pin). HasEach IsApart pin × BuildsJob d dir k.job pin)
        (λ (k : KeptPin) (pin : Pin). BuildsJob x dir k.job pin)
        (λ k pin both. builds_among files k.job pin both.0 both.1) kept s.pins
        (pins_both (λ (k : KeptPin) (pin : Pin). HasEach IsApart pin)
        (λ (k : KeptPin) (pin : Pin). BuildsJob d dir k.job pin) kept s.pins
        apart is.each);
  }

-- ---- a new manifest with the store's new edits

module _ (v : Shown) (s : State) (good : Good v s) (run : IsRunning (state_of good.story) v s) (kept : Kept) (parts : Parts)
    (ready : IsReadyFor (state_of good.story) v s kept parts) (number : ℕ) (next : MayBeNext v.kept number) where
  abbrev d : disk.State
  d = state_of good.story

  abbrev three : List FileName
  three = switched_names number number

  -- ---- on the way

  module _ (x : disk.State) (is : ReplacesAt v.dir number (state_of good.story) x) where
    -- what a pin holds has none of the three names
    pinned_apart : All (λ (name : FileName). IsElsewhere v.dir (switched_names number number) (path_in v.dir name))
        (flat_map names_held v.kept.pins)
    pinned_apart = All-weaker (Contains (flat_map names_held v.kept.pins))
        (λ (name : FileName). IsElsewhere v.dir three (path_in v.dir name))
        (λ name among.
        let there = All-contains
        (λ (m : FileName). IsFileName m × (is_some (finmap.get (names_now d) (path_in v.dir m)) ≡ true))
        (flat_map names_held v.kept.pins) name
        (pins_are_there d v.dir s v.kept.pins s.pins good.pinned.pins good.pinned.files) among in
        let known : Contains v.kept.known name = run.sane.known.all name there.0 there.1 in
        name_elsewhere v.dir run.sane.current.named three
        (fits v.dir run.sane.current.named number next.numbered next.temporary d x is.among) d x is.among name there.0
        (each_name v.dir run.sane.current.named number next.numbered next.temporary d x is.among (λ (m : FileName). name ≢ m)
        (λ same. next.unknown (subst (Contains v.kept.known) same known))
        (λ same. next.free (subst (Contains v.kept.known) same known))
        (λ same. next.unpinned (subst (Contains (flat_map names_held v.kept.pins)) same among))))
        (flat_map names_held v.kept.pins) (All-contains_itself (flat_map names_held v.kept.pins))

    pub pins_apart : ArePins
        (λ (k : KeptPin) (pin : Pin). HasEach
        (λ (name : FileName). IsElsewhere v.dir (switched_names number number) (path_in v.dir name)) pin)
        v.kept.pins s.pins
    pins_apart = pins_have
        (λ (name : FileName). IsElsewhere v.dir three (path_in v.dir name)) s v.kept.pins s.pins good.pinned.pins pinned_apart

    pub pins_stay : All (λ (pin : Pin). PinFiles x v.dir pin.files) s.pins
    pins_stay =
        let apart = all_pins
        (λ (name : FileName). IsElsewhere v.dir three (path_in v.dir name)) v.kept.pins s.pins pins_apart in
        λ k default within. replaced_pin v.dir run.sane.current.named number next.numbered next.temporary d x is.among _
        (apart k default within) (good.pinned.files k default within)

    -- no operation that a crash may undo touches a log's name
    abbrev IsOffLog : ℕ → FileName → Type 0
    IsOffLog n name = (path_in v.dir (Log n) ≢ path_in v.dir name)
        × (under (path_in v.dir name) (path_in v.dir (Log n)) ≡ None)

    logs_quiet : (n : ℕ) → v.kept.log ≤ n → IsFileName (Log n) → All (OpSpares (path_in v.dir (Log n))) x.pending
    logs_quiet n least fit =
        is.among.quiet (path_in v.dir (Log n))
        (each_name v.dir run.sane.current.named number next.numbered next.temporary d x is.among
        (IsOffLog n) (
          name_apart v.dir (Manifest number) run.sane.current.named next.numbered (Log n) fit (λ same. cc),
          file_off v.dir run.sane.current.named (Manifest number) next.numbered (Log n) fit (λ same. cc),
        ) (
          name_apart v.dir (Temp number) run.sane.current.named next.temporary (Log n) fit (λ same. cc),
          file_off v.dir run.sane.current.named (Temp number) next.temporary (Log n) fit (λ same. cc),
        ) (
          name_apart v.dir Current run.sane.current.named tt (Log n) fit (λ same. cc),
          file_off v.dir run.sane.current.named Current tt (Log n) fit (λ same. cc),
        ))
        (run.sane.quiet.spares (Log n) fit (inl least))

    module _ (t : Tree) (i : IsImage x t) where
      whole_names : (k : ℕ) → IsFileName (Manifest k) → (some : List Edit) → AreEdits some → NamesWhole v.dir k some t
          → NamesManifest v.dir some t
      whole_names k numbered some are whole = record {
        number = k;
        numbered = numbered;
        current = whole.current;
        text = manifest_text some;
        there = whole.there;
        says = manifest_written some are;
      }

      with_old : NamesWhole v.dir v.kept.manifest run.parts.edits t
          → StandsFrom s s.durable t × (t ≡ tree_now x → StandsFrom s (length s.accepted) t)
      with_old whole =
          let sane = (manifest_beside v s good run d (writes_none v.dir (Manifest v.kept.manifest) d)).sane in
          let reads = replaced_reads v.dir run.sane.current.named number next.numbered next.temporary d x is.among v.kept
          run.parts sane
          logs_quiet run.sane.edits.version run.sane.edits.log in
          let wal = replaced_last v.dir run.sane.current.named number next.numbered next.temporary d x is.among v.kept run.parts
          sane in
          let named = whole_names v.kept.manifest run.sane.current.numbered run.parts.edits run.sane.edits.are whole in (
            torn_stands x v.dir v.kept run.parts s good.kept.own run.sane.lawful run.tied run.certain reads wal t i named,
            torn_now x v.dir v.kept run.parts s good.kept.own run.sane.lawful run.tied run.certain reads wal t i named,
          )

      with_new : NamesWhole v.dir number parts.edits t
          → StandsFrom s s.durable t × (t ≡ tree_now x → StandsFrom s (length s.accepted) t)
      with_new whole =
          let reads = replaced_reads v.dir run.sane.current.named number next.numbered next.temporary d x is.among kept parts
          ready.beside (λ n least fit. logs_quiet n (omega (arith, least, ready.least)) fit) ready.version ready.log in
          let wal = replaced_last v.dir run.sane.current.named number next.numbered next.temporary d x is.among kept parts
          ready.beside in
          let named = whole_names number next.numbered parts.edits ready.are whole in (
            torn_stands x v.dir kept parts s good.kept.own ready.beside.lawful ready.tied run.certain reads wal t i named,
            torn_now x v.dir kept parts s good.kept.own ready.beside.lawful ready.tied run.certain reads wal t i named,
          )

      -- either way the tables are synced that the manifest names
      replace_synced : t ≡ tree_now x → NamesWhole v.dir v.kept.manifest run.parts.edits t ⊎ NamesWhole v.dir number parts.edits t
          → TablesAreSynced x v.dir
      replace_synced same either = ⊎_elim
          (λ old. names_synced x v.dir v.kept run.parts.edits run.parts.rows some
          (subst (NamesManifest v.dir run.parts.edits) same
          (whole_names v.kept.manifest run.sane.current.numbered run.parts.edits run.sane.edits.are old))
          run.sane.edits.version
          (replaced_tables v.dir run.sane.current.named number next.numbered next.temporary d x is.among v.kept run.parts
          (manifest_beside v s good run d (writes_none v.dir (Manifest v.kept.manifest) d)).sane))
          (λ new. names_synced x v.dir kept parts.edits parts.rows some
          (subst (NamesManifest v.dir parts.edits) same (whole_names number next.numbered parts.edits ready.are new))
          ready.version
          (replaced_tables v.dir run.sane.current.named number next.numbered next.temporary d x is.among kept parts ready.beside))
          either
        where
          some : 1 ≤ length v.dir
          some = folder_has_bytes v.dir run.sane.current.named

      replace_stands : NamesWhole v.dir v.kept.manifest run.parts.edits t ⊎ NamesWhole v.dir number parts.edits t
          → StandsFrom s s.durable t × (t ≡ tree_now x → StandsFrom s (length s.accepted) t)
      replace_stands either = ⊎_elim with_old with_new either

      -- with the old manifest and with the new one the folder stands for what it did
      pub replace_reads : NamesWhole v.dir v.kept.manifest run.parts.edits t ⊎ NamesWhole v.dir number parts.edits t
          → ReadsAsCrashed s t
      replace_reads either = crash_reads x s t i (folders_with v s good x is.inside) (replace_stands either).0

    -- a halt leaves a good store
    pub replace_halts : ((t : Tree) → IsImage x t
        → NamesWhole v.dir v.kept.manifest run.parts.edits t ⊎ NamesWhole v.dir number parts.edits t)
        → (seen : Seen) (by : Halt) (story : Story) → seen.told ≡ Some story → state_of story ≡ x
        → Good (halted_shown seen by v) (halted_state seen by s.doubtful s)
    replace_halts either seen by story told same =
        let sane = (manifest_beside v s good run d (writes_none v.dir (Manifest v.kept.manifest) d)).sane in
        halts_good v s good run seen by s.doubtful story told
        (subst (λ (y : disk.State). IsLeftHalted y v run.parts.rows s s.doubtful) (sym same)
        (left_same x v run.parts.rows s
        (replaced_tables v.dir run.sane.current.named number next.numbered next.temporary d x is.among v.kept run.parts sane)
        ((replace_stands (tree_now x) (reads_image x) (either (tree_now x) (reads_image x))).1 refl)
        (λ t i. (replace_stands t i (either t i)).0) pins_stay (folders_with v s good x is.inside)
        (clear_among v.dir run.sane.current.named three
        (fits v.dir run.sane.current.named number next.numbered next.temporary d x is.among)
        d x is.among run.sane.files good.clear)
        (files_among v.dir run.sane.current.named three
        (fits v.dir run.sane.current.named number next.numbered next.temporary d x is.among) d x is.among run.sane.files)
        (replace_synced (tree_now x) (reads_image x) refl (either (tree_now x) (reads_image x)))))

  -- each image on the way reads as a crash leaves the state
  pub replace_went : (told : Option Story) (P : disk.State → Tree → Type 0) (J : disk.State → Type 0)
      → LeadToFiles (state_of good.story)
      → ((x : disk.State) (t : Tree) → P x t
      → NamesWhole v.dir v.kept.manifest run.parts.edits t ⊎ NamesWhole v.dir number parts.edits t)
      → Went good.story told (Replaces v.dir number (length (state_of good.story).files)) P J
      → Went good.story told (Replaces v.dir number (length (state_of good.story).files)) (λ x t. ReadsAsCrashed s t)
      (λ x. J x × ReplacesAt v.dir number (state_of good.story) x)
  replace_went told P J lead either went =
      went_replacing v.dir run.sane.current.named number next.numbered next.temporary good.story told P
      (λ x t. ReadsAsCrashed s t) J lead
      run.sane.files (λ x t is i held. replace_reads x is t i (either x t held)) went
