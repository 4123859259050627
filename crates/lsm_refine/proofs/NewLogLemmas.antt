-- While a new log is made behind the synced last one of a good store: what the images read as, and what a halt there leaves.
use Rattle.std.specs.Prelude.{◌≡◌, ℕ, zero, suc, ◌≤◌, List, [], ◌∷◌, ◌++◌, take, length, All, Option, Some, None, option_map, Err}
use Rattle.std.proofs.Common.{⊎_elim, refl, sym, ap, subst, ◌∙◌, arith}
use Rattle.std.proofs.lemmas.List.Elements.{All-weaker}
use Rattle.std.specs.FinMap as finmap
use Rattle.lsm_names.specs.FileNames.{IsFileName}
use Rattle.lsm_names.specs.declared.file_names.FileName.TheVariants.{Log, Table}
use Rattle.lsm_names.proofs.FolderLemmas.{folder_has_bytes}
use Rattle.lsm_rows.specs.Replay.{replayed, sequence_after}
use Rattle.lsm_disk.specs.Names.{File_node, NameOp, Names, Put, all_named}
use Rattle.lsm_disk.specs.State as disk
use Rattle.lsm_disk.specs.State.{FileState, Seen, Story, Created, Names_synced, state_of, after, names_now, new_file, file_at, file_by}
use Rattle.lsm_disk.specs.Images.{Tree, IsImage, AreCut, tree_now}
use Rattle.lsm_disk.specs.Kept.{HasNew, Making}
use Rattle.lsm_disk.specs.Goes.{Went}
use Rattle.lsm_disk.specs.Tree.{IsLawful}
use Rattle.lsm_disk.specs.Dest.{path_in}
use Rattle.lsm_disk.specs.declared.calls.Halt.{Halt}
use Rattle.lsm_disk.specs.declared.calls.DiskRefusal.{DiskRefusal}
use Rattle.lsm_disk.proofs.Images.{reads_image, all_push, created_image, after_names_synced}
use Rattle.lsm_disk.proofs.Runs.{went_wider}
use Rattle.lsm_wal.specs.Making.{MayHaveNew, IsMade}
use Rattle.lsm_folder.specs.Files.{Files, files_in, item_of}
use Rattle.lsm_folder.specs.Needed.{Stands}
use Rattle.lsm_model.specs.declared.states.State.{State}
use Rattle.lsm_model.specs.declared.states.Pin.{Pin}
use Rattle.lsm_model.specs.States.{written}
use Rattle.lsm_refine.specs.Kept.{Shown}
use Rattle.lsm_refine.specs.Sane.{HasTables, TablesAreSynced}
use Rattle.lsm_refine.specs.Pins.{IsPinned, PinFiles}
use Rattle.lsm_refine.specs.Folders.{StandsFrom, ChangesInside, FoldersRead}
use Rattle.lsm_refine.specs.Good.{IsRunning, Good}
use Rattle.lsm_refine.specs.Moments.{ReadsAsCrashed}
use Rattle.lsm_refine.specs.Beside.{ChangesAt, WritesAt, Beside, HasLast}
use Rattle.lsm_refine.specs.Grown.{IsLeftHalted, IsDrawn, frozen_kept, frozen_shown, frozen_state, halted_shown, halted_state}
use Rattle.lsm_refine.proofs.FrozenLemmas.{new, created, later, created_at, created_inside, pinned_later, folders_later, frozen_runs, later_at}
use Rattle.lsm_refine.proofs.GoodLemmas.{running_image, running_now}
use Rattle.lsm_refine.proofs.HaltLemmas.{stands_less, left_same, halts_good}
use Rattle.lsm_refine.proofs.MomentLemmas.{crash_reads}
use Rattle.lsm_refine.proofs.OutsideLemmas.{files_same, new_item, folders_stay}
use Rattle.lsm_refine.proofs.OtherFileLemmas.{tables_at, files_at, clear_at}
use Rattle.lsm_refine.proofs.PartsLemmas.{readable}
use Rattle.lsm_refine.proofs.TableSyncs.{readable_synced}
use Rattle.lsm_refine.proofs.SyncedLemmas.{all_sure, image_stands, synced_halts}
use Rattle.lsm_refine.proofs.WritingLemmas.{durable_few, beside, folders_beside}

-- a cut of files with a new one behind them
cuts_push : (fs : List FileState) (bs : List (List ℕ)) → AreCut fs bs → AreCut (fs ++ new_file ∷ []) (bs ++ [] ∷ [])
cuts_push [] [] are = (record { kept = 0; is = refl }, tt)
cuts_push [] (b ∷ bs) are = absurd are
cuts_push (f ∷ fs) [] are = absurd are
cuts_push (f ∷ fs) (b ∷ bs) are = (are.0, cuts_push fs bs are.1)

front_of : {A : Type 0} (k : ℕ) (xs ys : List A) → take (length (take k xs)) (xs ++ ys) ≡ take k xs
front_of zero xs ys = refl
front_of (suc k) [] ys = refl
front_of (suc k) (x ∷ xs) ys = ap (λ l. x ∷ l) (front_of k xs ys)

-- an image of before with a new file is one of the disk with the file
new_image : (x : disk.State) (path : List ℕ) (t : Tree) → HasNew x path t → IsImage (after x (Created path)) t
new_image x path t has = ⊎_elim
    (λ old. record {
      kept = length (take has.was.kept x.pending);
      names = old ∙ has.was.names ∙ ap (λ (ops : List NameOp). all_named ops x.durable)
          (sym (front_of has.was.kept x.pending (Put path (File_node (length x.files)) ∷ [])));
      files = cut;
    })
    (λ made. record {
      kept = (reads_image (after x (Created path))).kept;
      names = made.1 ∙ sym (all_push x.pending (Put path (File_node (length x.files))) x.durable) ∙
          (reads_image (after x (Created path))).names;
      files = cut;
    })
    has.names
  where
    cut : AreCut (x.files ++ new_file ∷ []) t.contents
    cut = subst (λ (bs : List (List ℕ)). AreCut (x.files ++ new_file ∷ []) bs) (sym has.contents)
        (cuts_push x.files has.before.contents has.was.files)

module _ (v : Shown) (s : State) (good : Good v s) (run : IsRunning (state_of good.story) v s) (x : disk.State)
    (writes : WritesAt v.dir (Log run.parts.last.number) (state_of good.story) x)
    (wal : HasLast x v.dir run.parts (length run.parts.last.batches)) (lawful : IsLawful x)
    (fits : IsFileName (Log v.kept.next)) (drawn : All (IsDrawn v.kept.next) v.kept.known) (no_frozen : v.kept.frozen ≡ []) where
  abbrev path : List ℕ
  path = new v s good run x writes wal lawful fits drawn

  abbrev with_file : disk.State
  with_file = created v s good run x writes wal lawful fits drawn

  abbrev made : disk.State
  made = later v s good run x writes wal lawful fits drawn

  -- a seen of no disk
  abbrev nowhere : Seen
  nowhere = record { told = None; faults = 0; refusals = 0 }

  -- ---- what the folder stands for

  at_start : (t : Tree) → IsImage x t → StandsFrom s (length s.accepted) t
  at_start t i = image_stands v s good run x writes (length run.parts.last.batches) wal t i (length s.accepted) (all_sure v s good run)

  made_runs : IsRunning made (frozen_shown nowhere v) (frozen_state nowhere s)
  made_runs = frozen_runs v s good run x writes wal lawful fits drawn no_frozen nowhere

  at_end : (t : Tree) → IsImage made t → StandsFrom s (length s.accepted) t
  at_end t i =
      let is = running_image made (frozen_shown nowhere v) (frozen_state nowhere s) good.kept.own made_runs t i in
      record {
        count = is.count;
        enough = is.enough;
        within = is.within;
        stands = record { folder = is.stands.folder; stands = is.stands.stands };
      }

  now_end : StandsFrom s (length s.accepted) (tree_now made)
  now_end =
      let is = running_now made (frozen_shown nowhere v) (frozen_state nowhere s) good.kept.own made_runs in
      record {
        count = is.count;
        enough = is.enough;
        within = is.within;
        stands = record { folder = is.stands.folder; stands = is.stands.stands };
      }

  own_named : 1 ≤ length s.own
  own_named = subst (λ (dir : List ℕ). 1 ≤ length dir) good.kept.own
      (folder_has_bytes v.dir (beside v s good run x writes).sane.current.named)

  -- a file without a name shows nothing
  without : (before t : Tree) → t.names ≡ before.names → t.contents ≡ before.contents ++ [] ∷ []
      → StandsFrom s (length s.accepted) before → StandsFrom s (length s.accepted) t
  without before t names contents stands =
      let same : files_in s.own t ≡ files_in s.own before = files_same before t s.own own_named (λ file ok.
      ap (λ (m : Names). option_map (item_of t.contents) (finmap.get m (path_in s.own file))) names
      ∙ ap (λ (bs : List (List ℕ)). option_map (item_of bs) (finmap.get before.names (path_in s.own file))) contents
      ∙ new_item before.contents (finmap.get before.names (path_in s.own file))) in
      record {
        count = stands.count;
        enough = stands.enough;
        within = stands.within;
        stands = record {
          folder = ap (λ (m : Names). finmap.get m s.own) names ∙ stands.stands.folder;
          stands = subst (λ (files : Files). Stands files (replayed s.opening (take stands.count (written s)))
              (sequence_after s.began (take stands.count (written s)))) (sym same) stands.stands.stands;
        };
      }

  -- with its name it is there as it will be
  with_name : (before t : Tree) → IsImage x before → t.names ≡ finmap.insert (names_now x) path (File_node (length x.files))
      → t.contents ≡ before.contents ++ [] ∷ [] → IsImage made t
  with_name before t was names contents = record {
    kept = 0;
    names = names ∙ sym (all_push x.pending (Put path (File_node (length x.files))) x.durable);
    files = subst (λ (bs : List (List ℕ)). AreCut (x.files ++ new_file ∷ []) bs) (sym contents)
        (cuts_push x.files before.contents was.files);
  }

  in_between : (t : Tree) → HasNew x path t → StandsFrom s (length s.accepted) t
  in_between t has = ⊎_elim
      (λ old. without has.before t old has.contents (at_start has.before has.was))
      (λ named. at_end t (with_name has.before t has.was named.1 has.contents))
      has.names

  folders_created : FoldersRead with_file s
  folders_created = folders_stay (state_of good.story) with_file s
      (subst (λ (own : List ℕ). ChangesInside own (state_of good.story) with_file) good.kept.own
      (created_inside v s good run x writes wal lawful fits drawn)) good.folders

  fewer : (t : Tree) → StandsFrom s (length s.accepted) t → StandsFrom s s.durable t
  fewer t is = stands_less s (length s.accepted) s.durable t (durable_few v s good run) is

  -- the folder's manifest is the same, and its tables
  made_synced : TablesAreSynced made v.dir
  made_synced = readable_synced made v.dir (frozen_kept v.kept) made_runs.parts
      (readable made v.dir (frozen_kept v.kept) made_runs.parts made_runs.sane)

  same_file : (o : Option ℕ) → file_by o with_file ≡ file_by o made
  same_file None = refl
  same_file (Some id) = refl

  -- ---- images

  pub before_reads : (t : Tree) → IsImage x t → ReadsAsCrashed s t
  before_reads t i = crash_reads x s t i (folders_beside v s good run x writes) (fewer t (at_start t i))

  pub new_reads : (t : Tree) → HasNew x (new v s good run x writes wal lawful fits drawn) t → ReadsAsCrashed s t
  new_reads t has = crash_reads with_file s t (new_image x path t has) folders_created (fewer t (in_between t has))

  -- each image of the log's making reads as a crash leaves the state before
  pub making_shows : (mid : Story) (told : Option Story) (J : disk.State → Type 0) → state_of mid ≡ x
      → Went mid told (Making (new v s good run x writes wal lawful fits drawn))
      (MayHaveNew (state_of mid) (new v s good run x writes wal lawful fits drawn)) J
      → Went mid told (λ c. Unit {0}) (λ y t. ReadsAsCrashed s t) J
  making_shows mid told J at went =
      went_wider (Making path) (λ c. Unit {0}) (MayHaveNew (state_of mid) path) (λ y t. ReadsAsCrashed s t) (λ c is. tt)
      (λ y t may. ⊎_elim (λ i. before_reads t (subst (λ (z : disk.State). IsImage z t) at i))
      (λ has. new_reads t (subst (λ (z : disk.State). HasNew z path t) at has)) may) went

  -- ---- halted there

  module _ (seen : Seen) (at : Halt) where
    -- the file is made, and its name is not sure
    pub created_halts : (story : Story) → seen.told ≡ Some story → state_of story ≡ created v s good run x writes wal lawful fits drawn
        → Good (halted_shown seen at v) (halted_state seen at s.doubtful s)
    created_halts story told is = halts_good v s good run seen at s.doubtful story told
        (subst (λ (y : disk.State). IsLeftHalted y v run.parts.rows s s.doubtful) (sym is)
        (left_same with_file v run.parts.rows s created_tables now_end (λ t i. fewer t (in_between t (created_image x path t i)))
        (All-weaker (λ (pin : Pin). PinFiles made v.dir pin.files) (λ (pin : Pin). PinFiles with_file v.dir pin.files)
        (λ pin are. All-weaker (IsPinned made v.dir) (IsPinned with_file v.dir)
        (λ file has. record { fits = has.fits; more = has.more; there = has.there }) pin.files are) s.pins
        (pinned_later v s good run x writes wal lawful fits drawn))
        folders_created (clear_at v.dir (Log v.kept.next) all.sane.current.named fits x with_file file_at_new all.sane.files all.clear)
        (files_at v.dir (Log v.kept.next) all.sane.current.named fits x with_file file_at_new all.sane.files)
        (λ edits number placed said found. ap (λ (f : FileState). f.unsynced)
        (same_file (file_at with_file (path_in v.dir (Table number)))) ∙ made_synced edits number placed said found)))
      where
        all : Beside (state_of good.story) v.dir v.kept run.parts s (Log run.parts.last.number) x
        all = beside v s good run x writes

        file_at_new : ChangesAt path x with_file
        file_at_new = created_at v s good run x writes wal lawful fits drawn

        created_tables : HasTables with_file v.dir v.kept run.parts.rows
        created_tables = tables_at v.dir (Log v.kept.next) all.sane.current.named fits x with_file file_at_new v.kept run.parts.rows (λ number placed found same. cc) all.sane.tables

    -- its name is sure
    pub later_halts : (story : Story) → seen.told ≡ Some story
        → state_of story ≡ later v s good run x writes wal lawful fits drawn
        → Good (halted_shown seen at v) (halted_state seen at s.doubtful s)
    later_halts story told is = halts_good v s good run seen at s.doubtful story told
        (subst (λ (y : disk.State). IsLeftHalted y v run.parts.rows s s.doubtful) (sym is)
        (left_same made v run.parts.rows s later_tables now_end (λ t i. fewer t (at_end t i))
        (pinned_later v s good run x writes wal lawful fits drawn)
        (folders_later v s good run x writes wal lawful fits drawn)
        (clear_at v.dir (Log v.kept.next) all.sane.current.named fits x made file_at_new all.sane.files all.clear)
        (files_at v.dir (Log v.kept.next) all.sane.current.named fits x made file_at_new all.sane.files) made_synced))
      where
        all : Beside (state_of good.story) v.dir v.kept run.parts s (Log run.parts.last.number) x
        all = beside v s good run x writes

        file_at_new : ChangesAt path x made
        file_at_new = later_at v s good run x writes wal lawful fits drawn

        later_tables : HasTables made v.dir v.kept run.parts.rows
        later_tables = tables_at v.dir (Log v.kept.next) all.sane.current.named fits x made file_at_new v.kept run.parts.rows
            (λ number placed found same. cc) all.sane.tables

    -- wherever the making of the log was refused, a halt there leaves a good store
    pub making_halts : (T : Type 0) (story : Story) (r : DiskRefusal) → seen.told ≡ Some story
        → IsMade {T = T} x (new v s good run x writes wal lawful fits drawn) (Err r) (state_of story)
        → Good (halted_shown seen at v) (halted_state seen at s.doubtful s)
    making_halts T story r told is = ⊎_elim
        (λ same. synced_halts v s good run seen at story told
        (subst (WritesAt v.dir (Log run.parts.last.number) (state_of good.story)) (sym same) writes) (length run.parts.last.batches)
        (subst (λ (y : disk.State). HasLast y v.dir run.parts (length run.parts.last.batches)) (sym same) wal)
        (omega (arith, durable_few v s good run, all_sure v s good run)))
        (λ further. ⊎_elim
        (λ new_file. created_halts story told new_file)
        (λ sure_name. later_halts story told (sure_name ∙ after_names_synced with_file))
        further)
        is
