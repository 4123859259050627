-- What a restore into a folder beside the store leaves of the store's disk.
use Rattle.std.specs.Prelude.{◌≡◌, ◌≢◌, ℕ, ◌≤◌, ◌<◌, Bool, true, false, cond, IsTrue, is_some, All, List, [], ◌∷◌, ◌++◌, length, Option, Some, None, codes}
use Rattle.std.specs.Str.{bytes_eq}
use Rattle.std.proofs.Common.{refl, sym, ap, subst, ◌∙◌, arith, append-nil}
use Rattle.std.proofs.lemmas.List.Elements.{All-nil, All-cons, All-tail, All-head, All-weaker}
use Rattle.std.specs.FinMap as map
use Rattle.lsm_names.specs.FileNames.{spelled, IsFileName}
use Rattle.lsm_names.specs.Folders.{is_folder_name}
use Rattle.lsm_names.specs.Paths.{parent_of}
use Rattle.lsm_names.proofs.FolderLemmas.{folder_is_component}
use Rattle.lsm_rows.specs.declared.operations.Op.{Op}
use Rattle.lsm_disk.specs.Names.{Node, Folder_node, File_node, Names, id_of, is_in, under, stands}
use Rattle.lsm_disk.specs.State.{FileState, State, Story, Seen, state_of, names_now, file_at}
use Rattle.lsm_disk.specs.Images.{Tree}
use Rattle.lsm_disk.specs.Goes.{Went}
use Rattle.lsm_disk.specs.Kept.{IsKeptFile}
use Rattle.lsm_disk.specs.Tree.{IsTree, IsLawful}
use Rattle.lsm_disk.specs.Dest.{path_in}
use Rattle.lsm_disk.specs.Building.{Part, names_of, IsKeptPart, IsWithin, IsBuilt}
use Rattle.lsm_disk.proofs.Built.{within_spares, within_spares_name}
use Rattle.lsm_disk.proofs.Files.{same_some}
use Rattle.lsm_disk.proofs.Lawful.{free_at}
use Rattle.lsm_disk.proofs.Moves.{under_is}
use Rattle.lsm_disk.proofs.Named.{name_now}
use Rattle.lsm_disk.proofs.Paths.{under_tail}
use Rattle.lsm_disk.proofs.Runs.{kept_goes}
use Rattle.lsm_disk.proofs.Tree.{lawful_now}
use Rattle.lsm_dest.proofs.Places.{inside_folder, folder_itself}
use Rattle.lsm_wal.specs.Batches.{Logged}
use Rattle.lsm_wal.specs.Standing.{IsWal}
use Rattle.lsm_folder.specs.Needed.{Stands as ShowsFiles}
use Rattle.lsm_folder.proofs.NameLemmas.{equal_texts, same_text}
use Rattle.bk_tree.proofs.Sparing.{within}
use Rattle.bk_restore.specs.Held.{files_of}
use Rattle.bk_engine.specs.Copying.{Anything}
use Rattle.bk_engine.proofs.StandingKept.{went_keeping, out_of, roots_apart, stays_beside}
use Rattle.bk_engine.proofs.StandingNew.{HasNewFiles, new_after, node_of, nothing_in}
use Rattle.ldb_script.specs.Printed.{Backup, restored_line}
use Rattle.ldb_script.specs.Plain.{Plain, Outcome, Restored, Standing, Free, Reads, Taken, standing_among, standing_told, shown_now, restored, both}
use Rattle.ldb_script.specs.Stored.{Shown, Stands, Logs, FilesBeside, IsBeside, log_path, manifest_path, current_path, first_manifest, first_current, whole_file}
use Rattle.ldb_script.specs.Folders.{IsElsewhere, IsRestored, HasFolders, FoldersStand}
use Rattle.ldb_script.specs.Restoring.{MayBeTaken}
use Rattle.ldb_script.proofs.Folders.{name_goes, stands_same, parent_log}
use Rattle.bk_meta.proofs.FileLemmas.{other_texts}

-- ---- two folders of the root

module _ (dir other : List ℕ) (dir_fits : is_folder_name dir ≡ true) (other_fits : is_folder_name other ≡ true) (differ : dir ≢ other) where
  -- the other is not in the folder
  pub away : is_in dir other ≡ false
  away = roots_apart dir other (folder_is_component dir dir_fits) (folder_is_component other other_fits) differ

  -- nor is the folder in it
  back : is_in other dir ≡ false
  back = roots_apart other dir (folder_is_component other other_fits) (folder_is_component dir dir_fits) (λ same. differ (sym same))

  -- nor is what is in the folder
  pub outside : (path : List ℕ) → is_in dir path ≡ true → is_in other path ≡ false
  outside path inside = out_of dir other path away back inside

-- ---- while another folder is built

module _ (name : List ℕ) (a : Story) (told : Option Story) (P : State → Tree → Type 0) (I : State → Type 0) (w : Went a told (IsWithin name (length (state_of a).files)) P I) where
  abbrev old : State
  old = state_of a

  abbrev new : State
  new = state_of w.story

  abbrev first : ℕ
  first = length (state_of a).files

  name_stays : (path : List ℕ) → is_in name path ≡ false → map.get (names_now new) path ≡ map.get (names_now old) path
  name_stays path out = name_goes path (IsWithin name first) (λ c is. within_spares_name name path first c is out) w.goes

  at_stays : (path : List ℕ) → is_in name path ≡ false → file_at new path ≡ file_at old path
  at_stays path out = ap id_of (name_stays path out)

  stands_stay : (path : List ℕ) → is_in name path ≡ false → stands (names_now new) path ≡ stands (names_now old) path
  stands_stay path out = stands_same (names_now new) (names_now old) path (name_stays path out)

  file_stays : (path : List ℕ) (id : ℕ) (f : FileState) → is_in name path ≡ false → IsKeptFile old path id f → IsKeptFile new path id f
  file_stays path id f out kept = kept_goes path id f (IsWithin name first) (λ c is. within_spares name path first id c is out (within old.files id f kept.file)) w.goes kept

  wal_stays : (log : List ℕ) (batches : List Logged) (durable : ℕ) → is_in name log ≡ false → IsWal old log batches durable → IsWal new log batches durable
  wal_stays log batches durable out wal = record {
    id = wal.id;
    file = wal.file;
    kept = file_stays log wal.id wal.file out wal.kept;
    text = wal.text;
    within = wal.within;
    synced = wal.synced;
    each = wal.each;
  }

  beside_stays : (log path bytes : List ℕ) → is_in name log ≡ false → is_in name path ≡ false → IsBeside old log path bytes → IsBeside new log path bytes
  beside_stays log path bytes log_out out b = record {
    id = b.id;
    kept = file_stays path b.id (whole_file bytes) out b.kept;
    apart = λ same. b.apart (sym (at_stays log log_out) ∙ same);
  }

  -- a restored folder beside it
  restored_stays : (log : List ℕ) (folder : Restored) → is_in name log ≡ false → is_folder_name name ≡ true → name ≢ folder.name → IsRestored old log folder → IsRestored new log folder
  restored_stays log folder log_out fits differ r =
      let stays = stays_beside folder.name name r.parts a told P I (folder_is_component folder.name r.named) (folder_is_component name fits) differ r.built w in
      let out : (part : Part) → is_in name (path_in folder.name part.name) ≡ false = λ part. outside folder.name name r.named fits (λ same. differ (sym same)) (path_in folder.name part.name) (inside_folder folder.name (spelled part.name)) in
      record {
        parts = r.parts;
        named = r.named;
        files = r.files;
        built = subst (λ (x : Story). IsBuilt folder.name r.parts (state_of x)) (same_some stays.story w.story (sym stays.tells ∙ w.tells)) stays.now.1;
        shows = r.shows;
        apart = λ id leads. All-weaker (λ (part : Part). file_at old (path_in folder.name part.name) ≢ Some id) (λ (part : Part). file_at new (path_in folder.name part.name) ≢ Some id)
            (λ part ne same. ne (sym (at_stays (path_in folder.name part.name) (out part)) ∙ same)) r.parts (r.apart id (sym (at_stays log log_out) ∙ leads));
      }

-- ---- the store beside it

module _ (start : Option Story) (old : Shown) (after : Seen) (outcome : Outcome) (was : Stands start old outcome) (home name : List ℕ) (at : old.log ≡ log_path home) (home_fits : is_folder_name home ≡ true) (fits : is_folder_name name ≡ true) (differ : name ≢ home) where
  pub log_outside : is_in name old.log ≡ false
  log_outside = ap (is_in name) at ∙ outside home name home_fits fits (λ same. differ (sym same)) (log_path home) (inside_folder home (codes "000002.log"))

  beside_outside : (rest : List ℕ) → is_in name (parent_of old.log ++ 47 ∷ rest) ≡ false
  beside_outside rest =
      ap (λ (d : List ℕ). is_in name (d ++ 47 ∷ rest)) (ap parent_of at ∙ parent_log home)
      ∙ outside home name home_fits fits (λ same. differ (sym same)) (home ++ 47 ∷ rest) (inside_folder home rest)

  -- what is then seen of it
  abbrev pub seen_after : Shown
  seen_after = record { disk = after; log = old.log; len = old.len; contents = old.contents; sequence = old.sequence }

  module _ (P : Story → State → Tree → Type 0) (I : Story → State → Type 0) (went : (story : Story) → old.disk.told ≡ Some story → Went story after.told (IsWithin name (length (state_of story).files)) (P story) (I story)) where
    log_after : (story : Story) → start ≡ Some story → Logs after.told old.log outcome.accepted outcome.after.durable
    log_after story tells =
        let logs = was.log story tells in
        let w = went logs.story logs.tells in record {
          story = w.story;
          tells = w.tells;
          wal = wal_stays name logs.story after.told (P logs.story) (I logs.story) w old.log _ outcome.after.durable log_outside logs.wal;
        }

    beside_after : (story : Story) → start ≡ Some story → FilesBeside after.told old.log
    beside_after story tells =
        let b = was.beside story tells in
        let w = went b.story b.tells in record {
          story = w.story;
          tells = w.tells;
          files = record {
            manifest = beside_stays name b.story after.told (P b.story) (I b.story) w old.log (manifest_path (parent_of old.log)) first_manifest log_outside (beside_outside (codes "MANIFEST-000001")) b.files.manifest;
            current = beside_stays name b.story after.told (P b.story) (I b.story) w old.log (current_path (parent_of old.log)) first_current log_outside (beside_outside (codes "CURRENT")) b.files.current;
          };
        }

    -- the store stands as before, if the folders do
    pub stands_after : (IsTrue outcome.after.start.tells → FoldersStand start after.told old.log outcome.after) → Stands start seen_after outcome
    stands_after folders = record {
      contents = was.contents;
      sequence = was.sequence;
      replays = was.replays;
      counted = was.counted;
      batches = was.batches;
      len = was.len;
      log = log_after;
      beside = beside_after;
      home = was.home;
      folders = folders;
    }

    -- and with the restored folder, if they do with that
    pub stands_with : (backup : Backup) → (IsTrue outcome.after.start.tells → FoldersStand start after.told old.log (restored outcome.after backup name).after) → Stands start seen_after (both outcome (restored outcome.after backup name))
    stands_with backup folders =
        let next : Plain = (restored outcome.after backup name).after in
        let text : List ℕ = outcome.text ++ restored_line backup.id name in
        subst (λ (accepted : List (List Op)). Stands start seen_after (record { text = text; accepted = accepted; after = next })) (sym (append-nil outcome.accepted)) (record {
          contents = was.contents;
          sequence = was.sequence;
          replays = was.replays;
          counted = was.counted;
          batches = was.batches;
          len = was.len;
          log = log_after;
          beside = beside_after;
          home = was.home;
          folders = folders;
        })

-- ---- what stood under the name

not_both : (o : Option Node) → o ≡ None → o ≡ Some Folder_node → ⊥
not_both o none some = let both : None ≡ Some Folder_node = sym none ∙ some in cc

folder_stands : (names : Names) (path : List ℕ) → map.get names path ≡ Some Folder_node → stands names path ≡ Some Folder_node
folder_stands names [] is = refl
folder_stands names (c ∷ path) is = is

module _ (s : State) (log : List ℕ) (name : List ℕ) where
  -- a restored folder stands under another name than one that is free
  other_name : (folder : Restored) → IsRestored s log folder → stands (names_now s) name ≡ None → name ≢ folder.name
  other_name folder r free same =
      not_both (stands (names_now s) name) free (ap (stands (names_now s)) same ∙ folder_stands (names_now s) folder.name (name_now s folder.name (Some Folder_node) r.built.stands))

module _ (first s : State) (log : List ℕ) (plain : Plain) (has : HasFolders first s log plain) (taken : (name : List ℕ) → plain.start.taken name ≡ is_some (stands (names_now first) name)) (name : List ℕ) (fits : is_folder_name name ≡ true) where
  -- nothing: neither the store nor a restored folder has the name, and it was free
  module _ (free : stands (names_now s) name ≡ None) where
    not_home : name ≢ plain.start.home
    not_home same = not_both (stands (names_now s) name) free (ap (stands (names_now s)) same ∙ has.stood)

    pub in_none : (path : List ℕ) → is_in name path ≡ true → IsElsewhere plain path
    in_none path inside = record {
      home = outside name plain.start.home fits has.named not_home path inside;
      restored = All-weaker (IsRestored s log) (λ (folder : Restored). is_in folder.name path ≡ false) (λ folder r. outside name folder.name fits r.named (other_name s log name folder r free) path inside) plain.restored has.restored;
    }

    was_free : stands (names_now first) name ≡ None
    was_free = sym (has.elsewhere name (in_none name (folder_itself name))) ∙ free

    among_none : (folders : List Restored) → All (IsRestored s log) folders → standing_among folders name (plain.start.taken name) ≡ Free
    among_none [] each = ap (λ (t : Bool). cond t Taken Free) (taken name ∙ ap is_some was_free)
    among_none (folder ∷ folders) each =
        ap (λ (t : Bool). cond t (Reads folder.shown) (standing_among folders name (plain.start.taken name))) (other_texts name folder.name (other_name s log name folder (All-head (IsRestored s log) folder folders each) free))
        ∙ among_none folders (All-tail (IsRestored s log) folder folders each)

    pub is_free : standing_told plain name ≡ Free
    is_free = ap (λ (t : Bool). cond t (Reads (shown_now plain)) (standing_among plain.restored name (plain.start.taken name))) (other_texts name plain.start.home not_home) ∙ among_none plain.restored has.restored

  -- something
  module _ (full : is_some (stands (names_now s) name) ≡ true) where
    by_taken : (t : Bool) → plain.start.taken name ≡ t → IsElsewhere plain name → MayBeTaken (cond t Taken Free)
    by_taken true is out = tt
    by_taken false is out = let both : true ≡ false = sym full ∙ ap is_some (has.elsewhere name out) ∙ sym (taken name) ∙ is in absurd (cc both)

    away_from : (folder : List ℕ) → is_folder_name folder ≡ true → bytes_eq name folder ≡ false → is_in folder name ≡ false
    away_from folder folder_fits other = away folder name folder_fits fits (λ same. let both : true ≡ false = sym (same_text folder) ∙ ap (λ (l : List ℕ). bytes_eq l folder) same ∙ other in cc)

    by_folder : (folder : Restored) (rest : Standing) (t : Bool) → bytes_eq name folder.name ≡ t → (bytes_eq name folder.name ≡ false → MayBeTaken rest) → MayBeTaken (cond t (Reads folder.shown) rest)
    by_folder folder rest true is other = tt
    by_folder folder rest false is other = other is

    among_some : (folders : List Restored) → All (IsRestored s log) folders → (All (λ (folder : Restored). is_in folder.name name ≡ false) folders → MayBeTaken (cond (plain.start.taken name) Taken Free)) → MayBeTaken (standing_among folders name (plain.start.taken name))
    among_some [] each out = out (All-nil (λ (folder : Restored). is_in folder.name name ≡ false))
    among_some (folder ∷ folders) each out =
        let r : IsRestored s log folder = All-head (IsRestored s log) folder folders each in
        by_folder folder (standing_among folders name (plain.start.taken name)) (bytes_eq name folder.name) refl
        (λ other. among_some folders (All-tail (IsRestored s log) folder folders each)
        (λ rest. out (All-cons (λ (f : Restored). is_in f.name name ≡ false) folder folders (away_from folder.name r.named other) rest)))

    by_home : (t : Bool) → bytes_eq name plain.start.home ≡ t → MayBeTaken (cond t (Reads (shown_now plain)) (standing_among plain.restored name (plain.start.taken name)))
    by_home true is = tt
    by_home false is = among_some plain.restored has.restored (λ out. by_taken (plain.start.taken name) refl (record { home = away_from plain.start.home has.named is; restored = out }))

    pub is_full : MayBeTaken (standing_told plain name)
    is_full = by_home (bytes_eq name plain.start.home) refl

-- ---- the restored folder's files are new

-- what stands inside, stood there before
same_inside : (dir : List ℕ) (names before : Names) (path : List ℕ) → stands before dir ≡ None → is_in dir path ≡ true → stands names path ≡ stands before path → map.get names path ≡ map.get before path
same_inside [] names before path free inside same = cc
same_inside (d ∷ dir) names before [] free inside same = cc
same_inside (d ∷ dir) names before (c ∷ path) free inside same = same

-- ---- the folders

module _ (first : State) (a : Story) (told : Option Story) (P : State → Tree → Type 0) (I : State → Type 0) (log : List ℕ) (plain : Plain) (has : HasFolders first (state_of a) log plain) (lawful : IsLawful first) (name : List ℕ) (fits : is_folder_name name ≡ true)
    (taken : (name : List ℕ) → plain.start.taken name ≡ is_some (stands (names_now first) name)) (free : stands (names_now (state_of a)) name ≡ None) (log_out : is_in name log ≡ false) (w : Went a told (IsWithin name (length (state_of a).files)) P I) where
  abbrev before : State
  before = state_of a

  -- nothing was at the name or inside
  nothing_there : (path : List ℕ) → is_in name path ≡ true → map.get (names_now before) path ≡ None
  nothing_there path inside =
      let was : stands (names_now first) name ≡ None = was_free first before log plain has taken name fits free in
      same_inside name (names_now before) (names_now first) path was inside (has.elsewhere path (in_none first before log plain has taken name fits free path inside))
      ∙ nothing_in name (names_now first) path (lawful_now first lawful) was inside

  abbrev count : ℕ
  count = length (state_of a).files

  new_files : HasNewFiles name count (state_of w.story)
  new_files =
      let begun : HasNewFiles name count before = record {
        many = omega arith;
        new = λ path id inside leads. let both : None ≡ Some (File_node id) = sym (nothing_there path inside) ∙ leads in absurd (cc both);
      } in
      let kept = went_keeping P Anything (HasNewFiles name count) (IsWithin name count) (λ x c is h. new_after name count x c is h) (λ x h. record { each = λ t image. tt }) I begun w in
      subst (λ (x : Story). HasNewFiles name count (state_of x)) (same_some kept.story w.story (sym kept.tells ∙ w.tells)) kept.now.1

  out_of_home : (path : List ℕ) → is_in plain.start.home path ≡ true → is_in name path ≡ false
  out_of_home path inside = outside plain.start.home name has.named fits (λ same. not_home first before log plain has taken name fits free (sym same)) path inside

  -- the new folder stands beside the log
  module _ (backup : Backup) (whole : List Part) (files : All IsFileName (names_of whole)) (built : IsBuilt name whole (state_of w.story)) (shows : ShowsFiles (files_of whole) backup.shown.contents backup.shown.sequence) where
    new_restored : (id : ℕ) → id < count → file_at (state_of w.story) log ≡ Some id → IsRestored (state_of w.story) log (record { name = name; shown = backup.shown })
    new_restored early low at = record {
      parts = whole;
      named = fits;
      files = files;
      built = built;
      shows = shows;
      apart = λ id leads.
          let same : early ≡ id = same_some early id (sym at ∙ leads) in
          All-weaker (IsKeptPart name (state_of w.story)) (λ (part : Part). file_at (state_of w.story) (path_in name part.name) ≢ Some id)
          (λ part kept there.
          let late : count ≤ id = new_files.new (path_in name part.name) id (inside_folder name (spelled part.name)) (node_of (map.get (names_now (state_of w.story)) (path_in name part.name)) id there) in
          absurd (omega (arith, late, low, same))) whole built.each;
    }

    pub folders_with : (id : ℕ) → id < count → file_at before log ≡ Some id → HasFolders first (state_of w.story) log (restored plain backup name).after
    folders_with id low at = record {
      named = has.named;
      stood = stands_stay name a told P I w plain.start.home (out_of_home plain.start.home (folder_itself plain.start.home)) ∙ has.stood;
      home = λ rest no. name_stays name a told P I w (plain.start.home ++ 47 ∷ rest) (out_of_home (plain.start.home ++ 47 ∷ rest) (inside_folder plain.start.home rest)) ∙ has.home rest no;
      restored = All-cons (IsRestored (state_of w.story) log) (record { name = name; shown = backup.shown }) plain.restored
          (new_restored id low (at_stays name a told P I w log log_out ∙ at))
          (All-weaker (IsRestored before log) (IsRestored (state_of w.story) log) (λ folder r. restored_stays name a told P I w log folder log_out fits (other_name before log name folder r free) r) plain.restored has.restored);
      elsewhere = λ path out.
          let parts = out.restored in
          let here : Restored = record { name = name; shown = backup.shown } in
          let P_out : Restored → Type 0 = λ folder. is_in folder.name path ≡ false in
          stands_stay name a told P I w path (All-head P_out here plain.restored parts)
          ∙ has.elsewhere path (record { home = out.home; restored = All-tail P_out here plain.restored parts });
    }
