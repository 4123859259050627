-- The folders of the store's disk, from the opening on.
use Rattle.std.specs.Prelude.{◌≡◌, ◌≢◌, ℕ, IsTrue, All, List, [], ◌∷◌, ◌++◌, false, slice_index_or, Option, Some, None, option_map}
use Rattle.std.proofs.Common.{sym, ap, subst, ◌∙◌}
use Rattle.std.proofs.lemmas.List.Elements.{All-nil, All-weaker}
use Rattle.std.specs.FinMap as map
use Rattle.lsm_names.specs.Folders.{is_folder_name}
use Rattle.lsm_disk.specs.Names.{Folder_node, Names, id_of, is_in, stands}
use Rattle.lsm_disk.specs.State.{State, Story, Change, FileState, after, after_all, state_of, names_now, file_at, file_synced}
use Rattle.lsm_disk.specs.Images.{Tree}
use Rattle.lsm_disk.specs.Tree.{IsLawful}
use Rattle.lsm_disk.specs.Goes.{Each, GoesOn}
use Rattle.lsm_disk.specs.Kept.{InFile, IsKeptFile}
use Rattle.lsm_disk.specs.Answers.{Makes, pushed}
use Rattle.lsm_disk.specs.Dest.{path_in}
use Rattle.lsm_disk.specs.Building.{Part, sealed, IsKeptPart, IsBuilt}
use Rattle.lsm_disk.proofs.Files.{same_some}
use Rattle.lsm_disk.proofs.Named.{name_spared, file_spares, file_spares_name}
use Rattle.lsm_disk.proofs.Kept.{kept_spared, kept_at, syncs_in}
use Rattle.lsm_disk.proofs.Runs.{goes_state, state_push}
use Rattle.ldb_script.specs.Plain.{Start, Plain, Restored, empty}
use Rattle.ldb_script.specs.Filling.{Fills, HasStore}
use Rattle.ldb_script.specs.Folders.{IsNoFile, IsRestored, HasFolders, TellsTaken, FoldersStand}
use Rattle.ldb_script.proofs.Folders.{names_in_file}

-- ---- a new store

has_folders_new : (start : Start) (folder log : List ℕ) (old new : State) → start.home ≡ folder → IsTrue (is_folder_name folder) → Fills folder (HasStore folder) old new → HasFolders old new log (empty start)
has_folders_new start folder log old new home named fills =
    let here : Fills start.home (HasStore start.home) old new = subst (λ (d : List ℕ). Fills d (HasStore d) old new) (sym home) fills in record {
      named = ap is_folder_name home ∙ named;
      stood = here.has.folder_stands;
      home = here.has.only;
      restored = All-nil (IsRestored new log);
      elsewhere = λ path out. here.elsewhere path out.home;
    }

pub folders_new : (start : Start) (folder log : List ℕ) (old new : Option Story) → start.home ≡ folder → IsTrue (is_folder_name folder) → TellsTaken old start.taken → ((story : Story) → old ≡ Some story → IsLawful (state_of story)) → ((story : Story) → old ≡ Some story → (later : Story) × (new ≡ Some later) × Fills folder (HasStore folder) (state_of story) (state_of later)) → FoldersStand old new log (empty start)
folders_new start folder log old new home named t lawful made =
    let m = made t.story t.tells in record {
      first = t.story;
      told_first = t.tells;
      taken = t.names;
      lawful = lawful t.story t.tells;
      story = m.0;
      tells = m.1;
      has = has_folders_new start folder log (state_of t.story) (state_of m.0) home named m.2;
    }

-- ---- a run that goes on

-- the folders of another plain state are the same where it began so and restored the same
pub folders_of : (start told : Option Story) (log : List ℕ) (plain other : Plain) → other.start ≡ plain.start → other.restored ≡ plain.restored → FoldersStand start told log plain → FoldersStand start told log other
folders_of start told log plain other began restored f = record {
  first = f.first;
  told_first = f.told_first;
  taken = λ name. ap (λ (s : Start). s.taken name) began ∙ f.taken name;
  lawful = f.lawful;
  story = f.story;
  tells = f.tells;
  has = record {
    named = ap (λ (s : Start). is_folder_name s.home) began ∙ f.has.named;
    stood = subst (λ (d : List ℕ). stands (names_now (state_of f.story)) d ≡ Some Folder_node) (sym (ap (λ (s : Start). s.home) began)) f.has.stood;
    home = subst (λ (d : List ℕ). (name : List ℕ) → IsNoFile name → map.get (names_now (state_of f.story)) (d ++ 47 ∷ name) ≡ None) (sym (ap (λ (s : Start). s.home) began)) f.has.home;
    restored = subst (All (IsRestored (state_of f.story) log)) (sym restored) f.has.restored;
    elsewhere = λ path out. f.has.elsewhere path (record {
      home = ap (λ (s : Start). is_in s.home path) (sym began) ∙ out.home;
      restored = subst (All (λ (folder : Restored). is_in folder.name path ≡ false)) restored out.restored;
    });
  };
}

-- ---- while the log is written

module _ (log : List ℕ) (id : ℕ) where
  log_stays : (s : State) (c : Change) → InFile id c → file_at (after s c) log ≡ file_at s log
  log_stays s c is = ap (λ (n : Names). id_of (map.get n log)) (names_in_file s id c is)

  part_stays : (folder : List ℕ) (s : State) (c : Change) (part : Part) → InFile id c → file_at s (path_in folder part.name) ≢ Some id → IsKeptPart folder s part → IsKeptPart folder (after s c) part
  part_stays folder s c part is apart kept = record {
    id = kept.id;
    file = kept_spared s (path_in folder part.name) kept.id (sealed part.bytes) kept.file c
        (file_spares (path_in folder part.name) kept.id id c (λ same. apart (kept_at s (path_in folder part.name) kept.id (sealed part.bytes) kept.file ∙ ap (λ (n : ℕ). Some n) same)) is);
  }

  built_stays : (folder : List ℕ) (parts : List Part) (s : State) (c : Change) → InFile id c → All (λ (part : Part). file_at s (path_in folder part.name) ≢ Some id) parts → IsBuilt folder parts s → IsBuilt folder parts (after s c)
  built_stays folder parts s c is apart built = record {
    stands = name_spared s folder (Some Folder_node) built.stands c (file_spares_name folder id c is);
    each = λ k d lt. part_stays folder s c (slice_index_or parts k d) is (apart k d lt) (built.each k d lt);
    only = λ rest others. name_spared s (folder ++ 47 ∷ rest) None (built.only rest others) c (file_spares_name (folder ++ 47 ∷ rest) id c is);
  }

  restored_stays : (s : State) (c : Change) (folder : Restored) → file_at s log ≡ Some id → InFile id c → IsRestored s log folder → IsRestored (after s c) log folder
  restored_stays s c folder there is r = record {
    parts = r.parts;
    named = r.named;
    files = r.files;
    built = built_stays folder.name r.parts s c is (r.apart id there) r.built;
    shows = r.shows;
    apart = λ k leads. All-weaker (λ (part : Part). file_at s (path_in folder.name part.name) ≢ Some k) (λ (part : Part). file_at (after s c) (path_in folder.name part.name) ≢ Some k)
        (λ part ne same. ne (sym (ap (λ (n : Names). id_of (map.get n (path_in folder.name part.name))) (names_in_file s id c is)) ∙ same)) r.parts (r.apart k (sym (log_stays s c is) ∙ leads));
  }

  module _ (first : State) (plain : Plain) where
    folders_step : (s : State) (c : Change) → file_at s log ≡ Some id → InFile id c → HasFolders first s log plain → HasFolders first (after s c) log plain
    folders_step s c there is h =
        let same : names_now (after s c) ≡ names_now s = names_in_file s id c is in record {
          named = h.named;
          stood = ap (λ (n : Names). stands n plain.start.home) same ∙ h.stood;
          home = λ name no. ap (λ (n : Names). map.get n (plain.start.home ++ 47 ∷ name)) same ∙ h.home name no;
          restored = All-weaker (IsRestored s log) (IsRestored (after s c) log) (λ folder r. restored_stays s c folder there is r) plain.restored h.restored;
          elsewhere = λ path out. ap (λ (n : Names). stands n path) same ∙ h.elsewhere path out;
        }

    folders_all : (cs : List Change) (s : State) → file_at s log ≡ Some id → Each (InFile id) cs → HasFolders first s log plain → HasFolders first (after_all cs s) log plain
    folders_all [] s there each h = h
    folders_all (c ∷ cs) s there each h = folders_all cs (after s c) (log_stays s c each.0 ∙ there) each.1 (folders_step s c there each.0 h)

  pub folders_go : (start told new : Option Story) (plain : Plain) (a z : Story) (P : State → Tree → Type 0) → told ≡ Some a → new ≡ Some z → file_at (state_of a) log ≡ Some id → GoesOn a z (InFile id) P → FoldersStand start told log plain → FoldersStand start new log plain
  folders_go start told new plain a z P tells tells_new there g f =
      let here : HasFolders (state_of f.first) (state_of a) log plain = subst (λ (story : Story). HasFolders (state_of f.first) (state_of story) log plain) (same_some f.story a (sym f.tells ∙ tells)) f.has in record {
        first = f.first;
        told_first = f.told_first;
        taken = f.taken;
        lawful = f.lawful;
        story = z;
        tells = tells_new;
        has = subst (λ (s : State). HasFolders (state_of f.first) s log plain) (sym (goes_state g)) (folders_all (state_of f.first) plain g.more (state_of a) there g.kind here);
      }

-- where it is synced
pub folders_synced : (start told new : Option Story) (log : List ℕ) (plain : Plain) (a : Story) (id : ℕ) (file : FileState) → told ≡ Some a → IsKeptFile (state_of a) log id file → Makes told (file_synced log) new → FoldersStand start told log plain → FoldersStand start new log plain
folders_synced start told new log plain a id file tells kept makes f =
    let here : HasFolders (state_of f.first) (state_of a) log plain = subst (λ (story : Story). HasFolders (state_of f.first) (state_of story) log plain) (same_some f.story a (sym f.tells ∙ tells)) f.has in
    let c : Change = file_synced log (state_of a) in record {
      first = f.first;
      told_first = f.told_first;
      taken = f.taken;
      lawful = f.lawful;
      story = pushed (file_synced log) a;
      tells = makes ∙ ap (option_map (pushed (file_synced log))) tells;
      has = subst (λ (s : State). HasFolders (state_of f.first) s log plain) (sym (state_push a c))
          (folders_step log id (state_of f.first) plain (state_of a) c (kept_at (state_of a) log id file kept) (syncs_in (state_of a) log id file kept) here);
    }
