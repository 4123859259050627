-- The files beside a log stay as they are while the log is written.
use Rattle.std.specs.Prelude.{◌≡◌, ℕ, List, [], ◌∷◌, length, Option, Some, option_map}
use Rattle.std.proofs.Common.{sym, ap, subst, ◌∙◌, arith}
use Rattle.std.proofs.lemmas.List.{append-nil, take_all}
use Rattle.std.specs.FinMap as map
use Rattle.lsm_names.specs.Paths.{parent_of}
use Rattle.lsm_disk.specs.Names.{Names, id_of}
use Rattle.lsm_disk.specs.State.{State, Story, Change, FileState, after, after_all, state_of, bytes_of, file_at, file_synced}
use Rattle.lsm_disk.specs.Images.{Tree, IsImage, tree_now, bytes_at}
use Rattle.lsm_disk.specs.Goes.{Each, GoesOn}
use Rattle.lsm_disk.specs.Kept.{IsKeptFile, InFile}
use Rattle.lsm_disk.specs.Answers.{Makes, pushed}
use Rattle.lsm_disk.proofs.Cuts.{cut_front}
use Rattle.lsm_disk.proofs.Files.{same_some}
use Rattle.lsm_disk.proofs.Images.{reads_image}
use Rattle.lsm_disk.proofs.Named.{file_spares}
use Rattle.lsm_disk.proofs.Kept.{kept_spared, kept_image, kept_at, syncs_in}
use Rattle.lsm_disk.proofs.Runs.{goes_state, state_push}
use Rattle.ldb_script.specs.Stored.{Keeps, KeepsManifestAndCurrent, IsBeside, HasFirstFiles, FilesBeside, whole_file, manifest_path, current_path, first_manifest, first_current, log_path}
use Rattle.ldb_script.proofs.Folders.{names_in_file, parent_log}

module _ (log : List ℕ) (id : ℕ) where
  at_in_file : (s : State) (c : Change) → InFile id c → file_at (after s c) log ≡ file_at s log
  at_in_file s c is = ap (λ (n : Names). id_of (map.get n log)) (names_in_file s id c is)

  -- a change in the log's file
  beside_change : (path bytes : List ℕ) (s : State) (c : Change) → file_at s log ≡ Some id → InFile id c → IsBeside s log path bytes → IsBeside (after s c) log path bytes
  beside_change path bytes s c there is b = record {
    id = b.id;
    kept = kept_spared s path b.id (whole_file bytes) b.kept c (file_spares path b.id id c (λ same. b.apart (there ∙ ap (λ (n : ℕ). Some n) (sym same))) is);
    apart = λ same. b.apart (sym (at_in_file s c is) ∙ same);
  }

  beside_all : (path bytes : List ℕ) (cs : List Change) (s : State) → file_at s log ≡ Some id → Each (InFile id) cs → IsBeside s log path bytes → IsBeside (after_all cs s) log path bytes
  beside_all path bytes [] s there each b = b
  beside_all path bytes (c ∷ cs) s there each b = beside_all path bytes cs (after s c) (at_in_file s c each.0 ∙ there) each.1 (beside_change path bytes s c there each.0 b)

  beside_goes : {a z : Story} {P : State → Tree → Type 0} (path bytes : List ℕ) → GoesOn a z (InFile id) P → file_at (state_of a) log ≡ Some id → IsBeside (state_of a) log path bytes → IsBeside (state_of z) log path bytes
  beside_goes {a = a} path bytes g there b = subst (λ (s : State). IsBeside s log path bytes) (sym (goes_state g)) (beside_all path bytes g.more (state_of a) there g.kind b)

-- ---- the files of a new store

-- while the log is written
pub files_go : (told new : Option Story) (log : List ℕ) (a z : Story) (P : State → Tree → Type 0) (id : ℕ) → told ≡ Some a → new ≡ Some z → file_at (state_of a) log ≡ Some id → GoesOn a z (InFile id) P → FilesBeside told log → FilesBeside new log
files_go told new log a z P id tells tells_new there g f =
    let folder = parent_of log in
    let here : HasFirstFiles (state_of a) folder log = subst (λ (story : Story). HasFirstFiles (state_of story) folder log) (same_some f.story a (sym f.tells ∙ tells)) f.files in record {
      story = z;
      tells = tells_new;
      files = record {
        manifest = beside_goes log id (manifest_path folder) first_manifest g there here.manifest;
        current = beside_goes log id (current_path folder) first_current g there here.current;
      };
    }

-- where it is synced
pub files_synced : (told new : Option Story) (log : List ℕ) (a : Story) (id : ℕ) (file : FileState) → told ≡ Some a → IsKeptFile (state_of a) log id file → Makes told (file_synced log) new → FilesBeside told log → FilesBeside new log
files_synced told new log a id file tells kept makes f =
    let folder = parent_of log in
    let here : HasFirstFiles (state_of a) folder log = subst (λ (story : Story). HasFirstFiles (state_of story) folder log) (same_some f.story a (sym f.tells ∙ tells)) f.files in
    let there : file_at (state_of a) log ≡ Some id = kept_at (state_of a) log id file kept in
    let c : Change = file_synced log (state_of a) in
    let is : InFile id c = syncs_in (state_of a) log id file kept in record {
      story = pushed (file_synced log) a;
      tells = makes ∙ ap (option_map (pushed (file_synced log))) tells;
      files = subst (λ (s : State). HasFirstFiles s folder log) (sym (state_push a c)) (record {
        manifest = beside_change log id (manifest_path folder) first_manifest (state_of a) c there is here.manifest;
        current = beside_change log id (current_path folder) first_current (state_of a) c there is here.current;
      });
    }

-- ---- what is seen of them

module _ (s : State) (log path bytes : List ℕ) (b : IsBeside s log path bytes) where
  beside_image : (t : Tree) → IsImage s t → bytes_at t path ≡ Some bytes
  beside_image t image =
      let held = kept_image s path b.id (whole_file bytes) b.kept t image in
      let front = cut_front (whole_file bytes) held.bytes held.cut in
      let all : bytes_of (whole_file bytes) ≡ bytes = append-nil bytes in
      held.is ∙ ap (λ (l : List ℕ). Some l) (front.is ∙ take_all front.count (bytes_of (whole_file bytes)) (omega (arith, ap length all, front.enough)) ∙ all)

  pub beside_now : bytes_at (tree_now s) path ≡ Some bytes
  beside_now = beside_image (tree_now s) (reads_image s)

beside_keeps : (told : Option Story) (story : Story) (log path bytes : List ℕ) → told ≡ Some story → IsBeside (state_of story) log path bytes → Keeps told path bytes
beside_keeps told story log path bytes tells b = record {
  story = story;
  tells = tells;
  now = beside_now (state_of story) log path bytes b;
  images = beside_image (state_of story) log path bytes b;
}

-- they are kept
pub files_kept : (told : Option Story) (folder log : List ℕ) → log ≡ log_path folder → FilesBeside told log → KeepsManifestAndCurrent told folder
files_kept told folder log is f =
    let in_folder : parent_of log ≡ folder = ap parent_of is ∙ parent_log folder in
    let here : HasFirstFiles (state_of f.story) folder log = subst (λ (d : List ℕ). HasFirstFiles (state_of f.story) d log) in_folder f.files in record {
      manifest = beside_keeps told f.story log (manifest_path folder) first_manifest f.tells here.manifest;
      current = beside_keeps told f.story log (current_path folder) first_current f.tells here.current;
    }

-- they stand in the folder of a new store
pub files_new : (told : Option Story) (story : Story) (folder log : List ℕ) → log ≡ log_path folder → told ≡ Some story → HasFirstFiles (state_of story) folder (log_path folder) → FilesBeside told log
files_new told story folder log is tells files = record {
  story = story;
  tells = tells;
  files = subst (λ (l : List ℕ). HasFirstFiles (state_of story) (parent_of l) l) (sym is) (subst (λ (d : List ℕ). HasFirstFiles (state_of story) d (log_path folder)) (sym (parent_log folder)) files);
}
