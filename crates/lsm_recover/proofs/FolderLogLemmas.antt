-- The logs of a folder on a disk, by its listing.
use Rattle.std.specs.Prelude.{◌≡◌, true, ℕ, ◌+◌, ◌≤◌, ◌<◌, List, [], ◌∷◌, ◌++◌, length, Option, Some, None, option_map, unwrap_or, slice_get}
use Rattle.std.proofs.Common.{refl, sym, ap, subst, ◌∙◌, arith}
use Rattle.std.specs.FinMap as finmap
use Rattle.lsm_names.specs.declared.file_names.FileName.TheVariants.{Log}
use Rattle.lsm_names.specs.FileNames.{spelled, IsFileName}
use Rattle.lsm_names.specs.Paths.{is_path}
use Rattle.lsm_disk.specs.Names.{Node, Folder_node, File_node, Names}
use Rattle.lsm_disk.specs.State.{Story, state_of, names_now}
use Rattle.lsm_disk.specs.Images.{Tree, tree_now}
use Rattle.lsm_disk.specs.declared.listing.Entry.{Entry}
use Rattle.lsm_folder.specs.Files.{A_file, Files, bytes_in, item_of, file_at}
use Rattle.lsm_folder.specs.Logs.{log_of, logs_of}
use Rattle.lsm_folder.proofs.FileLemmas.{files_are, file_names}
use Rattle.lsm_recover.specs.Answers.{files_now}
use Rattle.lsm_recover.specs.Listed.{IsListing, next_log}
use Rattle.lsm_recover.proofs.ListLemmas.{no_logs, first_log}
use Rattle.lsm_recover.proofs.NextLogLemmas.{IsAtMost, log_told}
use Rattle.lsm_recover.proofs.FoundLogLemmas.{log_is}
use Rattle.lsm_folder.proofs.LiveLemmas.{a_file}

a_node : (contents : List (List ℕ)) (o : Option Node) (bytes : List ℕ) → option_map (item_of contents) o ≡ Some (A_file bytes) → (id : ℕ) × (o ≡ Some (File_node id))
a_node contents None bytes is = cc
a_node contents (Some Folder_node) bytes is = cc
a_node contents (Some (File_node id)) bytes is = (id, refl)

-- the logs from a number on begin with this one
pub record Begins (files : Files) (least n : ℕ) : Type 0 where
  pub bytes : List ℕ
  pub live : least ≤ n
  pub there : file_at files (Log n) ≡ Some bytes
  pub logs : finmap.entries (logs_of least files) ≡ (n, log_of bytes) ∷ finmap.entries (logs_of (n + 1) files)

module _ (first : ℕ) (more : List ℕ) (short : length (first ∷ more) + 30 ≤ 160) (spells : is_path (first ∷ more) ≡ true) (story : Story) (entries : List Entry) (is : IsListing (first ∷ more) story entries) (least : ℕ) where
  abbrev dir : List ℕ
  dir = first ∷ more

  abbrev names : Names
  names = names_now (state_of story)

  abbrev tree : Tree
  tree = tree_now (state_of story)

  abbrev files : Files
  files = files_now dir story

  abbrev path_of : ℕ → List ℕ
  path_of m = dir ++ 47 ∷ spelled (Log m)

  told : (m : ℕ) (bytes : List ℕ) → least ≤ m → file_at files (Log m) ≡ Some bytes → IsAtMost m (next_log least entries)
  told m bytes live there =
      let item : finmap.get files (Log m) ≡ Some (A_file bytes) = a_file (finmap.get files (Log m)) bytes there in
      let fits : IsFileName (Log m) = file_names dir tree (Log m) (A_file bytes) (omega arith) item in
      let node = a_node tree.contents (finmap.get names (path_of m)) bytes (sym (files_are dir tree (Log m) (omega arith) fits) ∙ item) in
      subst (λ (es : List Entry). IsAtMost m (next_log least es)) (sym is.entries_are)
      (log_told first more short spells least m fits live (finmap.entries names) node.0 (sym (finmap.get-entries names (path_of m)) ∙ node.1))

  none_at : (m : ℕ) (o : Option (List ℕ)) → least ≤ m → file_at files (Log m) ≡ o → (IsAtMost m (next_log least entries) → ⊥) → file_at files (Log m) ≡ None
  none_at m None live there never = there
  none_at m (Some bytes) live there never = absurd (never (told m bytes live there))

  -- where no log is told, there is none
  pub none_told : next_log least entries ≡ None → finmap.entries (logs_of least files) ≡ []
  none_told none = no_logs files least (λ m live. none_at m (file_at files (Log m)) live refl (λ h. subst (IsAtMost m) none h))

  -- the log that is told is the first
  pub first_told : (n : ℕ) → next_log least entries ≡ Some n → Begins files least n
  first_told n next =
      let log = log_is first more least (finmap.entries names) n (finmap.entries_sorted names) (ap (next_log least) (sym is.entries_are) ∙ next) in
      let bytes = unwrap_or (slice_get tree.contents log.id) [] in
      let there : file_at files (Log n) ≡ Some bytes =
      ap bytes_in (files_are dir tree (Log n) (omega arith) log.fits)
      ∙ ap (λ (o : Option Node). bytes_in (option_map (item_of tree.contents) o)) (finmap.get-entries names (path_of n) ∙ log.found) in
      record {
        bytes = bytes;
        live = log.live;
        there = there;
        logs = first_log files least n bytes log.live there (λ m live low. none_at m (file_at files (Log m)) live refl (λ h. absurd (above m low (subst (IsAtMost m) next h))));
      }
    where
      above : (m : ℕ) → m < n → n ≤ m → ⊥
      above m low high = omega (arith, low, high)
