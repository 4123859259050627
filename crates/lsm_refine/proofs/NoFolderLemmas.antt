-- Files that are made and names that are removed put no folder anywhere.
use Rattle.std.specs.Prelude.{◌≡◌, ◌≢◌, ℕ, cond, List, [], ◌∷◌, ◌++◌, take, length, Some, None}
use Rattle.std.proofs.Common.{⊎_elim, sym, ap, ◌∙◌, arith}
use Rattle.std.proofs.lemmas.List.{take_all}
use Rattle.std.specs.Ordering.{eq_by_cmp}
use Rattle.std.specs.Cmp.Lexicographic.{nat_list_cmp_total}
use Rattle.std.specs.FinMap as finmap
use Rattle.lsm_names.specs.FileNames.{spelled}
use Rattle.lsm_names.specs.declared.file_names.FileName.{FileName}
use Rattle.lsm_disk.specs.Names.{Node, Folder_node, File_node, NameOp, Names, Put, Gone, named, all_named, path_cmp}
use Rattle.lsm_disk.specs.State.{State, Created, Named, after, names_now}
use Rattle.lsm_disk.specs.Dest.{path_in}
use Rattle.lsm_disk.proofs.Images.{take_push, all_push}
use Rattle.lsm_disk.proofs.Paths.{path_itself, path_cases, get_put, get_put_other, get_gone_other}
use Rattle.lsm_model.specs.Halting.{built_in}
use Rattle.lsm_refine.specs.Sane.{AreFiles}
use Rattle.lsm_refine.specs.Pins.{AreClearable}
use Rattle.lsm_refine.proofs.FolderDisks.{apart_from, built_flat}

some_once : (m n : Node) → Some m ≡ Some n → m ≡ n
some_once m n e = cc

-- the path leads to this node neither now nor after a crash
module _ (d : State) (path : List ℕ) (node : Node) (never : (k : ℕ)
    → finmap.get (all_named (take k d.pending) d.durable) path ≢ Some node) where
  never_now : finmap.get (names_now d) path ≢ Some node
  never_now is =
      never (length d.pending) (ap (λ (ops : List NameOp). finmap.get (all_named ops d.durable) path)
      (take_all (length d.pending) d.pending (omega arith)) ∙ is)

  -- nor behind one operation more, where it doesn't behind that
  never_after : (op : NameOp) → finmap.get (named op (names_now d)) path ≢ Some node → (k : ℕ)
      → finmap.get (all_named (take k (d.pending ++ op ∷ [])) d.durable) path ≢ Some node
  never_after op behind k is = ⊎_elim
      (λ short. never k (ap (λ (ops : List NameOp). finmap.get (all_named ops d.durable) path) (sym short) ∙ is))
      (λ long. behind
      (ap (λ (names : Names). finmap.get names path) (sym (all_push d.pending op d.durable))
      ∙ ap (λ (ops : List NameOp). finmap.get (all_named ops d.durable) path) (sym long) ∙ is))
      (take_push k d.pending op)

  never_put : (other : List ℕ) (n : Node) → (path ≡ other → n ≢ node) → finmap.get (named (Put other n) (names_now d)) path ≢ Some node
  never_put other n differ is = ⊎_elim
      (λ same. differ same
      (some_once n node
      (sym (ap (λ (p : List ℕ). finmap.get (finmap.insert (names_now d) other n) p) same ∙ get_put (names_now d) other n) ∙ is)))
      (λ apart. never_now (sym (get_put_other (names_now d) path other n apart) ∙ is))
      (path_cases path other)

  never_gone : (other : List ℕ) → finmap.get (named (Gone other) (names_now d)) path ≢ Some node
  never_gone other is = ⊎_elim
      (λ same.
      let gone : finmap.get (finmap.remove (names_now d) other) path ≡ None =
      finmap.get-remove nat_list_cmp_total (names_now d) other path
      ∙ ap (λ b. cond b None (finmap.get (names_now d) path)) (ap (λ (p : List ℕ). eq_by_cmp path_cmp p other) same ∙ path_itself other) in
      let clash : None ≡ Some node = sym gone ∙ is in cc)
      (λ apart. never_now (sym (get_gone_other (names_now d) path other apart) ∙ is))
      (path_cases path other)

file_or_folder : (n : ℕ) → File_node n ≢ Folder_node
file_or_folder n same = cc

-- ---- names of files

pub made_files : (d : State) (dir path : List ℕ) → AreFiles d dir → AreFiles (after d (Created path)) dir
made_files d dir path are = record {
  no_folder = λ name k fits. never_after d (path_in dir name) Folder_node (λ j. are.no_folder name j fits)
      (Put path (File_node (length d.files)))
      (never_put d (path_in dir name) Folder_node (λ j. are.no_folder name j fits) path (File_node (length d.files))
      (λ same. file_or_folder (length d.files))) k;
}

pub removed_files : (d : State) (dir path : List ℕ) → AreFiles d dir → AreFiles (after d (Named (Gone path))) dir
removed_files d dir path are = record {
  no_folder = λ name k fits. never_after d (path_in dir name) Folder_node (λ j. are.no_folder name j fits) (Gone path)
      (never_gone d (path_in dir name) Folder_node (λ j. are.no_folder name j fits) path) k;
}

-- ---- names of checkpoints

pub made_clear : (d : State) (own : List ℕ) (file : FileName) → AreClearable d → AreClearable (after d (Created (path_in own file)))
made_clear d own file are = record {
  no_file = λ dir k id fits. never_after d (built_in dir) (File_node id) (λ j. are.no_file dir j id fits)
      (Put (path_in own file) (File_node (length d.files)))
      (never_put d (built_in dir) (File_node id) (λ j. are.no_file dir j id fits) (path_in own file) (File_node (length d.files))
      (λ same. absurd (apart_from (built_in dir) own (spelled file) (built_flat dir fits) same))) k;
  no_folder = λ dir rest k fits. never_after d (built_in dir ++ 47 ∷ rest) Folder_node (λ j. are.no_folder dir rest j fits)
      (Put (path_in own file) (File_node (length d.files)))
      (never_put d (built_in dir ++ 47 ∷ rest) Folder_node (λ j. are.no_folder dir rest j fits) (path_in own file)
      (File_node (length d.files)) (λ same. file_or_folder (length d.files))) k;
}

pub removed_clear : (d : State) (path : List ℕ) → AreClearable d → AreClearable (after d (Named (Gone path)))
removed_clear d path are = record {
  no_file = λ dir k id fits. never_after d (built_in dir) (File_node id) (λ j. are.no_file dir j id fits) (Gone path)
      (never_gone d (built_in dir) (File_node id) (λ j. are.no_file dir j id fits) path) k;
  no_folder = λ dir rest k fits. never_after d (built_in dir ++ 47 ∷ rest) Folder_node (λ j. are.no_folder dir rest j fits) (Gone path)
      (never_gone d (built_in dir ++ 47 ∷ rest) Folder_node (λ j. are.no_folder dir rest j fits) path) k;
}
