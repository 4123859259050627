-- The first manifest of a new store says nothing, where the folder was fresh: no log is there.
use Rattle.std.specs.Prelude.{◌≡◌, ℕ, ◌+◌, ◌^◌, ◌<◌, ◌≤◌, true, List, [], ◌∷◌, option_map, Option, Some, None}
use Rattle.std.specs.FinMap as finmap
use Rattle.std.proofs.Common.{refl, ap, ◌∙◌}
use Rattle.lsm_names.specs.Folders.{is_folder_name}
use Rattle.lsm_names.specs.FileNames.{IsFileName}
use Rattle.lsm_names.specs.declared.file_names.FileName.TheVariants.{Log}
use Rattle.lsm_rows.specs.Contents.{contents_of}
use Rattle.lsm_disk.specs.Names.{Node, Folder_node}
use Rattle.lsm_disk.specs.State.{State, names_now}
use Rattle.lsm_disk.specs.Images.{tree_now}
use Rattle.lsm_disk.specs.Dest.{path_in}
use Rattle.lsm_disk.proofs.Images.{reads_image}
use Rattle.lsm_folder.specs.Files.{item_of}
use Rattle.lsm_folder.specs.Needed.{is_aside}
use Rattle.lsm_refine.specs.New.{first_edit}
use Rattle.lsm_refine.specs.OpeningImages.{AllFresh, SaysAs}
use Rattle.lsm_refine.proofs.NewLemmas.{first_are, first_last, no_rows, no_first, no_table_rows, no_contents, first_lawful}
use Rattle.lsm_refine.proofs.OpeningFresh.{fresh_at}

module _ (dir : List ℕ) (named : is_folder_name dir ≡ true) (d : State) (fresh : AllFresh dir d)
    (folder : finmap.get (names_now d) dir ≡ Some Folder_node) where
  no_log : (number : ℕ) → IsFileName (Log number) → finmap.get (names_now d) (path_in dir (Log number)) ≡ None
  no_log number fits = by (finmap.get (names_now d) (path_in dir (Log number))) refl
    where
      by : (o : Option Node) → finmap.get (names_now d) (path_in dir (Log number)) ≡ o → o ≡ None
      by None at = refl
      by (Some node) at =
          let aside : is_aside (Log number, item_of (tree_now d).contents node) ≡ true =
          fresh_at dir named (tree_now d) folder (fresh.each (tree_now d) (reads_image d)) (Log number)
          (item_of (tree_now d).contents node) fits (ap (option_map (item_of (tree_now d).contents)) at) in
          absurd (cc)

  pub first_says : (m : ℕ) → 1 ≤ m → m + 2 < 2 ^ 56 → SaysAs d dir (first_edit m ∷ []) finmap.empty 0
  first_says m least most = record {
    are = first_are m least most;
    rows = no_rows;
    tables = λ number placed listed. no_first m number placed listed;
    lawful = first_lawful m;
    shows = ap contents_of (no_table_rows m) ∙ no_contents;
    last = first_last m;
    logs = λ number at fits. no_log number fits;
  }
