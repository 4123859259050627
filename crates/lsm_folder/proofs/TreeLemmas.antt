-- A tree's folder with one log, by its paths.
use Rattle.std.specs.Prelude.{◌≡◌, ℕ, ◌<◌, List, ◌∷◌, ◌++◌, Option, Some, None, option_map}
use Rattle.std.proofs.Common.{refl, sym, ap, ◌∙◌}
use Rattle.std.specs.FinMap as finmap
use Rattle.lsm_names.specs.declared.file_names.FileName.TheVariants.{Log, Manifest, Current}
use Rattle.lsm_names.specs.FileNames.{spelled, IsFileName}
use Rattle.lsm_disk.specs.Names.{Node, Folder_node, File_node, id_of}
use Rattle.lsm_disk.specs.Images.{Tree}
use Rattle.lsm_folder.specs.Files.{Item, Files, item_of, bytes_in, files_in}
use Rattle.lsm_folder.specs.Needed.{HasOneLog, HasOneLogAt}
use Rattle.lsm_folder.proofs.FileLemmas.{files_are, file_is, file_names}

pub no_file : (contents : List (List ℕ)) (o : Option Node) → id_of o ≡ None → bytes_in (option_map (item_of contents) o) ≡ None
no_file contents None is = refl
no_file contents (Some Folder_node) is = refl
no_file contents (Some (File_node id)) is = cc

module _ (dir : List ℕ) (tree : Tree) (text : List ℕ) (has : HasOneLogAt dir tree text) where
  abbrev files : Files
  files = files_in dir tree

  not_there : (number : ℕ) → 2 < number → (o : Option Item) → finmap.get files (Log number) ≡ o → bytes_in o ≡ None
  not_there number high None is = refl
  not_there number high (Some item) is =
      let fits : IsFileName (Log number) = file_names dir tree (Log number) item has.named is in
      ap bytes_in (sym is ∙ files_are dir tree (Log number) has.named fits)
      ∙ no_file tree.contents (finmap.get tree.names (dir ++ 47 ∷ spelled (Log number))) (has.no_other number high)

  pub one_log_at : HasOneLog files text
  one_log_at = record {
    current = ap bytes_in (file_is dir tree Current _ has.named tt has.current);
    manifest = ap bytes_in (file_is dir tree (Manifest 1) _ has.named refl has.manifest);
    log = ap bytes_in (file_is dir tree (Log 2) text has.named refl has.log);
    no_other = λ number high. not_there number high (finmap.get files (Log number)) refl;
  }
