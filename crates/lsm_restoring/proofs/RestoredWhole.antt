-- A folder that was built whole reads in each image as it does now.
use Rattle.std.specs.Prelude.{◌≡◌, ◌≢◌, ℕ, ◌≤◌, Bool, true, false, cond, is_some, List, [], ◌∷◌, ◌++◌, length, unwrap_or, All, option_map, Option, Some, None}
use Rattle.std.proofs.Common.{refl, sym, ap, ◌∙◌, arith}
use Rattle.std.proofs.lemmas.List.Elements.{All-nil, All-cons, All-head, All-tail}
use Rattle.std.specs.Str.{bytes_eq}
use Rattle.std.specs.FinMap as finmap
use Rattle.lsm_names.specs.Folders.{is_folder_name}
use Rattle.lsm_names.specs.FileNames.{spelled}
use Rattle.lsm_names.specs.declared.file_names.FileName.{FileName}
use Rattle.lsm_names.proofs.FolderLemmas.{folder_has_bytes}
use Rattle.lsm_disk.specs.Names.{Node, Folder_node, File_node, id_of, stands}
use Rattle.lsm_disk.specs.State as disk
use Rattle.lsm_disk.specs.Images.{Tree, bytes_by, tree_now}
use Rattle.lsm_disk.specs.Dest.{path_in}
use Rattle.lsm_disk.specs.Building.{Part, names_of, HasPart, IsWhole, IsBuilt}
use Rattle.lsm_disk.proofs.Built.{built_whole}
use Rattle.lsm_disk.proofs.Images.{reads_image}
use Rattle.lsm_disk.proofs.Lawful.{get_named}
use Rattle.lsm_folder.specs.Files.{Item, A_file, Files, item_of, item_at, files_in, place_by, place_of}
use Rattle.lsm_folder.specs.Reading.{reading}
use Rattle.lsm_folder.proofs.NameLemmas.{same_text, equal_texts}
use Rattle.lsm_refine.specs.Folders.{as_shown, folder_reading, IsSure}
use Rattle.lsm_refine.proofs.OutsideLemmas.{files_same}

-- ---- what a whole folder has under a file's name

abbrev part_item : FileName → List Part → Option Item
part_item file [] = None
part_item file (p ∷ ps) = cond (bytes_eq (spelled p.name) (spelled file)) (Some (A_file p.bytes)) (part_item file ps)

item_found : (t : Tree) (node : Option Node) (bytes : List ℕ) → bytes_by (id_of node) t ≡ Some bytes
    → option_map (item_of t.contents) node ≡ Some (A_file bytes)
item_found t None bytes is = cc
item_found t (Some Folder_node) bytes is = cc
item_found t (Some (File_node id)) bytes is = ap (λ (o : Option (List ℕ)). Some (A_file (unwrap_or o []))) is

module _ (folder : List ℕ) (t : Tree) (file : FileName) where
  abbrev Differs : FileName → Type 0
  Differs name = spelled file ≢ spelled name

  item_parts : (ps : List Part) → All (HasPart folder t) ps →
      (All Differs (names_of ps) → item_at t (path_in folder file) ≡ None)
      → item_at t (path_in folder file) ≡ part_item file ps
  item_parts [] are only = only (All-nil Differs)
  item_parts (p ∷ ps) are only =
      let rest : (spelled file ≢ spelled p.name) → item_at t (path_in folder file) ≡ part_item file ps =
      λ differs. item_parts ps (All-tail (HasPart folder t) p ps are)
      (λ others. only (All-cons Differs p.name (names_of ps) differs others)) in
      elim (bytes_eq (spelled p.name) (spelled file)) as (λ b. bytes_eq (spelled p.name) (spelled file) ≡ b
      → item_at t (path_in folder file) ≡ cond b (Some (A_file p.bytes)) (part_item file ps)) [
        | true ↦ λ same.
            let text : spelled file ≡ spelled p.name = sym (equal_texts (spelled p.name) (spelled file) same) in
            ap (λ (name : List ℕ). item_at t (folder ++ 47 ∷ name)) text
            ∙ item_found t (finmap.get t.names (path_in folder p.name)) p.bytes (All-head (HasPart folder t) p ps are)
        | false ↦ λ differ. rest (λ text. let clash : true ≡ false = sym (same_text (spelled p.name))
            ∙ ap (bytes_eq (spelled p.name)) (sym text) ∙ differ in absurd (cc))
      ] refl

  item_whole : (parts : List Part) → IsWhole folder parts t → item_at t (path_in folder file) ≡ part_item file parts
  item_whole parts whole = item_parts parts whole.each
      (λ others. ap (option_map (item_of t.contents)) (whole.only (spelled file) others))

-- ---- two trees that have it whole

pub whole_reads : (folder : List ℕ) → is_folder_name folder ≡ true → (parts : List Part) (t u : Tree) → IsWhole folder parts t
    → IsWhole folder parts u → folder_reading folder u ≡ folder_reading folder t
unfolding folder_reading place_of
whole_reads folder named parts t u one two =
    let some : 1 ≤ length folder = folder_has_bytes folder named in
    let inner : [] ≢ folder = λ empty. omega (arith, some, ap (λ (p : List ℕ). length p) empty) in
    let files : files_in folder u ≡ files_in folder t = files_same t u folder some
    (λ file fits. item_whole folder u file parts two ∙ sym (item_whole folder t file parts one)) in
    let node : stands u.names folder ≡ stands t.names folder =
    sym (get_named u.names folder inner) ∙ two.stands ∙ sym one.stands ∙ get_named t.names folder inner in
    ap (λ (n : Option Node). as_shown folder (reading (place_by n (files_in folder u)))) node
    ∙ ap (λ (fs : Files). as_shown folder (reading (place_by (stands t.names folder) fs))) files

-- so it is sure
pub built_sure : (folder : List ℕ) → is_folder_name folder ≡ true → (parts : List Part) (x : disk.State)
    → IsBuilt folder parts x
    → (sure : Bool) → IsSure x (record { name = folder; reading = folder_reading folder (tree_now x); sure = sure })
built_sure folder named parts x built sure =
    let now = built_whole x folder parts (tree_now x) built (reads_image x) in
    record {
      there = λ u image. ap is_some (built_whole x folder parts u built image).stands;
      reads = λ u image. whole_reads folder named parts (tree_now x) u now (built_whole x folder parts u built image);
    }
