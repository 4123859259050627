-- A restored folder has just its parts, which are what the backup holds, and so it reads as they do.
use Rattle.std.specs.Prelude.{◌≡◌, ◌≢◌, ℕ, ◌≤◌, Bool, true, false, cond, not, List, [], ◌∷◌, ◌++◌, length, All, Option, Some, None, option_map, Ok}
use Rattle.std.proofs.Common.{refl, sym, ap, subst, ◌∙◌}
use Rattle.std.proofs.lemmas.List.Elements.{All-from_recursion, recursion_from_All}
use Rattle.std.specs.List.{AllByRecursion, filter}
use Rattle.std.specs.Ordering.{eq_by_cmp}
use Rattle.std.specs.FinMap as map
use Rattle.lsm_names.specs.declared.file_names.FileName.{FileName}
use Rattle.lsm_names.specs.declared.file_names.FileName.TheVariants.{Log, Table, Manifest, Temp, Current}
use Rattle.lsm_names.specs.FileNames.{spelled, IsFileName}
use Rattle.lsm_names.proofs.FileNameLemmas.{spelled_injective}
use Rattle.lsm_rows.specs.Replay.{Contents}
use Rattle.lsm_disk.specs.Names.{Folder_node, stands}
use Rattle.lsm_disk.specs.State.{State, Story, state_of}
use Rattle.lsm_disk.specs.Images.{Tree, IsImage, bytes_at, tree_now}
use Rattle.lsm_disk.specs.Dest.{path_in}
use Rattle.lsm_disk.specs.Building.{Part, names_of, HasPart, IsWhole, IsBuilt}
use Rattle.lsm_disk.proofs.Built.{built_whole}
use Rattle.lsm_folder.specs.Names.{name_cmp, names_total, names_exact}
use Rattle.lsm_folder.specs.Files.{Item, A_file, Files, Place, Stands_with, item_of, files_in, place_of}
use Rattle.lsm_folder.specs.Reading.{reading}
use Rattle.lsm_folder.specs.Needed.{Stands}
use Rattle.lsm_folder.proofs.FileLemmas.{same_name, name_itself, files_are, file_is, file_names, folder_place}
use Rattle.bk_meta.specs.declared.backup_files.BackupFile.{BackupFile}
use Rattle.bk_meta.specs.declared.backup_files.BackupFile.TheVariants.{Private, Shared}
use Rattle.bk_meta.specs.declared.metas.MetaFile.{MetaFile}
use Rattle.bk_meta.specs.declared.metas.Meta.{Meta}
use Rattle.bk_meta.specs.BackupFiles.{IsBackupFile}
use Rattle.bk_meta.proofs.FileLemmas.{path_spells}
use Rattle.bk_tree.specs.Holds.{store_name, meta_in, held}
use Rattle.bk_restore.specs.Wrong.{others, currents}
use Rattle.bk_restore.specs.Restored.{AreRestored, IsFolderOf}
use Rattle.bk_restore.specs.Held.{entries_of_parts, files_of, is_current_name, current_first}
use Rattle.bk_restore.proofs.Holding.{parts_held}
use Rattle.lsm_disk.proofs.Files.{same_some}

-- ---- the files of a folder are its parts

module _ (dir : List ℕ) (t : Tree) where
  -- the name is a part's, whose bytes the folder has
  record IsThere (name : FileName) (item : Item) : Type 0 where
    bytes : List ℕ
    fits : IsFileName name
    is : item ≡ A_file bytes
    at : bytes_at t (path_in dir name) ≡ Some bytes

  there_by : (name : FileName) (part : Part) (parts : List Part) (item : Item) (b : Bool) → eq_by_cmp name_cmp name part.name ≡ b → HasPart dir t part → IsFileName part.name
      → (map.find name_cmp name (entries_of_parts parts) ≡ Some item → IsThere name item) → cond b (Some (A_file part.bytes)) (map.find name_cmp name (entries_of_parts parts)) ≡ Some item → IsThere name item
  there_by name part parts item true same has fits rest is =
      let equal : part.name ≡ name = sym (same_name name part.name same) in
      record {
        bytes = part.bytes;
        fits = subst IsFileName equal fits;
        is = sym (same_some (A_file part.bytes) item is);
        at = subst (λ (n : FileName). bytes_at t (path_in dir n) ≡ Some part.bytes) equal has;
      }
  there_by name part parts item false other has fits rest is = rest is

  found_there : (name : FileName) (parts : List Part) (item : Item) → AllByRecursion (HasPart dir t) parts → AllByRecursion IsFileName (names_of parts)
      → map.find name_cmp name (entries_of_parts parts) ≡ Some item → IsThere name item
  found_there name [] item has fits is = cc
  found_there name (part ∷ parts) item has fits is = there_by name part parts item (eq_by_cmp name_cmp name part.name) refl has.0 fits.0 (found_there name parts item has.1 fits.1) is

abbrev Others : FileName → List FileName → Type 0
Others name names = AllByRecursion (λ (other : FileName). spelled name ≢ spelled other) names

other_by : (name : FileName) (part : Part) (parts : List Part) (b : Bool) → eq_by_cmp name_cmp name part.name ≡ b → IsFileName name → IsFileName part.name
    → (map.find name_cmp name (entries_of_parts parts) ≡ None → Others name (names_of parts)) → cond b (Some (A_file part.bytes)) (map.find name_cmp name (entries_of_parts parts)) ≡ None → Others name (names_of (part ∷ parts))
other_by name part parts true same known fits rest none = cc
other_by name part parts false other known fits rest none = (differs, rest none) where
  differs : spelled name ≢ spelled part.name
  differs same =
      let clash : true ≡ false = sym (name_itself part.name) ∙ ap (λ (n : FileName). eq_by_cmp name_cmp n part.name) (sym (spelled_injective name part.name known fits same)) ∙ other in
      cc

-- a name that isn't found is spelled otherwise than each part's
not_among : (name : FileName) (parts : List Part) → IsFileName name → AllByRecursion IsFileName (names_of parts) → map.find name_cmp name (entries_of_parts parts) ≡ None → Others name (names_of parts)
not_among name [] known fits none = tt
not_among name (part ∷ parts) known fits none = other_by name part parts (eq_by_cmp name_cmp name part.name) refl known fits.0 (not_among name parts known fits.1) none

module _ (dir : List ℕ) (t : Tree) (whole : List Part) (named : 1 ≤ length dir) (fits : All IsFileName (names_of whole)) (is : IsWhole dir whole t) where
  get_parts : (name : FileName) → map.get (files_of whole) name ≡ map.find name_cmp name (entries_of_parts whole)
  get_parts name = map.get-from_entries names_total (entries_of_parts whole) name

  names_fit : AllByRecursion IsFileName (names_of whole)
  names_fit = recursion_from_All IsFileName (names_of whole) fits

  not_there : (name : FileName) (o : Option Item) → map.find name_cmp name (entries_of_parts whole) ≡ None → map.get (files_in dir t) name ≡ o → o ≡ None
  not_there name None none at = refl
  not_there name (Some item) none at =
      let known : IsFileName name = file_names dir t name item named at in
      let gone : map.get t.names (path_in dir name) ≡ None = is.only (spelled name) (All-from_recursion (λ (other : FileName). spelled name ≢ spelled other) (names_of whole) (not_among name whole known names_fit none)) in
      sym at ∙ files_are dir t name named known ∙ ap (option_map (item_of t.contents)) gone

  by_found : (name : FileName) (o : Option Item) → map.find name_cmp name (entries_of_parts whole) ≡ o → map.get (files_in dir t) name ≡ o
  by_found name None none = not_there name (map.get (files_in dir t) name) none refl
  by_found name (Some item) found =
      let there = found_there dir t name whole item (recursion_from_All (HasPart dir t) whole is.each) names_fit found in
      file_is dir t name there.bytes named there.fits there.at ∙ ap Some (sym there.is)

  same_files : files_in dir t ≡ files_of whole
  same_files = map.same_map names_total names_exact (files_in dir t) (files_of whole)
      (λ name. by_found name (map.find name_cmp name (entries_of_parts whole)) refl ∙ sym (get_parts name))

-- a folder that has a name stands where its name leads to a folder
stands_named : (dir : List ℕ) (t : Tree) → map.get t.names dir ≡ Some Folder_node → stands t.names dir ≡ Some Folder_node
stands_named [] t is = refl
stands_named (c ∷ dir) t is = is

module _ (s : State) (dir : List ℕ) (whole : List Part) (t : Tree) (named : 1 ≤ length dir) (fits : All IsFileName (names_of whole)) (built : IsBuilt dir whole s) (image : IsImage s t) where
  pub built_place : place_of dir t ≡ Stands_with (files_of whole)
  built_place =
      let is : IsWhole dir whole t = built_whole s dir whole t built image in
      folder_place dir t (stands_named dir t is.stands) ∙ ap (λ (files : Files). Stands_with files) (same_files dir t whole named fits is)

  pub built_reads : (contents : Contents) (sequence : ℕ) → Stands (files_of whole) contents sequence → reading (place_of dir t) ≡ Ok (record { sequence = sequence; contents = contents })
  built_reads contents sequence standing = ap (λ (place : Place). reading place) built_place ∙ standing.read

-- ---- the names of restored parts

store_name_fits : (which : BackupFile) → IsBackupFile which → IsFileName (store_name which)
store_name_fits (Private (Log number)) h = h
store_name_fits (Private (Table number)) h = absurd h
store_name_fits (Private (Manifest number)) h = h
store_name_fits (Private (Temp number)) h = absurd h
store_name_fits (Private Current) h = tt
store_name_fits (Shared name) h = h.number

names_restored : (id : ℕ) (told : Option Story) (files : List MetaFile) (parts : List Part) → AreRestored id told files parts → AllByRecursion IsFileName (names_of parts)
names_restored id told [] [] is = tt
names_restored id told [] (part ∷ parts) is = absurd is
names_restored id told (file ∷ files) [] is = absurd is
names_restored id told (file ∷ files) (part ∷ parts) is =
    (subst IsFileName (sym is.0.name) (store_name_fits is.0.which (path_spells id file.path is.0.which is.0.named).0), names_restored id told files parts is.1)

pub restored_names : (meta : Meta) (told : Option Story) (whole : List Part) → IsFolderOf meta told whole → All IsFileName (names_of whole)
restored_names meta told whole is = All-from_recursion IsFileName (names_of whole) (names_restored meta.id told (currents meta.id meta.files ++ others meta.id meta.files) whole is)

-- ---- `CURRENT` first is the same folder

abbrev found_in : FileName → List Part → Option Item
found_in name parts = map.find name_cmp name (entries_of_parts parts)

abbrev or_else : Option Item → Option Item → Option Item
or_else None next = next
or_else (Some item) next = Some item

or_none : (o : Option Item) → or_else o None ≡ o
or_none None = refl
or_none (Some item) = refl

by_test : (b : Bool) (item : Item) (o next : Option Item) → cond b (Some item) (or_else o next) ≡ or_else (cond b (Some item) o) next
by_test true item o next = refl
by_test false item o next = refl

found_append : (name : FileName) (front back : List Part) → found_in name (front ++ back) ≡ or_else (found_in name front) (found_in name back)
found_append name [] back = refl
found_append name (part ∷ front) back =
    ap (cond (eq_by_cmp name_cmp name part.name) (Some (A_file part.bytes))) (found_append name front back)
    ∙ by_test (eq_by_cmp name_cmp name part.name) (A_file part.bytes) (found_in name front) (found_in name back)

module _ (test : FileName → Bool) (name : FileName) where
  abbrev chosen : List Part → List Part
  chosen parts = filter (λ (part : Part). test part.name) parts

  -- another part than those that are chosen
  passed : (part : Part) (rest : Option Item) (b : Bool) → eq_by_cmp name_cmp name part.name ≡ b → test part.name ≡ false → test name ≡ true → cond b (Some (A_file part.bytes)) rest ≡ rest
  passed part rest true same out is = let clash : true ≡ false = sym is ∙ ap test (same_name name part.name same) ∙ out in cc
  passed part rest false other out is = refl

  found_by : (part : Part) (parts : List Part) (b : Bool) → test part.name ≡ b → test name ≡ true → found_in name (chosen parts) ≡ found_in name parts
      → found_in name (cond b (part ∷ chosen parts) (chosen parts)) ≡ found_in name (part ∷ parts)
  found_by part parts true is chosen_so rest = ap (cond (eq_by_cmp name_cmp name part.name) (Some (A_file part.bytes))) rest
  found_by part parts false is chosen_so rest = rest ∙ sym (passed part (found_in name parts) (eq_by_cmp name_cmp name part.name) refl is chosen_so)

  found_chosen : (parts : List Part) → test name ≡ true → found_in name (chosen parts) ≡ found_in name parts
  found_chosen [] is = refl
  found_chosen (part ∷ parts) is = found_by part parts (test part.name) refl is (found_chosen parts is)

  lost_at : (part : Part) (rest : Option Item) (b : Bool) → eq_by_cmp name_cmp name part.name ≡ b → test part.name ≡ true → test name ≡ false → rest ≡ None → cond b (Some (A_file part.bytes)) rest ≡ None
  lost_at part rest true same in_ is none = let clash : false ≡ true = sym is ∙ ap test (same_name name part.name same) ∙ in_ in cc
  lost_at part rest false other in_ is none = none

  lost_by : (part : Part) (parts : List Part) (b : Bool) → test part.name ≡ b → test name ≡ false → found_in name (chosen parts) ≡ None → found_in name (cond b (part ∷ chosen parts) (chosen parts)) ≡ None
  lost_by part parts true is out none = lost_at part (found_in name (chosen parts)) (eq_by_cmp name_cmp name part.name) refl is out none
  lost_by part parts false is out none = none

  lost_chosen : (parts : List Part) → test name ≡ false → found_in name (chosen parts) ≡ None
  lost_chosen [] out = refl
  lost_chosen (part ∷ parts) out = lost_by part parts (test part.name) refl out (lost_chosen parts out)

abbrev is_other : FileName → Bool
is_other name = not (is_current_name name)

found_first : (name : FileName) (parts : List Part) (b : Bool) → is_current_name name ≡ b → found_in name (current_first parts) ≡ found_in name parts
found_first name parts true is =
    found_append name (chosen is_current_name name parts) (chosen is_other name parts)
    ∙ (λ i. or_else (found_chosen is_current_name name parts is i) (lost_chosen is_other name parts (ap not is) i))
    ∙ or_none (found_in name parts)
found_first name parts false is =
    found_append name (chosen is_current_name name parts) (chosen is_other name parts)
    ∙ λ i. or_else (lost_chosen is_current_name name parts is i) (found_chosen is_other name parts (ap not is) i)

same_first : (parts : List Part) → files_of (current_first parts) ≡ files_of parts
same_first parts = map.same_map names_total names_exact (files_of (current_first parts)) (files_of parts)
    (λ name. map.get-from_entries names_total (entries_of_parts (current_first parts)) name ∙ found_first name parts (is_current_name name) refl ∙ sym (map.get-from_entries names_total (entries_of_parts parts) name))

pub restored_held : (story : Story) (meta : Meta) (whole : List Part) → meta_in (tree_now (state_of story)) meta.id ≡ Some meta → IsFolderOf meta (Some story) whole → held (tree_now (state_of story)) meta.id ≡ Some (files_of whole)
restored_held story meta whole there is =
    let found = parts_held story meta whole there is in
    found.2 ∙ ap (λ (files : Files). Some files) (sym (same_first found.0) ∙ ap files_of (sym found.1))

-- what the backup stands for, the restored folder stands for
pub restored_stands : (story : Story) (meta : Meta) (whole : List Part) (files : Files) (contents : Contents) (sequence : ℕ) → meta_in (tree_now (state_of story)) meta.id ≡ Some meta → held (tree_now (state_of story)) meta.id ≡ Some files
    → Stands files contents sequence → IsFolderOf meta (Some story) whole → Stands (files_of whole) contents sequence
restored_stands story meta whole files contents sequence there holds standing is =
    subst (λ (f : Files). Stands f contents sequence) (same_some files (files_of whole) (sym holds ∙ restored_held story meta whole there is)) standing
