-- The tables of a folder that was found, as they are on the disk.
use Rattle.std.specs.Prelude.{◌≡◌, ◌≢◌, ℕ, ◌<◌, ◌≤◌, true, is_some, List, [], ◌∷◌, length, unwrap_or, slice_get, Contains, Option, Some, None, option_map, Result, Ok, Err}
use Rattle.std.specs.List.{list_all}
use Rattle.std.proofs.Common.{refl, sym, ap, subst, ◌∙◌, arith}
use Rattle.std.proofs.lemmas.List.Elements.{All-contains}
use Rattle.std.specs.FinMap as finmap
use Rattle.lsm_names.specs.Folders.{is_folder_name}
use Rattle.lsm_names.specs.FileNames.{IsFileName}
use Rattle.lsm_names.specs.declared.file_names.FileName.{FileName}
use Rattle.lsm_names.specs.declared.file_names.FileName.TheVariants.{Log, Table, Manifest, Temp, Current}
use Rattle.lsm_names.proofs.FolderLemmas.{folder_has_bytes}
use Rattle.lsm_rows.specs.declared.rows.Row.{Row}
use Rattle.lsm_rows.specs.Replay.{Contents}
use Rattle.lsm_disk.specs.Names.{Node, Folder_node, File_node, id_of, stands}
use Rattle.lsm_disk.specs.State as disk
use Rattle.lsm_disk.specs.State.{FileState, names_now, file_by, file_or, file_now}
use Rattle.lsm_disk.specs.Images.{Tree, bytes_by, bytes_at, tree_now}
use Rattle.lsm_disk.specs.Kept.{IsFileNow}
use Rattle.lsm_disk.specs.Dest.{path_in}
use Rattle.lsm_disk.specs.Building.{sealed}
use Rattle.lsm_disk.proofs.Lawful.{get_named}
use Rattle.lsm_disk.proofs.Named.{sure_same}
use Rattle.lsm_table.specs.declared.faults.TableFault.TheVariants.{Malformed}
use Rattle.lsm_table.specs.Opening.{footer_of}
use Rattle.lsm_table.specs.WholeTables.{IsTable}
use Rattle.lsm_table.proofs.WholeTables.{table_opens}
use Rattle.lsm_version.specs.declared.tables.Placed.{Placed}
use Rattle.lsm_folder.specs.declared.refusals.Refusal.{Refusal}
use Rattle.lsm_folder.specs.declared.refusals.Refusal.TheVariants.{NoCurrent}
use Rattle.lsm_folder.specs.Files.{Item, A_file, A_folder, Files, Stands_with, item_of, files_in, place_of}
use Rattle.lsm_folder.specs.Files as folder
use Rattle.lsm_folder.specs.Manifests.{tables_after}
use Rattle.lsm_folder.specs.Names.{name_cmp}
use Rattle.lsm_folder.specs.Needed.{Stands, is_aside, IsFresh, edits_at}
use Rattle.lsm_folder.specs.Reading.{edits_of}
use Rattle.lsm_folder.specs.Steps.{◌>>=◌}
use Rattle.lsm_folder.proofs.CurrentLemmas.{no_current}
use Rattle.lsm_folder.proofs.FileLemmas.{files_are, file_names, folder_place}
use Rattle.lsm_folder.proofs.LiveLemmas.{a_file}
use Rattle.lsm_refine.specs.Sane.{TablesAreSynced}
use Rattle.lsm_refine.specs.Grown.{IsDrawn}
use Rattle.lsm_refine.specs.FoundFolder.{Recovery, IsRecovery}
use Rattle.lsm_refine.proofs.ChangeLemmas.{file_of}
use Rattle.lsm_refine.proofs.FoundRows.{found_rows, found_table}

-- ---- a table has some bytes

table_some : (bytes : List ℕ) (rows : List Row) (number : ℕ) (session : List ℕ) → IsTable bytes rows number session → bytes ≢ []
unfolding footer_of
table_some bytes rows number session is none =
    let opens = table_opens bytes rows number session is in
    let clash : Err (Malformed 0) ≡ Ok opens.places = ap footer_of (sym none) ∙ opens.footer in
    cc

-- ---- a file in a folder

item_bytes : (t : Tree) (node : Option Node) (bytes : List ℕ) → bytes ≢ []
    → option_map (item_of t.contents) node ≡ Some (A_file bytes)
    → bytes_by (id_of node) t ≡ Some bytes
item_bytes t None bytes some is = absurd (cc)
item_bytes t (Some Folder_node) bytes some is = absurd (cc)
item_bytes t (Some (File_node id)) bytes some is = by (slice_get t.contents id) refl
  where
    same_file : (one two : List ℕ) → Some (A_file one) ≡ Some (A_file two) → one ≡ two
    same_file one two same = cc

    by : (o : Option (List ℕ)) → slice_get t.contents id ≡ o → slice_get t.contents id ≡ Some bytes
    by None at = absurd (some (sym (same_file (unwrap_or (slice_get t.contents id) []) bytes is)
        ∙ ap (λ (o : Option (List ℕ)). unwrap_or o []) at))
    by (Some held) at = at ∙ ap Some (sym (ap (λ (o : Option (List ℕ)). unwrap_or o []) at)
        ∙ same_file (unwrap_or (slice_get t.contents id) []) bytes is)

-- a file of a folder that has bytes is one of the tree
pub there_in : (dir : List ℕ) (t : Tree) (name : FileName) (bytes : List ℕ) → 1 ≤ length dir → bytes ≢ []
    → folder.file_at (files_in dir t) name ≡ Some bytes → IsFileName name × (bytes_at t (path_in dir name) ≡ Some bytes)
there_in dir t name bytes long some is =
    let item : finmap.get (files_in dir t) name ≡ Some (A_file bytes) = a_file (finmap.get (files_in dir t) name) bytes is in
    let fits : IsFileName name = file_names dir t name (A_file bytes) long item in (
      fits,
      item_bytes t (finmap.get t.names (path_in dir name)) bytes some (sym (files_are dir t name long fits) ∙ item),
    )

-- ---- a folder whose edits are read isn't fresh

none_aside : (es : List (FileName × Item)) → list_all is_aside es ≡ true → finmap.find name_cmp Current es ≡ None
none_aside [] h = refl
none_aside ((Log n, item) ∷ es) h = cc
none_aside ((Table n, item) ∷ es) h = cc
none_aside ((Manifest n, A_file bytes) ∷ es) h = none_aside es h
none_aside ((Manifest n, A_folder) ∷ es) h = cc
none_aside ((Temp n, A_file bytes) ∷ es) h = none_aside es h
none_aside ((Temp n, A_folder) ∷ es) h = cc
none_aside ((Current, item) ∷ es) h = cc

fresh_files : (files : Files) → IsFresh (Stands_with files) → edits_at files ≡ Err NoCurrent
unfolding IsFresh
fresh_files files fresh =
    let none : folder.file_at files Current ≡ None =
    ap folder.bytes_in (finmap.get-entries files Current ∙ none_aside (finmap.entries files) fresh) in
    ap (λ (r : Result ℕ Refusal). r >>= edits_of files) (sym (no_current files (sym none)))

pub read_not_fresh : (d : disk.State) (dir : List ℕ) (r : Recovery) → is_folder_name dir ≡ true → IsRecovery d dir r
    → IsFresh (place_of dir (tree_now d)) → ⊥
read_not_fresh d dir r named is fresh =
    let long : 1 ≤ length dir = folder_has_bytes dir named in
    let node : stands (names_now d) dir ≡ Some Folder_node =
    sym (get_named (names_now d) dir (λ empty. omega (arith, long, ap (λ (p : List ℕ). length p) empty))) ∙ is.folder in
    let none = fresh_files (files_in dir (tree_now d)) (subst IsFresh (folder_place dir (tree_now d) node) fresh) in
    let clash : Err NoCurrent ≡ Ok r.edits = sym none ∙ is.read.edits_are in
    cc

-- ---- the tables

-- the file of a table is there now with its bytes, all of them synced
pub record IsTableNow (d : disk.State) (dir : List ℕ) (number : ℕ) (placed : Placed) (rows : List Row) : Type 0 where
  pub numbered : IsFileName (Table number)
  pub bytes : List ℕ
  pub id : ℕ
  pub file : IsFileNow d (path_in dir (Table number)) id (sealed bytes)
  pub table : IsTable bytes rows number placed.info.session
  pub size : length bytes ≡ placed.info.size

module _ (d : disk.State) (dir : List ℕ) (named : is_folder_name dir ≡ true) (r : Recovery) (is : IsRecovery d dir r)
    (contents : Contents) (sequence : ℕ) (found : Stands (files_in dir (tree_now d)) contents sequence) where
  abbrev files : Files
  files = files_in dir (tree_now d)

  abbrev path : ℕ → List ℕ
  path number = path_in dir (Table number)

  table_at : (number : ℕ) (placed : Placed) (listed : finmap.get (tables_after r.edits) number ≡ Some placed)
      → let has = found_table files r is.read contents sequence found number placed listed in
      IsFileName (Table number) × (bytes_at (tree_now d) (path_in dir (Table number)) ≡ Some has.bytes)
  table_at number placed listed =
      let has = found_table files r is.read contents sequence found number placed listed in
      there_in dir (tree_now d) (Table number) has.bytes (folder_has_bytes dir named)
      (table_some has.bytes (found_rows files r is.read contents sequence found number) number placed.info.session has.table)
      has.there

  -- the number of each table was drawn
  pub table_below : (number : ℕ) (placed : Placed) → finmap.get (tables_after r.edits) number ≡ Some placed → number < r.next
  table_below number placed listed =
      let has = found_table files r is.read contents sequence found number placed listed in
      let at = table_at number placed listed in
      let file = file_of d (path number) has.bytes at.1 in
      All-contains (IsDrawn r.next) r.names (Table number) is.planned.behind
      ((is.names.are (Table number) at.0).1 (ap is_some file.2.named))

  pub table_now : TablesAreSynced d dir → (number : ℕ) (placed : Placed)
      → finmap.get (tables_after r.edits) number ≡ Some placed
      → IsTableNow d dir number placed (found_rows (files_in dir (tree_now d)) r is.read contents sequence found number)
  table_now synced number placed listed =
      let has = found_table files r is.read contents sequence found number placed listed in
      let at = table_at number placed listed in
      let file = file_of d (path number) has.bytes at.1 in
      let f : FileState = file.1 in
      let same : file_now (path number) d ≡ f =
      ap (λ (o : Option ℕ). file_by o d) (ap id_of file.2.named) ∙ ap file_or file.2.file in
      let all : f.unsynced ≡ [] =
      ap (λ (g : FileState). g.unsynced) (sym same) ∙ synced r.edits number placed is.read.edits_are listed in
      record {
        numbered = at.0;
        bytes = has.bytes;
        id = file.0;
        file = record {
          named = file.2.named;
          file = file.2.file ∙ ap Some (sure_same f all ∙ ap sealed file.3);
        };
        table = has.table;
        size = has.size;
      }

-- CURRENT is one of the names
name_there : (dir : List ℕ) (t : Tree) (name : FileName) (bytes : List ℕ) → 1 ≤ length dir → IsFileName name
    → folder.file_at (files_in dir t) name ≡ Some bytes → is_some (finmap.get t.names (path_in dir name)) ≡ true
name_there dir t name bytes long fits is =
    by (finmap.get t.names (path_in dir name)) (sym (files_are dir t name long fits)
    ∙ a_file (finmap.get (files_in dir t) name) bytes is)
  where
    by : (node : Option Node) → option_map (item_of t.contents) node ≡ Some (A_file bytes) → is_some node ≡ true
    by None is = cc
    by (Some node) is = refl

pub current_there : (d : disk.State) (dir : List ℕ) (r : Recovery) → is_folder_name dir ≡ true → IsRecovery d dir r
    → Contains r.names Current
current_there d dir r named is = by (folder.file_at (files_in dir (tree_now d)) Current) refl
  where
    by : (o : Option (List ℕ)) → folder.file_at (files_in dir (tree_now d)) Current ≡ o → Contains r.names Current
    by (Some bytes) there = (is.names.are Current tt).1
        (name_there dir (tree_now d) Current bytes (folder_has_bytes dir named) tt there)
    by None none =
        let clash : Err NoCurrent ≡ Ok r.edits =
        ap (λ (q : Result ℕ Refusal). q >>= edits_of (files_in dir (tree_now d)))
        (no_current (files_in dir (tree_now d)) (sym none)) ∙ is.read.edits_are in
        absurd (cc)
