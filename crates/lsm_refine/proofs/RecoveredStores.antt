-- What an opening leaves of a folder that stood is so as the store keeps it, now and after each crash.
use Rattle.std.specs.Prelude.{◌≡◌, ◌≢◌, ℕ, ◌+◌, ◌<◌, ◌≤◌, Bool, true, false, cond, is_some, List, [], ◌∷◌, take, length, All, Contains, Option, Some, None}
use Rattle.std.specs.List.Sorted.{IsStrictlySortedBy}
use Rattle.std.specs.Ordering.{nat_cmp, eq_by_cmp}
use Rattle.std.specs.Cmp.{nat_cmp_total}
use Rattle.std.specs.FinMap as finmap
use Rattle.std.proofs.Common.{⊎_elim, inl, inr, refl, sym, ap, subst, ◌∙◌, arith}
use Rattle.std.proofs.lemmas.List.{append-nil}
use Rattle.std.proofs.lemmas.List.Elements.{All-nil, All-cons, All-head, All-tail, All-append, All-weaker, All-contains, All-contains_itself}
use Rattle.lsm_names.specs.Folders.{is_folder_name}
use Rattle.lsm_names.specs.FileNames.{IsFileName, is_file_number, spelled}
use Rattle.lsm_names.specs.declared.file_names.FileName.{FileName}
use Rattle.lsm_names.specs.declared.file_names.FileName.TheVariants.{Log, Table, Manifest, Temp, Current}
use Rattle.lsm_rows.specs.declared.operations.Op.{Op}
use Rattle.lsm_rows.specs.declared.rows.Row.{Row}
use Rattle.lsm_rows.specs.Replay.{Contents}
use Rattle.lsm_disk.specs.Names.{Node, NameOp, Folder_node, File_node, all_named, id_of}
use Rattle.lsm_disk.specs.State as disk
use Rattle.lsm_disk.specs.State.{names_now, file_at}
use Rattle.lsm_disk.specs.Images.{bytes_at, tree_now}
use Rattle.lsm_disk.specs.Kept.{IsKeptName, OpSpares}
use Rattle.lsm_disk.specs.Dest.{path_in}
use Rattle.lsm_disk.specs.Building.{sealed}
use Rattle.lsm_disk.specs.Viewed.{Viewed}
use Rattle.lsm_disk.proofs.Cuts.{take_none}
use Rattle.lsm_disk.proofs.Images.{reads_image}
use Rattle.lsm_disk.proofs.Kept.{kept_at}
use Rattle.lsm_table.specs.WholeTables.{IsTable}
use Rattle.lsm_version.specs.declared.tables.Placed.{Placed}
use Rattle.lsm_version.specs.Levels.{Tables}
use Rattle.lsm_wal.specs.Batches.{IsLogged}
use Rattle.lsm_wal.specs.Standing.{IsWal}
use Rattle.lsm_folder.specs.Files.{files_in}
use Rattle.lsm_folder.specs.Manifests.{tables_after, last_after}
use Rattle.lsm_folder.specs.Needed.{Stands}
use Rattle.lsm_refine.specs.Kept.{Kept, Unfinished}
use Rattle.lsm_refine.specs.Parts.{Parts}
use Rattle.lsm_refine.specs.Sane.{IsWholeFile, IsAlone, HasEdits, HasTables, HasLogs, MayStand, AreFiles, TablesAreSynced, Sane}
use Rattle.lsm_refine.specs.Among.{IsElsewhere}
use Rattle.lsm_refine.specs.Flushed.{at_top, rows_with}
use Rattle.lsm_refine.specs.Grown.{IsDrawn}
use Rattle.lsm_refine.specs.FoundFolder.{NewTable, Recovery, TakesRows, IsRecovery, HasNewTable, HasRecovered, TellTables, HasAdded, new_manifest, new_log, table_names, added_names, opening_names, version_with, rows_beside, new_version, opening_edits, recovered_kept}
use Rattle.lsm_version.proofs.TableMaps.{same_number}
use Rattle.lsm_refine.proofs.AmongLemmas.{file_among, bytes_among}
use Rattle.lsm_refine.proofs.ChangeLemmas.{at_cut, bytes_now}
use Rattle.lsm_refine.proofs.FileLemmas.{whole_image}
use Rattle.lsm_refine.proofs.FlushedLemmas.{all_left, all_right, tied_same, rows_here, rows_there}
use Rattle.lsm_refine.proofs.FoundRows.{found_rows}
use Rattle.lsm_refine.proofs.FoundTables.{table_below, table_now, current_there}
use Rattle.lsm_refine.proofs.NewLemmas.{none_of_none, among_or_not}
use Rattle.lsm_refine.proofs.RecoveredRows.{lesser_number, next_least, recovered_are, recovered_tables, recovered_log, recovered_last, recovered_lawful}
use Rattle.lsm_refine.proofs.SwitchedLemmas.{dir_elsewhere, name_elsewhere, files_among}

-- ---- a disk without pending operations

-- each name leads there after each crash too
pub settled_name : (d : disk.State) (path : List ℕ) (what : Option Node) → d.pending ≡ [] → finmap.get (names_now d) path ≡ what
    → IsKeptName d path what
settled_name d path what none is k =
    ap (λ (ops : List NameOp). finmap.get (all_named (take k ops) d.durable) path) none
    ∙ ap (λ (ops : List NameOp). finmap.get (all_named ops d.durable) path) (take_none k)
    ∙ sym (ap (λ (ops : List NameOp). finmap.get (all_named ops d.durable) path) none) ∙ is

-- what stands there is a file
file_there : (o : Option Node) → is_some o ≡ true → o ≢ Some Folder_node → is_some (id_of o) ≡ true
file_there None some other = cc
file_there (Some Folder_node) some other = absurd (other refl)
file_there (Some (File_node id)) some other = refl

-- what holds of the table's name, where there is one
pub table_each : (P : FileName → Type 0) (first : ℕ) (batches : List (List Op)) (next : ℕ) (o : Option NewTable)
    → TakesRows first batches next o → P (Table next) → All P (table_names o)
table_each P first batches next None takes is = All-nil P
table_each P first batches next (Some new) takes is =
    All-cons P (Table new.info.number) [] (subst (λ (n : ℕ). P (Table n)) (sym takes.0) is) (All-nil P)

module _ (d later : disk.State) (dir : List ℕ) (named : is_folder_name dir ≡ true) (r : Recovery) (is : IsRecovery d dir r)
    (has : HasRecovered d later dir r) (contents : Contents) (sequence : ℕ)
    (stands : Stands (files_in dir (tree_now d)) contents sequence) (synced : TablesAreSynced d dir)
    (files : AreFiles d dir) where
  abbrev m : ℕ
  m = new_manifest r

  abbrev l : ℕ
  l = new_log r

  abbrev names : List FileName
  names = opening_names r

  abbrev old : Tables
  old = tables_after r.edits

  abbrev first : ℕ
  first = last_after r.edits + 1

  abbrev found : ℕ → List Row
  found = found_rows (files_in dir (tree_now d)) r is.read contents sequence stands

  below : (number : ℕ) (placed : Placed) → finmap.get old number ≡ Some placed → number < r.next
  below = table_below d dir named r is contents sequence stands

  -- ---- the names that change

  fits_by : (number : ℕ) → r.next ≤ number → number ≤ l → is_file_number number ≡ true
  fits_by number least most = lesser_number number l is.planned.fits (omega (arith, is.planned.some, least)) most

  next_m : r.next ≤ m
  next_m = next_least r.table r.next

  each_name : (P : FileName → Type 0) → P (Table r.next) → P (Manifest m) → P (Temp m) → P Current → P (Log l)
      → All P (opening_names r)
  each_name P table manifest temp current log =
      All-append P (table_names r.table) (Manifest m ∷ Temp m ∷ Current ∷ Log l ∷ [])
      (table_each P first r.batches r.next r.table is.planned.takes table)
      (All-cons P (Manifest m) (Temp m ∷ Current ∷ Log l ∷ []) manifest
      (All-cons P (Temp m) (Current ∷ Log l ∷ []) temp
      (All-cons P Current (Log l ∷ []) current (All-cons P (Log l) [] log (All-nil P)))))

  manifest_fits : IsFileName (Manifest m)
  manifest_fits = fits_by m next_m (omega arith)

  table_fits : IsFileName (Table r.next)
  table_fits = fits_by r.next (omega arith) (omega (arith, next_m))

  -- each of these names is a file's
  pub all_fit : All IsFileName (opening_names r)
  all_fit = each_name IsFileName table_fits manifest_fits manifest_fits tt is.planned.fits

  elsewhere : (name : FileName) → IsFileName name → All (λ (n : FileName). name ≢ n) names
      → IsElsewhere dir names (path_in dir name)
  elsewhere = name_elsewhere dir named names all_fit d later has.among

  -- a name from before is none of them but for CURRENT
  drawn_apart : (name : FileName) → IsDrawn r.next name → name ≢ Current → All (λ (n : FileName). name ≢ n) (opening_names r)
  drawn_apart (Log number) drawn other =
      each_name (λ (n : FileName). Log number ≢ n) (λ same. cc) (λ same. cc) (λ same. cc) other
      (λ same. let equal : number ≡ l = cc in omega (arith, drawn, next_m, equal))
  drawn_apart (Table number) drawn other =
      each_name (λ (n : FileName). Table number ≢ n) (λ same. let equal : number ≡ r.next = cc in omega (arith, drawn, equal))
      (λ same. cc) (λ same. cc) other (λ same. cc)
  drawn_apart (Manifest number) drawn other =
      each_name (λ (n : FileName). Manifest number ≢ n) (λ same. cc)
      (λ same. let equal : number ≡ m = cc in omega (arith, drawn, next_m, equal)) (λ same. cc) other (λ same. cc)
  drawn_apart (Temp number) drawn other =
      each_name (λ (n : FileName). Temp number ≢ n) (λ same. cc) (λ same. cc)
      (λ same. let equal : number ≡ m = cc in omega (arith, drawn, next_m, equal)) other (λ same. cc)
  drawn_apart Current drawn other = absurd (other refl)

  -- ---- tables

  -- a table is there for good with its rows
  record IsWholeTable (number : ℕ) (placed : Placed) (rows : List Row) : Type 0 where
    numbered : IsFileName (Table number)
    bytes : List ℕ
    file : IsWholeFile later (path_in dir (Table number)) bytes
    table : IsTable bytes rows number placed.info.session
    size : length bytes ≡ placed.info.size

  abbrev path : ℕ → List ℕ
  path number = path_in dir (Table number)

  table_elsewhere : (number : ℕ) → IsFileName (Table number) → number < r.next
      → IsElsewhere dir names (path_in dir (Table number))
  table_elsewhere number fits less = elsewhere (Table number) fits (drawn_apart (Table number) less (λ same. cc))

  old_table : (number : ℕ) (placed : Placed) → finmap.get old number ≡ Some placed → IsWholeTable number placed (found number)
  old_table number placed listed =
      let now = table_now d dir named r is contents sequence stands synced number placed listed in
      let kept = has.among.files (path number) now.id (sealed now.bytes)
      (table_elsewhere number now.numbered (below number placed listed)) now.file in
      record {
        numbered = now.numbered;
        bytes = now.bytes;
        file = record {
          id = now.id;
          file = record {
            named = settled_name later (path number) (Some (File_node now.id)) has.replaced.quiet kept.named;
            file = kept.file;
          };
        };
        table = now.table;
        size = now.size;
      }

  table_by : (o : Option NewTable) → TakesRows first r.batches r.next o → HasNewTable later dir o
      → (number : ℕ) (placed : Placed) → finmap.get (version_with o old) number ≡ Some placed → IsWholeTable number placed (rows_beside o found number)
  table_by None takes new number placed listed = old_table number placed listed
  table_by (Some t) takes new number placed listed =
      by (eq_by_cmp nat_cmp number t.info.number) refl
      (sym (finmap.get-insert nat_cmp_total old t.info.number (at_top t.info) number) ∙ listed)
    where
      placed_once : (a b : Placed) → Some a ≡ Some b → a ≡ b
      placed_once a b same = cc

      here : IsWholeTable t.info.number (at_top t.info) t.rows
      here = record {
        numbered = subst (λ (n : ℕ). IsFileName (Table n)) (sym takes.0) table_fits;
        bytes = new.bytes;
        file = new.file;
        table = new.table;
        size = new.size;
      }

      by : (b : Bool) → eq_by_cmp nat_cmp number t.info.number ≡ b
          → cond (eq_by_cmp nat_cmp number t.info.number) (Some (at_top t.info)) (finmap.get old number) ≡ Some placed
          → IsWholeTable number placed (rows_with t.info.number t.rows found number)
      by true same at =
          let number_is : number ≡ t.info.number = same_number number t.info.number same in
          let placed_is : at_top t.info ≡ placed = placed_once (at_top t.info) placed
          (ap (λ (b : Bool). cond b (Some (at_top t.info)) (finmap.get old number)) (sym same) ∙ at) in
          subst (λ (n : ℕ). IsWholeTable n placed (rows_with t.info.number t.rows found n)) (sym number_is)
          (subst (IsWholeTable t.info.number placed) (sym (rows_here t.info.number t.rows found))
          (subst (λ (p : Placed). IsWholeTable t.info.number p t.rows) placed_is here))
      by false other at =
          let listed_before : finmap.get old number ≡ Some placed =
          ap (λ (b : Bool). cond b (Some (at_top t.info)) (finmap.get old number)) (sym other) ∙ at in
          subst (IsWholeTable number placed)
          (sym (rows_there t.info.number t.rows found number
          (λ same. omega (arith, below number placed listed_before, takes.0, same)))) (old_table number placed listed_before)

  module _ (views : finmap.FinMap nat_cmp Viewed) (tell : TellTables d later dir r views) where
    -- a view of a table tells its bytes
    view_tells : (number : ℕ) (placed : Placed) (rows : List Row) (whole : IsWholeTable number placed rows) (view : Viewed)
        → finmap.get views number ≡ Some view → view.bytes ≡ Some whole.bytes
    view_tells number placed rows whole view at = ⊎_elim (λ before. by_old (finmap.get old number) refl before.0 before.1)
        (λ now. now ∙ later_bytes) (tell number view at)
      where
        later_bytes : bytes_at (tree_now later) (path number) ≡ Some whole.bytes
        later_bytes = whole_image later (path number) whole.bytes whole.file (tree_now later) (reads_image later)

        by_old : (o : Option Placed) → finmap.get old number ≡ o → is_some (finmap.get old number) ≡ true
            → view.bytes ≡ bytes_at (tree_now d) (path number) → view.bytes ≡ Some whole.bytes
        by_old None is_none some tells = let clash : false ≡ true = sym (ap is_some is_none) ∙ some in absurd (cc)
        by_old (Some before) listed some tells =
            let now = table_now d dir named r is contents sequence stands synced number before listed in
            let had : bytes_at (tree_now d) (path number) ≡ Some now.bytes =
            bytes_now d (path number) now.id (sealed now.bytes) now.file ∙ ap Some (append-nil now.bytes) in
            let stays = bytes_among dir names d later has.among (path number)
            (table_elsewhere number now.numbered (below number before listed)) now.bytes had in
            tells ∙ had ∙ sym stays ∙ later_bytes

    has_tables : (known : List FileName) → HasTables later dir (recovered_kept r views known) (rows_beside r.table found)
    has_tables known = record {
      each = λ number placed listed.
          let whole = table_by r.table is.planned.takes has.table number placed listed in
          record {
            numbered = whole.numbered;
            bytes = whole.bytes;
            file = whole.file;
            table = whole.table;
            size = whole.size;
            viewed = view_tells number placed (rows_beside r.table found number) whole;
          };
    }

  -- ---- the folder and its manifest

  folder_stays : IsKeptName later dir (Some Folder_node)
  folder_stays = settled_name later dir (Some Folder_node) has.replaced.quiet
      (has.among.now dir (dir_elsewhere dir named names all_fit d later has.among) ∙ is.folder)

  abbrev pub recovered_parts : Parts
  recovered_parts = record {
    edits = opening_edits r;
    rows = rows_beside r.table found;
    older = [];
    last = record { number = new_log r; batches = [] };
    synced = 0;
  }

  wal : IsWal later (path_in dir (Log l)) [] 0
  wal = record {
    id = has.log.id;
    file = sealed [];
    kept = has.log.file;
    text = refl;
    within = omega arith;
    synced = omega arith;
    each = All-nil IsLogged;
  }

  -- no log was there from the new number on
  no_log : (number : ℕ) → l ≤ number → IsFileName (Log number) → number ≢ l → file_at later (path_in dir (Log number)) ≡ None
  no_log number least fits other =
      file_among dir names d later has.among (path_in dir (Log number)) (elsewhere (Log number) fits
      (each_name (λ (n : FileName). Log number ≢ n) (λ same. cc) (λ same. cc) (λ same. cc) (λ same. cc)
      (λ same. let equal : number ≡ l = cc in other equal)))
      ∙ by (finmap.get (names_now d) (path_in dir (Log number))) refl
    where
      by : (o : Option Node) → finmap.get (names_now d) (path_in dir (Log number)) ≡ o → id_of o ≡ None
      by None at = refl
      by (Some node) at =
          let drawn : number < r.next = All-contains (IsDrawn r.next) r.names (Log number) is.planned.behind
          ((is.names.are (Log number) fits).1 (ap is_some at)) in
          absurd (omega (arith, drawn, least, next_m))

  -- ---- the known names

  only_now : (name : FileName) → IsFileName name → finmap.get (names_now d) (path_in dir name) ≢ Some Folder_node
  only_now name fits folder =
      files.no_folder name (length d.pending) fits (at_cut d (path_in dir name) (Some Folder_node) folder)

  abbrev IsThere : FileName → Type 0
  IsThere name = IsFileName name × (is_some (file_at later (path_in dir name)) ≡ true)

  whole_there : (name : FileName) (bytes : List ℕ) → IsWholeFile later (path_in dir name) bytes
      → is_some (file_at later (path_in dir name)) ≡ true
  whole_there name bytes whole = ap is_some (kept_at later (path_in dir name) whole.id (sealed bytes) whole.file)

  -- a name from before leads to a file still
  stays_there : (name : FileName) → Contains r.names name → name ≢ Current → is_some (file_at later (path_in dir name)) ≡ true
  stays_there name among other =
      let fits = All-contains IsFileName r.names name is.names.fit among in
      ap is_some (file_among dir names d later has.among (path_in dir name)
      (elsewhere name fits (drawn_apart name (All-contains (IsDrawn r.next) r.names name is.planned.behind among) other)))
      ∙ file_there (finmap.get (names_now d) (path_in dir name)) ((is.names.are name fits).0 among) (only_now name fits)

  old_there : (name : FileName) → Contains r.names name → is_some (file_at later (path_in dir name)) ≡ true
  old_there (Log number) among = stays_there (Log number) among (λ same. cc)
  old_there (Table number) among = stays_there (Table number) among (λ same. cc)
  old_there (Manifest number) among = stays_there (Manifest number) among (λ same. cc)
  old_there (Temp number) among = stays_there (Temp number) among (λ same. cc)
  old_there Current among = whole_there Current _ has.replaced.current

  tables_there : (o : Option NewTable) → TakesRows first r.batches r.next o → HasNewTable later dir o
      → All IsThere (table_names o)
  tables_there None takes new = All-nil IsThere
  tables_there (Some t) takes new =
      All-cons IsThere (Table t.info.number) [] (
        subst (λ (n : ℕ). IsFileName (Table n)) (sym takes.0) table_fits,
        whole_there (Table t.info.number) new.bytes new.file,
      ) (All-nil IsThere)

  added_there : All IsThere (added_names r)
  added_there =
      All-append IsThere (table_names r.table) (Manifest m ∷ Log l ∷ []) (tables_there r.table is.planned.takes has.table)
      (All-cons IsThere (Manifest m) (Log l ∷ []) (manifest_fits, whole_there (Manifest m) _ has.replaced.manifest)
      (All-cons IsThere (Log l) [] (is.planned.fits, whole_there (Log l) [] has.log) (All-nil IsThere)))

  module _ (known : List FileName) (adds : HasAdded r known) where
    is_there : (name : FileName) → Contains known name → IsThere name
    is_there name among = ⊎_elim
        (λ old. (All-contains IsFileName r.names name is.names.fit old, old_there name old))
        (λ new. All-contains IsThere (added_names r) name added_there new)
        ((adds name).0 among)

    abbrev IsKnown : FileName → Type 0
    IsKnown name = is_some (finmap.get (names_now later) (path_in dir name)) ≡ true → Contains known name

    added : All (Contains (added_names r)) (added_names r)
    added = All-contains_itself (added_names r)

    by_added : (name : FileName) → Contains (added_names r) name → IsKnown name
    by_added name among there = (adds name).1 (inr among)

    behind : All (Contains (added_names r)) (Manifest m ∷ Log l ∷ [])
    behind = all_right (Contains (added_names r)) (table_names r.table) (Manifest m ∷ Log l ∷ []) added

    no_temp : IsKnown (Temp m)
    no_temp there = let clash : false ≡ true = sym (ap is_some has.replaced.gone) ∙ there in absurd (cc)

    changed_known : All IsKnown (opening_names r)
    changed_known =
        All-append IsKnown (table_names r.table) (Manifest m ∷ Temp m ∷ Current ∷ Log l ∷ [])
        (All-weaker (Contains (added_names r)) IsKnown by_added (table_names r.table)
        (all_left (Contains (added_names r)) (table_names r.table) (Manifest m ∷ Log l ∷ []) added))
        (All-cons IsKnown (Manifest m) (Temp m ∷ Current ∷ Log l ∷ [])
        (by_added (Manifest m) (All-head (Contains (added_names r)) (Manifest m) (Log l ∷ []) behind))
        (All-cons IsKnown (Temp m) (Current ∷ Log l ∷ []) no_temp
        (All-cons IsKnown Current (Log l ∷ []) (λ there. (adds Current).1 (inl (current_there d dir r named is)))
        (All-cons IsKnown (Log l) [] (by_added (Log l) (All-head (Contains (added_names r)) (Log l) []
        (All-tail (Contains (added_names r)) (Manifest m) (Log l ∷ []) behind))) (All-nil IsKnown)))))

    is_known : (name : FileName) → IsFileName name → IsKnown name
    is_known name fits there = ⊎_elim
        (λ among. All-contains IsKnown names name changed_known among there)
        (λ others. (adds name).1 (inl ((is.names.are name fits).1
        (ap is_some (sym (has.among.now (path_in dir name) (elsewhere name fits
        (All-weaker (λ (n : FileName). spelled name ≢ spelled n) (λ (n : FileName). name ≢ n)
        (λ n differs same. differs (ap spelled same)) names others)))) ∙ there))))
        (among_or_not names name all_fit fits)

    -- ---- all of it

    module _ (views : finmap.FinMap nat_cmp Viewed) (tell : TellTables d later dir r views) where
      abbrev kept : Kept
      kept = recovered_kept r views known

      tables_are : tables_after (opening_edits r) ≡ new_version r
      tables_are = recovered_tables (files_in dir (tree_now d)) r is.read is.planned below contents sequence stands

      has_edits : HasEdits later dir kept (opening_edits r)
      has_edits = record {
        are = recovered_are (files_in dir (tree_now d)) r is.read is.planned below contents sequence stands;
        file = has.replaced.manifest;
        len = refl;
        version = sym tables_are;
        log = sym (recovered_log (files_in dir (tree_now d)) r is.read is.planned below contents sequence stands);
        last = sym (recovered_last (files_in dir (tree_now d)) r is.read is.planned below contents sequence stands);
      }

      only_log : (number : ℕ) → l ≤ number → IsFileName (Log number) → MayStand later dir kept number
      only_log number least fits = by (eq_by_cmp nat_cmp number l) refl
        where
          by : (b : Bool) → eq_by_cmp nat_cmp number l ≡ b → MayStand later dir kept number
          by true same = inl (subst (λ (n : ℕ). Contains (n ∷ []) number) (same_number number l same) (0, omega arith, refl))
          by false other = inr (no_log number least fits (λ same.
              let clash : true ≡ false = sym (tied_same number l same) ∙ other in absurd (cc)))

      has_logs : HasLogs later dir kept recovered_parts
      unfolding IsStrictlySortedBy
      has_logs = record {
        numbers = refl;
        ascend = (tt, tt);
        live = All-cons (λ (number : ℕ). (l ≤ number) × IsFileName (Log number)) l [] (omega arith, is.planned.fits)
            (All-nil (λ (number : ℕ). (l ≤ number) × IsFileName (Log number)));
        older = tt;
        last = wal;
        only = only_log;
        frozen = none_of_none _;
        active = none_of_none _;
      }

      pub recovered_sane : Sane later dir (recovered_kept r views known) recovered_parts
      recovered_sane = record {
        current = record { named = named; folder = folder_stays; numbered = manifest_fits; file = has.replaced.current };
        edits = has_edits;
        tables = has_tables views tell known;
        logs = has_logs;
        quiet = record {
          spares = λ name fits held. subst (All (OpSpares (path_in dir name))) (sym has.replaced.quiet)
              (All-nil (OpSpares (path_in dir name)));
        };
        known = record { there = is_there; all = is_known };
        files = files_among dir named names all_fit d later has.among files;
        lawful = recovered_lawful (files_in dir (tree_now d)) r is.read is.planned below contents sequence stands;
        written = record {
          tables = All-nil (λ (table : Unfinished). bytes_at (tree_now later) (path_in dir (Table table.number))
              ≡ Some table.bytes);
          alone = All-cons (IsAlone later) (path_in dir (Manifest m)) (path_in dir (Log l) ∷ []) has.replaced.alone
              (All-cons (IsAlone later) (path_in dir (Log l)) [] has.alone (All-nil (IsAlone later)));
        };
        restored = refl;
      }
