-- The manifest that an opening writes says what was found, and its names are free.
use Rattle.std.specs.Prelude.{◌≡◌, ◌≢◌, ℕ, ◌+◌, ◌<◌, ◌≤◌, Bool, true, false, cond, is_some, List, All, Option, Some, None}
use Rattle.std.specs.Ordering.{nat_cmp, eq_by_cmp}
use Rattle.std.specs.Cmp.{nat_cmp_total}
use Rattle.std.specs.FinMap as finmap
use Rattle.std.proofs.Common.{refl, sym, ap, subst, ◌∙◌, arith}
use Rattle.std.proofs.lemmas.List.Elements.{All-contains}
use Rattle.lsm_names.specs.Folders.{is_folder_name}
use Rattle.lsm_names.specs.FileNames.{IsFileName, is_file_number}
use Rattle.lsm_names.specs.declared.file_names.FileName.{FileName}
use Rattle.lsm_names.specs.declared.file_names.FileName.TheVariants.{Log, Table, Manifest, Temp}
use Rattle.lsm_rows.specs.declared.rows.Row.{Row}
use Rattle.lsm_rows.specs.Replay.{Contents}
use Rattle.lsm_disk.specs.Names.{Node, File_node}
use Rattle.lsm_disk.specs.State as disk
use Rattle.lsm_disk.specs.State.{names_now}
use Rattle.lsm_disk.specs.Images.{tree_now}
use Rattle.lsm_disk.specs.Dest.{path_in}
use Rattle.lsm_version.specs.declared.tables.Placed.{Placed}
use Rattle.lsm_version.specs.Levels.{Tables}
use Rattle.lsm_version.proofs.TableMaps.{same_number}
use Rattle.lsm_folder.specs.Files.{files_in}
use Rattle.lsm_folder.specs.Manifests.{tables_after, last_after, log_after}
use Rattle.lsm_folder.specs.Needed.{Stands}
use Rattle.lsm_refine.specs.Sane.{TablesAreSynced}
use Rattle.lsm_refine.specs.Among.{IsElsewhere, ChangesAmong}
use Rattle.lsm_refine.specs.Flushed.{at_top, rows_with}
use Rattle.lsm_refine.specs.Grown.{IsDrawn}
use Rattle.lsm_refine.specs.FoundFolder.{NewTable, Recovery, TakesRows, IsRecovery, HasNewTable, new_manifest, new_log, table_names, version_with, rows_beside, new_version, opening_edits}
use Rattle.lsm_refine.specs.OpeningImages.{IsAtRest, IsWholeTable, SaysAs}
use Rattle.lsm_refine.proofs.AmongLemmas.{whole_among}
use Rattle.lsm_refine.proofs.FlushedLemmas.{rows_here, rows_there}
use Rattle.lsm_refine.proofs.FoundRows.{found_rows}
use Rattle.lsm_refine.proofs.FoundTables.{table_below, table_now}
use Rattle.lsm_refine.proofs.NewStoreLemmas.{settled_kept}
use Rattle.lsm_refine.proofs.RecoveredRows.{lesser_number, next_least, recovered_are, recovered_tables, recovered_log, recovered_lawful, recovered_shows, recovered_sequence}
use Rattle.lsm_refine.proofs.RecoveredStores.{table_each}
use Rattle.lsm_refine.proofs.SwitchedLemmas.{name_elsewhere}

-- a name whose number wasn't drawn is free
undrawn_free : (dir : List ℕ) (d : disk.State) (r : Recovery) → IsRecovery d dir r → (name : FileName) → IsFileName name
    → (IsDrawn r.next name → ⊥) → finmap.get (names_now d) (path_in dir name) ≡ None
undrawn_free dir d r is name fits undrawn = by (finmap.get (names_now d) (path_in dir name)) refl
  where
    by : (o : Option Node) → finmap.get (names_now d) (path_in dir name) ≡ o → o ≡ None
    by None at = refl
    by (Some node) at = absurd (undrawn (All-contains (IsDrawn r.next) r.names name is.planned.behind
        ((is.names.are name fits).1 (ap is_some at))))

-- the numbers of an opening are files'
pub number_fits : (dir : List ℕ) (d : disk.State) (r : Recovery) → IsRecovery d dir r → (number : ℕ) → r.next ≤ number
    → number ≤ new_log r → is_file_number number ≡ true
number_fits dir d r is number least most =
    lesser_number number (new_log r) is.planned.fits (omega (arith, is.planned.some, least)) most

-- the table's is one, and free
pub table_free : (dir : List ℕ) (d : disk.State) (r : Recovery) → IsRecovery d dir r → IsFileName (Table r.next)
    × (finmap.get (names_now d) (path_in dir (Table r.next)) ≡ None)
table_free dir d r is =
    let fits : IsFileName (Table r.next) =
    number_fits dir d r is r.next (omega arith) (omega (arith, next_least r.table r.next)) in
    (fits, undrawn_free dir d r is (Table r.next) fits (λ drawn. omega (arith, drawn)))

module _ (dir : List ℕ) (named : is_folder_name dir ≡ true) (d : disk.State) (r : Recovery) (is : IsRecovery d dir r)
    (later : disk.State) (among : ChangesAmong dir (table_names r.table) d later) where
  abbrev first : ℕ
  first = last_after r.edits + 1

  abbrev names : List FileName
  names = table_names r.table

  next_m : r.next ≤ new_manifest r
  next_m = next_least r.table r.next

  pub manifest_fits : IsFileName (Manifest (new_manifest r))
  manifest_fits = number_fits dir d r is (new_manifest r) next_m (omega arith)

  table_fits : IsFileName (Table r.next)
  table_fits = (table_free dir d r is).0

  all_fit : All IsFileName (table_names r.table)
  all_fit = table_each IsFileName first r.batches r.next r.table is.planned.takes table_fits

  elsewhere : (name : FileName) → IsFileName name → name ≢ Table r.next → IsElsewhere dir names (path_in dir name)
  elsewhere name fits differs = name_elsewhere dir named names all_fit d later among name fits
      (table_each (λ (n : FileName). name ≢ n) first r.batches r.next r.table is.planned.takes differs)

  free_name : (name : FileName) → IsFileName name → name ≢ Table r.next → (IsDrawn r.next name → ⊥)
      → finmap.get (names_now later) (path_in dir name) ≡ None
  free_name name fits differs undrawn = among.now (path_in dir name) (elsewhere name fits differs)
      ∙ undrawn_free dir d r is name fits undrawn

  no_log : (number : ℕ) → new_log r ≤ number → IsFileName (Log number)
      → finmap.get (names_now later) (path_in dir (Log number)) ≡ None
  no_log number least fits = free_name (Log number) fits (λ same. cc) (λ drawn. omega (arith, drawn, least, next_m))

  pub free_names : (finmap.get (names_now later) (path_in dir (Manifest (new_manifest r))) ≡ None)
      × (finmap.get (names_now later) (path_in dir (Temp (new_manifest r))) ≡ None)
      × (finmap.get (names_now later) (path_in dir (Log (new_log r))) ≡ None)
  free_names = (
    free_name (Manifest (new_manifest r)) manifest_fits (λ same. cc)
        (λ drawn. omega (arith, drawn, next_m)),
    free_name (Temp (new_manifest r)) manifest_fits (λ same. cc)
        (λ drawn. omega (arith, drawn, next_m)),
    no_log (new_log r) (omega arith) is.planned.fits,
  )

  module _ (rest : IsAtRest dir d) (synced : TablesAreSynced d dir) (contents : Contents) (sequence : ℕ)
      (stands : Stands (files_in dir (tree_now d)) contents sequence) (table : HasNewTable later dir r.table) where
    abbrev old : Tables
    old = tables_after r.edits

    abbrev found : ℕ → List Row
    found = found_rows (files_in dir (tree_now d)) r is.read contents sequence stands

    below : (number : ℕ) (placed : Placed) → finmap.get old number ≡ Some placed → number < r.next
    below = table_below d dir named r is contents sequence stands

    old_table : (number : ℕ) (placed : Placed) → finmap.get old number ≡ Some placed
        → IsWholeTable later dir number placed (found number)
    old_table number placed listed =
        let now = table_now d dir named r is contents sequence stands synced number placed listed in
        record {
          numbered = now.numbered;
          bytes = now.bytes;
          file = whole_among dir names d later among (path_in dir (Table number))
              (elsewhere (Table number) now.numbered (λ same.
              let equal : number ≡ r.next = cc in omega (arith, below number placed listed, equal))) now.bytes
              (record {
                id = now.id;
                file = record {
                  named = settled_kept d rest.quiet (path_in dir (Table number)) (Some (File_node now.id)) now.file.named;
                  file = now.file.file;
                };
              });
          table = now.table;
          size = now.size;
        }

    table_by : (o : Option NewTable) → TakesRows first r.batches r.next o → HasNewTable later dir o
        → (number : ℕ) (placed : Placed) → finmap.get (version_with o old) number ≡ Some placed
        → IsWholeTable later dir number placed (rows_beside o found number)
    table_by None takes new number placed listed = old_table number placed listed
    table_by (Some t) takes new number placed listed =
        by (eq_by_cmp nat_cmp number t.info.number) refl
        (sym (finmap.get-insert nat_cmp_total old t.info.number (at_top t.info) number) ∙ listed)
      where
        placed_once : (a b : Placed) → Some a ≡ Some b → a ≡ b
        placed_once a b same = cc

        here : IsWholeTable later dir t.info.number (at_top t.info) t.rows
        here = record {
          numbered = subst (λ (n : ℕ). IsFileName (Table n)) (sym takes.0) table_fits;
          bytes = new.bytes;
          file = new.file;
          table = new.table;
          size = new.size;
        }

        by : (b : Bool) → eq_by_cmp nat_cmp number t.info.number ≡ b
            → cond (eq_by_cmp nat_cmp number t.info.number) (Some (at_top t.info)) (finmap.get old number) ≡ Some placed
            → IsWholeTable later dir number placed (rows_with t.info.number t.rows found number)
        by true same at =
            let number_is : number ≡ t.info.number = same_number number t.info.number same in
            let placed_is : at_top t.info ≡ placed = placed_once (at_top t.info) placed
            (ap (λ (b : Bool). cond b (Some (at_top t.info)) (finmap.get old number)) (sym same) ∙ at) in
            subst (λ (n : ℕ). IsWholeTable later dir n placed (rows_with t.info.number t.rows found n)) (sym number_is)
            (subst (IsWholeTable later dir t.info.number placed) (sym (rows_here t.info.number t.rows found))
            (subst (λ (p : Placed). IsWholeTable later dir t.info.number p t.rows) placed_is here))
        by false other at =
            let listed_before : finmap.get old number ≡ Some placed =
            ap (λ (b : Bool). cond b (Some (at_top t.info)) (finmap.get old number)) (sym other) ∙ at in
            subst (IsWholeTable later dir number placed)
            (sym (rows_there t.info.number t.rows found number
            (λ same. omega (arith, below number placed listed_before, takes.0, same)))) (old_table number placed listed_before)

    pub log_is : log_after (opening_edits r) ≡ new_log r
    log_is = recovered_log (files_in dir (tree_now d)) r is.read is.planned below contents sequence stands

    tables_are : tables_after (opening_edits r) ≡ new_version r
    tables_are = recovered_tables (files_in dir (tree_now d)) r is.read is.planned below contents sequence stands

    pub recovery_says : SaysAs later dir (opening_edits r) contents sequence
    recovery_says = record {
      are = recovered_are (files_in dir (tree_now d)) r is.read is.planned below contents sequence stands;
      rows = rows_beside r.table found;
      tables = λ number placed listed. table_by r.table is.planned.takes table number placed
          (ap (λ (t : Tables). finmap.get t number) (sym tables_are) ∙ listed);
      lawful = recovered_lawful (files_in dir (tree_now d)) r is.read is.planned below contents sequence stands;
      shows = recovered_shows (files_in dir (tree_now d)) r is.read is.planned below contents sequence stands;
      last = recovered_sequence (files_in dir (tree_now d)) r is.read is.planned below contents sequence stands;
      logs = λ number least fits. no_log number (subst (λ (n : ℕ). n ≤ number) log_is least) fits;
    }
