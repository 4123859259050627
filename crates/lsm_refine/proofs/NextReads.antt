-- What that store's folder reads as while the next opening goes on: as it did, whether the manifest has its second edit or not.
use Rattle.std.specs.Prelude.{◌≡◌, ◌≢◌, ℕ, ◌+◌, ◌≤◌, true, false, cond, List, [], ◌∷◌, ◌++◌, Contains, Option, Some, None}
use Rattle.std.proofs.Common.{refl, sym, ap, subst, ◌∙◌, arith}
use Rattle.std.proofs.lemmas.List.{append-nil}
use Rattle.std.proofs.lemmas.List.Elements.{All-nil, All-cons, All-contains}
use Rattle.std.specs.Ordering.{nat_cmp, eq_by_cmp}
use Rattle.std.specs.Cmp.{nat_cmp_total}
use Rattle.std.specs.FinMap as finmap
use Rattle.lsm_names.specs.Folders.{is_folder_name}
use Rattle.lsm_names.specs.FileNames.{IsFileName, is_file_number}
use Rattle.lsm_names.specs.declared.file_names.FileName.{FileName}
use Rattle.lsm_names.specs.declared.file_names.FileName.TheVariants.{Log, Table, Manifest, Current}
use Rattle.lsm_names.proofs.FolderLemmas.{folder_has_bytes}
use Rattle.lsm_rows.specs.declared.operations.Op.{Op}
use Rattle.lsm_rows.specs.Rows.{rows_of}
use Rattle.lsm_rows.specs.Contents.{contents_of}
use Rattle.lsm_rows.specs.Replay.{Contents, replayed, sequence_after}
use Rattle.lsm_disk.specs.Names.{Node, Names, Folder_node, File_node, id_of}
use Rattle.lsm_disk.specs.Images.{Tree, bytes_by, bytes_at}
use Rattle.lsm_disk.specs.Dest.{path_in}
use Rattle.lsm_folder.specs.Files.{Files, files_in, file_at}
use Rattle.lsm_folder.specs.Names.{current_text}
use Rattle.lsm_folder.proofs.LiveLemmas.{equal_number, same_entries}
use Rattle.lsm_version.specs.declared.tables.Placed.{Placed}
use Rattle.lsm_version.specs.Versions.{numbers_after}
use Rattle.lsm_wal.specs.Batches.{IsLogged}
use Rattle.lsm_wal.proofs.Fronts.{whole_reads}
use Rattle.lsm_table.specs.WholeTables.{IsTable}
use Rattle.lsm_folder.specs.Manifests.{tables_after, last_after}
use Rattle.lsm_folder.specs.Needed.{Stands}
use Rattle.lsm_folder.specs.Parts.{IsManifest, HasParts, AreLogs, rows_of_tables, rows_of_all, all_of}
use Rattle.lsm_folder.specs.Parts as reading
use Rattle.lsm_folder.proofs.PartsLemmas.{parts_stand}
use Rattle.lsm_refine.specs.Fronts.{logs_with, last_text, texts_with, batches_with}
use Rattle.lsm_refine.specs.Openings.{StandsAs}
use Rattle.lsm_refine.specs.Witness.{tabled, older, newer, its_row, its_table, older_log, last_log, its_placed, its_disk, its_parts, its_kept, older_row, newer_row, next_table, next_placed, next_parts}
use Rattle.lsm_refine.proofs.FileLemmas.{file_there, file_gone, file_never}
use Rattle.lsm_refine.proofs.PartsLemmas.{has_all}
use Rattle.lsm_refine.proofs.WitnessLemmas.{table_is, table_after, log_is}
use Rattle.lsm_refine.proofs.WitnessDisk.{its_sane}
use Rattle.lsm_refine.proofs.WitnessGood.{its_parts_stand}
use Rattle.lsm_refine.proofs.NextLemmas.{next_is, next_log, next_last, two_after, each_of_two, next_shows, next_lawful}

-- the three batches
abbrev pub all_three : Contents
all_three = replayed finmap.empty (tabled ∷ older ∷ newer ∷ [])

-- the names lead to the folder and its six files
pub record HasSix (dir : List ℕ) (names : Names) : Type 0 where
  pub folder : finmap.get names dir ≡ Some Folder_node
  pub current : finmap.get names (path_in dir Current) ≡ Some (File_node 0)
  pub table : finmap.get names (path_in dir (Table 3)) ≡ Some (File_node 1)
  pub older : finmap.get names (path_in dir (Log 4)) ≡ Some (File_node 2)
  pub newer : finmap.get names (path_in dir (Log 5)) ≡ Some (File_node 3)
  pub next : finmap.get names (path_in dir (Table 6)) ≡ Some (File_node 4)
  pub manifest : finmap.get names (path_in dir (Manifest 1)) ≡ Some (File_node 5)

-- no log is there from a number on but these
abbrev pub HasNoOther : List ℕ → Names → ℕ → List ℕ → Type 0
HasNoOther dir names least logs = (number : ℕ) → least ≤ number → IsFileName (Log number) → (Contains logs number → ⊥)
    → finmap.get names (path_in dir (Log number)) ≡ None

-- a tree with these names, where the manifest has this text
abbrev pub tree_of : Names → List ℕ → List (List ℕ) → Tree
tree_of names text rest = record { names = names; contents = current_text 1 ∷ its_table ∷ older_log ∷ last_log ∷ next_table ∷ text ∷ rest }

differs : (number other : ℕ) → eq_by_cmp nat_cmp number other ≡ false → eq_by_cmp nat_cmp other other ≡ true → other ≢ number
differs number other test itself same = let clash : true ≡ false = sym itself ∙ ap (λ (n : ℕ). eq_by_cmp nat_cmp n other) same ∙ test in cc

-- ---- logs that are empty, or none

no_logs_read : AreLogs 4 (finmap.entries (finmap.from_entries {R = nat_cmp} [])) []
unfolding AreLogs
no_logs_read = subst (λ (es : List (ℕ × List ℕ)). AreLogs 4 es [])
    (sym (same_entries nat_cmp nat_cmp_total [] tt finmap.nat_cmp-IsAntisymmetric)) tt

one_log_read : AreLogs 4 (finmap.entries (finmap.from_entries {R = nat_cmp} ((7, []) ∷ []))) ([] ∷ [])
unfolding AreLogs
one_log_read =
    subst (λ (es : List (ℕ × List ℕ)). AreLogs 4 es ([] ∷ []))
    (sym (same_entries nat_cmp nat_cmp_total ((7, []) ∷ []) tt finmap.nat_cmp-IsAntisymmetric))
    (record { torn = None; reading = whole_reads 4 [] (All-nil IsLogged); ends = refl }, tt)

-- ---- the tree

module _ (dir : List ℕ) (fits : is_folder_name dir ≡ true) (names : Names) (text : List ℕ) (rest : List (List ℕ))
    (has : HasSix dir names) where
  abbrev t : Tree
  t = tree_of names text rest

  abbrev files : Files
  files = files_in dir t

  leads : (path bytes : List ℕ) (id : ℕ) → finmap.get names path ≡ Some (File_node id) → bytes_by (Some id) t ≡ Some bytes
      → bytes_at t path ≡ Some bytes
  leads path bytes id found is = ap (λ (node : Option Node). bytes_by (id_of node) t) found ∙ is

  in_folder : (name : FileName) (bytes : List ℕ) → IsFileName name → bytes_at t (path_in dir name) ≡ Some bytes
      → file_at files name ≡ Some bytes
  in_folder name bytes file is = file_there dir t name bytes (folder_has_bytes dir fits) file is

  no_log : (number : ℕ) → (IsFileName (Log number) → finmap.get names (path_in dir (Log number)) ≡ None) → file_at files (Log number) ≡ None
  no_log number none =
      elim (is_file_number number) as (λ b. is_file_number number ≡ b → file_at files (Log number) ≡ None) [
        | true ↦ λ file. file_gone dir t (Log number) (folder_has_bytes dir fits) file (ap id_of (none file))
        | false ↦ λ never. file_never dir t (Log number) (folder_has_bytes dir fits)
            (λ file. let clash : false ≡ true = sym never ∙ file in absurd (cc))
      ] refl

  current_there : file_at files Current ≡ Some (current_text 1)
  current_there = in_folder Current (current_text 1) tt (leads (path_in dir Current) (current_text 1) 0 has.current refl)

  manifest_there : file_at files (Manifest 1) ≡ Some text
  manifest_there = in_folder (Manifest 1) text refl (leads (path_in dir (Manifest 1)) text 5 has.manifest refl)

  table_at : bytes_at t (path_in dir (Table 3)) ≡ Some its_table
  table_at = leads (path_in dir (Table 3)) its_table 1 has.table refl

  next_at : bytes_at t (path_in dir (Table 6)) ≡ Some next_table
  next_at = leads (path_in dir (Table 6)) next_table 4 has.next refl

  first_table : reading.HasTable files 3 its_placed (its_row ∷ [])
  first_table = record { bytes = its_table; there = in_folder (Table 3) its_table refl table_at; table = table_is; size = refl }

  second_table : reading.HasTable files 6 next_placed (older_row ∷ newer_row ∷ [])
  second_table = record { bytes = next_table; there = in_folder (Table 6) next_table refl next_at; table = next_is; size = refl }

  -- ---- with the first edit alone

  module _ (no_other : HasNoOther dir names 4 (4 ∷ 5 ∷ [])) (says : IsManifest text its_parts.edits) where
    older_there : file_at files (Log 4) ≡ Some older_log
    older_there = in_folder (Log 4) older_log refl (leads (path_in dir (Log 4)) older_log 2 has.older refl)

    newer_there : file_at files (Log 5) ≡ Some last_log
    newer_there = in_folder (Log 5) last_log refl (leads (path_in dir (Log 5)) last_log 3 has.newer refl)

    neither : (number : ℕ) → eq_by_cmp nat_cmp number 4 ≡ false → eq_by_cmp nat_cmp number 5 ≡ false → Contains (4 ∷ 5 ∷ []) number → ⊥
    neither number first second among =
        All-contains (λ (n : ℕ). n ≢ number) (4 ∷ 5 ∷ []) number
        (All-cons (λ (n : ℕ). n ≢ number) 4 (5 ∷ []) (differs number 4 first refl)
        (All-cons (λ (n : ℕ). n ≢ number) 5 [] (differs number 5 second refl) (All-nil (λ (n : ℕ). n ≢ number)))) among refl

    log_there : (number : ℕ) → 4 ≤ number → file_at files (Log number) ≡ finmap.find nat_cmp number ((4, older_log) ∷ (5, last_log) ∷ [])
    log_there number least =
        elim (eq_by_cmp nat_cmp number 4) as (λ b. eq_by_cmp nat_cmp number 4 ≡ b
        → file_at files (Log number) ≡ cond b (Some older_log) (cond (eq_by_cmp nat_cmp number 5) (Some last_log) None)) [
          | true ↦ λ same. subst (λ (n : ℕ). file_at files (Log n) ≡ Some older_log) (sym (equal_number number 4 same)) older_there
          | false ↦ λ first. elim (eq_by_cmp nat_cmp number 5) as
              (λ b. eq_by_cmp nat_cmp number 5 ≡ b → file_at files (Log number) ≡ cond b (Some last_log) None) [
                | true ↦ λ same. subst (λ (n : ℕ). file_at files (Log n) ≡ Some last_log) (sym (equal_number number 5 same)) newer_there
                | false ↦ λ second. no_log number (λ file. no_other number least file (neither number first second))
              ] refl
        ] refl

    logs_there : (number : ℕ) → 4 ≤ number → file_at files (Log number) ≡ finmap.get (logs_with its_parts (last_text its_parts)) number
    unfolding last_after numbers_after older_log last_log
    logs_there number least = log_there number least ∙ sym (finmap.get-from_entries nat_cmp_total
        (texts_with its_parts (last_text its_parts)) number)

    old_parts : HasParts files its_parts.edits its_parts.rows (logs_with its_parts (last_text its_parts))
        (batches_with its_parts its_parts.last.batches)
    old_parts =
        let all = has_all (its_disk dir) dir its_kept its_parts (its_sane dir fits) in
        record {
          manifest = 1;
          numbered = refl;
          current = current_there;
          text = text;
          there = manifest_there;
          edits_are = says;
          tables = λ number placed is.
              let only = table_after number placed is in
              subst (λ n. reading.HasTable files n placed (its_row ∷ [])) (sym only.0)
              (subst (λ p. reading.HasTable files 3 p (its_row ∷ [])) (sym only.1) first_table);
          has_logs = record {
            there = λ number least. logs_there number (subst (λ (n : ℕ). n ≤ number) log_is least);
            live = all.has_logs.live;
          };
          logs_are = all.logs_are;
        }

    pub old_stands : StandsAs dir all_three 3 t
    old_stands = record { folder = has.folder; stands = its_parts_stand files old_parts }

  -- ---- with both edits

  abbrev HasWhole : ℕ → Placed → Type 0
  HasWhole number placed = (bytes : List ℕ) × (bytes_at t (path_in dir (Table number)) ≡ Some bytes)
      × IsTable bytes (next_parts.rows number) number placed.info.session

  module _ (es : List (ℕ × List ℕ)) (batches : List (List (List Op))) (none : all_of batches ≡ []) (says : IsManifest text next_parts.edits)
      (there : (number : ℕ) → 7 ≤ number → file_at files (Log number) ≡ finmap.find nat_cmp number es)
      (live : (number : ℕ) (bytes : List ℕ) → finmap.find nat_cmp number es ≡ Some bytes → 7 ≤ number)
      (logs : AreLogs 4 (finmap.entries (finmap.from_entries {R = nat_cmp} es)) batches) where
    new_parts : HasParts files next_parts.edits next_parts.rows (finmap.from_entries es) batches
    new_parts = record {
      manifest = 1;
      numbered = refl;
      current = current_there;
      text = text;
      there = manifest_there;
      edits_are = says;
      tables = λ number placed is. each_of_two (λ n p. reading.HasTable files n p
          (next_parts.rows n)) second_table first_table number placed (two_after number placed is);
      has_logs = record {
        there = λ number least. there number (subst (λ (n : ℕ). n ≤ number) next_log least) ∙ sym
            (finmap.get-from_entries nat_cmp_total es number);
        live = λ number bytes is. subst (λ (n : ℕ). n ≤ number) (sym next_log)
            (live number bytes (sym (finmap.get-from_entries nat_cmp_total es number) ∙ is));
      };
      logs_are = subst (λ (n : ℕ). AreLogs (n + 1) (finmap.entries (finmap.from_entries {R = nat_cmp} es)) batches) (sym next_last) logs;
    }

    new_stands : StandsAs dir all_three 3 t
    new_stands =
        let stands = parts_stand files next_parts.edits next_parts.rows (finmap.from_entries es) batches new_parts next_lawful in
        let rows : contents_of (rows_of_all next_parts.edits next_parts.rows batches) ≡ all_three =
        ap (λ (l : List (List Op)). contents_of (rows_of_tables (tables_after next_parts.edits) next_parts.rows
        ++ rows_of (last_after next_parts.edits + 1) l)) none
        ∙ ap contents_of (append-nil (rows_of_tables (tables_after next_parts.edits) next_parts.rows)) ∙ next_shows in
        let sequence : sequence_after (last_after next_parts.edits) (all_of batches) ≡ 3 =
        ap (sequence_after (last_after next_parts.edits)) none ∙ next_last in
        record {
          folder = has.folder;
          stands = subst (λ (m : Contents). Stands files m 3) rows
              (subst (Stands files (contents_of (rows_of_all next_parts.edits next_parts.rows batches))) sequence stands);
        }

  -- no log is there from the new number on
  module _ (no_other : HasNoOther dir names 7 []) (says : IsManifest text next_parts.edits) where
    none_there : (number : ℕ) → 7 ≤ number → file_at files (Log number) ≡ None
    none_there number least = no_log number (λ file. no_other number least file (λ among. omega (arith, among.1)))

    none_live : (number : ℕ) (bytes : List ℕ) → None ≡ Some bytes → 7 ≤ number
    none_live number bytes is = absurd (cc)

    pub without_log : StandsAs dir all_three 3 t
    without_log = new_stands [] [] refl says none_there none_live no_logs_read

  -- an empty one is there
  module _ (seven : bytes_at t (path_in dir (Log 7)) ≡ Some []) (no_other : HasNoOther dir names 7 (7 ∷ []))
      (says : IsManifest text next_parts.edits) where
    one_there : (number : ℕ) → 7 ≤ number → file_at files (Log number) ≡ finmap.find nat_cmp number ((7, []) ∷ [])
    one_there number least =
        elim (eq_by_cmp nat_cmp number 7) as (λ b. eq_by_cmp nat_cmp number 7 ≡ b → file_at files (Log number) ≡ cond b (Some []) None) [
          | true ↦ λ same. subst (λ (n : ℕ). file_at files (Log n) ≡ Some []) (sym (equal_number number 7 same))
              (in_folder (Log 7) [] refl seven)
          | false ↦ λ other. no_log number (λ file. no_other number least file (λ among.
              All-contains (λ (n : ℕ). n ≢ number) (7 ∷ []) number
              (All-cons (λ (n : ℕ). n ≢ number) 7 [] (differs number 7 other refl) (All-nil (λ (n : ℕ). n ≢ number))) among refl))
        ] refl

    one_live : (number : ℕ) (bytes : List ℕ) → finmap.find nat_cmp number ((7, []) ∷ []) ≡ Some bytes → 7 ≤ number
    one_live number bytes is =
        elim (eq_by_cmp nat_cmp number 7) as (λ b. eq_by_cmp nat_cmp number 7 ≡ b → cond b (Some []) None ≡ Some bytes → 7 ≤ number) [
          | true ↦ λ same h. omega (arith, equal_number number 7 same)
          | false ↦ λ other h. absurd (cc)
        ] refl is

    pub with_log : StandsAs dir all_three 3 t
    with_log = new_stands ((7, []) ∷ []) ([] ∷ []) refl says one_there one_live one_log_read
