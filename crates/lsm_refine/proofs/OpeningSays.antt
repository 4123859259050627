-- A folder whose CURRENT names the new manifest stands for what it says, without a log and with the new, empty one.
use Rattle.std.specs.Prelude.{◌≡◌, ◌≢◌, ℕ, ◌+◌, ◌≤◌, true, false, cond, List, [], ◌∷◌, ◌++◌, length, Some, None}
use Rattle.std.specs.Ordering.{nat_cmp, eq_by_cmp}
use Rattle.std.specs.Cmp.{nat_cmp_total}
use Rattle.std.specs.FinMap as finmap
use Rattle.std.proofs.Common.{refl, sym, ap, subst, ◌∙◌, arith}
use Rattle.std.proofs.lemmas.List.{append-nil}
use Rattle.std.proofs.lemmas.List.Elements.{All-nil}
use Rattle.lsm_names.specs.Folders.{is_folder_name}
use Rattle.lsm_names.specs.FileNames.{IsFileName, is_file_number}
use Rattle.lsm_names.specs.declared.file_names.FileName.{FileName}
use Rattle.lsm_names.specs.declared.file_names.FileName.TheVariants.{Log, Table, Manifest, Current}
use Rattle.lsm_names.proofs.FolderLemmas.{folder_has_bytes}
use Rattle.lsm_rows.specs.declared.operations.Op.{Op}
use Rattle.lsm_rows.specs.Rows.{rows_of}
use Rattle.lsm_rows.specs.Contents.{contents_of}
use Rattle.lsm_rows.specs.Replay.{Contents, sequence_after}
use Rattle.lsm_disk.specs.Names.{Folder_node, id_of}
use Rattle.lsm_disk.specs.State.{State}
use Rattle.lsm_disk.specs.Images.{Tree, IsImage, bytes_at}
use Rattle.lsm_disk.specs.Dest.{path_in}
use Rattle.lsm_version.specs.declared.edits.Edit.{Edit}
use Rattle.lsm_version.specs.declared.tables.Placed.{Placed}
use Rattle.lsm_wal.specs.Batches.{IsLogged}
use Rattle.lsm_wal.proofs.Fronts.{whole_reads}
use Rattle.lsm_folder.specs.Files.{Files, files_in, file_at}
use Rattle.lsm_folder.specs.Names.{current_text}
use Rattle.lsm_folder.specs.Manifests.{manifest_text, tables_after, log_after, last_after}
use Rattle.lsm_folder.specs.Needed.{Stands}
use Rattle.lsm_folder.specs.Parts.{HasTable, HasParts, AreLogs, rows_of_tables, rows_of_all, all_of}
use Rattle.lsm_folder.proofs.LiveLemmas.{equal_number, same_entries}
use Rattle.lsm_folder.proofs.ManifestLemmas.{manifest_written}
use Rattle.lsm_folder.proofs.PartsLemmas.{parts_stand}
use Rattle.lsm_refine.specs.Among.{IsElsewhere}
use Rattle.lsm_refine.specs.Naming.{NamesWhole}
use Rattle.lsm_refine.specs.Openings.{StandsAs}
use Rattle.lsm_refine.specs.OpeningImages.{SaysAs}
use Rattle.lsm_refine.proofs.FileLemmas.{file_there, file_gone, file_never, whole_image}
use Rattle.lsm_refine.proofs.FlushedLemmas.{tied_same}
use Rattle.lsm_refine.proofs.OpeningFronts.{IsAlikeBut}

-- ---- logs that are empty, or none

no_logs_read : (expected : ℕ) → AreLogs expected (finmap.entries (finmap.from_entries {R = nat_cmp} [])) []
unfolding AreLogs
no_logs_read expected = subst (λ (es : List (ℕ × List ℕ)). AreLogs expected es [])
    (sym (same_entries nat_cmp nat_cmp_total [] tt finmap.nat_cmp-IsAntisymmetric)) tt

one_log_read : (expected number : ℕ)
    → AreLogs expected (finmap.entries (finmap.from_entries {R = nat_cmp} ((number, []) ∷ []))) ([] ∷ [])
unfolding AreLogs
one_log_read expected number =
    subst (λ (es : List (ℕ × List ℕ)). AreLogs expected es ([] ∷ []))
    (sym (same_entries nat_cmp nat_cmp_total ((number, []) ∷ []) tt finmap.nat_cmp-IsAntisymmetric))
    (record { torn = None; reading = whole_reads expected [] (All-nil IsLogged); ends = refl }, tt)

-- ---- the tree has what an image of the disk has, but for a few names

module _ (dir : List ℕ) (named : is_folder_name dir ≡ true) (d : State) (contents : Contents) (sequence : ℕ) (edits : List Edit)
    (says : SaysAs d dir edits contents sequence) (names : List FileName) (t u : Tree) (image : IsImage d t)
    (alike : IsAlikeBut dir names t u) (tables : (n : ℕ) → IsFileName (Table n) → IsElsewhere dir names (path_in dir (Table n)))
    (folder : finmap.get u.names dir ≡ Some Folder_node) (number : ℕ) (fits : IsFileName (Manifest number))
    (whole : NamesWhole dir number edits u) where
  abbrev files : Files
  files = files_in dir u

  abbrev least : ℕ
  least = log_after edits

  some : 1 ≤ length dir
  some = folder_has_bytes dir named

  has_table : (n : ℕ) (placed : Placed) → finmap.get (tables_after edits) n ≡ Some placed
      → HasTable files n placed (says.rows n)
  has_table n placed listed =
      let is = says.tables n placed listed in
      record {
        bytes = is.bytes;
        there = file_there dir u (Table n) is.bytes some is.numbered
            (alike.bytes (path_in dir (Table n)) (tables n is.numbered)
            ∙ whole_image d (path_in dir (Table n)) is.bytes is.file t image);
        table = is.table;
        size = is.size;
      }

  -- a log is there only under a file's name
  no_log : (n : ℕ) → (IsFileName (Log n) → finmap.get u.names (path_in dir (Log n)) ≡ None) → file_at files (Log n) ≡ None
  no_log n none =
      elim (is_file_number n) as (λ b. is_file_number n ≡ b → file_at files (Log n) ≡ None) [
        | true ↦ λ is. file_gone dir u (Log n) some is (ap id_of (none is))
        | false ↦ λ never. file_never dir u (Log n) some (λ is. let clash : false ≡ true = sym never ∙ is in absurd (cc))
      ] refl

  module _ (es : List (ℕ × List ℕ)) (batches : List (List (List Op))) (none : all_of batches ≡ [])
      (there : (n : ℕ) → least ≤ n → file_at files (Log n) ≡ finmap.find nat_cmp n es)
      (live : (n : ℕ) (bytes : List ℕ) → finmap.find nat_cmp n es ≡ Some bytes → least ≤ n)
      (logs : AreLogs (last_after edits + 1) (finmap.entries (finmap.from_entries {R = nat_cmp} es)) batches) where
    parts : HasParts files edits says.rows (finmap.from_entries es) batches
    parts = record {
      manifest = number;
      numbered = fits;
      current = file_there dir u Current (current_text number) some tt whole.current;
      text = manifest_text edits;
      there = file_there dir u (Manifest number) (manifest_text edits) some fits whole.there;
      edits_are = manifest_written edits says.are;
      tables = has_table;
      has_logs = record {
        there = λ n at. there n at ∙ sym (finmap.get-from_entries nat_cmp_total es n);
        live = λ n bytes is. live n bytes (sym (finmap.get-from_entries nat_cmp_total es n) ∙ is);
      };
      logs_are = logs;
    }

    stands_so : StandsAs dir contents sequence u
    stands_so =
        let stands = parts_stand files edits says.rows (finmap.from_entries es) batches parts says.lawful in
        let rows : contents_of (rows_of_all edits says.rows batches) ≡ contents =
        ap (λ (l : List (List Op)). contents_of (rows_of_tables (tables_after edits) says.rows
        ++ rows_of (last_after edits + 1) l)) none
        ∙ ap contents_of (append-nil (rows_of_tables (tables_after edits) says.rows)) ∙ says.shows in
        let last : sequence_after (last_after edits) (all_of batches) ≡ sequence =
        ap (sequence_after (last_after edits)) none ∙ says.last in
        record {
          folder = folder;
          stands = subst (λ (m : Contents). Stands files m sequence) rows
              (subst (Stands files (contents_of (rows_of_all edits says.rows batches))) last stands);
        }

  -- no log is there from the log number on
  pub says_without : ((n : ℕ) → log_after edits ≤ n → IsFileName (Log n) → finmap.get u.names (path_in dir (Log n)) ≡ None)
      → StandsAs dir contents sequence u
  says_without none =
      stands_so [] [] refl (λ n at. no_log n (none n at)) (λ n bytes is. absurd (cc)) (no_logs_read (last_after edits + 1))

  -- an empty one is there
  pub says_with : IsFileName (Log (log_after edits)) → bytes_at u (path_in dir (Log (log_after edits))) ≡ Some []
      → ((n : ℕ) → log_after edits ≤ n → n ≢ log_after edits → IsFileName (Log n)
      → finmap.get u.names (path_in dir (Log n)) ≡ None) → StandsAs dir contents sequence u
  says_with log_fits empty none =
      stands_so ((least, []) ∷ []) ([] ∷ []) refl there live (one_log_read (last_after edits + 1) least)
    where
      there : (n : ℕ) → least ≤ n → file_at files (Log n) ≡ finmap.find nat_cmp n ((least, []) ∷ [])
      there n at =
          elim (eq_by_cmp nat_cmp n least) as (λ b. eq_by_cmp nat_cmp n least ≡ b
          → file_at files (Log n) ≡ cond b (Some []) None) [
            | true ↦ λ same. subst (λ (m : ℕ). file_at files (Log m) ≡ Some []) (sym (equal_number n least same))
                (file_there dir u (Log least) [] some log_fits empty)
            | false ↦ λ other. no_log n (none n at (λ same.
                let clash : true ≡ false = sym (tied_same n least same) ∙ other in cc))
          ] refl

      live : (n : ℕ) (bytes : List ℕ) → finmap.find nat_cmp n ((least, []) ∷ []) ≡ Some bytes → least ≤ n
      live n bytes is =
          elim (eq_by_cmp nat_cmp n least) as (λ b. eq_by_cmp nat_cmp n least ≡ b → cond b (Some []) None ≡ Some bytes
          → least ≤ n) [
            | true ↦ λ same h. omega (arith, equal_number n least same)
            | false ↦ λ other h. absurd (cc)
          ] refl is
