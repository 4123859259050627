-- What that store keeps is so on its disk.
use Rattle.std.specs.Prelude.{◌≡◌, ℕ, ◌≤◌, true, List, [], ◌∷◌, slice_get, Some, None}
use Rattle.std.proofs.Common.{inl, refl, sym, subst, ◌∙◌, arith}
use Rattle.std.proofs.lemmas.List.Elements.{All-nil, All-cons}
use Rattle.std.proofs.lemmas.List.Sorted.{IsPermutation-refl}
use Rattle.std.specs.List.Sorted.{IsStrictlySortedBy}
use Rattle.std.specs.Ordering.{nat_cmp}
use Rattle.std.specs.FinMap as finmap
use Rattle.lsm_names.specs.Folders.{is_folder_name}
use Rattle.lsm_names.specs.FileNames.{IsFileName}
use Rattle.lsm_names.specs.declared.file_names.FileName.{FileName}
use Rattle.lsm_names.specs.declared.file_names.FileName.TheVariants.{Log, Table, Manifest, Current}
use Rattle.lsm_disk.specs.State as disk
use Rattle.lsm_disk.specs.State.{file_at, names_now}
use Rattle.lsm_disk.specs.Images.{bytes_at, tree_now}
use Rattle.lsm_disk.specs.Dest.{path_in}
use Rattle.lsm_disk.specs.Building.{names_of}
use Rattle.lsm_folder.specs.Names.{current_text}
use Rattle.lsm_version.specs.Versions.{numbers_after}
use Rattle.lsm_version.specs.declared.tables.Placed.{Placed}
use Rattle.lsm_wal.specs.Batches.{in_sequence}
use Rattle.lsm_wal.specs.Standing.{IsWal}
use Rattle.lsm_folder.specs.Manifests.{last_after}
use Rattle.lsm_refine.specs.Kept.{Unfinished}
use Rattle.lsm_refine.specs.Sane.{IsWholeFile, IsAlone, IsCurrent, HasEdits, HasTable, HasTables, HasLogs, AreWritten, Sane}
use Rattle.lsm_refine.specs.Witness.{older, newer, its_row, its_table, older_log, last_log, its_placed, its_manifest, its_files, its_disk, its_kept, its_parts}
use Rattle.lsm_refine.proofs.FolderDisks.{AreApart, folder_kept, part_alone}
use Rattle.lsm_refine.proofs.FolderStores.{Each, IsLive, apart_by, whole_at, known_at, files_at, quiet_at, logs_at}
use Rattle.lsm_refine.proofs.WitnessLemmas.{table_is, edits_are, tables_are, log_is, last_is, only_table, are_lawful, put_logged, synced_wal}

-- ---- names

pub its_named : Each IsFileName (names_of its_files)
its_named = (tt, (refl, (refl, (refl, (refl, (refl, tt))))))

pub its_apart : AreApart its_files
its_apart = apart_by its_files its_named refl

pub its_live : Each (IsLive 4 (4 ∷ 5 ∷ [])) (names_of its_files)
its_live = (tt, (tt, (inl (0, omega arith, refl), (inl (1, omega arith, refl), (tt, (tt, tt))))))

-- ---- on the disk

module _ (dir : List ℕ) (fits : is_folder_name dir ≡ true) where
  abbrev d : disk.State
  d = its_disk dir

  whole : (index : ℕ) (name : FileName) (bytes : List ℕ) → slice_get its_files index
      ≡ Some (record { name = name; bytes = bytes }) → IsWholeFile d (path_in dir name) bytes
  whole = whole_at dir fits its_files its_apart its_named

  pub table_file : IsWholeFile d (path_in dir (Table 3)) its_table
  table_file = whole 1 (Table 3) its_table refl

  pub manifest_file : IsWholeFile d (path_in dir (Manifest 1)) its_manifest
  manifest_file = whole 5 (Manifest 1) its_manifest refl

  pub older_file : IsWholeFile d (path_in dir (Log 4)) older_log
  older_file = whole 2 (Log 4) older_log refl

  pub newer_file : IsWholeFile d (path_in dir (Log 5)) last_log
  newer_file = whole 3 (Log 5) last_log refl

  is_current : IsCurrent d dir its_kept
  is_current = record {
    named = fits;
    folder = folder_kept dir fits its_files its_apart;
    numbered = refl;
    file = whole 0 Current (current_text 1) refl;
  }

  has_edits : HasEdits d dir its_kept its_parts.edits
  unfolding its_manifest
  has_edits = record { are = edits_are; file = manifest_file; len = refl; version = sym tables_are; log = sym log_is; last = sym last_is }

  one_table : HasTable d dir its_kept 3 its_placed (its_row ∷ [])
  one_table = record {
    numbered = refl;
    bytes = its_table;
    file = table_file;
    table = table_is;
    size = refl;
    viewed = λ view is. let clash : None ≡ Some view = sym (finmap.get-empty nat_cmp 3) ∙ is in absurd (cc);
  }

  has_tables : HasTables d dir its_kept its_parts.rows
  has_tables = record {
    each = λ number placed is.
        let only = only_table number placed is in
        subst (λ (n : ℕ). HasTable d dir its_kept n placed (its_row ∷ [])) (sym only.0)
        (subst (λ (p : Placed). HasTable d dir its_kept 3 p (its_row ∷ [])) (sym only.1) one_table);
  }

  older_wal : IsWal d (path_in dir (Log 4)) (in_sequence 2 (older ∷ [])) 1
  unfolding older_log
  older_wal = synced_wal d (path_in dir (Log 4)) older_file.id older_log (in_sequence 2 (older ∷ [])) older_file.file refl
      (put_logged 98 50 2 (omega arith))

  newer_wal : IsWal d (path_in dir (Log 5)) (in_sequence 3 (newer ∷ [])) 1
  unfolding last_log
  newer_wal = synced_wal d (path_in dir (Log 5)) newer_file.id last_log (in_sequence 3 (newer ∷ [])) newer_file.file refl
      (put_logged 99 51 3 (omega arith))

  has_logs : HasLogs d dir its_kept its_parts
  unfolding IsStrictlySortedBy last_after numbers_after
  has_logs = record {
    numbers = refl;
    ascend = ((refl, tt), (tt, tt));
    live = All-cons (λ (number : ℕ). (4 ≤ number) × IsFileName (Log number)) 4 (5 ∷ []) (omega arith, refl)
        (All-cons (λ (number : ℕ). (4 ≤ number) × IsFileName (Log number)) 5 [] (omega arith, refl)
        (All-nil (λ (number : ℕ). (4 ≤ number) × IsFileName (Log number))));
    older = (older_wal, tt);
    last = newer_wal;
    only = logs_at dir fits its_files its_apart its_named its_kept its_live;
    frozen = record { same = IsPermutation-refl its_kept.frozen; newest_is = λ key. refl };
    active = record { same = IsPermutation-refl its_kept.active; newest_is = λ key. refl };
  }

  are_written : AreWritten d dir its_kept 5
  are_written = record {
    tables = All-nil (λ (table : Unfinished). bytes_at (tree_now d) (path_in dir (Table table.number)) ≡ Some table.bytes);
    alone =
        All-cons (IsAlone d) (path_in dir (Manifest 1)) (path_in dir (Log 5) ∷ [])
        (part_alone dir fits its_files its_apart 5 (record { name = Manifest 1; bytes = its_manifest }) refl)
        (All-cons (IsAlone d) (path_in dir (Log 5)) [] (part_alone dir fits its_files its_apart 3
        (record { name = Log 5; bytes = last_log }) refl) (All-nil (IsAlone d)));
  }

  pub its_sane : Sane d dir its_kept its_parts
  its_sane = record {
    current = is_current;
    edits = has_edits;
    tables = has_tables;
    logs = has_logs;
    quiet = quiet_at dir fits its_files its_apart its_named its_kept;
    known = known_at dir fits its_files its_apart its_named its_kept refl;
    files = files_at dir fits its_files its_apart its_named;
    lawful = are_lawful;
    written = are_written;
    restored = refl;
  }
