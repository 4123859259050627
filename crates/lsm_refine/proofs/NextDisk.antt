-- What the next opening of that store's folder leaves on the disk.
use Rattle.std.specs.Prelude.{◌≡◌, ℕ, ◌≤◌, true, List, [], ◌∷◌, slice_get, Some, None}
use Rattle.std.proofs.Common.{inl, inr, refl, sym, ◌∙◌, arith}
use Rattle.std.proofs.lemmas.List.Elements.{All-nil, All-cons}
use Rattle.std.proofs.lemmas.List.Sorted.{IsPermutation-refl}
use Rattle.std.specs.List.Sorted.{IsStrictlySortedBy}
use Rattle.std.specs.Ordering.{nat_cmp}
use Rattle.std.specs.FinMap as finmap
use Rattle.lsm_names.specs.Folders.{is_folder_name}
use Rattle.lsm_names.specs.FileNames.{IsFileName}
use Rattle.lsm_names.specs.declared.file_names.FileName.{FileName}
use Rattle.lsm_names.specs.declared.file_names.FileName.TheVariants.{Log, Table, Manifest, Current}
use Rattle.lsm_disk.specs.State as disk
use Rattle.lsm_disk.specs.Images.{bytes_at, tree_now}
use Rattle.lsm_disk.specs.Dest.{path_in}
use Rattle.lsm_disk.specs.Building.{names_of, sealed}
use Rattle.lsm_folder.specs.Names.{current_text}
use Rattle.lsm_wal.specs.Batches.{IsLogged}
use Rattle.lsm_wal.specs.Standing.{IsWal}
use Rattle.lsm_refine.specs.Disks.{folder_disk}
use Rattle.lsm_refine.specs.Kept.{Unfinished}
use Rattle.lsm_refine.specs.Sane.{IsWholeFile, IsAlone, IsCurrent, HasEdits, HasTable, HasTables, HasLogs, AreWritten, Sane}
use Rattle.lsm_refine.specs.Witness.{its_row, its_table, its_placed, older_row, newer_row, next_table, next_placed, next_manifest, next_files, next_kept, next_parts}
use Rattle.lsm_refine.proofs.FolderDisks.{AreApart, folder_kept, part_alone}
use Rattle.lsm_refine.proofs.FolderStores.{Each, IsLive, apart_by, whole_at, known_at, files_at, quiet_at, logs_at}
use Rattle.lsm_refine.proofs.WitnessLemmas.{table_is}
use Rattle.lsm_refine.proofs.NextLemmas.{next_is, next_are, next_tables, next_log, next_last, two_tables, each_of_two, next_lawful}

pub next_named : Each IsFileName (names_of next_files)
next_named = (tt, (refl, (refl, (refl, (refl, (refl, (refl, tt)))))))

pub next_apart : AreApart next_files
next_apart = apart_by next_files next_named refl

pub next_live : Each (IsLive 7 (7 ∷ [])) (names_of next_files)
next_live = (tt, (tt, (inr (omega arith), (inr (omega arith), (tt, (tt, (inl (0, omega arith, refl), tt)))))))

module _ (dir : List ℕ) (fits : is_folder_name dir ≡ true) where
  abbrev d : disk.State
  d = folder_disk dir next_files

  whole : (index : ℕ) (name : FileName) (bytes : List ℕ) → slice_get next_files index
      ≡ Some (record { name = name; bytes = bytes }) → IsWholeFile d (path_in dir name) bytes
  whole = whole_at dir fits next_files next_apart next_named

  log_file : IsWholeFile d (path_in dir (Log 7)) []
  log_file = whole 6 (Log 7) [] refl

  is_current : IsCurrent d dir next_kept
  is_current = record {
    named = fits;
    folder = folder_kept dir fits next_files next_apart;
    numbered = refl;
    file = whole 0 Current (current_text 1) refl;
  }

  has_edits : HasEdits d dir next_kept next_parts.edits
  unfolding next_manifest
  has_edits = record {
    are = next_are;
    file = whole 5 (Manifest 1) next_manifest refl;
    len = refl;
    version = sym next_tables;
    log = sym next_log;
    last = sym next_last;
  }

  first_table : HasTable d dir next_kept 3 its_placed (its_row ∷ [])
  first_table = record {
    numbered = refl;
    bytes = its_table;
    file = whole 1 (Table 3) its_table refl;
    table = table_is;
    size = refl;
    viewed = λ view is. let clash : None ≡ Some view = sym (finmap.get-empty nat_cmp 3) ∙ is in absurd (cc);
  }

  second_table : HasTable d dir next_kept 6 next_placed (older_row ∷ newer_row ∷ [])
  second_table = record {
    numbered = refl;
    bytes = next_table;
    file = whole 4 (Table 6) next_table refl;
    table = next_is;
    size = refl;
    viewed = λ view is. let clash : None ≡ Some view = sym (finmap.get-empty nat_cmp 6) ∙ is in absurd (cc);
  }

  has_tables : HasTables d dir next_kept next_parts.rows
  has_tables = record {
    each = λ number placed is. each_of_two (λ n p. HasTable d dir next_kept n p
        (next_parts.rows n)) second_table first_table number placed (two_tables number placed is);
  }

  empty_wal : IsWal d (path_in dir (Log 7)) [] 0
  empty_wal = record {
    id = log_file.id;
    file = sealed [];
    kept = log_file.file;
    text = refl;
    within = omega arith;
    synced = omega arith;
    each = All-nil IsLogged;
  }

  abbrev IsLiveNumber : ℕ → Type 0
  IsLiveNumber number = (7 ≤ number) × IsFileName (Log number)

  has_logs : HasLogs d dir next_kept next_parts
  unfolding IsStrictlySortedBy
  has_logs = record {
    numbers = refl;
    ascend = (tt, tt);
    live = All-cons IsLiveNumber 7 [] (omega arith, refl) (All-nil IsLiveNumber);
    older = tt;
    last = empty_wal;
    only = logs_at dir fits next_files next_apart next_named next_kept next_live;
    frozen = record { same = IsPermutation-refl []; newest_is = λ key. refl };
    active = record { same = IsPermutation-refl []; newest_is = λ key. refl };
  }

  are_written : AreWritten d dir next_kept 7
  are_written = record {
    tables = All-nil (λ (table : Unfinished). bytes_at (tree_now d) (path_in dir (Table table.number)) ≡ Some table.bytes);
    alone =
        All-cons (IsAlone d) (path_in dir (Manifest 1)) (path_in dir (Log 7) ∷ [])
        (part_alone dir fits next_files next_apart 5 (record { name = Manifest 1; bytes = next_manifest }) refl)
        (All-cons (IsAlone d) (path_in dir (Log 7)) [] (part_alone dir fits next_files next_apart 6
        (record { name = Log 7; bytes = [] }) refl) (All-nil (IsAlone d)));
  }

  pub next_sane : Sane d dir next_kept next_parts
  next_sane = record {
    current = is_current;
    edits = has_edits;
    tables = has_tables;
    logs = has_logs;
    quiet = quiet_at dir fits next_files next_apart next_named next_kept;
    known = known_at dir fits next_files next_apart next_named next_kept refl;
    files = files_at dir fits next_files next_apart next_named;
    lawful = next_lawful;
    written = are_written;
    restored = refl;
  }
