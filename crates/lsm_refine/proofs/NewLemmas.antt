-- A new store is good for the state of an empty one.
use Rattle.std.specs.Prelude.{◌≡◌, ◌≢◌, ◌⊎◌, ℕ, ◌+◌, ◌-◌, ◌^◌, ◌<◌, ◌≤◌, nat_eq, true, false, is_some, List, [], ◌∷◌, ◌++◌, map, take, All, Contains, Option, Some, None, Ok}
use Rattle.std.proofs.Common.{⊎_elim, inl, inr, refl, sym, ap, subst, ◌∙◌, arith}
use Rattle.std.proofs.lemmas.List.Elements.{All-nil, All-cons, All-head, All-tail, All-weaker, All-contains, All-contains_itself, Contains-append_right}
use Rattle.std.proofs.lemmas.Bool.Decides.{nat_tests}
use Rattle.std.proofs.lemmas.List.Sorted.{IsPermutation-refl}
use Rattle.std.specs.List.{flat_map, IsDistinct}
use Rattle.std.specs.List.Sorted.{IsStrictlySortedBy}
use Rattle.std.specs.Ordering.{nat_cmp, eq_by_cmp}
use Rattle.std.specs.FinMap as finmap
use Rattle.lsm_names.specs.Numbers.{is_file_number}
use Rattle.lsm_names.specs.FileNames.{IsFileName, spelled}
use Rattle.lsm_names.specs.declared.file_names.FileName.{FileName}
use Rattle.lsm_names.specs.declared.file_names.FileName.TheVariants.{Log, Table, Manifest, Temp, Current}
use Rattle.lsm_names.proofs.FileNameLemmas.{spelled_injective}
use Rattle.lsm_rows.specs.declared.rows.Row.{Row}
use Rattle.lsm_rows.specs.Contents.{contents_of}
use Rattle.lsm_rows.specs.Replay.{key_cmp}
use Rattle.lsm_rows.proofs.NewestRows.{same_contents, get_contents}
use Rattle.lsm_disk.specs.Names.{Node, Folder_node, File_node, all_named, id_of}
use Rattle.lsm_disk.specs.State as disk
use Rattle.lsm_disk.specs.State.{Seen, Story, state_of, names_now, file_at, new_file}
use Rattle.lsm_disk.specs.Kept.{OpSpares}
use Rattle.lsm_disk.specs.Dest.{path_in}
use Rattle.lsm_disk.specs.Images.{bytes_at, tree_now}
use Rattle.lsm_disk.specs.Building.{IsKeptPart, sealed}
use Rattle.lsm_disk.proofs.Kept.{kept_at}
use Rattle.lsm_disk.proofs.Named.{name_now}
use Rattle.lsm_wal.specs.Batches.{IsLogged}
use Rattle.lsm_wal.specs.Standing.{IsWal}
use Rattle.lsm_folder.specs.Names.{name_cmp, current_text}
use Rattle.lsm_folder.proofs.FileLemmas.{same_name, name_itself}
use Rattle.lsm_version.specs.declared.tables.Placed.{Placed}
use Rattle.lsm_version.specs.Edits.{IsEdit, AreFields, InRange, Before, rank_of}
use Rattle.lsm_version.specs.Levels.{Tables, overlaps_from}
use Rattle.lsm_version.specs.Versions.{empty_version, applied, changed, refused_by, version_after, numbers_after}
use Rattle.lsm_folder.specs.Manifests.{tables_or_none, tables_after, log_after, last_after}
use Rattle.lsm_folder.specs.Needed.{sequences}
use Rattle.lsm_folder.specs.Parts.{AreEdits, AreLawful, rows_of_tables}
use Rattle.lsm_model.specs.declared.states.FolderRead.{FolderRead}
use Rattle.lsm_model.specs.declared.states.Pin.{Pin}
use Rattle.lsm_refine.specs.Kept.{Unfinished}
use Rattle.lsm_refine.specs.Parts.{Parts, AreRowsOf}
use Rattle.lsm_refine.specs.Sane.{IsCurrent, HasEdits, HasTables, HasLogs, MayStand, IsQuiet, AreKnown, AreFiles, AreWritten, Sane}
use Rattle.lsm_refine.specs.Tied.{Tied, WorksAs, live_table}
use Rattle.lsm_refine.specs.Pins.{PinFiles, JobsBuild}
use Rattle.lsm_refine.specs.Folders.{FoldersRead}
use Rattle.lsm_refine.specs.Listing.{table_listed, manifest_listed, files_listed}
use Rattle.lsm_refine.specs.Good.{Good}
use Rattle.lsm_refine.proofs.CrashLemmas.{list_folders}
use Rattle.lsm_refine.specs.New.{first_edit, first_manifest, new_names, new_kept, new_store, new_state, IsLeftover, IsThere, HasNewStore}
use Rattle.lsm_folder.proofs.FirstEditLemmas.{no_entries}

-- ---- its one edit

module _ (m : ℕ) (least : 1 ≤ m) (most : m + 2 < 2 ^ 56) where
  first_is : IsEdit (first_edit m)
  unfolding AreFields InRange Before rank_of
  first_is = record {
    fields = (
      record { range = record { some = omega (arith, least); most = omega (arith, most) }; behind = inl (omega arith) },
      (
        record { range = (omega (arith, least), omega (arith, most)); behind = inl (omega arith) },
        (record { range = omega arith; behind = inl (omega arith) }, tt),
      ),
    );
  }

first_version : (m : ℕ) → version_after (first_edit m ∷ []) ≡ Ok empty_version
unfolding version_after applied changed
first_version m = ap (λ (es : List (ℕ × Placed)). refused_by empty_version (overlaps_from 6 1 es)) no_entries

first_tables : (m : ℕ) → tables_after (first_edit m ∷ []) ≡ empty_version
unfolding tables_after
first_tables m = ap tables_or_none (first_version m)

pub first_log : (m : ℕ) → log_after (first_edit m ∷ []) ≡ m + 1
unfolding log_after numbers_after
first_log m = refl

pub first_last : (m : ℕ) → last_after (first_edit m ∷ []) ≡ 0
unfolding last_after numbers_after
first_last m = refl

pub first_are : (m : ℕ) → 1 ≤ m → m + 2 < 2 ^ 56 → AreEdits (first_edit m ∷ [])
first_are m least most = record {
  first = refl;
  each = All-cons IsEdit (first_edit m) [] (first_is m least most) (All-nil IsEdit);
  taken = record { tables = empty_version; is = first_version m };
}

-- it lists its manifest alone
pub new_lists : (m : ℕ) (beside : List FileName) → files_listed (new_kept m beside) ≡ manifest_listed (new_kept m beside) ∷ []
new_lists m beside = ap (λ (es : List (ℕ × Placed)). map table_listed es ++ manifest_listed (new_kept m beside) ∷ []) no_entries

-- ---- it has no table and no row

abbrev pub no_rows : ℕ → List Row
no_rows number = []

no_table : {A : Type 0} (number : ℕ) (placed : Placed) → finmap.get empty_version number ≡ Some placed → A
no_table number placed is = let clash : None ≡ Some placed = sym (finmap.get-empty nat_cmp number) ∙ is in cc

pub no_first : {A : Type 0} (m number : ℕ) (placed : Placed) → finmap.get (tables_after (first_edit m ∷ [])) number ≡ Some placed → A
no_first m number placed is = no_table number placed (ap (λ (tables : Tables). finmap.get tables number) (sym (first_tables m)) ∙ is)

pub no_table_rows : (m : ℕ) → rows_of_tables (tables_after (first_edit m ∷ [])) no_rows ≡ []
no_table_rows m =
    ap (λ (tables : Tables). rows_of_tables tables no_rows) (first_tables m)
    ∙ ap (flat_map (λ (table : ℕ × Placed). no_rows table.0)) no_entries

pub no_contents : contents_of [] ≡ finmap.empty
no_contents = same_contents (contents_of []) finmap.empty (λ key. get_contents [] key ∙ sym (finmap.get-empty key_cmp key))

pub first_lawful : (m : ℕ) → AreLawful (first_edit m ∷ []) no_rows
unfolding IsDistinct
first_lawful m = record {
  leveled = record {
    apart = λ k n a b is other differ some same. no_first m k a is;
    older = λ k n a b is other deeper. no_first m k a is;
  };
  listed = λ number placed is. no_first m number placed is;
  distinct = subst (λ (rows : List Row). IsDistinct nat_eq (sequences rows)) (sym (no_table_rows m)) tt;
}

pub none_of_none : (first : ℕ) → AreRowsOf first [] []
none_of_none first = record { same = IsPermutation-refl []; newest_is = λ key. refl }

-- ---- its parts

abbrev new_parts : ℕ → Parts
new_parts m = record {
  edits = first_edit m ∷ [];
  rows = no_rows;
  older = [];
  last = record { number = m + 1; batches = [] };
  synced = 0;
}

-- other names are spelled otherwise
pub spelled_apart : (name n : FileName) → IsFileName name → IsFileName n → eq_by_cmp name_cmp name n ≡ false → spelled name ≢ spelled n
spelled_apart name n fits also other same =
    let is : name ≡ n = spelled_injective name n fits also same in
    let clash : true ≡ false = sym (name_itself n) ∙ ap (λ (m : FileName). eq_by_cmp name_cmp m n) (sym is) ∙ other in
    cc

-- a name is among some, or spelled otherwise than each
pub among_or_not : (names : List FileName) (name : FileName) → All IsFileName names → IsFileName name
    → Contains names name ⊎ All (λ (n : FileName). spelled name ≢ spelled n) names
among_or_not [] name each fits = inr (All-nil (λ (n : FileName). spelled name ≢ spelled n))
among_or_not (n ∷ names) name each fits =
    elim (eq_by_cmp name_cmp name n) as (λ b. eq_by_cmp name_cmp name n ≡ b
    → Contains (n ∷ names) name ⊎ All (λ (m : FileName). spelled name ≢ spelled m) (n ∷ names)) [
      | true ↦ λ same. inl (subst (λ (m : FileName). Contains (n ∷ names) m) (sym (same_name name n same))
          (All-head (Contains (n ∷ names)) n names (All-contains_itself (n ∷ names))))
      | false ↦ λ other. ⊎_elim
          (λ among. inl (Contains-append_right (n ∷ []) names name among))
          (λ none. inr (All-cons (λ (m : FileName). spelled name ≢ spelled m) n names
          (spelled_apart name n fits (All-head IsFileName n names each) other) none))
          (among_or_not names name (All-tail IsFileName n names each) fits)
    ] refl

-- a number of files is one
pub file_number : (n : ℕ) → 1 ≤ n → n < 2 ^ 56 - 1 → is_file_number n ≡ true
file_number n least most = grind (arith, nat_tests)

-- a leftover is a file's name, and no log of the new store
leftover_named : (m : ℕ) (name : FileName) → IsLeftover m name → IsFileName name
leftover_named m (Log number) is = is.0
leftover_named m (Table number) is = is.0
leftover_named m (Manifest number) is = is.0
leftover_named m (Temp number) is = is.0
leftover_named m Current is = absurd is

abbrev IsItsLog : ℕ → FileName → Type 0
IsItsLog m (Log number) = (m + 1 ≡ number) ⊎ (number < m)
IsItsLog m name = Unit {0}

leftover_log : (m : ℕ) (name : FileName) → IsLeftover m name → IsItsLog m name
leftover_log m (Log number) is = inr is.1
leftover_log m (Table number) is = tt
leftover_log m (Manifest number) is = tt
leftover_log m (Temp number) is = tt
leftover_log m Current is = absurd is

module _ (d : disk.State) (dir : List ℕ) (m : ℕ) (beside : List FileName) (has : HasNewStore d dir m beside) where
  abbrev names : List FileName
  names = new_names m beside

  manifest_named : IsFileName (Manifest m)
  manifest_named = file_number m has.least (omega (arith, has.most))

  log_named : IsFileName (Log (m + 1))
  log_named = file_number (m + 1) (omega arith) (omega (arith, has.most))

  -- what holds of each of its names and of those beside
  each_name : (P : FileName → Type 0) → P Current → P (Manifest m) → P (Log (m + 1)) → All P beside → All P names
  each_name P current manifest log others =
      All-cons P Current (Manifest m ∷ Log (m + 1) ∷ beside) current
      (All-cons P (Manifest m) (Log (m + 1) ∷ beside) manifest (All-cons P (Log (m + 1)) beside log others))

  new_named : All IsFileName names
  new_named = each_name IsFileName tt manifest_named log_named (All-weaker (IsLeftover m) IsFileName (leftover_named m) beside has.earlier)

  new_logs : All (IsItsLog m) names
  new_logs = each_name (IsItsLog m) tt tt (inl refl) (All-weaker (IsLeftover m) (IsItsLog m) (leftover_log m) beside has.earlier)

  number_among : (number : ℕ) → m + 1 ≤ number → Contains names (Log number) → Contains ((m + 1) ∷ []) number
  number_among number least among = ⊎_elim
      (λ is. subst (λ (n : ℕ). Contains ((m + 1) ∷ []) n) is (0, omega arith, refl))
      (λ less. absurd (omega (arith, less, least)))
      (All-contains (IsItsLog m) names (Log number) new_logs among)

  current_kept : IsKeptPart dir d (record { name = Current; bytes = current_text m })
  current_kept = has.each 0 (record { name = Current; bytes = current_text m }) (omega arith)

  manifest_kept : IsKeptPart dir d (record { name = Manifest m; bytes = first_manifest m })
  manifest_kept = has.each 1 (record { name = Current; bytes = [] }) (omega arith)

  log_kept : IsKeptPart dir d (record { name = Log (m + 1); bytes = [] })
  log_kept = has.each 2 (record { name = Current; bytes = [] }) (omega arith)

  -- no other file is there
  none_there : (name : FileName) → IsFileName name → All (λ (n : FileName). spelled name ≢ spelled n) names
      → file_at d (path_in dir name) ≡ None
  none_there name fits others = ap id_of (name_now d (path_in dir name) None (has.only name fits others))

  is_current : IsCurrent d dir (new_kept m beside)
  is_current = record {
    named = has.named;
    folder = has.stands;
    numbered = manifest_named;
    file = record { id = current_kept.id; file = current_kept.file };
  }

  has_edits : HasEdits d dir (new_kept m beside) (first_edit m ∷ [])
  has_edits = record {
    are = first_are m has.least has.most;
    file = record { id = manifest_kept.id; file = manifest_kept.file };
    len = refl;
    version = sym (first_tables m);
    log = sym (first_log m);
    last = sym (first_last m);
  }

  has_tables : HasTables d dir (new_kept m beside) no_rows
  has_tables = record { each = λ number placed is. no_table number placed is }

  is_wal : IsWal d (path_in dir (Log (m + 1))) [] 0
  is_wal = record {
    id = log_kept.id;
    file = new_file;
    kept = log_kept.file;
    text = refl;
    within = omega arith;
    synced = omega arith;
    each = All-nil IsLogged;
  }

  only_log : (number : ℕ) → m + 1 ≤ number → IsFileName (Log number) → MayStand d dir (new_kept m beside) number
  only_log number least fits = ⊎_elim
      (λ among. inl (number_among number least among))
      (λ others. inr (none_there (Log number) fits others))
      (among_or_not names (Log number) new_named fits)

  has_logs : HasLogs d dir (new_kept m beside) (new_parts m)
  unfolding IsStrictlySortedBy
  has_logs = record {
    numbers = refl;
    ascend = (tt, tt);
    live = All-cons (λ (number : ℕ). (m + 1 ≤ number) × IsFileName (Log number)) (m + 1) [] (omega arith, log_named)
        (All-nil (λ (number : ℕ). (m + 1 ≤ number) × IsFileName (Log number)));
    older = tt;
    last = is_wal;
    only = only_log;
    frozen = none_of_none _;
    active = none_of_none _;
  }

  is_quiet : IsQuiet d dir (new_kept m beside)
  is_quiet = record {
    spares = λ name fits held. subst (All (OpSpares (path_in dir name))) (sym has.settled)
        (All-nil (OpSpares (path_in dir name)));
  }

  abbrev HasFile : FileName → Type 0
  HasFile name = is_some (file_at d (path_in dir name)) ≡ true

  a_part : (n : FileName) (bytes : List ℕ) → IsKeptPart dir d (record { name = n; bytes = bytes }) → HasFile n
  a_part n bytes kept = ap is_some (kept_at d (path_in dir n) kept.id (sealed bytes) kept.file)

  one_beside : (name : FileName) → IsThere d dir name → HasFile name
  one_beside name is = ap (λ (node : Option Node). is_some (id_of node)) (name_now d (path_in dir name) (Some (File_node is.id)) is.named)

  files_there : All HasFile names
  files_there =
      each_name HasFile (a_part Current (current_text m) current_kept) (a_part (Manifest m) (first_manifest m) manifest_kept)
      (a_part (Log (m + 1)) [] log_kept)
      (All-weaker (IsThere d dir) HasFile one_beside beside has.there)

  is_known : (name : FileName) → IsFileName name → is_some (finmap.get (names_now d) (path_in dir name)) ≡ true → Contains names name
  is_known name fits there = ⊎_elim
      (λ among. among)
      (λ others. let clash : false ≡ true = ap is_some (sym (name_now d (path_in dir name) None
      (has.only name fits others))) ∙ there in absurd (cc))
      (among_or_not names name new_named fits)

  -- under this name no folder stands, now and after each crash
  abbrev HasNoFolder : FileName → Type 0
  HasNoFolder name = (k : ℕ) → finmap.get (all_named (take k d.pending) d.durable) (path_in dir name) ≢ Some Folder_node

  a_file : (n : FileName) (bytes : List ℕ) → IsKeptPart dir d (record { name = n; bytes = bytes }) → HasNoFolder n
  a_file n bytes kept k is = let clash : Some (File_node kept.id) ≡ Some Folder_node = sym (kept.file.named k) ∙ is in cc

  nothing : (name : FileName) → IsFileName name → All (λ (n : FileName). spelled name ≢ spelled n) names → HasNoFolder name
  nothing name fits others k is = let clash : None ≡ Some Folder_node = sym (has.only name fits others k) ∙ is in cc

  a_leftover : (name : FileName) → IsThere d dir name → HasNoFolder name
  a_leftover name there k is = let clash : Some (File_node there.id) ≡ Some Folder_node = sym (there.named k) ∙ is in cc

  no_folders : All HasNoFolder names
  no_folders =
      each_name HasNoFolder (a_file Current (current_text m) current_kept)
      (a_file (Manifest m) (first_manifest m) manifest_kept) (a_file (Log (m + 1)) [] log_kept)
      (All-weaker (IsThere d dir) HasNoFolder a_leftover beside has.there)

  are_files : AreFiles d dir
  are_files = record {
    no_folder = λ name k fits. ⊎_elim
        (λ among. All-contains HasNoFolder names name no_folders among k)
        (λ others. nothing name fits others k)
        (among_or_not names name new_named fits);
  }

  are_known : AreKnown d dir (new_kept m beside)
  are_known = record { there = λ name among. (All-contains IsFileName names name new_named among, All-contains HasFile names name files_there among); all = is_known }

  are_written : AreWritten d dir (new_kept m beside) (m + 1)
  are_written = record {
    tables = All-nil (λ (table : Unfinished). bytes_at (tree_now d) (path_in dir (Table table.number))
        ≡ Some table.bytes);
    alone = has.alone;
  }

  sane : Sane d dir (new_kept m beside) (new_parts m)
  sane = record {
    current = is_current;
    edits = has_edits;
    tables = has_tables;
    logs = has_logs;
    quiet = is_quiet;
    known = are_known;
    files = are_files;
    lawful = first_lawful m;
    written = are_written;
    restored = refl;
  }

-- ---- its state

module _ (seen : Seen) (dir : List ℕ) (m : ℕ) (beside : List FileName) (folders : List FolderRead) where
  tied : Tied (new_parts m) (new_state seen dir m folders)
  tied = record {
    flushed = 0;
    within = omega arith;
    below = ap contents_of (no_table_rows m) ∙ no_contents;
    last = first_last m;
    above = refl;
    durable = omega arith;
  }

  works : WorksAs (new_kept m beside) (new_parts m) (new_state seen dir m folders)
  works = record {
    active = refl;
    frozen = refl;
    log_len = refl;
    older_len = refl;
    active_len = refl;
    frozen_len = refl;
    tables = sym (ap (map live_table) no_entries);
    merging = refl;
    outputs = refl;
    next = refl;
    manifest_len = refl;
  }

  no_jobs : (d : disk.State) → JobsBuild d dir [] (new_state seen dir m folders)
  unfolding IsDistinct
  no_jobs d = record { apart = tt; each = tt }

  pub new_good : (story : Story) → seen.told ≡ Some story → HasNewStore (state_of story) dir m beside
      → FoldersRead (state_of story) (new_state seen dir m folders)
      → Good (new_store seen dir m beside) (new_state seen dir m folders)
  new_good story told has read = record {
    story = story;
    told = told;
    mode = record {
      parts = new_parts m;
      sane = sane (state_of story) dir m beside has;
      tied = tied;
      works = works;
      jobs = no_jobs (state_of story);
      certain = refl;
    };
    pinned = record { pins = tt; files = All-nil (λ (pin : Pin). PinFiles (state_of story) dir pin.files) };
    folders = read;
    clear = has.clear;
    counted = record {
      durable = omega arith;
      numbers = All-nil (λ (pin : Pin). pin.number ≤ 0);
      fronts = All-nil (λ (pin : Pin). pin.batches ≤ 0);
      begun = tt;
    };
    kept = record { own = refl; sequence = refl; greatest_pin = refl; disables = refl; begun = refl; halt = refl };
    counts = record { faults = refl; refusals = refl };
  }

-- the other folders of its disk can be listed
pub new_listed : (seen : Seen) (dir : List ℕ) (m : ℕ) (beside : List FileName) (story : Story) → seen.told ≡ Some story
    → HasNewStore (state_of story) dir m beside
    → (folders : List FolderRead) × Good (new_store seen dir m beside) (new_state seen dir m folders)
new_listed seen dir m beside story told has =
    let read = list_folders (state_of story) (new_state seen dir m []) refl in
    (read.0, new_good seen dir m beside read.0 story told has read.1)
