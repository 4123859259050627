-- What changes within another folder leaves all that a store says of its own, of its pins and of its checkpoints.
use Rattle.std.specs.Prelude.{◌≡◌, ◌≢◌, ◌⊎◌, ℕ, ◌≤◌, Bool, true, false, cond, ◌==◌, is_some, List, [], ◌∷◌, ◌++◌, map, length, All, Option, Some, None}
use Rattle.std.proofs.Common.{⊎_elim, inl, inr, refl, sym, ap, ◌∙◌, arith}
use Rattle.std.proofs.lemmas.List.Elements.{All-nil, All-cons, All-head, All-tail, All-weaker}
use Rattle.lsm_names.specs.Folders.{is_folder_name}
use Rattle.lsm_names.specs.FileNames.{spelled}
use Rattle.lsm_names.specs.declared.file_names.FileName.{FileName}
use Rattle.lsm_names.specs.declared.file_names.FileName.TheVariants.{Log, Table, Manifest, Current}
use Rattle.lsm_names.proofs.FolderLemmas.{folder_has_bytes, folder_is_component}
use Rattle.lsm_rows.specs.declared.rows.Row.{Row}
use Rattle.lsm_rows.specs.Replay.{sequence_after}
use Rattle.lsm_disk.specs.Names.{Node, Folder_node, File_node, id_of, is_in, under}
use Rattle.lsm_disk.specs.State.{FileState, State, file_at}
use Rattle.lsm_disk.specs.Images.{bytes_at, tree_now}
use Rattle.lsm_disk.specs.Kept.{IsKeptName, IsKeptFile}
use Rattle.lsm_disk.specs.Dest.{path_in}
use Rattle.lsm_disk.proofs.Kept.{kept_file_now}
use Rattle.lsm_disk.proofs.Moves.{under_is}
use Rattle.lsm_disk.proofs.Paths.{number, under_tail}
use Rattle.lsm_wal.specs.Batches.{Logged}
use Rattle.lsm_wal.specs.Standing.{IsWal}
use Rattle.lsm_version.specs.declared.edits.Edit.{Edit}
use Rattle.lsm_model.specs.declared.states.State as model
use Rattle.lsm_model.specs.declared.states.Pin.{Pin}
use Rattle.lsm_model.specs.declared.states.PinnedFile.{PinnedFile}
use Rattle.lsm_model.specs.Halting.{built_in}
use Rattle.lsm_refine.specs.Kept.{Job, KeptPin, Unfinished, Kept}
use Rattle.lsm_refine.specs.Parts.{LogPart, Parts, first_logged}
use Rattle.lsm_refine.specs.Sane.{IsWholeFile, IsAlone, IsCurrent, HasEdits, HasTables, AreSynced, HasLogs, IsQuiet, AreKnown, AreFiles, AreWritten, RestoreBuilds, Sane, in_hand, appended_to}
use Rattle.lsm_refine.specs.Pins.{ArePins, IsPinned, PinFiles, AreClearable, HasCopy, HasFront, IsAbsent, HasJob, BuildsJob, JobsBuild, done_files, begun_files, absent_files}
use Rattle.lsm_refine.specs.Within.{ChangesWithin, IsNamedJob, SaneOutside, without_restore}
use Rattle.lsm_refine.proofs.ChangeLemmas.{file_of, bytes_now}
use Rattle.lsm_refine.proofs.FolderDisks.{has_slash, apart_from, built_flat}
use Rattle.lsm_refine.proofs.OtherFileLemmas.{flat, parts_false, heads, slash_is, not_built}

-- ---- paths outside a folder

-- where two names have no slash, the first slash is behind each
pub first_slash : (xs ys a b : List ℕ) → has_slash xs ≡ false → has_slash ys ≡ false → xs ++ 47 ∷ a ≡ ys ++ 47 ∷ b → xs ≡ ys
first_slash [] [] a b one two same = refl
first_slash [] (y ∷ ys) a b one two same = absurd (slash_is y (heads 47 y a (ys ++ 47 ∷ b) same).0
    (parts_false (y == 47) (has_slash ys) two).0)
first_slash (x ∷ xs) [] a b one two same = absurd (slash_is x (sym (heads x 47 (xs ++ 47 ∷ a) b same).0)
    (parts_false (x == 47) (has_slash xs) one).0)
first_slash (x ∷ xs) (y ∷ ys) a b one two same =
    let rest = heads x y (xs ++ 47 ∷ a) (ys ++ 47 ∷ b) same in
    ap (λ (n : ℕ). n ∷ xs) rest.0
    ∙ ap (λ (l : List ℕ). y ∷ l) (first_slash xs ys a b (parts_false (x == 47) (has_slash xs) one).1
    (parts_false (y == 47) (has_slash ys) two).1 rest.1)

-- what is in a folder is the folder or a path inside
pub record IsInside (folder path : List ℕ) : Type 0 where
  pub is : (path ≡ folder) ⊎ ((rest : List ℕ) × (path ≡ folder ++ 47 ∷ rest))

pub inside_is : (folder path rest : List ℕ) → path ≡ folder ++ rest → under [] rest ≡ Some rest → IsInside folder path
inside_is folder path [] same tail = record { is = inl (same ∙ end folder) }
  where
    end : (xs : List ℕ) → xs ++ [] ≡ xs
    end [] = refl
    end (x ∷ xs) = ap (λ (l : List ℕ). x ∷ l) (end xs)
inside_is folder path (c ∷ rest) same tail = by (c == 47) refl tail
  where
    by : (b : Bool) → (c == 47) ≡ b → cond b (Some (c ∷ rest)) None ≡ Some (c ∷ rest) → IsInside folder path
    by true is found = record { is = inr (rest, same ∙ ap (λ (n : ℕ). folder ++ n ∷ rest) (number c 47 is)) }
    by false is found = absurd (cc)

in_is : (folder path : List ℕ) → 1 ≤ length folder → is_in folder path ≡ true → IsInside folder path
in_is [] path some inside = absurd (omega (arith, some))
in_is (f ∷ folder) path some inside = by (under (f ∷ folder) path) refl inside
  where
    by : (o : Option (List ℕ)) → under (f ∷ folder) path ≡ o → is_some o ≡ true → IsInside (f ∷ folder) path
    by None is found = absurd (cc)
    by (Some rest) is found = inside_is (f ∷ folder) path rest (under_is (f ∷ folder) path rest is) (under_tail (f ∷ folder) path rest is)

module _ (folder : List ℕ) (named : is_folder_name folder ≡ true) where
  folder_flat : has_slash folder ≡ false
  folder_flat = flat folder (folder_is_component folder named)

  not_inside : (path : List ℕ) → (IsInside folder path → ⊥) → is_in folder path ≡ false
  not_inside path never = by (is_in folder path) refl
    where
      by : (b : Bool) → is_in folder path ≡ b → b ≡ false
      by true inside = absurd (never (in_is folder path (folder_has_bytes folder named) inside))
      by false out = refl

  -- another name in the root is outside, and so is what is inside it
  module _ (head : List ℕ) (one : has_slash head ≡ false) (other : head ≢ folder) where
    pub head_outside : is_in folder head ≡ false
    head_outside = not_inside head (λ place. ⊎_elim other (λ deep. apart_from head folder deep.0 one deep.1) place.is)

    pub path_outside : (rest : List ℕ) → is_in folder (head ++ 47 ∷ rest) ≡ false
    path_outside rest = not_inside (head ++ 47 ∷ rest)
        (λ place. ⊎_elim (λ same. apart_from folder head rest folder_flat (sym same))
        (λ deep. other (first_slash head folder rest deep.0 one folder_flat deep.1)) place.is)

-- ---- what stays of a path outside

module _ (folder : List ℕ) (d later : State) (at : ChangesWithin folder d later) (path : List ℕ) (out : is_in folder path ≡ false) where
  file_stays : file_at later path ≡ file_at d path
  file_stays = ap id_of (at.now path out)

  bytes_stay : (held : List ℕ) → bytes_at (tree_now d) path ≡ Some held → bytes_at (tree_now later) path ≡ Some held
  bytes_stay held is = let found = file_of d path held is in bytes_now later path found.0 found.1
      (at.files path found.0 found.1 out found.2) ∙ ap Some found.3

  kept_name_stays : (what : Option Node) → IsKeptName d path what → IsKeptName later path what
  kept_name_stays what is k = let was = at.cuts k in was.same path out ∙ is was.count

  kept_file_stays : (id : ℕ) (f : FileState) → IsKeptFile d path id f → IsKeptFile later path id f
  kept_file_stays id f is = record {
    named = kept_name_stays (Some (File_node id)) is.named;
    file = (at.files path id f out (kept_file_now d path id f is)).file;
  }

  whole_stays : (held : List ℕ) → IsWholeFile d path held → IsWholeFile later path held
  whole_stays held is = record { id = is.id; file = kept_file_stays is.id _ is.file }

-- ---- the store's own folder

module _ (folder dir : List ℕ) (named : is_folder_name folder ≡ true) (fits : is_folder_name dir ≡ true) (other : folder ≢ dir)
    (d later : State) (at : ChangesWithin folder d later) where
  dir_flat : has_slash dir ≡ false
  dir_flat = flat dir (folder_is_component dir fits)

  dir_out : is_in folder dir ≡ false
  dir_out = head_outside folder named dir dir_flat (λ same. other (sym same))

  out : (name : FileName) → is_in folder (path_in dir name) ≡ false
  out name = path_outside folder named dir dir_flat (λ same. other (sym same)) (spelled name)

  pub current_within : (kept : Kept) → IsCurrent d dir kept → IsCurrent later dir kept
  current_within kept is = record {
    named = is.named;
    folder = kept_name_stays folder d later at dir dir_out (Some Folder_node) is.folder;
    numbered = is.numbered;
    file = whole_stays folder d later at (path_in dir Current) (out Current) _ is.file;
  }

  pub edits_within : (kept : Kept) (edits : List Edit) → HasEdits d dir kept edits → HasEdits later dir kept edits
  edits_within kept edits has = record {
    are = has.are;
    file = whole_stays folder d later at (path_in dir (Manifest kept.manifest)) (out (Manifest kept.manifest)) _ has.file;
    len = has.len;
    version = has.version;
    log = has.log;
    last = has.last;
  }

  pub tables_within : (kept : Kept) (rows : ℕ → List Row) → HasTables d dir kept rows → HasTables later dir kept rows
  tables_within kept rows has = record {
    each = λ number placed found. let table = has.each number placed found in
        record {
          numbered = table.numbered;
          bytes = table.bytes;
          file = whole_stays folder d later at (path_in dir (Table number)) (out (Table number)) table.bytes table.file;
          table = table.table;
          size = table.size;
          viewed = table.viewed;
        };
  }

  pub wal_within : (number : ℕ) (batches : List Logged) (durable : ℕ) → IsWal d (path_in dir (Log number)) batches durable
      → IsWal later (path_in dir (Log number)) batches durable
  wal_within number batches durable wal = record {
    id = wal.id;
    file = wal.file;
    kept = kept_file_stays folder d later at (path_in dir (Log number)) (out (Log number)) wal.id wal.file wal.kept;
    text = wal.text;
    within = wal.within;
    synced = wal.synced;
    each = wal.each;
  }

  synced_within : (first : ℕ) (logs : List LogPart) → AreSynced d dir first logs → AreSynced later dir first logs
  synced_within first [] synced = tt
  synced_within first (log ∷ logs) synced = (
    wal_within log.number _ _ synced.0,
    synced_within
        (sequence_after first log.batches) logs synced.1,
  )

  pub logs_within : (kept : Kept) (parts : Parts) → HasLogs d dir kept parts → HasLogs later dir kept parts
  logs_within kept parts has = record {
    numbers = has.numbers;
    ascend = has.ascend;
    live = has.live;
    older = synced_within (first_logged parts) parts.older has.older;
    last = wal_within parts.last.number _ parts.synced has.last;
    only = λ number from is. ⊎_elim
        (λ live. inl live)
        (λ none. inr (file_stays folder d later at (path_in dir (Log number)) (out (Log number)) ∙ none))
        (has.only number from is);
    frozen = has.frozen;
    active = has.active;
  }

  pub quiet_within : (kept : Kept) → IsQuiet d dir kept → IsQuiet later dir kept
  quiet_within kept is = record { spares = λ name file held. at.quiet (path_in dir name) (out name) (is.spares name file held) }

  pub known_within : (kept : Kept) → AreKnown d dir kept → AreKnown later dir kept
  known_within kept are = record {
    there = λ name known. let was = are.there name known in (
      was.0,
      ap is_some
          (file_stays folder d later at (path_in dir name) (out name)) ∙ was.1,
    );
    all = λ name is there. are.all name is (ap is_some (sym (at.now (path_in dir name) (out name))) ∙ there);
  }

  pub files_within : AreFiles d dir → AreFiles later dir
  files_within are = record {
    no_folder = λ name k is stands. let was = at.cuts k in are.no_folder name was.count is
        (sym (was.same (path_in dir name) (out name)) ∙ stands);
  }

  alone_within : (paths : List (List ℕ)) → All (λ (path : List ℕ). is_in folder path ≡ false) paths → All (IsAlone d) paths
      → All (IsAlone later) paths
  alone_within paths outside are = λ k default within. at.alone _ (outside k default within) (are k default within)

  tables_outside : (tables : List Unfinished) → All (λ (path : List ℕ). is_in folder path ≡ false)
      (map (λ (table : Unfinished). path_in dir (Table table.number)) tables ++ [])
  tables_outside [] = All-nil (λ (path : List ℕ). is_in folder path ≡ false)
  tables_outside (table ∷ tables) = All-cons (λ (path : List ℕ). is_in folder path ≡ false) (path_in dir (Table table.number))
      (map (λ (t : Unfinished). path_in dir (Table t.number)) tables ++ []) (out (Table table.number)) (tables_outside tables)

  all_outside : (kept : Kept) (log : ℕ) → All (λ (path : List ℕ). is_in folder path ≡ false) (appended_to dir (without_restore kept) log)
  all_outside kept log =
      let rest : List (List ℕ) = map (λ (t : Unfinished). path_in dir (Table t.number)) kept.unfinished ++ [] in
      All-cons (λ (path : List ℕ). is_in folder path ≡ false) (path_in dir (Manifest kept.manifest))
      (path_in dir (Log log) ∷ rest) (out (Manifest kept.manifest))
      (All-cons (λ (path : List ℕ). is_in folder path ≡ false) (path_in dir (Log log)) rest (out (Log log))
      (tables_outside kept.unfinished))

  pub written_within : (kept : Kept) (log : ℕ) → AreWritten d dir (without_restore kept) log
      → AreWritten later dir (without_restore kept) log
  written_within kept log are = record {
    tables = All-weaker (λ (table : Unfinished). bytes_at (tree_now d) (path_in dir (Table table.number)) ≡ Some table.bytes)
        (λ (table : Unfinished). bytes_at (tree_now later) (path_in dir (Table table.number)) ≡ Some table.bytes)
        (λ table has. bytes_stay folder d later at (path_in dir (Table table.number))
        (out (Table table.number)) table.bytes has) kept.unfinished are.tables;
    alone = alone_within (appended_to dir (without_restore kept) log) (all_outside kept log) are.alone;
  }

  pub sane_within : (kept : Kept) (parts : Parts) → SaneOutside d dir kept parts → SaneOutside later dir kept parts
  sane_within kept parts sane = record {
    current = current_within kept sane.current;
    edits = edits_within kept parts.edits sane.edits;
    tables = tables_within kept parts.rows sane.tables;
    logs = logs_within kept parts sane.logs;
    quiet = quiet_within kept sane.quiet;
    known = known_within kept sane.known;
    files = files_within sane.files;
    lawful = sane.lawful;
    written = written_within kept parts.last.number sane.written;
  }

  -- ---- pins

  pinned_within : (file : PinnedFile) → IsPinned d dir file → IsPinned later dir file
  pinned_within file is = record {
    fits = is.fits;
    more = is.more;
    there = bytes_stay folder d later at (path_in dir file.name) (out file.name) (file.bytes ++ is.more) is.there;
  }

  pub pins_within : (files : List PinnedFile) → PinFiles d dir files → PinFiles later dir files
  pins_within files are = All-weaker (IsPinned d dir) (IsPinned later dir) pinned_within files are

  -- ---- checkpoints

  built_out : (job : List ℕ) → is_folder_name job ≡ true → is_in folder (built_in job) ≡ false
  built_out job is = head_outside folder named (built_in job) (built_flat job is) (not_built folder job named)

  inside_out : (job : List ℕ) → is_folder_name job ≡ true → (rest : List ℕ) → is_in folder (built_in job ++ 47 ∷ rest) ≡ false
  inside_out job is rest = path_outside folder named (built_in job) (built_flat job is) (not_built folder job named) rest

  pub clear_within : AreClearable d → AreClearable later
  clear_within are = record {
    no_file = λ job k id is leads. let was = at.cuts k in are.no_file job was.count id is
        (sym (was.same (built_in job) (built_out job is)) ∙ leads);
    no_folder = λ job rest k is stands. let was = at.cuts k in are.no_folder job rest was.count is
        (sym (was.same (built_in job ++ 47 ∷ rest) (inside_out job is rest)) ∙ stands);
  }

  module _ (job : Job) (job_named : is_folder_name job.dir ≡ true) where
    abbrev built : List ℕ
    built = built_in job.dir

    copy_out : (file : PinnedFile) → is_in folder (path_in built file.name) ≡ false
    copy_out file = inside_out job.dir job_named (spelled file.name)

    copy_within : (file : PinnedFile) → HasCopy d dir built file → HasCopy later dir built file
    copy_within file is = record {
      whole = bytes_stay folder d later at (path_in built file.name) (copy_out file) file.bytes is.whole;
      of = ⊎_elim
          (λ link. inl (file_stays folder d later at (path_in built file.name) (copy_out file) ∙ link ∙ sym
          (file_stays folder d later at (path_in dir file.name) (out file.name))))
          (λ own. inr (at.alone (path_in built file.name) (copy_out file) own))
          is.of;
    }

    front_within : (file : PinnedFile) → HasFront d built job.copied file → HasFront later built job.copied file
    front_within file is = record {
      fewer = is.fewer;
      front = bytes_stay folder d later at (path_in built file.name) (copy_out file) _ is.front;
      alone = at.alone (path_in built file.name) (copy_out file) is.alone;
    }

    job_within : (all : List PinnedFile) → HasJob d dir job all → HasJob later dir job all
    job_within all is = record {
      left = is.left;
      unmade = is.unmade;
      folder = at.now built (built_out job.dir job_named) ∙ is.folder;
      whole = All-weaker (HasCopy d dir built) (HasCopy later dir built) copy_within (done_files job all) is.whole;
      hand = All-weaker (HasFront d built job.copied) (HasFront later built job.copied) front_within (begun_files job all) is.hand;
      absent = All-weaker (IsAbsent d built) (IsAbsent later built)
          (λ file free. at.now (path_in built file.name) (copy_out file) ∙ free) (absent_files job all) is.absent;
      only = λ file is_file there. is.only file is_file (ap is_some
          (sym (at.now (path_in built file) (inside_out job.dir job_named (spelled file)))) ∙ there);
    }

  builds_within : (job : Option Job) (pin : Pin) → IsNamedJob job → BuildsJob d dir job pin → BuildsJob later dir job pin
  builds_within None pin job_named is = tt
  builds_within (Some job) pin job_named is = job_within job job_named pin.files is

  abbrev HasNamed : KeptPin → Type 0
  HasNamed kept = IsNamedJob kept.job

  each_within : (kept : List KeptPin) (pins : List Pin) → All HasNamed kept
      → ArePins (λ (k : KeptPin) (pin : Pin). BuildsJob d dir k.job pin) kept pins
      → ArePins (λ (k : KeptPin) (pin : Pin). BuildsJob later dir k.job pin) kept pins
  each_within [] [] all_named are = tt
  each_within [] (pin ∷ pins) all_named are = are
  each_within (k ∷ kept) [] all_named are = are
  each_within (k ∷ kept) (pin ∷ pins) all_named are =
      (builds_within k.job pin (All-head HasNamed k kept all_named) are.0, each_within kept pins (All-tail HasNamed k kept all_named) are.1)

  pub jobs_within : (kept : List KeptPin) (s : model.State) → All HasNamed kept → JobsBuild d dir kept s → JobsBuild later dir kept s
  jobs_within kept s all_named is = record { apart = is.apart; each = each_within kept s.pins all_named is.each }

-- what is so but for the restore, is so of it all where the restore's folder and the file in hand are
pub sane_is : (d : State) (dir : List ℕ) (kept : Kept) (parts : Parts) → Sane d dir kept parts → SaneOutside d dir kept parts
sane_is d dir kept parts sane = record {
  current = sane.current;
  edits = sane.edits;
  tables = sane.tables;
  logs = sane.logs;
  quiet = sane.quiet;
  known = sane.known;
  files = sane.files;
  lawful = sane.lawful;
  written = record { tables = sane.written.tables; alone = fewer sane.written.alone };
}
  where
    left : (xs ys : List (List ℕ)) → All (IsAlone d) (xs ++ ys) → All (IsAlone d) (xs ++ [])
    left [] ys are = All-nil (IsAlone d)
    left (x ∷ xs) ys are = All-cons (IsAlone d) x (xs ++ []) (All-head (IsAlone d) x (xs ++ ys) are)
        (left xs ys (All-tail (IsAlone d) x (xs ++ ys) are))

    fewer : All (IsAlone d) (appended_to dir kept parts.last.number)
        → All (IsAlone d) (appended_to dir (without_restore kept) parts.last.number)
    fewer are = left (path_in dir (Manifest kept.manifest) ∷ path_in dir (Log parts.last.number)
        ∷ map (λ (table : Unfinished). path_in dir (Table table.number)) kept.unfinished) (in_hand kept.begun kept.hand) are

pub sane_again : (d : State) (dir : List ℕ) (kept : Kept) (parts : Parts) → SaneOutside d dir kept parts
    → RestoreBuilds d dir kept.begun kept.hand → All (IsAlone d) (in_hand kept.begun kept.hand)
    → Sane d dir kept parts
sane_again d dir kept parts sane restored hand = record {
  current = sane.current;
  edits = sane.edits;
  tables = sane.tables;
  logs = sane.logs;
  quiet = sane.quiet;
  known = sane.known;
  files = sane.files;
  lawful = sane.lawful;
  written = record {
    tables = sane.written.tables;
    alone = both
        (path_in dir (Manifest kept.manifest) ∷ path_in dir (Log parts.last.number)
        ∷ map (λ (table : Unfinished). path_in dir (Table table.number)) kept.unfinished) sane.written.alone;
  };
  restored = restored;
}
  where
    both : (xs : List (List ℕ)) → All (IsAlone d) (xs ++ []) → All (IsAlone d) (xs ++ in_hand kept.begun kept.hand)
    both [] are = hand
    both (x ∷ xs) are = All-cons (IsAlone d) x (xs ++ in_hand kept.begun kept.hand) (All-head (IsAlone d) x (xs ++ []) are)
        (both xs (All-tail (IsAlone d) x (xs ++ []) are))
