-- The move of another folder leaves what a store has in its own.
use Rattle.std.specs.Prelude.{◌≡◌, ◌≢◌, ◌⊎◌, ℕ, ◌≤◌, true, false, cond, is_some, List, [], ◌∷◌, ◌++◌, map, length, codes, All, Option, Some, None}
use Rattle.std.proofs.Common.{⊎_elim, inl, inr, refl, sym, ap, ◌∙◌, arith}
use Rattle.std.proofs.lemmas.List.{append_cancel_right}
use Rattle.std.proofs.lemmas.List.Elements.{All-nil, All-cons, All-head, All-tail, All-push, All-weaker}
use Rattle.std.specs.FinMap as finmap
use Rattle.lsm_names.specs.Folders.{is_folder_name}
use Rattle.lsm_names.specs.FileNames.{spelled}
use Rattle.lsm_names.specs.declared.file_names.FileName.{FileName}
use Rattle.lsm_names.specs.declared.file_names.FileName.TheVariants.{Log, Table, Manifest}
use Rattle.lsm_names.proofs.FolderLemmas.{folder_has_bytes, folder_is_component}
use Rattle.lsm_rows.specs.Replay.{sequence_after}
use Rattle.lsm_disk.specs.Names.{Node, Folder_node, File_node, NameOp, Moved, Names, named, renamed, all_named, id_of, is_in, under}
use Rattle.lsm_disk.specs.State.{State, Named, after, file_at, names_now}
use Rattle.lsm_disk.specs.Images.{bytes_at, tree_now}
use Rattle.lsm_disk.specs.Kept.{OpSpares}
use Rattle.lsm_disk.specs.Dest.{path_in}
use Rattle.lsm_disk.proofs.Images.{take_push, all_push}
use Rattle.lsm_disk.proofs.Kept.{kept_spared}
use Rattle.lsm_disk.proofs.Lawful.{get_gone}
use Rattle.lsm_disk.proofs.Moves.{under_is, get_left}
use Rattle.lsm_disk.proofs.Paths.{path_cases, get_put_other, get_gone_other, get_renamed, get_spared, itself, under_tail}
use Rattle.lsm_wal.specs.Batches.{Logged}
use Rattle.lsm_wal.specs.Standing.{IsWal}
use Rattle.lsm_model.specs.declared.states.State as model
use Rattle.lsm_model.specs.declared.states.Pin.{Pin}
use Rattle.lsm_model.specs.declared.states.PinnedFile.{PinnedFile}
use Rattle.lsm_model.specs.Halting.{built_in}
use Rattle.lsm_refine.specs.Kept.{Job, KeptPin, Unfinished, Kept}
use Rattle.lsm_refine.specs.Parts.{LogPart, Parts, first_logged}
use Rattle.lsm_refine.specs.Sane.{IsAlone, AreSynced, HasLogs, IsQuiet, AreKnown, AreFiles, AreWritten, SparesNeeded, appended_to}
use Rattle.lsm_refine.specs.Beside.{cut_names}
use Rattle.lsm_refine.specs.Pins.{PinFiles, AreClearable, ArePins, HasCopy, HasFront, IsAbsent, HasJob, BuildsJob, JobsBuild, done_files, begun_files, absent_files}
use Rattle.lsm_refine.specs.Within.{SaneOutside, without_restore}
use Rattle.lsm_refine.specs.MovesApart.{MovesApart, JobApart}
use Rattle.lsm_refine.proofs.ChangeLemmas.{at_cut}
use Rattle.lsm_refine.proofs.FolderDisks.{has_slash, apart_from, built_flat}
use Rattle.lsm_refine.proofs.NeededLemmas.{current_stays, edits_stay, tables_stay}
use Rattle.lsm_refine.proofs.OtherFileLemmas.{flat, not_built}
use Rattle.lsm_refine.proofs.PinnedLemmas.{named_bytes, files_stay}
use Rattle.lsm_refine.proofs.WithinLemmas.{CameFrom, from_move}
use Rattle.lsm_refine.proofs.WithinStores.{IsInside, inside_is, first_slash}

-- ---- two names of the root

off_is : (folder path : List ℕ) → (IsInside folder path → ⊥) → under folder path ≡ None
off_is folder path never = by (under folder path) refl
  where
    by : (o : Option (List ℕ)) → under folder path ≡ o → o ≡ None
    by None is = refl
    by (Some rest) is = absurd (never (inside_is folder path rest (under_is folder path rest is) (under_tail folder path rest is)))

module _ (head folder : List ℕ) (one : has_slash head ≡ false) (two : has_slash folder ≡ false) (other : head ≢ folder) where
  head_off : under folder head ≡ None
  head_off = off_is folder head (λ place. ⊎_elim other (λ deep. apart_from head folder deep.0 one deep.1) place.is)

  deep_differs : (rest : List ℕ) → head ++ 47 ∷ rest ≢ folder
  deep_differs rest same = apart_from folder head rest two (sym same)

  deep_off : (rest : List ℕ) → under folder (head ++ 47 ∷ rest) ≡ None
  deep_off rest = off_is folder (head ++ 47 ∷ rest) (λ place. ⊎_elim (deep_differs rest)
      (λ deep. other (first_slash head folder rest deep.0 one two deep.1)) place.is)

has_more : (xs ys : List ℕ) → 1 ≤ length xs → 1 ≤ length (xs ++ ys)
has_more [] ys some = absurd (omega (arith, some))
has_more (x ∷ xs) ys some = omega arith

flat_apart : (head other : List ℕ) → has_slash head ≡ false → is_folder_name other ≡ true → head ≢ built_in other
    → head ≢ other → MovesApart head (built_in other) other
flat_apart head other one fits apart differs =
    let two : has_slash other ≡ false = flat other (folder_is_component other fits) in
    let built : has_slash (built_in other) ≡ false = built_flat other fits in
    record {
      named = has_more other _ (folder_has_bytes other fits);
      folder = (apart, differs, head_off head (built_in other) one built apart, head_off head other one two differs);
      inside = λ rest. (
        deep_differs head (built_in other) one built apart rest,
        deep_differs head other one two differs rest,
        deep_off head (built_in other) one built apart rest,
        deep_off head other one two differs rest,
      );
    }

-- a finished checkpoint's folder moves apart from the store's own, and from what another checkpoint builds
pub moves_apart : (dir other : List ℕ) → is_folder_name dir ≡ true → is_folder_name other ≡ true → dir ≢ other
    → MovesApart dir (built_in other) other
moves_apart dir other own fits differs = flat_apart dir other (flat dir (folder_is_component dir own)) fits
    (λ same. not_built dir other own (sym same)) differs

pub moves_beside : (job other : List ℕ) → is_folder_name job ≡ true → is_folder_name other ≡ true → job ≢ other
    → MovesApart (built_in job) (built_in other) other
moves_beside job other one fits differs =
    flat_apart (built_in job) other (built_flat job one) fits
    (λ same. differs (append_cancel_right job other (codes ".tmp") same)) (not_built other job fits)

-- ---- what stays

under_self : (xs : List ℕ) → under xs xs ≡ Some []
under_self [] = refl
under_self (x ∷ xs) = ap (λ b. cond b (under xs xs) None) (itself x) ∙ under_self xs

in_itself : (xs : List ℕ) → is_in xs xs ≡ true
in_itself [] = refl
in_itself (x ∷ xs) = ap is_some (under_self (x ∷ xs))

not_in : (folder path : List ℕ) → 1 ≤ length folder → under folder path ≡ None → is_in folder path ≡ false
not_in [] path some none = absurd (omega (arith, some))
not_in (f ∷ folder) path some none = ap is_some none

module _ (dir from to : List ℕ) (apart : MovesApart dir from to) (d : State) where
  abbrev then : State
  then = after d (Named (Moved from to))

  then_now : names_now then ≡ named (Moved from to) (names_now d)
  then_now = all_push d.pending (Moved from to) d.durable

  then_cuts : (k : ℕ) → (cut_names then k ≡ cut_names d k) ⊎ (cut_names then k ≡ named (Moved from to) (names_now d))
  then_cuts k = ⊎_elim
      (λ short. inl (ap (λ (ops : List NameOp). all_named ops d.durable) short))
      (λ long. inr (ap (λ (ops : List NameOp). all_named ops d.durable) long ∙ all_push d.pending (Moved from to) d.durable))
      (take_push k d.pending (Moved from to))

  spared : (name : FileName) → OpSpares (path_in dir name) (Moved from to)
  spared name = apart.inside (spelled name)

  same_now : (name : FileName) → finmap.get (names_now then) (path_in dir name) ≡ finmap.get (names_now d) (path_in dir name)
  same_now name = ap (λ (names : Names). finmap.get names (path_in dir name)) then_now ∙ get_spared (path_in dir name)
      (Moved from to) (names_now d) (spared name)

  same_file : (name : FileName) → file_at then (path_in dir name) ≡ file_at d (path_in dir name)
  same_file name = ap id_of (same_now name)

  pub move_spares : (kept : Kept) (last : ℕ) → SparesNeeded d dir kept last (Named (Moved from to))
  move_spares kept last = record { folder = apart.folder; files = λ name id fits needed other at. spared name }

  wal_moved : (number : ℕ) (batches : List Logged) (durable : ℕ) → IsWal d (path_in dir (Log number)) batches durable
      → IsWal then (path_in dir (Log number)) batches durable
  wal_moved number batches durable wal = record {
    id = wal.id;
    file = wal.file;
    kept = kept_spared d (path_in dir (Log number)) wal.id wal.file wal.kept (Named (Moved from to)) (spared (Log number));
    text = wal.text;
    within = wal.within;
    synced = wal.synced;
    each = wal.each;
  }

  synced_moved : (first : ℕ) (logs : List LogPart) → AreSynced d dir first logs → AreSynced then dir first logs
  synced_moved first [] synced = tt
  synced_moved first (log ∷ logs) synced = (
    wal_moved log.number _ _ synced.0,
    synced_moved
        (sequence_after first log.batches) logs synced.1,
  )

  pub logs_moved : (kept : Kept) (parts : Parts) → HasLogs d dir kept parts → HasLogs then dir kept parts
  logs_moved kept parts has = record {
    numbers = has.numbers;
    ascend = has.ascend;
    live = has.live;
    older = synced_moved (first_logged parts) parts.older has.older;
    last = wal_moved parts.last.number _ parts.synced has.last;
    only = λ number least is. ⊎_elim (λ live. inl live) (λ none. inr (same_file (Log number) ∙ none)) (has.only number least is);
    frozen = has.frozen;
    active = has.active;
  }

  pub quiet_moved : (kept : Kept) → IsQuiet d dir kept → IsQuiet then dir kept
  quiet_moved kept is = record {
    spares = λ name file held. All-push (OpSpares (path_in dir name)) d.pending (Moved from to)
        (is.spares name file held) (spared name);
  }

  pub known_moved : (kept : Kept) → AreKnown d dir kept → AreKnown then dir kept
  known_moved kept are = record {
    there = λ name known. let was = are.there name known in (was.0, ap is_some (same_file name) ∙ was.1);
    all = λ name is there. are.all name is (ap is_some (sym (same_now name)) ∙ there);
  }

  pub files_moved : AreFiles d dir → AreFiles then dir
  files_moved are = record {
    no_folder = λ name k is stands. ⊎_elim
        (λ short. are.no_folder name k is (ap (λ (names : Names). finmap.get names (path_in dir name)) (sym short) ∙ stands))
        (λ long. are.no_folder name (length d.pending) is (at_cut d (path_in dir name) (Some Folder_node)
        (sym (get_spared (path_in dir name) (Moved from to) (names_now d) (spared name)) ∙ ap
        (λ (names : Names). finmap.get names (path_in dir name)) (sym long) ∙ stands)))
        (then_cuts k);
  }

  pub pins_moved : (files : List PinnedFile) → PinFiles d dir files → PinFiles then dir files
  pins_moved files are = files_stay d dir (Named (Moved from to)) files (λ k default within. spared _) are

  pub alone_moved : (path : List ℕ) → OpSpares path (Moved from to) → IsAlone d path → IsAlone then path
  alone_moved path spares is = record { only = λ id k other at leads. only id k other (sym (ap id_of path_same) ∙ at) leads }
    where
      path_same : finmap.get (names_now then) path ≡ finmap.get (names_now d) path
      path_same = ap (λ (names : Names). finmap.get names path) then_now ∙ get_spared path (Moved from to) (names_now d) spares

      only : (id k : ℕ) (other : List ℕ) → file_at d path ≡ Some id → finmap.get (cut_names then k) other ≡ Some (File_node id)
          → other ≡ path
      only id k other at leads = ⊎_elim
          (λ short. is.only id k other at (ap (λ (names : Names). finmap.get names other) (sym short) ∙ leads))
          (λ long. by_came id at other (from_move from (names_now d) other id from to (finmap.get (names_now d) from) (in_itself from) refl
          (ap (λ (names : Names). finmap.get names other) (sym long) ∙ leads)))
          (then_cuts k)
        where
          by_came : (id : ℕ) → file_at d path ≡ Some id → (other : List ℕ) → CameFrom from (names_now d) other id → other ≡ path
          by_came id at other came =
              let same : came.from ≡ path = is.only id (length d.pending) came.from at
              (at_cut d came.from (Some (File_node id)) came.leads) in
              ⊎_elim
              (λ one. sym one ∙ same)
              (λ inside. let clash : true ≡ false = sym inside ∙ ap
              (is_in from) same ∙ not_in from path apart.named spares.2 in absurd (cc))
              came.is

  abbrev IsSpared : List ℕ → Type 0
  IsSpared path = OpSpares path (Moved from to)

  tables_spared : (tables : List Unfinished) → All IsSpared (map (λ (table : Unfinished). path_in dir (Table table.number)) tables ++ [])
  tables_spared [] = All-nil IsSpared
  tables_spared (table ∷ tables) = All-cons IsSpared (path_in dir (Table table.number))
      (map (λ (t : Unfinished). path_in dir (Table t.number)) tables ++ []) (spared (Table table.number)) (tables_spared tables)

  all_spared : (kept : Kept) (log : ℕ) → All IsSpared (appended_to dir (without_restore kept) log)
  all_spared kept log =
      let rest : List (List ℕ) = map (λ (t : Unfinished). path_in dir (Table t.number)) kept.unfinished ++ [] in
      All-cons IsSpared (path_in dir (Manifest kept.manifest)) (path_in dir (Log log) ∷ rest) (spared (Manifest kept.manifest))
      (All-cons IsSpared (path_in dir (Log log)) rest (spared (Log log)) (tables_spared kept.unfinished))

  all_alone : (paths : List (List ℕ)) → All IsSpared paths → All (IsAlone d) paths → All (IsAlone then) paths
  all_alone paths spare are = λ k default within. alone_moved _ (spare k default within) (are k default within)

  pub written_moved : (kept : Kept) (log : ℕ) → AreWritten d dir (without_restore kept) log → AreWritten then dir (without_restore kept) log
  written_moved kept log are = record {
    tables = All-weaker (λ (table : Unfinished). bytes_at (tree_now d) (path_in dir (Table table.number)) ≡ Some table.bytes)
        (λ (table : Unfinished). bytes_at (tree_now then) (path_in dir (Table table.number)) ≡ Some table.bytes)
        (λ table has. named_bytes d (path_in dir (Table table.number)) table.bytes (Moved from to)
        (spared (Table table.number)) ∙ has) kept.unfinished are.tables;
    alone = all_alone (appended_to dir (without_restore kept) log) (all_spared kept log) are.alone;
  }

  pub sane_moved : (kept : Kept) (parts : Parts) → SaneOutside d dir kept parts → SaneOutside then dir kept parts
  sane_moved kept parts sane = record {
    current = current_stays d dir kept 0 (Named (Moved from to)) (move_spares kept 0) sane.current;
    edits = edits_stay d dir kept 0 (Named (Moved from to)) (move_spares kept 0) parts.edits sane.current sane.edits;
    tables = tables_stay d dir kept 0 (Named (Moved from to)) (move_spares kept 0) parts.rows sane.tables;
    logs = logs_moved kept parts sane.logs;
    quiet = quiet_moved kept sane.quiet;
    known = known_moved kept sane.known;
    files = files_moved sane.files;
    lawful = sane.lawful;
    written = written_moved kept parts.last.number sane.written;
  }

-- ---- what is at the folder's old name

module _ (from to path : List ℕ) (differs : path ≢ to) (off : under to path ≡ None) (names : Names) where
  abbrev StaysOrGoes : Option Node → Type 0
  StaysOrGoes node = (node ≡ finmap.get names path) ⊎ (node ≡ None)

  by_node : (node : Option Node) (rest : Option (List ℕ)) → under from path ≡ rest
      → StaysOrGoes (finmap.get (renamed from to node names) path)
  by_node None rest is = inl refl
  by_node (Some (File_node id)) rest is = ⊎_elim
      (λ same. inr (get_put_other (finmap.remove names from) path to (File_node id) differs ∙ ap
      (finmap.get (finmap.remove names from)) same ∙ get_gone names from))
      (λ other. inl (get_put_other (finmap.remove names from) path to (File_node id) differs ∙ get_gone_other names path from other))
      (path_cases path from)
  by_node (Some Folder_node) (Some rest) is = inr (get_left from to path rest is off names)
  by_node (Some Folder_node) None is = inl (get_renamed from to path (Some Folder_node) names (not_from, differs, is, off))
    where
      not_from : path ≢ from
      not_from same = let clash : None ≡ Some [] = sym is ∙ ap (under from) same ∙ under_self from in cc

  stays_or_goes : StaysOrGoes (finmap.get (named (Moved from to) names) path)
  stays_or_goes = by_node (finmap.get names from) (under from path) refl

module _ (from to path : List ℕ) (differs : path ≢ to) (off : under to path ≡ None) (d : State) (node : Node) where
  cut_stays : ((k : ℕ) → finmap.get (cut_names d k) path ≢ Some node) → (k : ℕ)
      → finmap.get (cut_names (after d (Named (Moved from to))) k) path ≢ Some node
  cut_stays never k is = ⊎_elim
      (λ short. never k (ap (λ (ops : List NameOp). finmap.get (all_named ops d.durable) path) (sym short) ∙ is))
      (λ long. moved (ap (λ (names : Names). finmap.get names path)
      (sym (ap (λ (ops : List NameOp). all_named ops d.durable) long ∙ all_push d.pending (Moved from to) d.durable)) ∙ is))
      (take_push k d.pending (Moved from to))
    where
      moved : finmap.get (named (Moved from to) (names_now d)) path ≡ Some node → ⊥
      moved there = ⊎_elim
          (λ same. never (length d.pending) (at_cut d path (Some node) (sym same ∙ there)))
          (λ gone. let clash : None ≡ Some node = sym gone ∙ there in absurd (cc))
          (stays_or_goes from to path differs off (names_now d))

pub clear_moved : (from to : List ℕ) → is_folder_name to ≡ true → (d : State) → AreClearable d
    → AreClearable (after d (Named (Moved from to)))
clear_moved from to named d are = record {
  no_file = λ job k id is. cut_stays from to (built_in job) (not_built to job named)
      (head_off (built_in job) to (built_flat job is) two (not_built to job named))
      d (File_node id) (λ n. are.no_file job n id is) k;
  no_folder = λ job rest k is. cut_stays from to (built_in job ++ 47 ∷ rest)
      (deep_differs (built_in job) to (built_flat job is) two (not_built to job named) rest)
      (deep_off (built_in job) to (built_flat job is) two (not_built to job named) rest)
      d Folder_node (λ n. are.no_folder job rest n is) k;
}
  where
    two : has_slash to ≡ false
    two = flat to (folder_is_component to named)

-- ---- checkpoints under way

module _ (own from to : List ℕ) (apart : MovesApart own from to) (d : State) where
  abbrev next : State
  next = after d (Named (Moved from to))

  module _ (job : Job) (beside : MovesApart (built_in job.dir) from to) where
    abbrev built : List ℕ
    built = built_in job.dir

    copy_moved : (file : PinnedFile) → HasCopy d own built file → HasCopy next own built file
    copy_moved file is = record {
      whole = named_bytes d (path_in built file.name) file.bytes (Moved from to) (spared built from to beside d file.name) ∙ is.whole;
      of = ⊎_elim
          (λ link. inl (same_file built from to beside d file.name ∙ link ∙ sym (same_file own from to apart d file.name)))
          (λ alone. inr (alone_moved own from to apart d (path_in built file.name) (spared built from to beside d file.name) alone))
          is.of;
    }

    front_moved : (file : PinnedFile) → HasFront d built job.copied file → HasFront next built job.copied file
    front_moved file is = record {
      fewer = is.fewer;
      front = named_bytes d (path_in built file.name) file.bytes (Moved from to) (spared built from to beside d file.name) ∙ is.front;
      alone = alone_moved own from to apart d (path_in built file.name) (spared built from to beside d file.name) is.alone;
    }

    job_moved : (all : List PinnedFile) → HasJob d own job all → HasJob next own job all
    job_moved all is = record {
      left = is.left;
      unmade = is.unmade;
      folder = ap (λ (names : Names). finmap.get names built) (then_now own from to apart d) ∙ get_spared built (Moved from to)
          (names_now d) beside.folder ∙ is.folder;
      whole = All-weaker (HasCopy d own built) (HasCopy next own built) copy_moved (done_files job all) is.whole;
      hand = All-weaker (HasFront d built job.copied) (HasFront next built job.copied) front_moved (begun_files job all) is.hand;
      absent = All-weaker (IsAbsent d built) (IsAbsent next built)
          (λ file free. same_now built from to beside d file.name ∙ free) (absent_files job all) is.absent;
      only = λ file is_file there. is.only file is_file (ap is_some (sym (same_now built from to beside d file)) ∙ there);
    }

  builds_moved : (job : Option Job) (pin : Pin) → JobApart from to job → BuildsJob d own job pin → BuildsJob next own job pin
  builds_moved None pin beside is = tt
  builds_moved (Some job) pin beside is = job_moved job beside pin.files is

  abbrev IsBeside : KeptPin → Type 0
  IsBeside kept = JobApart from to kept.job

  each_moved : (kept : List KeptPin) (pins : List Pin) → All IsBeside kept
      → ArePins (λ (k : KeptPin) (pin : Pin). BuildsJob d own k.job pin) kept pins
      → ArePins (λ (k : KeptPin) (pin : Pin). BuildsJob next own k.job pin) kept pins
  each_moved [] [] beside are = tt
  each_moved [] (pin ∷ pins) beside are = are
  each_moved (k ∷ kept) [] beside are = are
  each_moved (k ∷ kept) (pin ∷ pins) beside are =
      (builds_moved k.job pin (All-head IsBeside k kept beside) are.0, each_moved kept pins (All-tail IsBeside k kept beside) are.1)

  pub jobs_moved : (kept : List KeptPin) (s : model.State) → All IsBeside kept → JobsBuild d own kept s → JobsBuild next own kept s
  jobs_moved kept s beside is = record { apart = is.apart; each = each_moved kept s.pins beside is.each }
