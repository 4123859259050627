-- A change that spares the needed files keeps what a running store has of them.
use Rattle.std.specs.Prelude.{◌≡◌, ◌≢◌, ℕ, ◌≤◌, is_some, List, [], ◌∷◌, ◌++◌, take, drop, All, Option, Some, None}
use Rattle.std.proofs.Common.{refl, sym, ap, ◌∙◌}
use Rattle.std.proofs.lemmas.List.{append_cancel_left}
use Rattle.std.proofs.lemmas.List.Elements.{All-nil, All-head, All-tail}
use Rattle.std.specs.FinMap as finmap
use Rattle.lsm_names.specs.FileNames.{IsFileName, spelled}
use Rattle.lsm_names.specs.declared.file_names.FileName.{FileName}
use Rattle.lsm_names.specs.declared.file_names.FileName.TheVariants.{Log, Table, Manifest, Current}
use Rattle.lsm_names.proofs.FileNameLemmas.{spelled_injective}
use Rattle.lsm_rows.specs.declared.rows.Row.{Row}
use Rattle.lsm_rows.specs.Replay.{sequence_after}
use Rattle.lsm_disk.specs.Names.{Node, Folder_node, File_node, NameOp, Names, all_named, id_of}
use Rattle.lsm_disk.specs.State.{FileState, State, Change, Created, Named, Appended, Synced, Names_synced, Idle, after, file_at, names_now}
use Rattle.lsm_disk.specs.Kept.{IsKeptFile, OpSpares}
use Rattle.lsm_disk.proofs.Cuts.{take_none}
use Rattle.lsm_disk.specs.Dest.{path_in}
use Rattle.lsm_disk.specs.Building.{sealed}
use Rattle.lsm_disk.proofs.Images.{reads_image}
use Rattle.lsm_disk.proofs.Kept.{kept_at, kept_spared}
use Rattle.lsm_disk.proofs.Named.{name_spared}
use Rattle.lsm_wal.specs.Batches.{Logged}
use Rattle.lsm_wal.specs.Standing.{IsWal}
use Rattle.lsm_version.specs.declared.edits.Edit.{Edit}
use Rattle.lsm_model.specs.Halting.{built_in}
use Rattle.lsm_refine.specs.Kept.{Kept}
use Rattle.lsm_refine.specs.Parts.{LogPart}
use Rattle.lsm_refine.specs.Pins.{AreClearable}
use Rattle.lsm_refine.specs.Sane.{IsWholeFile, IsAlone, IsCurrent, HasEdits, HasTables, AreSynced, IsNeeded, IsQuiet, AreKnown, AreFiles, SparesNeeded, IsOlder, KeepsNames}

module _ (d : State) (dir : List ℕ) (kept : Kept) (last : ℕ) (c : Change) (spares : SparesNeeded d dir kept last c) where
  kept_still : (name : FileName) (id : ℕ) (file : FileState) → IsFileName name → IsNeeded kept name → name ≢ Log last
      → IsKeptFile d (path_in dir name) id file → IsKeptFile (after d c) (path_in dir name) id file
  kept_still name id file fits needed other is = kept_spared d (path_in dir name) id file is c
      (spares.files name id fits needed other (kept_at d (path_in dir name) id file is))

  whole_still : (name : FileName) (bytes : List ℕ) → IsFileName name → IsNeeded kept name → name ≢ Log last
      → IsWholeFile d (path_in dir name) bytes → IsWholeFile (after d c) (path_in dir name) bytes
  whole_still name bytes fits needed other is = record { id = is.id; file = kept_still name is.id (sealed bytes) fits needed other is.file }

  pub current_stays : IsCurrent d dir kept → IsCurrent (after d c) dir kept
  current_stays is = record {
    named = is.named;
    folder = name_spared d dir (Some Folder_node) is.folder c spares.folder;
    numbered = is.numbered;
    file = whole_still Current _ tt tt (λ same. cc) is.file;
  }

  pub edits_stay : (edits : List Edit) → IsCurrent d dir kept → HasEdits d dir kept edits → HasEdits (after d c) dir kept edits
  edits_stay edits is has = record {
    are = has.are;
    file = whole_still (Manifest kept.manifest) _ is.numbered refl (λ same. cc) has.file;
    len = has.len;
    version = has.version;
    log = has.log;
    last = has.last;
  }

  pub tables_stay : (rows : ℕ → List Row) → HasTables d dir kept rows → HasTables (after d c) dir kept rows
  tables_stay rows has = record {
    each = λ number placed found. let table = has.each number placed found in
        record {
          numbered = table.numbered;
          bytes = table.bytes;
          file = whole_still (Table number) table.bytes table.numbered (ap is_some found) (λ same. cc) table.file;
          table = table.table;
          size = table.size;
          viewed = table.viewed;
        };
  }

  number_is : (m n : ℕ) → Log m ≡ Log n → m ≡ n
  number_is m n same = cc

  wal_still : (number : ℕ) (batches : List Logged) (durable : ℕ) → IsFileName (Log number) → kept.log ≤ number → number ≢ last
      → IsWal d (path_in dir (Log number)) batches durable → IsWal (after d c) (path_in dir (Log number)) batches durable
  wal_still number batches durable fits least other wal = record {
    id = wal.id;
    file = wal.file;
    kept = kept_still (Log number) wal.id wal.file fits least (λ same. other (number_is number last same)) wal.kept;
    text = wal.text;
    within = wal.within;
    synced = wal.synced;
    each = wal.each;
  }

  pub logs_stay : (first : ℕ) (logs : List LogPart) → All (IsOlder kept last) logs → AreSynced d dir first logs
      → AreSynced (after d c) dir first logs
  logs_stay first [] each synced = tt
  logs_stay first (log ∷ logs) each synced =
      let is = All-head (IsOlder kept last) log logs each in (
        wal_still log.number _ _ is.0 is.1 is.2 synced.0,
        logs_stay (sequence_after first log.batches) logs
            (All-tail (IsOlder kept last) log logs each) synced.1,
      )

-- ---- an append to the last log, and its sync

pub node_is : (node : Option Node) (id : ℕ) → id_of node ≡ Some id → node ≡ Some (File_node id)
node_is None id is = cc
node_is (Some Folder_node) id is = cc
node_is (Some (File_node k)) id is = cc

module _ (d : State) (dir : List ℕ) (kept : Kept) (last id : ℕ) (fits : IsFileName (Log last))
    (there : file_at d (path_in dir (Log last)) ≡ Some id) (alone : IsAlone d (path_in dir (Log last))) where
  -- another name leads to another file
  differs : (name : FileName) (k : ℕ) → IsFileName name → name ≢ Log last → file_at d (path_in dir name) ≡ Some k → k ≢ id
  differs name k named other at same =
      let leads : finmap.get (names_now d) (path_in dir name) ≡ Some (File_node id) =
      node_is (finmap.get (names_now d) (path_in dir name)) id (at ∙ ap Some same) in
      let path : path_in dir name ≡ path_in dir (Log last) =
      alone.only id (reads_image d).kept (path_in dir name) there
      (ap (λ (names : Names). finmap.get names (path_in dir name)) (sym (reads_image d).names) ∙ leads) in
      let text : spelled name ≡ spelled (Log last) = ap (λ (l : List ℕ). drop 1 l)
      (append_cancel_left dir (47 ∷ spelled name) (47 ∷ spelled (Log last)) path) in
      other (spelled_injective name (Log last) named fits text)

  pub append_spares : (more : List ℕ) → SparesNeeded d dir kept last (Appended id more)
  append_spares more = record { folder = tt; files = λ name k named needed other at. differs name k named other at }

  pub sync_spares : SparesNeeded d dir kept last (Synced id)
  sync_spares = record { folder = tt; files = λ name k named needed other at. differs name k named other at }

pub names_spare : (d : State) (dir : List ℕ) (kept : Kept) (last : ℕ) → SparesNeeded d dir kept last Names_synced
names_spare d dir kept last = record { folder = tt; files = λ name k named needed other at. tt }

-- ---- a change that moves no name

pub quiet_stays : (d : State) (dir : List ℕ) (kept : Kept) (c : Change) → KeepsNames c → IsQuiet d dir kept → IsQuiet (after d c) dir kept
quiet_stays d dir kept (Created path) keeps is = absurd keeps
quiet_stays d dir kept (Named op) keeps is = absurd keeps
quiet_stays d dir kept (Appended id more) keeps is = record { spares = is.spares }
quiet_stays d dir kept (Synced id) keeps is = record { spares = is.spares }
quiet_stays d dir kept Names_synced keeps is = record { spares = λ name fits held. All-nil (OpSpares (path_in dir name)) }
quiet_stays d dir kept Idle keeps is = is

pub known_stay : (d : State) (dir : List ℕ) (kept : Kept) (c : Change) → KeepsNames c → AreKnown d dir kept → AreKnown (after d c) dir kept
known_stay d dir kept (Created path) keeps are = absurd keeps
known_stay d dir kept (Named op) keeps are = absurd keeps
known_stay d dir kept (Appended id more) keeps are = record { there = are.there; all = are.all }
known_stay d dir kept (Synced id) keeps are = record { there = are.there; all = are.all }
known_stay d dir kept Names_synced keeps are = record { there = are.there; all = are.all }
known_stay d dir kept Idle keeps are = are

-- the name of each path after a sync of names is one of before
names_are : (d : State) (other : List ℕ) (k : ℕ) → finmap.get (all_named (take (reads_image d).kept d.pending) d.durable) other
    ≡ finmap.get (all_named (take k []) (names_now d)) other
names_are d other k =
    ap (λ (names : Names). finmap.get names other) (sym (reads_image d).names)
    ∙ ap (λ (ops : List NameOp). finmap.get (all_named ops (names_now d)) other) (sym (take_none k))

pub files_stay : (d : State) (dir : List ℕ) (c : Change) → KeepsNames c → AreFiles d dir → AreFiles (after d c) dir
files_stay d dir (Created path) keeps are = absurd keeps
files_stay d dir (Named op) keeps are = absurd keeps
files_stay d dir (Appended id more) keeps are = record { no_folder = are.no_folder }
files_stay d dir (Synced id) keeps are = record { no_folder = are.no_folder }
files_stay d dir Names_synced keeps are = record {
  no_folder = λ name k fits is. are.no_folder name (reads_image d).kept fits (names_are d (path_in dir name) k ∙ is);
}
files_stay d dir Idle keeps are = are

pub clear_stays : (d : State) (c : Change) → KeepsNames c → AreClearable d → AreClearable (after d c)
clear_stays d (Created path) keeps are = absurd keeps
clear_stays d (Named op) keeps are = absurd keeps
clear_stays d (Appended id more) keeps are = record { no_file = are.no_file; no_folder = are.no_folder }
clear_stays d (Synced id) keeps are = record { no_file = are.no_file; no_folder = are.no_folder }
clear_stays d Names_synced keeps are = record {
  no_file = λ dir k id named is. are.no_file dir (reads_image d).kept id named (names_are d (built_in dir) k ∙ is);
  no_folder = λ dir rest k named is. are.no_folder dir rest (reads_image d).kept named (names_are d (built_in dir ++ 47 ∷ rest) k ∙ is);
}
clear_stays d Idle keeps are = are

pub alone_stays : (d : State) (path : List ℕ) (c : Change) → KeepsNames c → IsAlone d path → IsAlone (after d c) path
alone_stays d path (Created other) keeps is = absurd keeps
alone_stays d path (Named op) keeps is = absurd keeps
alone_stays d path (Appended id more) keeps is = record { only = is.only }
alone_stays d path (Synced id) keeps is = record { only = is.only }
alone_stays d path Names_synced keeps is = record {
  only = λ id k other at leads. is.only id (reads_image d).kept other at
      (names_are d other k ∙ leads);
}
alone_stays d path Idle keeps is = is
