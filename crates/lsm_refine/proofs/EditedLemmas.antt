-- Behind an edit that was appended to its manifest a running store keeps what the edits say.
use Rattle.std.specs.Prelude.{◌≡◌, ◌≢◌, ℕ, Bool, true, false, is_some, List, [], ◌∷◌, ◌++◌, map, drop, codes, All, Contains, Some}
use Rattle.std.specs.Char.{is_ascii_digit}
use Rattle.std.specs.List.{flat_map, list_all}
use Rattle.std.proofs.Common.{⊎_elim, inl, inr, refl, sym, ap, subst, ◌∙◌, arith}
use Rattle.std.proofs.lemmas.Bool.{and_parts}
use Rattle.std.proofs.lemmas.List.{append_cancel_left}
use Rattle.std.proofs.lemmas.List.Elements.{All-nil, All-cons, All-head, All-tail, All-append, All-map, All-weaker, All-contains}
use Rattle.std.specs.FinMap as finmap
use Rattle.lsm_names.specs.FileNames.{IsFileName, spelled, six_digits}
use Rattle.lsm_names.specs.declared.file_names.FileName.{FileName}
use Rattle.lsm_names.specs.declared.file_names.FileName.TheVariants.{Log, Table, Manifest, Temp, Current}
use Rattle.lsm_names.proofs.FileNameLemmas.{six_are_digits}
use Rattle.lsm_folder.specs.Names.{current_text}
use Rattle.lsm_disk.specs.Names.{Names, id_of}
use Rattle.lsm_disk.specs.State.{State, file_at}
use Rattle.lsm_disk.specs.Images.{bytes_at, tree_now}
use Rattle.lsm_disk.specs.Kept.{OpSpares}
use Rattle.lsm_disk.specs.Dest.{path_in}
use Rattle.lsm_version.specs.declared.edits.Edit.{Edit}
use Rattle.lsm_folder.specs.Parts.{AreEdits, AreLawful}
use Rattle.lsm_folder.specs.Manifests.{manifest_text}
use Rattle.lsm_refine.specs.Kept.{KeptPin, Unfinished, Kept}
use Rattle.lsm_refine.specs.Parts.{LogPart, Parts, AreRowsOf, first_logged, first_in_last}
use Rattle.lsm_refine.specs.Sane.{IsWholeFile, IsAlone, IsCurrent, HasEdits, HasTables, HasLogs, MayStand, IsNeeded, AreKnown, IsOlder, RestoreBuilds, Sane, appended_to, in_hand, names_held}
use Rattle.lsm_refine.specs.Beside.{WritesAt, SaneBeside, IsGiven}
use Rattle.lsm_refine.specs.Edited.{edited_kept, KeepsTheRest, AreNewQuiet}
use Rattle.lsm_refine.proofs.ChangeLemmas.{bytes_stay}
use Rattle.lsm_refine.proofs.LastLogLemmas.{last_is, older_are}
use Rattle.lsm_refine.proofs.OtherFileLemmas.{current_at, tables_at, wal_at, synced_at, files_at, restored_at}
use Rattle.lsm_refine.proofs.WritingLemmas.{last_byte, last_byte-append}

-- ---- names of tables and of manifests

no_digit : is_ascii_digit 116 ≡ true → ⊥
no_digit is = let clash : false ≡ true = is in cc

-- what ends in digits ends in no letter
ends_in_digit : (x : ℕ) (digits : List ℕ) → list_all is_ascii_digit digits ≡ true → x ≢ 116 → last_byte (x ∷ digits) ≢ 116
ends_in_digit x [] are other = other
ends_in_digit x (digit ∷ digits) are other =
    let parts = and_parts (is_ascii_digit digit) (list_all is_ascii_digit digits) are in
    ends_in_digit digit digits parts.1 (λ same. no_digit (ap is_ascii_digit (sym same) ∙ parts.0))

-- a table's path is no manifest's
pub manifest_apart : (dir : List ℕ) (n m : ℕ) → IsFileName (Manifest m) → path_in dir (Table n) ≢ path_in dir (Manifest m)
unfolding spelled
manifest_apart dir n m fits same =
    let text : six_digits n ++ codes ".sst" ≡ codes "MANIFEST-" ++ six_digits m =
    ap (λ (l : List ℕ). drop 1 l) (append_cancel_left dir (47 ∷ spelled (Table n)) (47 ∷ spelled (Manifest m)) same) in
    ends_in_digit 45 (six_digits m) (six_are_digits m fits) (λ is. omega (arith, is))
    (sym (ap last_byte text) ∙ last_byte-append (six_digits n) 46 (codes "sst"))

-- ---- what the edits say

-- the store whose manifest has one edit more keeps what the edits say
pub edited_has : (later : State) (dir : List ℕ) (kept : Kept) (edits : List Edit) (edit : Edit) → AreEdits (edits ++ edit ∷ [])
    → IsWholeFile later (path_in dir (Manifest kept.manifest)) (manifest_text (edits ++ edit ∷ []))
    → HasEdits later dir (edited_kept (edits ++ edit ∷ []) kept) (edits ++ edit ∷ [])
edited_has later dir kept edits edit are whole = record { are = are; file = whole; len = refl; version = refl; log = refl; last = refl }

-- ---- lists of paths

pub both_all : {X Y : Type 0} (P : Y → Type 0) (f : X → Y) (xs : List X) (ys : List Y) → All P (map f xs ++ ys)
    → All (λ (x : X). P (f x)) xs × All P ys
both_all P f [] ys each = (All-nil (λ x. P (f x)), each)
both_all P f (x ∷ xs) ys each =
    let rest = both_all P f xs ys (All-tail P (f x) (map f xs ++ ys) each) in
    (All-cons (λ x. P (f x)) x xs (All-head P (f x) (map f xs ++ ys) each) rest.0, rest.1)

-- ---- what is ready for an edit

module _ (d : State) (dir : List ℕ) (before : Kept) (was : Parts) (sane : Sane d dir before was) (kept : Kept) (parts : Parts)
    (rest : KeepsTheRest before kept)
    (tables : HasTables d dir kept parts.rows) (logs : HasLogs d dir kept parts) (last : parts.last.number ≡ was.last.number)
    (lawful : AreLawful parts.edits parts.rows)
    (quiet : AreNewQuiet d dir before kept) where
  current : IsCurrent d dir kept
  current = record {
    named = sane.current.named;
    folder = sane.current.folder;
    numbered = subst (λ (n : ℕ). IsFileName (Manifest n)) (sym rest.manifest) sane.current.numbered;
    file = subst (λ (n : ℕ). IsWholeFile d (path_in dir Current) (current_text n)) (sym rest.manifest) sane.current.file;
  }

  pinned : (name : FileName) → Contains (flat_map names_held kept.pins) name → Contains (flat_map names_held before.pins) name
  pinned name among = subst (λ (pins : List KeptPin). Contains (flat_map names_held pins) name) rest.pins among

  held : (name : FileName) → IsFileName name → IsNeeded before name → All (OpSpares (path_in dir name)) d.pending
  held name fits needed = sane.quiet.spares name fits (inl needed)

  needed_quiet : (name : FileName) → IsFileName name → IsNeeded kept name → All (OpSpares (path_in dir name)) d.pending
  needed_quiet Current fits is = held Current fits tt
  needed_quiet (Manifest n) fits is = held (Manifest n) fits (is ∙ rest.manifest)
  needed_quiet (Log n) fits is = held (Log n) fits (omega (arith, is, rest.log))
  needed_quiet (Temp n) fits is = absurd is
  needed_quiet (Table n) fits is = by (is_some (finmap.get before.version n)) refl
    where
      by : (live : Bool) → is_some (finmap.get before.version n) ≡ live → All (OpSpares (path_in dir (Table n))) d.pending
      by true live = held (Table n) fits live
      by false fresh = quiet n fits fresh is

  known : AreKnown d dir kept
  known = record {
    there = λ name among. sane.known.there name (subst (λ (names : List FileName). Contains names name) rest.known among);
    all = λ name fits there. subst (λ (names : List FileName). Contains names name) (sym rest.known) (sane.known.all name fits there);
  }

  abbrev manifest_path : ℕ → List ℕ
  manifest_path number = path_in dir (Manifest number)

  abbrev log_path : ℕ → List ℕ
  log_path number = path_in dir (Log number)

  abbrev table_path : Unfinished → List ℕ
  table_path table = path_in dir (Table table.number)

  abbrev behind : Kept → List (List ℕ)
  behind k = map table_path k.unfinished ++ in_hand k.begun k.hand

  abbrev Given : Unfinished → Type 0
  Given table = bytes_at (tree_now d) (table_path table) ≡ Some table.bytes

  among_before : (P : Unfinished → Type 0) → All P before.unfinished → All P kept.unfinished
  among_before P each = All-weaker (Contains before.unfinished) P
      (λ table among. All-contains P before.unfinished table each among) kept.unfinished rest.unfinished

  alone : All (IsAlone d) (appended_to dir kept parts.last.number)
  alone =
      let each : All (IsAlone d) (log_path was.last.number ∷ behind before) =
      All-tail (IsAlone d) (manifest_path before.manifest) (log_path was.last.number ∷ behind before) sane.written.alone in
      let ends = both_all (IsAlone d) table_path before.unfinished (in_hand before.begun before.hand)
      (All-tail (IsAlone d) (log_path was.last.number) (behind before) each) in
      All-cons (IsAlone d) (manifest_path kept.manifest) (log_path parts.last.number ∷ behind kept)
      (subst (λ (n : ℕ). IsAlone d (manifest_path n)) (sym rest.manifest)
      (All-head (IsAlone d) (manifest_path before.manifest) (log_path was.last.number ∷ behind before) sane.written.alone))
      (All-cons (IsAlone d) (log_path parts.last.number) (behind kept)
      (subst (λ (n : ℕ). IsAlone d (log_path n)) (sym last) (All-head (IsAlone d) (log_path was.last.number) (behind before) each))
      (All-append (IsAlone d) (map table_path kept.unfinished) (in_hand kept.begun kept.hand)
      (All-map (IsAlone d) table_path kept.unfinished (among_before (λ table. IsAlone d (table_path table)) ends.0))
      (hand_alone ends.1)))
    where
      hand_alone : All (IsAlone d) (in_hand before.begun before.hand) → All (IsAlone d) (in_hand kept.begun kept.hand)
      hand_alone are =
          subst (λ b. All (IsAlone d) (in_hand b kept.hand)) (sym rest.begun)
          (subst (λ h. All (IsAlone d) (in_hand before.begun h)) (sym rest.hand) are)

  -- but for the manifest all is as it is kept then
  pub edit_ready : SaneBeside d dir kept parts (Manifest kept.manifest)
  edit_ready = record {
    current = current;
    edits = λ other. absurd (other refl);
    tables = tables;
    logs = record {
      numbers = logs.numbers;
      ascend = logs.ascend;
      live = logs.live;
      older = logs.older;
      only = logs.only;
      frozen = logs.frozen;
    };
    last = λ other. logs.last;
    quiet = record {
      spares = λ name fits is. ⊎_elim (λ needed. needed_quiet name fits needed)
          (λ pin. sane.quiet.spares name fits (inr (pinned name pin))) is;
    };
    known = known;
    files = sane.files;
    lawful = lawful;
    given = All-weaker Given (IsGiven d dir (Manifest kept.manifest)) (λ table has differs. has) kept.unfinished
        (among_before Given sane.written.tables);
    alone = alone;
    restored = subst (λ b. RestoreBuilds d dir b kept.hand) (sym rest.begun)
        (subst (λ h. RestoreBuilds d dir before.begun h) (sym rest.hand) sane.restored);
  }

-- ---- the manifest is written

module _ (d : State) (dir : List ℕ) (kept : Kept) (parts : Parts) (is : SaneBeside d dir kept parts (Manifest kept.manifest))
    (active : AreRowsOf (first_in_last parts) parts.last.batches kept.active) (later : State)
    (writes : WritesAt dir (Manifest kept.manifest) d later)
    (edits : HasEdits later dir kept parts.edits) where
  abbrev name : FileName
  name = Manifest kept.manifest

  log_differs : (number : ℕ) → Log number ≢ Manifest kept.manifest
  log_differs number same = cc

  others : All (λ (log : LogPart). IsFileName (Log log.number) × (Log log.number ≢ Manifest kept.manifest)) parts.older
  others = All-weaker (IsOlder kept parts.last.number) (λ (log : LogPart). IsFileName (Log log.number)
      × (Log log.number ≢ Manifest kept.manifest))
      (λ log older. (older.0, log_differs log.number)) parts.older (older_are d dir kept parts is.logs)

  same_file : (path : List ℕ) → file_at later path ≡ file_at d path
  same_file path = ap (λ (names : Names). id_of (finmap.get names path)) writes.names

  only_still : (number : ℕ) → MayStand d dir kept number → MayStand later dir kept number
  only_still number may_stand = ⊎_elim (λ among. inl among) (λ free. inr (same_file (path_in dir (Log number)) ∙ free)) may_stand

  pub manifest_sane : Sane later dir kept parts
  manifest_sane = record {
    current = current_at dir name is.current.named is.current.numbered d later writes.at kept (λ same. cc) is.current;
    edits = edits;
    tables = tables_at dir name is.current.named is.current.numbered d later writes.at kept parts.rows
        (λ number placed found same. cc) is.tables;
    logs = record {
      numbers = is.logs.numbers;
      ascend = is.logs.ascend;
      live = is.logs.live;
      older = synced_at dir name is.current.named is.current.numbered d later writes.at
          (first_logged parts) parts.older others is.logs.older;
      last = wal_at dir name is.current.named is.current.numbered d later writes.at parts.last.number _ _
          (last_is d dir kept parts is.logs).1 (log_differs parts.last.number) (is.last (λ same. cc));
      only = λ number least fits. only_still number (is.logs.only number least fits);
      frozen = is.logs.frozen;
      active = active;
    };
    quiet = record { spares = λ other fits held. writes.quiet (path_in dir other) (is.quiet.spares other fits held) };
    known = record {
      there = λ other among. let was = is.known.there other among in (was.0, ap is_some (same_file (path_in dir other)) ∙ was.1);
      all = λ other fits there. is.known.all other fits (ap (λ (names : Names). is_some (finmap.get names (path_in dir other)))
          (sym writes.names) ∙ there);
    };
    files = files_at dir name is.current.named is.current.numbered d later writes.at is.files;
    lawful = is.lawful;
    written = record {
      tables = All-weaker (IsGiven d dir name) (λ (table : Unfinished). bytes_at (tree_now later)
          (path_in dir (Table table.number)) ≡ Some table.bytes)
          (λ table given. let differs = manifest_apart dir table.number kept.manifest is.current.numbered in
          bytes_stay (path_in dir name) d later writes.at (path_in dir (Table table.number)) differs table.bytes
          (given differs)) kept.unfinished is.given;
      alone = All-weaker (IsAlone d) (IsAlone later) writes.at.alone (appended_to dir kept parts.last.number) is.alone;
    };
    restored = restored_at dir name is.current.named is.current.numbered d later writes.at is.files kept.begun kept.hand is.restored;
  }

-- both
pub edited_sane : (d : State) (dir : List ℕ) (before : Kept) (was : Parts) → Sane d dir before was
    → (kept : Kept) (parts : Parts) → KeepsTheRest before kept
    → HasTables d dir kept parts.rows → HasLogs d dir kept parts → parts.last.number ≡ was.last.number
    → AreLawful parts.edits parts.rows → AreNewQuiet d dir before kept
    → (later : State) → WritesAt dir (Manifest kept.manifest) d later → HasEdits later dir kept parts.edits → Sane later dir kept parts
edited_sane d dir before was sane kept parts rest tables logs last lawful quiet later writes edits =
    manifest_sane d dir kept parts (edit_ready d dir before was sane kept parts rest tables logs last lawful quiet) logs.active later writes edits
