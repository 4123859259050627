-- Behind the switch of CURRENT to a new manifest a running store keeps what the manifest says.
use Rattle.std.specs.Prelude.{◌≡◌, ◌≢◌, ℕ, ◌+◌, nat_eq, true, false, is_some, List, [], ◌∷◌, ◌++◌, map, drop, length, codes, All, Contains, Option, Some, None}
use Rattle.std.specs.List.{IsDistinct}
use Rattle.std.proofs.Common.{⊎_elim, inl, inr, refl, sym, ap, subst, ◌∙◌, arith}
use Rattle.std.proofs.lemmas.List.{append_cancel_left}
use Rattle.std.proofs.lemmas.List.Elements.{All-nil, All-cons, All-head, All-tail, All-append, All-map, All-weaker, Contains-push_cases, Contains-append_left, Contains-push}
use Rattle.std.specs.FinMap as finmap
use Rattle.lsm_names.specs.Folders.{is_folder_name}
use Rattle.lsm_names.specs.FileNames.{IsFileName, spelled, six_digits}
use Rattle.lsm_names.specs.declared.file_names.FileName.{FileName}
use Rattle.lsm_names.specs.declared.file_names.FileName.TheVariants.{Log, Table, Manifest, Temp, Current}
use Rattle.lsm_rows.specs.Replay.{sequence_after}
use Rattle.lsm_disk.specs.Names.{Folder_node}
use Rattle.lsm_disk.specs.State.{FileState, State, file_at, names_now}
use Rattle.lsm_disk.specs.Images.{bytes_at, tree_now}
use Rattle.lsm_disk.specs.Kept.{IsFileNow}
use Rattle.lsm_disk.specs.Dest.{Begun, path_in, IsPartName}
use Rattle.lsm_disk.specs.Building.{Part, LacksCurrent, HoldsNames, IsSealed, IsSealedBeside, sealed}
use Rattle.lsm_wal.specs.Batches.{Logged, in_sequence}
use Rattle.lsm_wal.specs.Standing.{IsWal}
use Rattle.lsm_folder.specs.Names.{current_text}
use Rattle.lsm_version.specs.declared.edits.Edit.{Edit}
use Rattle.lsm_version.specs.Levels.{Tables, IsLeveled}
use Rattle.lsm_folder.specs.Manifests.{tables_after, log_after, last_after, manifest_text}
use Rattle.lsm_folder.specs.Needed.{IsAsListed, sequences}
use Rattle.lsm_folder.specs.Parts.{AreEdits, AreLawful, rows_of_tables}
use Rattle.lsm_model.specs.Halting.{built_in}
use Rattle.lsm_refine.specs.Kept.{Unfinished, Kept}
use Rattle.lsm_refine.specs.Parts.{LogPart, Parts, AreRowsOf, batches_in, first_logged}
use Rattle.lsm_refine.specs.Sane.{IsWholeFile, IsAlone, HasEdits, AreSynced, MayStand, IsQuiet, AreKnown, AreFiles, IsOlder, HasBegun, RestoreBuilds, Sane, appended_to, in_hand}
use Rattle.lsm_refine.specs.Pins.{AreClearable}
use Rattle.lsm_refine.specs.Among.{IsElsewhere, ChangesAmong, switched_names, switched_kept}
use Rattle.lsm_disk.proofs.Paths.{path_cases}
use Rattle.lsm_refine.proofs.AmongLemmas.{file_among, bytes_among, cut_among, kept_name_among, kept_file_among, whole_among}
use Rattle.lsm_refine.proofs.ChangeLemmas.{at_cut}
use Rattle.lsm_refine.proofs.EditedLemmas.{both_all, manifest_apart}
use Rattle.lsm_refine.proofs.FolderDisks.{apart_from, built_flat}
use Rattle.lsm_refine.proofs.LastLogLemmas.{last_is, older_are}
use Rattle.lsm_refine.proofs.OtherFileLemmas.{same_name, dir_apart, name_apart, outside, current_apart}
use Rattle.lsm_refine.proofs.PartsLemmas.{readable}
use Rattle.lsm_refine.proofs.WritingLemmas.{last_byte, last_byte-append}

-- ---- names of tables, of temporary files, and CURRENT

-- a table's path is no temporary file's
pub temp_apart : (dir : List ℕ) (n m : ℕ) → path_in dir (Table n) ≢ path_in dir (Temp m)
unfolding spelled
temp_apart dir n m same =
    let text : six_digits n ++ codes ".sst" ≡ six_digits m ++ codes ".dbtmp" =
    ap (λ (l : List ℕ). drop 1 l) (append_cancel_left dir (47 ∷ spelled (Table n)) (47 ∷ spelled (Temp m)) same) in
    let clash : 116 ≡ 112 = sym (last_byte-append (six_digits n) 46 (codes "sst")) ∙ ap last_byte text ∙ last_byte-append
    (six_digits m) 46 (codes "dbtmp") in
    omega (arith, clash)

-- nor that of CURRENT
table_no_current : (dir : List ℕ) (n : ℕ) → path_in dir (Table n) ≢ path_in dir Current
unfolding spelled
table_no_current dir n same =
    let text : six_digits n ++ codes ".sst" ≡ codes "CURRENT" =
    ap (λ (l : List ℕ). drop 1 l) (append_cancel_left dir (47 ∷ spelled (Table n)) (47 ∷ spelled Current) same) in
    let clash : 116 ≡ 84 = sym (last_byte-append (six_digits n) 46 (codes "sst")) ∙ ap last_byte text in
    omega (arith, clash)

-- ---- what stays where a few names change

module _ (dir : List ℕ) (named : is_folder_name dir ≡ true) (names : List FileName) (fits : All IsFileName names)
    (d later : State) (at : ChangesAmong dir names d later) where
  pub dir_elsewhere : IsElsewhere dir names dir
  dir_elsewhere = All-weaker IsFileName (λ (m : FileName). dir ≢ path_in dir m) (λ m fit. dir_apart dir m named fit) names fits

  pub name_elsewhere : (n : FileName) → IsFileName n → All (λ (m : FileName). n ≢ m) names → IsElsewhere dir names (path_in dir n)
  name_elsewhere n fit others = λ k default within. name_apart dir _ named (fits k default within) n fit (others k default within)

  folder_elsewhere : (folder rest : List ℕ) → folder ≢ dir → IsElsewhere dir names (folder ++ 47 ∷ rest)
  folder_elsewhere folder rest other = All-weaker IsFileName (λ (m : FileName). folder ++ 47 ∷ rest ≢ path_in dir m)
      (λ m fit. outside dir m named fit folder rest other) names fits

  pub wal_among : (number : ℕ) (batches : List Logged) (durable : ℕ) → IsElsewhere dir names (path_in dir (Log number))
      → IsWal d (path_in dir (Log number)) batches durable → IsWal later (path_in dir (Log number)) batches durable
  wal_among number batches durable elsewhere wal = record {
    id = wal.id;
    file = wal.file;
    kept = kept_file_among dir names d later at (path_in dir (Log number)) elsewhere wal.id wal.file wal.kept;
    text = wal.text;
    within = wal.within;
    synced = wal.synced;
    each = wal.each;
  }

  abbrev IsOther : LogPart → Type 0
  IsOther log = IsElsewhere dir names (path_in dir (Log log.number))

  pub synced_among : (first : ℕ) (logs : List LogPart) → All
      (λ (log : LogPart). IsElsewhere dir names (path_in dir (Log log.number))) logs → AreSynced d dir first logs
      → AreSynced later dir first logs
  synced_among first [] each synced = tt
  synced_among first (log ∷ logs) each synced = (
    wal_among log.number _ _ (All-head IsOther log logs each) synced.0,
    synced_among (sequence_after first log.batches) logs
        (All-tail IsOther log logs each) synced.1,
  )

  module _ (files : AreFiles d dir) where
    not_folder : (other : List ℕ) → finmap.get (names_now d) other ≡ Some Folder_node → IsElsewhere dir names other
    not_folder other is = All-weaker IsFileName (λ (m : FileName). other ≢ path_in dir m)
        (λ m fit same. files.no_folder m (length d.pending) fit
        (at_cut d (path_in dir m) (Some Folder_node) (ap (λ (p : List ℕ). finmap.get (names_now d) p) (sym same) ∙ is))) names fits

    pub files_among : AreFiles later dir
    files_among = record { no_folder = λ name k fit. at.no_folder (path_in dir name) (λ j. files.no_folder name j fit) k }

    pub clear_among : AreClearable d → AreClearable later
    clear_among are = record {
      no_file = λ built k id is leads.
          let was = cut_among dir names d later at (built_in built)
          (All-weaker IsFileName (λ (m : FileName). built_in built ≢ path_in dir m)
          (λ m fit. apart_from (built_in built) dir (spelled m) (built_flat built is)) names fits) k in
          are.no_file built was.0 id is (sym was.1 ∙ leads);
      no_folder = λ built rest k is. at.no_folder (built_in built ++ 47 ∷ rest) (λ j. are.no_folder built rest j is) k;
    }

    module _ (start : State) (folder : List ℕ) (other : folder ≢ dir) where
      names_among : (those : List FileName) → HoldsNames start folder those d → HoldsNames start folder those later
      names_among those is = record {
        own = is.own;
        later = omega (arith, is.later, at.fewer);
        stands = at.now folder (not_folder folder is.stands) ∙ is.stands;
        only = λ rest others. at.now (folder ++ 47 ∷ rest) (folder_elsewhere folder rest other) ∙ is.only rest others;
        lacks = λ k. ⊎_elim
            (λ old. subst (LacksCurrent start folder) (sym old.1) (is.lacks old.0))
            (λ same. inr (same (path_in folder Current) (folder_elsewhere folder (spelled Current) other)
            ∙ is.only (spelled Current) (All-weaker IsPartName (λ (n : FileName). spelled Current ≢ spelled n) current_apart those is.own)))
            (at.cuts k);
      }

      part_among : (file : FileName) (id : ℕ) (f : FileState) → IsFileNow d (path_in folder file) id f
          → IsFileNow later (path_in folder file) id f
      part_among file id f is = at.files (path_in folder file) id f (folder_elsewhere folder (spelled file) other) is

      sealed_among : (part : Part) → IsSealed start folder d part → IsSealed start folder later part
      sealed_among part sure = record {
        id = sure.id;
        later = sure.later;
        file = part_among part.name sure.id (sealed part.bytes) sure.file;
      }

      beside_among : (id : ℕ) (part : Part) → IsSealedBeside start folder d id part → IsSealedBeside start folder later id part
      unfolding sealed_among
      beside_among id part is = (sealed_among part is.0, is.1)

    begun_among : (start : State) (begun : Begun) (parts : List Part) (hand : Option FileName) → begun.folder ≢ dir
        → HasBegun start begun parts hand d → HasBegun start begun parts hand later
    begun_among start begun parts None other is = record {
      names = is.names;
      holds = names_among start begun.folder other begun.names is.holds;
      each = All-weaker (IsSealed start begun.folder d) (IsSealed start begun.folder later)
          (sealed_among start begun.folder other) parts is.each;
    }
    begun_among start begun parts (Some file) other is = (
      is.0,
      record {
        names = is.1.names;
        holds = names_among start begun.folder other begun.names is.1.holds;
        id = is.1.id;
        later = is.1.later;
        hand = part_among start begun.folder other file is.1.id is.0 is.1.hand;
        each = All-weaker (IsSealedBeside start begun.folder d is.1.id) (IsSealedBeside start begun.folder later is.1.id)
            (beside_among start begun.folder other is.1.id) parts is.1.each;
      },
    )

    pub restored_among : (begun : Option Begun) (hand : Option FileName) → RestoreBuilds d dir begun hand
        → RestoreBuilds later dir begun hand
    restored_among None hand is = is
    restored_among (Some begun) hand is = record {
      named = is.named;
      apart = is.apart;
      start = is.start;
      parts = is.parts;
      has = begun_among is.start begun is.parts hand is.apart is.has;
    }

-- ---- CURRENT names a new manifest

pub switched_has : (d later : State) (dir : List ℕ) (kept : Kept) (was edits : List Edit) (number next : ℕ)
    (known : List FileName) → HasEdits d dir kept was → AreEdits edits
    → tables_after edits ≡ tables_after was → log_after edits ≡ log_after was → last_after edits ≡ last_after was
    → IsWholeFile later (path_in dir (Manifest number)) (manifest_text edits)
    → HasEdits later dir (switched_kept number (length (manifest_text edits)) next known kept) edits
switched_has d later dir kept was edits number next known has are tables log last whole = record {
  are = are;
  file = whole;
  len = refl;
  version = has.version ∙ sym tables;
  log = has.log ∙ sym log;
  last = has.last ∙ sym last;
}

module _ (d : State) (dir : List ℕ) (before : Kept) (was : Parts) (sane : Sane d dir before was) (number len next : ℕ)
    (known : List FileName) (edits : List Edit)
    (numbered : IsFileName (Manifest number)) (temporary : ℕ) (fit : IsFileName (Temp temporary)) (later : State)
    (at : ChangesAmong dir (switched_names number temporary) d later)
    (current : IsWholeFile later (path_in dir Current) (current_text number))
    (has : HasEdits later dir (switched_kept number len next known before) edits)
    (manifest_alone : IsAlone later (path_in dir (Manifest number)))
    (are_known : AreKnown later dir (switched_kept number len next known before))
    (quiet : IsQuiet later dir (switched_kept number len next known before)) where
  abbrev names : List FileName
  names = switched_names number temporary

  abbrev named : is_folder_name dir ≡ true
  named = sane.current.named

  abbrev last : ℕ
  last = was.last.number

  each_name : (P : FileName → Type 0) → P (Manifest number) → P (Temp temporary) → P Current → All P (switched_names number temporary)
  each_name P manifest temp now = All-cons P (Manifest number) (Temp temporary ∷ Current ∷ []) manifest
      (All-cons P (Temp temporary) (Current ∷ []) temp (All-cons P Current [] now (All-nil P)))

  fits : All IsFileName (switched_names number temporary)
  fits = each_name IsFileName numbered fit tt

  log_elsewhere : (n : ℕ) → IsFileName (Log n) → IsElsewhere dir (switched_names number temporary) (path_in dir (Log n))
  log_elsewhere n is = name_elsewhere dir named names fits d later at (Log n) is
      (each_name (λ (m : FileName). Log n ≢ m) (λ same. cc) (λ same. cc) (λ same. cc))

  table_elsewhere : (n : ℕ) → IsElsewhere dir (switched_names number temporary) (path_in dir (Table n))
  table_elsewhere n = each_name (λ (m : FileName). path_in dir (Table n) ≢ path_in dir m)
      (manifest_apart dir n number numbered) (temp_apart dir n temporary) (table_no_current dir n)

  same_tables : tables_after was.edits ≡ tables_after edits
  same_tables = sym sane.edits.version ∙ has.version

  same_last : last_after was.edits ≡ last_after edits
  same_last = sym sane.edits.last ∙ has.last

  lawful : AreLawful edits was.rows
  lawful = record {
    leveled = subst (λ (tables : Tables). IsLeveled tables was.rows) same_tables sane.lawful.leveled;
    listed = λ n placed found. subst (λ (k : ℕ). IsAsListed placed.info (was.rows n) k) same_last
        (sane.lawful.listed n placed (ap (λ (tables : Tables). finmap.get tables n) same_tables ∙ found));
    distinct = subst (λ (tables : Tables). IsDistinct nat_eq (sequences (rows_of_tables tables was.rows))) same_tables sane.lawful.distinct;
  }

  only_still : (n : ℕ) → IsFileName (Log n) → MayStand d dir before n → MayStand later dir before n
  only_still n is may = ⊎_elim (λ among. inl among) (λ free. inr
      (file_among dir names d later at (path_in dir (Log n)) (log_elsewhere n is) ∙ free)) may

  last_fits : IsFileName (Log was.last.number)
  last_fits = (last_is d dir before was (readable d dir before was sane).logs).1

  others : All (λ (log : LogPart). IsElsewhere dir (switched_names number temporary) (path_in dir (Log log.number))) was.older
  others = All-weaker (IsOlder before last) (λ (log : LogPart). IsElsewhere dir names (path_in dir (Log log.number)))
      (λ log older. log_elsewhere log.number older.0) was.older
      (older_are d dir before was (readable d dir before was sane).logs)

  abbrev table_path : Unfinished → List ℕ
  table_path table = path_in dir (Table table.number)

  hand_alone : (begun : Option Begun) (hand : Option FileName) → RestoreBuilds d dir begun hand
      → All (IsAlone d) (in_hand begun hand) → All (IsAlone later) (in_hand begun hand)
  hand_alone None hand builds are = All-nil (IsAlone later)
  hand_alone (Some begun) None builds are = All-nil (IsAlone later)
  hand_alone (Some begun) (Some name) builds are =
      All-cons (IsAlone later) (path_in begun.folder name) []
      (at.alone (path_in begun.folder name) (folder_elsewhere dir named names fits d later at begun.folder
      (spelled name) builds.apart) (All-head (IsAlone d) (path_in begun.folder name) [] are))
      (All-nil (IsAlone later))

  alone : All (IsAlone later) (appended_to dir (switched_kept number len next known before) was.last.number)
  alone =
      let old : List ℕ = path_in dir (Manifest before.manifest) in
      let log : List ℕ = path_in dir (Log was.last.number) in
      let rest : List (List ℕ) = map table_path before.unfinished ++ in_hand before.begun before.hand in
      let logs : All (IsAlone d) (log ∷ rest) = All-tail (IsAlone d) old (log ∷ rest) sane.written.alone in
      let ends = both_all (IsAlone d) table_path before.unfinished (in_hand before.begun before.hand)
      (All-tail (IsAlone d) log rest logs) in
      All-cons (IsAlone later) (path_in dir (Manifest number)) (log ∷ rest) manifest_alone
      (All-cons (IsAlone later) log rest (at.alone log (log_elsewhere was.last.number last_fits) (All-head (IsAlone d) log rest logs))
      (All-append (IsAlone later) (map table_path before.unfinished) (in_hand before.begun before.hand)
      (All-map (IsAlone later) table_path before.unfinished
      (All-weaker (λ (table : Unfinished). IsAlone d (table_path table)) (λ (table : Unfinished). IsAlone later (table_path table))
      (λ table is. at.alone (table_path table) (table_elsewhere table.number) is) before.unfinished ends.0))
      (hand_alone before.begun before.hand sane.restored ends.1)))

  pub switched_sane : Sane later dir (switched_kept number len next known before) (record was { edits = edits })
  switched_sane = record {
    current = record {
      named = named;
      folder = kept_name_among dir names d later at dir (dir_elsewhere dir named names fits d later at)
          (Some Folder_node) sane.current.folder;
      numbered = numbered;
      file = current;
    };
    edits = has;
    tables = record {
      each = λ n placed found. let table = sane.tables.each n placed found in
          record {
            numbered = table.numbered;
            bytes = table.bytes;
            file = whole_among dir names d later at (path_in dir (Table n)) (table_elsewhere n) table.bytes table.file;
            table = table.table;
            size = table.size;
            viewed = table.viewed;
          };
    };
    logs = record {
      numbers = sane.logs.numbers;
      ascend = sane.logs.ascend;
      live = sane.logs.live;
      older = subst (λ (k : ℕ). AreSynced later dir (k + 1) was.older) same_last
          (synced_among dir named names fits d later at (first_logged was) was.older others sane.logs.older);
      last = subst (λ (k : ℕ). IsWal later (path_in dir (Log was.last.number))
          (in_sequence (sequence_after (k + 1) (batches_in was.older)) was.last.batches) was.synced) same_last
          (wal_among dir named names fits d later at was.last.number _ _ (log_elsewhere was.last.number last_fits) sane.logs.last);
      only = λ n least is. only_still n is (sane.logs.only n least is);
      frozen = subst (λ (k : ℕ). AreRowsOf (k + 1) (batches_in was.older) before.frozen) same_last sane.logs.frozen;
      active = subst (λ (k : ℕ). AreRowsOf (sequence_after (k + 1)
          (batches_in was.older)) was.last.batches before.active) same_last sane.logs.active;
    };
    quiet = quiet;
    known = are_known;
    files = files_among dir named names fits d later at sane.files;
    lawful = lawful;
    written = record {
      tables = All-weaker (λ (table : Unfinished). bytes_at (tree_now d) (table_path table) ≡ Some table.bytes)
          (λ (table : Unfinished). bytes_at (tree_now later) (table_path table) ≡ Some table.bytes)
          (λ table held. bytes_among dir names d later at (table_path table)
          (table_elsewhere table.number) table.bytes held) before.unfinished sane.written.tables;
      alone = alone;
    };
    restored = restored_among dir named names fits d later at sane.files before.begun before.hand sane.restored;
  }

-- ---- the known names

module _ (d later : State) (dir : List ℕ) (before : Kept) (named : is_folder_name dir ≡ true) (number temporary : ℕ)
    (numbered : IsFileName (Manifest number)) (fit : IsFileName (Temp temporary))
    (at : ChangesAmong dir (switched_names number temporary) d later) (was : AreKnown d dir before)
    (had : Contains before.known Current) (fresh : ¬ Contains before.known (Temp temporary))
    (manifest : is_some (file_at later (path_in dir (Manifest number))) ≡ true) (now : is_some (file_at later (path_in dir Current)) ≡ true)
    (gone : finmap.get (names_now later) (path_in dir (Temp temporary)) ≡ None) where
  abbrev all : List FileName
  all = before.known ++ Manifest number ∷ []

  apart : (name : FileName) → path_in dir name ≢ path_in dir (Manifest number)
      → path_in dir name ≢ path_in dir (Temp temporary) → path_in dir name ≢ path_in dir Current
      → IsElsewhere dir (switched_names number temporary) (path_in dir name)
  apart name a b c =
      All-cons (λ (m : FileName). path_in dir name ≢ path_in dir m) (Manifest number) (Temp temporary ∷ Current ∷ []) a
      (All-cons (λ (m : FileName). path_in dir name ≢ path_in dir m) (Temp temporary) (Current ∷ []) b
      (All-cons (λ (m : FileName). path_in dir name ≢ path_in dir m) Current [] c
      (All-nil (λ (m : FileName). path_in dir name ≢ path_in dir m))))

  stands_still : (name : FileName) → IsFileName name → Contains before.known name
      → is_some (file_at d (path_in dir name)) ≡ true → is_some (file_at later (path_in dir name)) ≡ true
  stands_still name is old there = ⊎_elim
      (λ same. ap (λ (p : List ℕ). is_some (file_at later p)) same ∙ manifest)
      (λ a. ⊎_elim
      (λ same. absurd (fresh (subst (Contains before.known) (same_name dir (Temp temporary) named fit name is same) old)))
      (λ b. ⊎_elim
      (λ same. ap (λ (p : List ℕ). is_some (file_at later p)) same ∙ now)
      (λ c. ap is_some (file_among dir (switched_names number temporary) d later at (path_in dir name) (apart name a b c)) ∙ there)
      (path_cases (path_in dir name) (path_in dir Current)))
      (path_cases (path_in dir name) (path_in dir (Temp temporary))))
      (path_cases (path_in dir name) (path_in dir (Manifest number)))

  known_still : (name : FileName) → IsFileName name → is_some (finmap.get (names_now later) (path_in dir name)) ≡ true → Contains all name
  known_still name is there = ⊎_elim
      (λ same. subst (Contains all) (sym (same_name dir (Manifest number) named numbered name is same))
      (Contains-push before.known (Manifest number)))
      (λ a. ⊎_elim
      (λ same. let clash : false ≡ true = ap is_some (sym gone ∙ ap (finmap.get (names_now later)) (sym same)) ∙ there in absurd (cc))
      (λ b. ⊎_elim
      (λ same. Contains-append_left before.known (Manifest number ∷ []) name
      (subst (Contains before.known) (sym (same_name dir Current named tt name is same)) had))
      (λ c. Contains-append_left before.known (Manifest number ∷ []) name
      (was.all name is (ap is_some (sym (at.now (path_in dir name) (apart name a b c))) ∙ there)))
      (path_cases (path_in dir name) (path_in dir Current)))
      (path_cases (path_in dir name) (path_in dir (Temp temporary))))
      (path_cases (path_in dir name) (path_in dir (Manifest number)))

  pub switched_known : (len next : ℕ) → AreKnown later dir (switched_kept number len next (before.known ++ Manifest number ∷ []) before)
  switched_known len next = record {
    there = λ name among. ⊎_elim
        (λ old. let stood = was.there name old in (stood.0, stands_still name stood.0 old stood.1))
        (λ same. subst (λ (m : FileName). IsFileName m × (is_some (file_at later (path_in dir m)) ≡ true)) same (numbered, manifest))
        (Contains-push_cases before.known (Manifest number) name among);
    all = known_still;
  }
