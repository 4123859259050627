-- Where two disks differ at one file of the store's folder alone, what a store says of its other files stays, and so do the
-- checkpoints that it builds and the folder that a restore builds.
use Rattle.std.specs.Prelude.{◌≡◌, ◌≢◌, ◌⊎◌, ℕ, ◌-◌, Bool, true, false, ◌==◌, ◌||◌, is_some, List, [], ◌∷◌, ◌++◌, drop, take, length, codes, All, Option, Some, None}
use Rattle.std.specs.List.{list_all}
use Rattle.std.proofs.Common.{⊎_elim, inl, inr, refl, sym, ap, subst, ◌∙◌, arith}
use Rattle.std.proofs.lemmas.Bool.{and_parts}
use Rattle.std.proofs.lemmas.List.{length-append, append_cancel_left}
use Rattle.std.proofs.lemmas.List.Elements.{All-head, All-tail, All-take, All-weaker}
use Rattle.std.specs.FinMap as finmap
use Rattle.lsm_names.specs.Folders.{is_folder_name, is_folder_byte, is_small_letter_or_digit}
use Rattle.lsm_names.specs.FileNames.{IsFileName, spelled}
use Rattle.lsm_names.specs.Paths.{is_component, is_component_byte}
use Rattle.lsm_names.specs.declared.file_names.FileName.{FileName}
use Rattle.lsm_names.specs.declared.file_names.FileName.TheVariants.{Log, Table, Manifest, Temp, Current}
use Rattle.lsm_names.proofs.FileNameLemmas.{spelled_injective, spelled_is_component}
use Rattle.lsm_names.proofs.FolderLemmas.{bytes_of_folder, folder_is_component}
use Rattle.lsm_names.proofs.PathLemmas.{bytes_of_component, no_slash_byte}
use Rattle.lsm_rows.specs.declared.rows.Row.{Row}
use Rattle.lsm_rows.specs.Replay.{sequence_after}
use Rattle.lsm_disk.specs.Names.{Folder_node}
use Rattle.lsm_disk.specs.State.{FileState, State, file_at, names_now}
use Rattle.lsm_disk.specs.Images.{bytes_at, tree_now}
use Rattle.lsm_disk.specs.Kept.{IsFileNow}
use Rattle.lsm_disk.specs.Dest.{Begun, path_in, IsPartName}
use Rattle.lsm_disk.specs.Building.{Part, LacksCurrent, HoldsNames, IsSealed, IsSealedBeside, sealed}
use Rattle.lsm_disk.proofs.Named.{now_at}
use Rattle.lsm_disk.proofs.Paths.{path_cases}
use Rattle.lsm_wal.specs.Batches.{Logged}
use Rattle.lsm_wal.specs.Standing.{IsWal}
use Rattle.lsm_version.specs.declared.edits.Edit.{Edit}
use Rattle.lsm_version.specs.declared.tables.Placed.{Placed}
use Rattle.lsm_model.specs.declared.states.State as model
use Rattle.lsm_model.specs.declared.states.Pin.{Pin}
use Rattle.lsm_model.specs.declared.states.PinnedFile.{PinnedFile}
use Rattle.lsm_model.specs.Halting.{built_in}
use Rattle.lsm_refine.specs.Kept.{Job, KeptPin, Unfinished, Kept}
use Rattle.lsm_refine.specs.Parts.{LogPart}
use Rattle.lsm_refine.specs.Sane.{IsAlone, IsCurrent, HasEdits, HasTables, AreSynced, AreFiles, HasBegun, RestoreBuilds}
use Rattle.lsm_refine.specs.Pins.{ArePins, AreClearable, HasCopy, HasFront, IsAbsent, HasJob, BuildsJob, JobsBuild, begun_files, absent_files}
use Rattle.lsm_refine.specs.Beside.{cut_names, ChangesAt, IsGiven}
use Rattle.lsm_refine.proofs.ChangeLemmas.{at_cut, only_now, file_of, file_stays, bytes_stay, some_cut, kept_name_stays, kept_file_stays, whole_stays}
use Rattle.lsm_refine.proofs.FolderDisks.{has_slash, slash_inside, apart_from, built_flat}
use Rattle.lsm_refine.proofs.PinnedLemmas.{pins_fit, pins_both}

-- ---- paths with one slash

pub parts_false : (a b : Bool) → (a || b) ≡ false → (a ≡ false) × (b ≡ false)
parts_false true b is = absurd (cc)
parts_false false b is = (refl, is)

bytes_flat : (part : List ℕ) → list_all is_component_byte part ≡ true → has_slash part ≡ false
bytes_flat [] are = refl
bytes_flat (byte ∷ part) are =
    let parts = and_parts (is_component_byte byte) (list_all is_component_byte part) are in
    ap (λ (b : Bool). b || has_slash part) (no_slash_byte byte parts.0) ∙ bytes_flat part parts.1

pub flat : (part : List ℕ) → is_component part ≡ true → has_slash part ≡ false
flat part is = bytes_flat part (bytes_of_component part is)

pub heads : (x y : ℕ) (xs ys : List ℕ) → x ∷ xs ≡ y ∷ ys → (x ≡ y) × (xs ≡ ys)
heads x y xs ys same = (cc, ap (λ (l : List ℕ). drop 1 l) same)

pub slash_is : (y : ℕ) → 47 ≡ y → (y == 47) ≡ false → ⊥
slash_is y same is = let clash : true ≡ false = ap (λ (n : ℕ). n == 47) same ∙ is in cc

-- a text with one slash is cut there alone
one_slash : (xs ys a b : List ℕ) → has_slash ys ≡ false → has_slash b ≡ false → xs ++ 47 ∷ a ≡ ys ++ 47 ∷ b → xs ≡ ys
one_slash [] [] a b first second same = refl
one_slash [] (y ∷ ys) a b first second same = absurd (slash_is y (heads 47 y a (ys ++ 47 ∷ b) same).0
    (parts_false (y == 47) (has_slash ys) first).0)
one_slash (x ∷ xs) [] a b first second same = let clash : true ≡ false =
    sym (slash_inside xs a) ∙ ap has_slash (heads x 47 (xs ++ 47 ∷ a) b same).1 ∙ second in absurd (cc)
one_slash (x ∷ xs) (y ∷ ys) a b first second same =
    let rest = heads x y (xs ++ 47 ∷ a) (ys ++ 47 ∷ b) same in
    ap (λ (n : ℕ). n ∷ xs) rest.0 ∙ ap (λ (l : List ℕ). y ∷ l)
    (one_slash xs ys a b (parts_false (y == 47) (has_slash ys) first).1 second rest.1)

-- a checkpoint is built in no folder of a store
right_all : (xs ys : List ℕ) → list_all is_folder_byte (xs ++ ys) ≡ true → list_all is_folder_byte ys ≡ true
right_all [] ys are = are
right_all (x ∷ xs) ys are = right_all xs ys (and_parts (is_folder_byte x) (list_all is_folder_byte (xs ++ ys)) are).1

no_dot : list_all is_folder_byte (codes ".tmp") ≡ true → ⊥
unfolding is_folder_byte is_small_letter_or_digit
no_dot are = let clash : false ≡ true = are in cc

pub not_built : (dir job : List ℕ) → is_folder_name dir ≡ true → built_in job ≢ dir
not_built dir job is same = no_dot (right_all job (codes ".tmp") (ap (list_all is_folder_byte) same ∙ bytes_of_folder dir is))

part_fits : (name : FileName) → IsPartName name → IsFileName name
part_fits (Log n) is = is
part_fits (Table n) is = is
part_fits (Manifest n) is = is
part_fits (Temp n) is = absurd is
part_fits Current is = tt

not_current : (name : FileName) → IsPartName name → Current ≢ name
not_current (Log n) is same = cc
not_current (Table n) is same = cc
not_current (Manifest n) is same = cc
not_current (Temp n) is same = cc
not_current Current is same = is

pub current_apart : (name : FileName) → IsPartName name → spelled Current ≢ spelled name
current_apart name is same = not_current name is (spelled_injective Current name tt (part_fits name is) same)

-- ---- the frame

module _ (dir : List ℕ) (name : FileName) (named : is_folder_name dir ≡ true) (fits : IsFileName name) where
  abbrev path : List ℕ
  path = path_in dir name

  pub dir_apart : dir ≢ path
  dir_apart same = omega (arith, length-append dir (47 ∷ spelled name), ap (λ (l : List ℕ). length l) same)

  pub same_name : (other : FileName) → IsFileName other → path_in dir other ≡ path → other ≡ name
  same_name other is same = spelled_injective other name is fits
      (ap (λ (l : List ℕ). drop 1 l) (append_cancel_left dir (47 ∷ spelled other) (47 ∷ spelled name) same))

  pub name_apart : (other : FileName) → IsFileName other → other ≢ name → path_in dir other ≢ path
  name_apart other is differs same = differs (same_name other is same)

  -- nothing inside another folder has the path
  pub outside : (folder rest : List ℕ) → folder ≢ dir → folder ++ 47 ∷ rest ≢ path
  outside folder rest other same = other (one_slash folder dir rest (spelled name) (flat dir (folder_is_component dir named))
      (flat (spelled name) (spelled_is_component name fits)) same)

  module _ (d later : State) (at : ChangesAt (path_in dir name) d later) where
    -- ---- the store's own files

    pub current_at : (kept : Kept) → Current ≢ name → IsCurrent d dir kept → IsCurrent later dir kept
    current_at kept other is = record {
      named = is.named;
      folder = kept_name_stays path d later at dir dir_apart (Some Folder_node) is.folder;
      numbered = is.numbered;
      file = whole_stays path d later at (path_in dir Current) (name_apart Current tt other) _ is.file;
    }

    pub edits_at : (kept : Kept) (edits : List Edit) → IsFileName (Manifest kept.manifest) → Manifest kept.manifest ≢ name
        → HasEdits d dir kept edits → HasEdits later dir kept edits
    edits_at kept edits numbered other has = record {
      are = has.are;
      file = whole_stays path d later at (path_in dir (Manifest kept.manifest))
          (name_apart (Manifest kept.manifest) numbered other) _ has.file;
      len = has.len;
      version = has.version;
      log = has.log;
      last = has.last;
    }

    pub tables_at : (kept : Kept) (rows : ℕ → List Row) → ((number : ℕ) (placed : Placed)
        → finmap.get kept.version number ≡ Some placed → Table number ≢ name)
        → HasTables d dir kept rows → HasTables later dir kept rows
    tables_at kept rows others has = record {
      each = λ number placed found. let table = has.each number placed found in
          record {
            numbered = table.numbered;
            bytes = table.bytes;
            file = whole_stays path d later at (path_in dir (Table number))
                (name_apart (Table number) table.numbered (others number placed found)) table.bytes table.file;
            table = table.table;
            size = table.size;
            viewed = table.viewed;
          };
    }

    pub wal_at : (number : ℕ) (batches : List Logged) (durable : ℕ) → IsFileName (Log number) → Log number ≢ name
        → IsWal d (path_in dir (Log number)) batches durable → IsWal later (path_in dir (Log number)) batches durable
    wal_at number batches durable is other wal = record {
      id = wal.id;
      file = wal.file;
      kept = kept_file_stays path d later at (path_in dir (Log number)) (name_apart (Log number) is other) wal.id wal.file wal.kept;
      text = wal.text;
      within = wal.within;
      synced = wal.synced;
      each = wal.each;
    }

    abbrev IsOther : LogPart → Type 0
    IsOther log = IsFileName (Log log.number) × (Log log.number ≢ name)

    pub synced_at : (first : ℕ) (logs : List LogPart) → All IsOther logs → AreSynced d dir first logs → AreSynced later dir first logs
    synced_at first [] each synced = tt
    synced_at first (log ∷ logs) each synced =
        let is = All-head IsOther log logs each in (
          wal_at log.number _ _ is.0 is.1 synced.0,
          synced_at (sequence_after first log.batches) logs
              (All-tail IsOther log logs each) synced.1,
        )

    pub given_at : (tables : List Unfinished) → All (λ (table : Unfinished). bytes_at (tree_now d)
        (path_in dir (Table table.number)) ≡ Some table.bytes) tables → All (IsGiven later dir name) tables
    given_at tables are =
        All-weaker (λ (table : Unfinished). bytes_at (tree_now d) (path_in dir (Table table.number)) ≡ Some table.bytes)
        (IsGiven later dir name)
        (λ table has differs. bytes_stay path d later at (path_in dir (Table table.number)) differs table.bytes has) tables are

    module _ (files : AreFiles d dir) where
      -- ---- no folder under a file's name

      not_folder : (other : List ℕ) → finmap.get (names_now d) other ≡ Some Folder_node → other ≢ path
      not_folder other is same =
          files.no_folder name (length d.pending) fits (at_cut d path (Some Folder_node)
          (ap (λ (p : List ℕ). finmap.get (names_now d) p) (sym same) ∙ is))

      path_flat : (k : ℕ) → finmap.get (cut_names later k) path ≢ Some Folder_node
      path_flat = at.no_folder (λ j. files.no_folder name j fits)

      pub files_at : AreFiles later dir
      files_at = record { no_folder = λ other k is folder. by other k is folder (path_cases (path_in dir other) path) }
        where
          by : (other : FileName) (k : ℕ) → IsFileName other
              → finmap.get (cut_names later k) (path_in dir other) ≡ Some Folder_node
              → (path_in dir other ≡ path) ⊎ (path_in dir other ≢ path) → ⊥
          by other k is folder (inl same) = path_flat k (ap (λ (p : List ℕ). finmap.get (cut_names later k) p) (sym same) ∙ folder)
          by other k is folder (inr differs) = let was = some_cut path d later at
              (path_in dir other) differs k in files.no_folder other was.0 is (sym was.1 ∙ folder)

      pub clear_at : AreClearable d → AreClearable later
      clear_at are = record {
        no_file = λ built k id is leads.
            let was = some_cut path d later at (built_in built) (apart_from (built_in built) dir (spelled name) (built_flat built is)) k in
            are.no_file built was.0 id is (sym was.1 ∙ leads);
        no_folder = λ built rest k is folder. by built rest k is folder (path_cases (built_in built ++ 47 ∷ rest) path);
      }
        where
          by : (built rest : List ℕ) (k : ℕ) → is_folder_name built ≡ true
              → finmap.get (cut_names later k) (built_in built ++ 47 ∷ rest) ≡ Some Folder_node
              → (built_in built ++ 47 ∷ rest ≡ path) ⊎ (built_in built ++ 47 ∷ rest ≢ path) → ⊥
          by built rest k is folder (inl same) = path_flat k (ap (λ (p : List ℕ). finmap.get (cut_names later k) p) (sym same) ∙ folder)
          by built rest k is folder (inr differs) = let was =
              some_cut path d later at (built_in built ++ 47 ∷ rest) differs k in are.no_folder built rest was.0 is (sym was.1 ∙ folder)

      -- ---- a folder that a restore builds

      module _ (start : State) (folder : List ℕ) (other : folder ≢ dir) where
        -- what is begun has no CURRENT now
        names_at : (names : List FileName) → HoldsNames start folder names d → HoldsNames start folder names later
        names_at names is = record {
          own = is.own;
          later = omega (arith, is.later, at.fewer);
          stands = at.now folder (not_folder folder is.stands) ∙ is.stands;
          only = λ rest others. at.now (folder ++ 47 ∷ rest) (outside folder rest other) ∙ is.only rest others;
          lacks = λ k. ⊎_elim
              (λ old. subst (LacksCurrent start folder) (sym old.1) (is.lacks old.0))
              (λ same. inr (same (path_in folder Current) (outside folder (spelled Current) other)
              ∙ is.only (spelled Current) (All-weaker IsPartName
              (λ (n : FileName). spelled Current ≢ spelled n) current_apart names is.own)))
              (at.cuts k);
        }

        part_at : (file : FileName) (id : ℕ) (f : FileState) → IsFileNow d (path_in folder file) id f
            → IsFileNow later (path_in folder file) id f
        part_at file id f is = at.files (path_in folder file) id f (outside folder (spelled file) other) is

        sealed_at : (part : Part) → IsSealed start folder d part → IsSealed start folder later part
        sealed_at part sure = record { id = sure.id; later = sure.later; file = part_at part.name sure.id (sealed part.bytes) sure.file }

        beside_at : (id : ℕ) (part : Part) → IsSealedBeside start folder d id part → IsSealedBeside start folder later id part
        unfolding sealed_at
        beside_at id part is = (sealed_at part is.0, is.1)

      begun_at : (start : State) (begun : Begun) (parts : List Part) (hand : Option FileName) → begun.folder ≢ dir
          → HasBegun start begun parts hand d → HasBegun start begun parts hand later
      begun_at start begun parts None other is = record {
        names = is.names;
        holds = names_at start begun.folder other begun.names is.holds;
        each = All-weaker (IsSealed start begun.folder d) (IsSealed start begun.folder later)
            (sealed_at start begun.folder other) parts is.each;
      }
      begun_at start begun parts (Some file) other is = (
        is.0,
        record {
          names = is.1.names;
          holds = names_at start begun.folder other begun.names is.1.holds;
          id = is.1.id;
          later = is.1.later;
          hand = part_at start begun.folder other file is.1.id is.0 is.1.hand;
          each = All-weaker (IsSealedBeside start begun.folder d is.1.id) (IsSealedBeside start begun.folder later is.1.id)
              (beside_at start begun.folder other is.1.id) parts is.1.each;
        },
      )

      pub restored_at : (begun : Option Begun) (hand : Option FileName) → RestoreBuilds d dir begun hand
          → RestoreBuilds later dir begun hand
      restored_at None hand is = is
      restored_at (Some begun) hand is = record {
        named = is.named;
        apart = is.apart;
        start = is.start;
        parts = is.parts;
        has = begun_at is.start begun is.parts hand is.apart is.has;
      }

      -- ---- checkpoints that are built

      module _ (job : Job) where
        abbrev built : List ℕ
        built = built_in job.dir

        -- where it is linked, the store's file isn't this one
        abbrev IsLinkApart : PinnedFile → Type 0
        IsLinkApart file =
            bytes_at (tree_now d) (path_in built file.name) ≡ Some file.bytes
            → file_at d (path_in built file.name) ≡ file_at d (path_in dir file.name)
            → path_in dir file.name ≢ path

        not_inside : (file : PinnedFile) → path_in built file.name ≢ path
        not_inside file = outside built (spelled file.name) (not_built dir job.dir named)

        copy_bytes : (file : PinnedFile) (bytes : List ℕ) → bytes_at (tree_now d) (path_in built file.name) ≡ Some bytes
            → bytes_at (tree_now later) (path_in built file.name) ≡ Some bytes
        copy_bytes file bytes has = bytes_stay path d later at (path_in built file.name) (not_inside file) bytes has

        -- a link to one of the store's files is no link to this one, which has no other name
        alone_apart : IsAlone d (path_in dir name) → (file : PinnedFile) → IsLinkApart file
        alone_apart alone file has link same = not_inside file
            (let found = file_of d (path_in built file.name) file.bytes has in
            let leads : file_at d (path_in built file.name) ≡ Some found.0 = now_at d (path_in built file.name) found.0 found.1 found.2 in
            only_now d path (path_in built file.name) found.0 alone (ap (file_at d) (sym same) ∙ sym link ∙ leads) leads)

        link_at : (file : PinnedFile) → IsLinkApart file → bytes_at (tree_now d) (path_in built file.name) ≡ Some file.bytes
            → file_at d (path_in built file.name) ≡ file_at d (path_in dir file.name)
            → file_at later (path_in built file.name) ≡ file_at later (path_in dir file.name)
        link_at file apart has link =
            file_stays path d later at (path_in built file.name) (not_inside file) ∙ link
            ∙ sym (file_stays path d later at (path_in dir file.name) (apart has link))

        copy_at : (file : PinnedFile) → IsLinkApart file → HasCopy d dir built file → HasCopy later dir built file
        copy_at file apart is = record {
          whole = copy_bytes file file.bytes is.whole;
          of = ⊎_elim (λ link. inl (link_at file apart is.whole link)) (λ own. inr (at.alone (path_in built file.name) own)) is.of;
        }

        front_at : (file : PinnedFile) → HasFront d built job.copied file → HasFront later built job.copied file
        front_at file is = record {
          fewer = is.fewer;
          front = copy_bytes file (take job.copied file.bytes) is.front;
          alone = at.alone (path_in built file.name) is.alone;
        }

        job_at : (all : List PinnedFile) → All IsLinkApart all → HasJob d dir job all → HasJob later dir job all
        job_at all apart is = record {
          left = is.left;
          unmade = is.unmade;
          folder = at.now built (not_folder built is.folder) ∙ is.folder;
          whole = λ k default within. copy_at _ (All-take IsLinkApart (length all - job.left) all apart k default within)
              (is.whole k default within);
          hand = All-weaker (HasFront d built job.copied) (HasFront later built job.copied) front_at (begun_files job all) is.hand;
          absent = All-weaker (IsAbsent d built) (IsAbsent later built)
              (λ file free. at.now (path_in built file.name) (not_inside file) ∙ free) (absent_files job all) is.absent;
          only = λ file is_file there. is.only file is_file (ap is_some
              (sym (at.now (path_in built file) (outside built (spelled file) (not_built dir job.dir named)))) ∙ there);
        }

      builds_at : (job : Option Job) (pin : Pin) → ((of : Job) → All (IsLinkApart of) pin.files) → BuildsJob d dir job pin
          → BuildsJob later dir job pin
      builds_at None pin apart is = tt
      builds_at (Some job) pin apart is = job_at job pin.files (apart job) is

      -- where the file has no other name
      pub jobs_at : IsAlone d (path_in dir name) → (kept : List KeptPin) (s : model.State) → JobsBuild d dir kept s
          → JobsBuild later dir kept s
      jobs_at alone kept s is = record {
        apart = is.apart;
        each = pins_fit (λ (k : KeptPin) (pin : Pin). BuildsJob d dir k.job pin)
            (λ (k : KeptPin) (pin : Pin). BuildsJob later dir k.job pin)
            (λ k pin builds. builds_at k.job pin (λ job n default within. alone_apart job alone _) builds) kept s.pins is.each;
      }

      -- where it is none of a pin's files
      abbrev IsNoFileOf : KeptPin → Pin → Type 0
      IsNoFileOf kept pin = All (λ (file : PinnedFile). path_in dir file.name ≢ path) pin.files

      pub jobs_beside : (kept : List KeptPin) (s : model.State) → ArePins IsNoFileOf kept s.pins → JobsBuild d dir kept s
          → JobsBuild later dir kept s
      jobs_beside kept s none is = record {
        apart = is.apart;
        each = pins_fit (λ (k : KeptPin) (pin : Pin). IsNoFileOf k pin × BuildsJob d dir k.job pin)
            (λ (k : KeptPin) (pin : Pin). BuildsJob later dir k.job pin)
            (λ k pin both. builds_at k.job pin (λ job n default within has link. both.0 n default within) both.1) kept s.pins
            (pins_both IsNoFileOf (λ (k : KeptPin) (pin : Pin). BuildsJob d dir k.job pin) kept s.pins none is.each);
      }
