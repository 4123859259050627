-- While one file of the store's folder is written, all else that a good store has on its disk stays.
use Rattle.std.specs.Prelude.{◌≡◌, ◌≢◌, ℕ, is_some, List, All, Option, Some}
use Rattle.std.proofs.Common.{⊎_elim, inl, inr, refl, sym, ap, subst, ◌∙◌}
use Rattle.std.proofs.lemmas.List.Elements.{All-nil, All-weaker}
use Rattle.std.specs.FinMap as finmap
use Rattle.lsm_names.specs.FileNames.{IsFileName}
use Rattle.lsm_names.specs.declared.file_names.FileName.{FileName}
use Rattle.lsm_names.specs.declared.file_names.FileName.TheVariants.{Log, Table, Manifest, Current}
use Rattle.lsm_disk.specs.Names.{Names, id_of}
use Rattle.lsm_disk.specs.State as disk
use Rattle.lsm_disk.specs.State.{Story, Change, Created, Named, Appended, Synced, Names_synced, Idle, after, state_of, file_at, names_now}
use Rattle.lsm_disk.specs.Images.{Tree, IsImage}
use Rattle.lsm_disk.specs.Kept.{InFile, OpSpares}
use Rattle.lsm_disk.specs.Goes.{Went}
use Rattle.lsm_disk.specs.Dest.{path_in}
use Rattle.lsm_disk.proofs.Named.{file_spares_name}
use Rattle.lsm_disk.proofs.Runs.{went_kept}
use Rattle.lsm_model.specs.declared.states.State.{State}
use Rattle.lsm_model.specs.declared.states.Pin.{Pin}
use Rattle.lsm_refine.specs.Kept.{Kept}
use Rattle.lsm_refine.specs.Parts.{LogPart, Parts, first_logged}
use Rattle.lsm_refine.specs.Sane.{IsAlone, MayStand, IsNeeded, AreKnown, IsOlder, Sane, appended_to}
use Rattle.lsm_refine.specs.Pins.{AreClearable, PinFiles, JobsBuild}
use Rattle.lsm_refine.specs.Folders.{AppendsInside}
use Rattle.lsm_refine.specs.Beside.{WritesAt, IsLone, MayBeWritten, SaneBeside, Beside}
use Rattle.lsm_refine.proofs.ChangeLemmas.{changes_none, changes_both, names_synced_at, file_written_at}
use Rattle.lsm_refine.proofs.LastLogLemmas.{last_is, older_are}
use Rattle.lsm_refine.proofs.OutsideLemmas.{change_inside, inside_both}
use Rattle.lsm_refine.proofs.PartsLemmas.{readable}
use Rattle.lsm_refine.proofs.PinnedLemmas.{files_stay}
use Rattle.lsm_refine.proofs.OtherFileLemmas.{current_at, edits_at, tables_at, wal_at, synced_at, given_at, files_at, clear_at, restored_at, jobs_at}

-- ---- one change

module _ (dir : List ℕ) (name : FileName) where
  pub writes_none : (d : disk.State) → WritesAt dir name d d
  writes_none d = record {
    at = changes_none (path_in dir name) d;
    names = refl;
    quiet = λ other is. is;
    pinned = λ files are. are;
    inside = change_inside dir d Idle (record { names = λ folder ok other. tt; files = λ folder file ok other is. tt }) tt;
  }

  pub writes_both : (d mid later : disk.State) → WritesAt dir name d mid → WritesAt dir name mid later → WritesAt dir name d later
  writes_both d mid later first second = record {
    at = changes_both (path_in dir name) d mid later first.at second.at;
    names = second.names ∙ first.names;
    quiet = λ other is. second.quiet other (first.quiet other is);
    pinned = λ files are. second.pinned files (first.pinned files are);
    inside = inside_both dir d mid later first.inside second.inside;
  }

  -- a sync of names
  pub names_write : (d : disk.State) → WritesAt dir name d (after d Names_synced)
  names_write d = record {
    at = names_synced_at (path_in dir name) d;
    names = refl;
    quiet = λ other is. All-nil (OpSpares other);
    pinned = λ files are. files_stay d dir Names_synced files (λ k default within. tt) are;
    inside = change_inside dir d Names_synced (record { names = λ folder ok other. tt; files = λ folder file ok other is. tt }) tt;
  }

  module _ (d : disk.State) (id : ℕ) (lone : IsLone d dir name id) where
    same_names : (c : Change) → InFile id c → names_now (after d c) ≡ names_now d
    same_names (Created path) kind = absurd kind
    same_names (Named op) kind = absurd kind
    same_names (Appended k more) kind = refl
    same_names (Synced k) kind = refl
    same_names Names_synced kind = absurd kind
    same_names Idle kind = refl

    same_quiet : (c : Change) → InFile id c → (other : List ℕ) → All (OpSpares other) d.pending → All (OpSpares other) (after d c).pending
    same_quiet (Created path) kind other is = absurd kind
    same_quiet (Named op) kind other is = absurd kind
    same_quiet (Appended k more) kind other is = is
    same_quiet (Synced k) kind other is = is
    same_quiet Names_synced kind other is = absurd kind
    same_quiet Idle kind other is = is

    appends : (c : Change) → InFile id c → AppendsInside d dir c
    appends (Created path) kind = absurd kind
    appends (Named op) kind = absurd kind
    appends (Appended k more) kind = (name, lone.fits, lone.there ∙ ap Some (sym kind), lone.alone)
    appends (Synced k) kind = tt
    appends Names_synced kind = absurd kind
    appends Idle kind = tt

    -- an append to the file, or its sync
    pub file_writes : (c : Change) → InFile id c → WritesAt dir name d (after d c)
    file_writes c kind = record {
      at = file_written_at (path_in dir name) d id lone.there lone.alone c kind;
      names = same_names c kind;
      quiet = same_quiet c kind;
      pinned = λ files are. files_stay d dir c files (λ k default within. file_spares_name _ id c kind) are;
      inside = change_inside dir d c (record {
        names = λ folder ok other. file_spares_name folder id c kind;
        files = λ folder file ok other is. file_spares_name (path_in folder file) id c kind;
      }) (appends c kind);
    }

  -- the file has no other name still
  pub lone_stays : (d later : disk.State) (id : ℕ) → IsLone d dir name id → WritesAt dir name d later → IsLone later dir name id
  lone_stays d later id lone writes = record {
    fits = lone.fits;
    there = ap (λ (names : Names). id_of (finmap.get names (path_in dir name))) writes.names ∙ lone.there;
    alone = writes.at.alone (path_in dir name) lone.alone;
  }

  -- ---- a run of such changes

  -- what a run leaves is beside what stays, and so is each image on the way
  pub went_beside : (start : Story) (told : Option Story) (id : ℕ) (P R : disk.State → Tree → Type 0) (J : disk.State → Type 0)
      → IsLone (state_of start) dir name id
      → ((x : disk.State) (t : Tree) → WritesAt dir name (state_of start) x → IsImage x t → P x t → R x t) → Went start told (InFile id) P J
      → Went start told (InFile id) R (λ x. J x × (WritesAt dir name (state_of start) x × IsLone x dir name id))
  went_beside start told id P R J lone shows went =
      went_kept R (λ x. WritesAt dir name (state_of start) x × IsLone x dir name id)
      (λ x c kind is. let next = file_writes x id is.1 c kind in
      (writes_both (state_of start) x (after x c) is.0 next, lone_stays x (after x c) id is.1 next))
      (λ x t is i held. shows x t is.0 i held) J (writes_none (state_of start), lone) went

-- ---- what stays

-- what a store needs is another file than one that may be written
needs_another : (kept : Kept) (last : ℕ) (name other : FileName) → MayBeWritten kept last name → IsNeeded kept other
    → other ≢ Log last → other ≢ Manifest kept.manifest → other ≢ name
needs_another kept last name other may needed no_log no_manifest same = ⊎_elim
    (λ log. no_log (same ∙ log))
    (λ rest. ⊎_elim (λ manifest. no_manifest (same ∙ manifest)) (λ free. free (subst (IsNeeded kept) same needed)) rest)
    may

pub log_once : (m n : ℕ) → Log m ≡ Log n → m ≡ n
log_once m n same = cc

flip : {A : Type 0} (a b : A) → a ≢ b → b ≢ a
flip a b differs same = differs (sym same)

module _ (d : disk.State) (dir : List ℕ) (kept : Kept) (parts : Parts) (sane : Sane d dir kept parts) (name : FileName)
    (fits : IsFileName name) (may : MayBeWritten kept parts.last.number name) where
  abbrev last : ℕ
  last = parts.last.number

  older_others : All (λ (log : LogPart). IsFileName (Log log.number) × (Log log.number ≢ name)) parts.older
  older_others =
      All-weaker (IsOlder kept last) (λ (log : LogPart). IsFileName (Log log.number) × (Log log.number ≢ name))
      (λ log is. (
        is.0,
        needs_another kept last name (Log log.number) may is.1 (λ same. is.2 (log_once log.number last same))
            (λ same. cc),
      )) parts.older
      (older_are d dir kept parts (readable d dir kept parts sane).logs)

  last_fits : IsFileName (Log last)
  last_fits = (last_is d dir kept parts (readable d dir kept parts sane).logs).1

  module _ (later : disk.State) (writes : WritesAt dir name d later) where
    same_file : (path : List ℕ) → file_at later path ≡ file_at d path
    same_file path = ap (λ (names : Names). id_of (finmap.get names path)) writes.names

    only_still : (number : ℕ) → MayStand d dir kept number → MayStand later dir kept number
    only_still number may_stand = ⊎_elim (λ among. inl among) (λ free. inr (same_file (path_in dir (Log number)) ∙ free)) may_stand

    known_still : AreKnown later dir kept
    known_still = record {
      there = λ other among. let was = sane.known.there other among in (was.0, ap is_some (same_file (path_in dir other)) ∙ was.1);
      all = λ other is there. sane.known.all other is (ap (λ (names : Names). is_some (finmap.get names (path_in dir other)))
          (sym writes.names) ∙ there);
    }

    pub sane_beside : SaneBeside later dir kept parts name
    sane_beside = record {
      current = current_at dir name sane.current.named fits d later writes.at kept
          (needs_another kept last name Current may tt (λ same. cc) (λ same. cc)) sane.current;
      edits = λ other. edits_at dir name sane.current.named fits d later writes.at kept parts.edits sane.current.numbered
          (flip name (Manifest kept.manifest) other) sane.edits;
      tables = tables_at dir name sane.current.named fits d later writes.at kept parts.rows
          (λ number placed found. needs_another kept last name (Table number) may (ap is_some found) (λ same. cc) (λ same. cc)) sane.tables;
      logs = record {
        numbers = sane.logs.numbers;
        ascend = sane.logs.ascend;
        live = sane.logs.live;
        older = synced_at dir name sane.current.named fits d later writes.at (first_logged parts) parts.older older_others sane.logs.older;
        only = λ number least is. only_still number (sane.logs.only number least is);
        frozen = sane.logs.frozen;
      };
      last = λ other. wal_at dir name sane.current.named fits d later writes.at last _ _ last_fits
          (flip name (Log last) other) sane.logs.last;
      quiet = record { spares = λ other is held. writes.quiet (path_in dir other) (sane.quiet.spares other is held) };
      known = known_still;
      files = files_at dir name sane.current.named fits d later writes.at sane.files;
      lawful = sane.lawful;
      given = given_at dir name sane.current.named fits d later writes.at kept.unfinished sane.written.tables;
      alone = All-weaker (IsAlone d) (IsAlone later) writes.at.alone (appended_to dir kept last) sane.written.alone;
      restored = restored_at dir name sane.current.named fits d later writes.at sane.files kept.begun kept.hand sane.restored;
    }

    pub all_beside : (s : State) (id : ℕ) → IsLone d dir name id → All (λ (pin : Pin). PinFiles d dir pin.files) s.pins
        → JobsBuild d dir kept.pins s
        → AreClearable d → Beside d dir kept parts s name later
    all_beside s id lone pinned jobs clear = record {
      sane = sane_beside;
      pinned = All-weaker (λ (pin : Pin). PinFiles d dir pin.files) (λ (pin : Pin). PinFiles later dir pin.files)
          (λ pin are. writes.pinned pin.files are) s.pins pinned;
      jobs = jobs_at dir name sane.current.named fits d later writes.at sane.files lone.alone kept.pins s jobs;
      clear = clear_at dir name sane.current.named fits d later writes.at sane.files clear;
      inside = writes.inside;
    }
