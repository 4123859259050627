-- A run from its first line to its last one.
use Rattle.std.specs.Prelude.{◌≡◌, ℕ, ◌+◌, ◌≤◌, ◌⊎◌, List, [], ◌∷◌, ◌++◌, length, Option, Some, None, is_some, IsSome, IsTrue, ◌&&◌, true, codes}
use Rattle.std.proofs.Common.{inl, inr, refl, sym, ap, subst, ◌∙◌, arith}
use Rattle.std.specs.Io.KnownBytes.{Appends, Consumes}
use Rattle.std.proofs.KnownBytes.{Appends-nil, Appends-trans, Consumes-nil, Consumes-kept}
use Rattle.std.proofs.lemmas.List.Elements.{All-nil}
use Rattle.lsm_io.specs.Causes.{Rose}
use Rattle.lsm_disk.specs.State.{Seen, Story}
use Rattle.ldb_script.specs.Input.{IsInside}
use Rattle.bk_engine.specs.declared.errors.EngineError.{EngineError}
use Rattle.bk_engine.specs.declared.errors.EngineError.TheVariants as engine
use Rattle.ldb_script.specs.Plain.{Start, Plain, Outcome, told, empty, both}
use Rattle.ldb_script.specs.Printed.{with_newline, bad_line}
use Rattle.ldb_script.specs.Stored.{Shown, Stands, Logs, KeepsManifestAndCurrent, log_path}
use Rattle.ldb_script.specs.Folders.{RestoredRead, TellsTaken}
use Rattle.ldb_script.specs.Vaults.{Vault, EngineKeeps, Backs, BackupsHeld}
use Rattle.bk_engine.specs.Shown.{Shown as EngineShown}
use Rattle.ldb_script.specs.Tools.{Tools, Origin, AreAt, ByLine, tools}
use Rattle.ldb_script.specs.declared.line.Command.{Command}
use Rattle.ldb_script.specs.declared.line.Command.TheVariants.{CreateBackup, RestoreBackup}
use Rattle.ldb_script.specs.Opening.{SeenStay, IsFree, IsOpened, IsUnopened, made_durable}
use Rattle.ldb_script.specs.Run.{Stream, Met, now, met, first_met, start_of, taken_in, Reached, Says, SaysWay, Finished, StoppedAt, ReadFailed, WriteFailed, ClockFailed, IsFound, IsTaken, IsAsked, IsAskedRestore, IsBlocked, RefusedBy, CountsStay, is_faultless, IsRun}
use Rattle.ldb_script.specs.Doing.{Underway, Ran, Closed, Spoke, SpokeWay, IsWay, IsAtWay, EndsWith, BehindIs, unopened_end}
use Rattle.ldb_script.specs.declared.ending.Ended.{Ended}
use Rattle.ldb_script.specs.declared.ending.Ended.TheVariants as ended
use Rattle.ldb_script.specs.declared.opening.OpenError.{OpenError}
use Rattle.ldb_script.specs.declared.opening.OpenError.TheVariants as open_errors
use Rattle.ldb_script.proofs.Logs.{keeps}
use Rattle.ldb_script.proofs.Besides.{files_kept}
use Rattle.ldb_script.proofs.Remaining.{restored_read, backups_held, read_undurable, held_undurable}
use Rattle.ldb_script.proofs.Turning.{joined_none, output_none, reached, fails, ends_behind}
use Rattle.lsm_frame.proofs.Going.{rose_later}

-- before the first line
pub begun : (origin : Origin) (source sink : Stream) (at : Tools) (actors : List (List ℕ)) → AreAt origin at (told (empty origin.start) []) → actors ≡ []
    → Underway origin (first_met source sink at.store.disk at.backups.disk at.clock) at actors [] (told (empty origin.start) [])
begun origin source sink at actors stood nobody = record {
  reached = record {
    read = subst (λ (j : List ℕ). Consumes source.bytes source.bytes (j ++ [])) (sym joined_none) (Consumes-nil source.bytes);
    inside = All-nil IsInside;
    few = omega arith;
    output = output_none origin.start;
  };
  written = Appends-nil sink.bytes;
  stands = stood;
  named = nobody;
  counts = record { source = omega arith; sink = omega arith; faults = omega arith; refusals = omega arith; backup_faults = omega arith; backup_refusals = omega arith; clock = omega arith };
  disk = refl;
  backups = refl;
  clock = refl;
}

-- behind the last line that a script may have
module _ (origin : Origin) (first : Met) (source source' sink : Stream) (at : Tools) (actors : List (List ℕ)) (done : List (List ℕ)) (outcome : Outcome)
    (under : Underway origin (now first source sink at.store.disk at.backups.disk at.clock) at actors done outcome) (full : length done ≡ 10000000) (later : source.faults ≤ source'.faults) where
  stay : ByLine at at
  stay = record {
    store = record { counts = record { faults = omega arith; refusals = omega arith }; log = refl; sequence = omega arith; len = omega arith };
    backups = record { faults = omega arith; refusals = omega arith };
    clock = omega arith;
  }

  pub over : (e : Ended) → BehindIs source.bytes source'.bytes e → (e ≡ ended.ReadFault → Rose source.faults source'.faults) → Ran origin (now first source' sink at.store.disk at.backups.disk at.clock) at e
  over ended.Finished h rose =
      ends_behind origin first source source' sink sink at at actors actors done outcome (length done + 1) under refl later (omega arith) stay (record { bytes = h.0; at_end = h.1 }) refl refl
  over (ended.BadLine number) h rose = record {
    done = done;
    part = h.1.0 ∷ [];
    outcome = outcome;
    reached = reached origin first source source' sink sink at at actors actors done outcome (length done + 1) under refl later (omega arith) stay (h.1.0 ∷ []) h.1.1;
    bad = inr (inr (record { full = full; some = omega arith }));
    is_number = h.0 ∙ omega (arith, full);
    written = under.written;
    stands = under.stands;
  }
  over ended.ReadFault h rose =
      fails origin first source source' sink sink at at actors actors done outcome (length done + 1) under refl later (omega arith) stay []
      (record { bytes = Consumes-kept source.bytes source.bytes source'.bytes [] (Consumes-nil source.bytes) h; inside = All-nil (λ (b : ℕ). _); short = omega arith }) (rose refl) refl refl
  over ended.WriteFault h rose = absurd h
  over ended.DiskFault h rose = absurd h
  over ended.BackupFault h rose = absurd h
  over ended.ClockFault h rose = absurd h
  over ended.Found h rose = absurd h
  over (ended.InTheWay why) h rose = absurd h
  over (ended.BackupChanged call path) h rose = absurd h
  over (ended.RestoreChanged call path) h rose = absurd h
  over (ended.Changed call path) h rose = absurd h
  over ended.NoMemory h rose = absurd h

-- ---- the last line, and the status

says : (last_sink : Stream) (m : Met) (sink : Stream) (text last : List ℕ) → m.sink_after ≡ last_sink → m.sink_before.faults ≤ sink.faults → Appends m.sink_before.bytes sink.bytes text → Spoke sink last_sink last → Says m text last
says last_sink m sink text last same faults written spoke = record {
  front = spoke.front;
  rest = spoke.rest;
  parts = spoke.parts;
  took = subst (λ (s : Stream). Appends m.sink_before.bytes s.bytes (text ++ spoke.front)) (sym same) (Appends-trans m.sink_before.bytes sink.bytes last_sink.bytes text spoke.front written spoke.took);
  whole = elim spoke.whole [ inl all ↦ inl all | inr rose ↦ inr (subst (λ (s : Stream). Rose m.sink_before.faults s.faults) (sym same) (rose_later m.sink_before.faults sink.faults last_sink.faults faults rose)) ];
}

none_of : (o : Option Story) (story : Story) → o ≡ None → o ≡ Some story → ⊥
none_of o story none some = cc

untaken : (folder : List ℕ) (seen : Seen) → IsFree folder seen → IsTaken folder seen → ⊥
untaken folder seen free taken = none_stands _ (free taken.story taken.tells) taken.stands_there where
  none_stands : {A : Type 0} (o : Option A) → o ≡ None → IsSome o → ⊥
  none_stands None none some = cc
  none_stands (Some x) none some = cc

second_some : {A B : Type 0} (a : Option A) (b : Option B) → (is_some a && is_some b) ≡ true → (x : B) × (b ≡ Some x)
second_some None None both = absurd (cc)
second_some None (Some x) both = absurd (cc)
second_some (Some a) None both = absurd (cc)
second_some (Some a) (Some x) both = (x, refl)

first_some : {A B : Type 0} (a : Option A) (b : Option B) → (is_some a && is_some b) ≡ true → (x : A) × (a ≡ Some x)
first_some None b both = absurd (cc)
first_some (Some a) b both = (a, refl)

is_there : (disk : Option Story) (story : Story) → disk ≡ Some story → IsSome disk
is_there disk story is = subst (λ (o : Option Story). IsSome o) (sym is) refl

tells_taken : (disk : Option Story) (story : Story) → disk ≡ Some story → TellsTaken disk (taken_in disk)
tells_taken disk story tells = record { story = story; tells = tells; names = λ name. ap (λ (o : Option Story). taken_in o name) tells }

unopened_backs : (vault : Vault) (plain : Plain) → vault.engine ≡ None → plain.backups ≡ [] → plain.given ≡ 0 → Backs vault.disk.told vault plain
unfolding Backs
unopened_backs vault plain none backups given = subst (λ (e : Option EngineShown). EngineKeeps vault.disk.told vault.disk e plain) (sym none) (record { none = backups; given = given; same = refl })

-- a new store, and backups over which no engine is opened, stand where a run begins
pub starts : (folder : List ℕ) (before : Seen) (opened : Shown) (vault : Vault) (clock source source' sink last : Stream) (disk backups : Seen) (clock' : Stream) → IsOpened folder before opened → vault.engine ≡ None
    → AreAt (record { store = before.told; backups = vault.disk.told; start = start_of folder (met source source' sink last before disk vault.disk backups clock clock') }) (tools opened vault clock) (told (empty (start_of folder (met source source' sink last before disk vault.disk backups clock clock'))) [])
starts folder before opened vault clock source source' sink last disk backups clock' is none =
    let m : Met = met source source' sink last before disk vault.disk backups clock clock' in record {
      store = is.stands (start_of folder m) refl (λ tells. let told = first_some before.told vault.disk.told tells in tells_taken before.told told.0 told.1);
      backups = unopened_backs vault (empty (start_of folder m)) none refl refl;
      clock = refl;
      start = refl;
      told = λ tells. let told = second_some before.told vault.disk.told tells in is_there vault.disk.told told.0 told.1;
    }

-- The statuses, each with what it says. Only the one at hand needs a proof.
module _ (folder : List ℕ) (m : Met) (status : ℕ) (counted : CountsStay m) where
  as_finished : status ≡ 0 → (IsTaken folder m.disk_before → ⊥) → Finished folder m → IsRun folder m status
  as_finished is free finished = record {
    finished = λ _. finished;
    bad_line = λ e. absurd (omega (arith, is, e));
    read = λ e. absurd (omega (arith, is, e));
    write = λ e. absurd (omega (arith, is, e));
    disk = λ e. absurd (omega (arith, is, e));
    refused = λ e. absurd (omega (arith, is, e));
    clock = λ e. absurd (omega (arith, is, e));
    taken = λ t. absurd (free t);
    complete = inl (ap is_faultless is);
    counts = counted;
  }

  as_bad : status ≡ 2 → (IsTaken folder m.disk_before → ⊥) → StoppedAt folder m → IsRun folder m status
  as_bad is free stopped = record {
    finished = λ e. absurd (omega (arith, is, e));
    bad_line = λ _. stopped;
    read = λ e. absurd (omega (arith, is, e));
    write = λ e. absurd (omega (arith, is, e));
    disk = λ e. absurd (omega (arith, is, e));
    refused = λ e. absurd (omega (arith, is, e));
    clock = λ e. absurd (omega (arith, is, e));
    taken = λ t. absurd (free t);
    complete = inl (ap is_faultless is);
    counts = counted;
  }

  as_read : status ≡ 3 → (IsTaken folder m.disk_before → ⊥) → ReadFailed folder m → IsRun folder m status
  as_read is free failed = record {
    finished = λ e. absurd (omega (arith, is, e));
    bad_line = λ e. absurd (omega (arith, is, e));
    read = λ _. failed;
    write = λ e. absurd (omega (arith, is, e));
    disk = λ e. absurd (omega (arith, is, e));
    refused = λ e. absurd (omega (arith, is, e));
    clock = λ e. absurd (omega (arith, is, e));
    taken = λ t. absurd (free t);
    complete = inr (inl is);
    counts = counted;
  }

  as_write : status ≡ 4 → (IsTaken folder m.disk_before → ⊥) → WriteFailed folder m → IsRun folder m status
  as_write is free failed = record {
    finished = λ e. absurd (omega (arith, is, e));
    bad_line = λ e. absurd (omega (arith, is, e));
    read = λ e. absurd (omega (arith, is, e));
    write = λ _. failed;
    disk = λ e. absurd (omega (arith, is, e));
    refused = λ e. absurd (omega (arith, is, e));
    clock = λ e. absurd (omega (arith, is, e));
    taken = λ t. absurd (free t);
    complete = inr (inr (inl is));
    counts = counted;
  }

  as_disk : status ≡ 5 → Rose m.disk_before.faults m.disk_after.faults ⊎ Rose m.backups_before.faults m.backups_after.faults → IsRun folder m status
  as_disk is rose = record {
    finished = λ e. absurd (omega (arith, is, e));
    bad_line = λ e. absurd (omega (arith, is, e));
    read = λ e. absurd (omega (arith, is, e));
    write = λ e. absurd (omega (arith, is, e));
    disk = λ _. rose;
    refused = λ e. absurd (omega (arith, is, e));
    clock = λ e. absurd (omega (arith, is, e));
    taken = λ t. inr (inl is);
    complete = inr (inr (inr (inl is)));
    counts = counted;
  }

  as_refused : status ≡ 6 → RefusedBy folder m → IsRun folder m status
  as_refused is refused = record {
    finished = λ e. absurd (omega (arith, is, e));
    bad_line = λ e. absurd (omega (arith, is, e));
    read = λ e. absurd (omega (arith, is, e));
    write = λ e. absurd (omega (arith, is, e));
    disk = λ e. absurd (omega (arith, is, e));
    refused = λ _. refused;
    clock = λ e. absurd (omega (arith, is, e));
    taken = λ t. inl is;
    complete = inl (ap is_faultless is);
    counts = counted;
  }

  as_clock : status ≡ 7 → (IsTaken folder m.disk_before → ⊥) → ClockFailed folder m → IsRun folder m status
  as_clock is free failed = record {
    finished = λ e. absurd (omega (arith, is, e));
    bad_line = λ e. absurd (omega (arith, is, e));
    read = λ e. absurd (omega (arith, is, e));
    write = λ e. absurd (omega (arith, is, e));
    disk = λ e. absurd (omega (arith, is, e));
    refused = λ e. absurd (omega (arith, is, e));
    clock = λ _. failed;
    taken = λ t. absurd (free t);
    complete = inr (inr (inr (inr is)));
    counts = counted;
  }

  as_no_memory : status ≡ 8 → IsRun folder m status
  as_no_memory is = record {
    finished = λ e. absurd (omega (arith, is, e));
    bad_line = λ e. absurd (omega (arith, is, e));
    read = λ e. absurd (omega (arith, is, e));
    write = λ e. absurd (omega (arith, is, e));
    disk = λ e. absurd (omega (arith, is, e));
    refused = λ e. absurd (omega (arith, is, e));
    clock = λ e. absurd (omega (arith, is, e));
    taken = λ t. inr (inr is);
    complete = inl (ap is_faultless is);
    counts = counted;
  }

-- a run over an opened store, and its last line
module _ (folder : List ℕ) (before : Seen) (opened shown : Shown) (vault vault' : Vault) (clock clock' source source' sink sink' last : Stream) (status : ℕ) (is_opened : IsOpened folder before opened) (opening : SeenStay before opened.disk)
    (log : shown.log ≡ opened.log) (counted : CountsStay (met source source' sink sink' opened.disk shown.disk vault.disk vault'.disk clock clock')) (later : sink'.faults ≤ last.faults) where
  abbrev ran : Met
  ran = met source source' sink sink' opened.disk shown.disk vault.disk vault'.disk clock clock'

  abbrev m : Met
  m = met source source' sink last before shown.disk vault.disk vault'.disk clock clock'

  abbrev origin : Origin
  origin = record { store = before.told; backups = vault.disk.told; start = start_of folder m }

  abbrev at : Tools
  at = tools shown vault' clock'

  all_counts : CountsStay m
  all_counts = record {
    source = counted.source;
    sink = omega (arith, counted.sink, later);
    faults = omega (arith, opening.faults, counted.faults);
    refusals = omega (arith, opening.refusals, counted.refusals);
    backup_faults = counted.backup_faults;
    backup_refusals = counted.backup_refusals;
    clock = counted.clock;
  }

  free : IsTaken folder before → ⊥
  free taken = untaken folder before is_opened.free taken

  reached_too : (done : List (List ℕ)) (part : List ℕ) (outcome : Outcome) → Reached origin.start ran done part outcome → Reached origin.start m done part outcome
  reached_too done part outcome r = record { read = r.read; inside = r.inside; few = r.few; output = r.output }

  asked_too : (outcome : Outcome) (command : Command) → IsAsked origin.start ran outcome command → IsAsked origin.start m outcome command
  asked_too outcome command a = record { done = a.done; part = a.part; reached = reached_too a.done a.part outcome a.reached; line = a.line; ends = a.ends; actor = a.actor; asks = a.asks }

  logged_in : (outcome : Outcome) → Stands before.told shown outcome → (story : Story) → before.told ≡ Some story → Logs shown.disk.told (log_path folder) outcome.accepted outcome.after.durable
  logged_in outcome stands story tells = subst (λ (p : List ℕ). Logs shown.disk.told p outcome.accepted outcome.after.durable) (log ∙ is_opened.log) (stands.log story tells)

  logged : (outcome : Outcome) → AreAt origin at outcome → (story : Story) → before.told ≡ Some story → Logs shown.disk.told (log_path folder) outcome.accepted outcome.after.durable
  logged outcome stands = logged_in outcome stands.store

  kept_in : (outcome : Outcome) → Stands before.told shown outcome → (story : Story) → before.told ≡ Some story → KeepsManifestAndCurrent shown.disk.told folder
  kept_in outcome stands story tells = files_kept shown.disk.told folder shown.log (log ∙ is_opened.log) (stands.beside story tells)

  kept_files : (outcome : Outcome) → AreAt origin at outcome → (story : Story) → before.told ≡ Some story → KeepsManifestAndCurrent shown.disk.told folder
  kept_files outcome stands = kept_in outcome stands.store

  read_folders : (outcome : Outcome) → AreAt origin at outcome → IsTrue (start_of folder m).tells → RestoredRead shown.disk.told outcome.after
  read_folders outcome stands tells = restored_read before.told shown.disk.told shown.log outcome.after (stands.store.folders (subst (λ (s : Start). IsTrue s.tells) (sym stands.start) tells))

  held_backups : (outcome : Outcome) → AreAt origin at outcome → IsTrue (start_of folder m).tells → BackupsHeld vault.disk.told vault'.disk.told outcome.after
  held_backups outcome stands tells =
      let told = second_some before.told vault.disk.told tells in
      backups_held vault.disk.told outcome.after told.0 told.1 (subst (λ (s : Start). IsTrue s.tells) (sym stands.start) tells) vault' stands.backups

  says_way : (text : List ℕ) (why : EngineError) → IsWay why → Appends sink.bytes sink'.bytes text → SpokeWay sink' last why → SaysWay m text why
  says_way text (engine.Found path) is written spoke = says last m sink' text (with_newline (codes "refused Found " ++ path)) refl counted.sink written spoke
  says_way text (engine.StrangeFolder path) is written spoke = says last m sink' text (with_newline (codes "refused StrangeFolder " ++ path)) refl counted.sink written spoke
  says_way text engine.DiskFault is written spoke = absurd is
  says_way text engine.SourceFault is written spoke = absurd is
  says_way text engine.DestFault is written spoke = absurd is
  says_way text (engine.Halted first) is written spoke = absurd is
  says_way text (engine.NoSuchBackup id) is written spoke = absurd is
  says_way text (engine.Unreadable id line why) is written spoke = absurd is
  says_way text engine.IdsFull is written spoke = absurd is
  says_way text (engine.Missing name) is written spoke = absurd is
  says_way text (engine.Changed call path) is written spoke = absurd is
  says_way text (engine.WrongSize name kept found) is written spoke = absurd is
  says_way text (engine.Damaged name kept found) is written spoke = absurd is
  says_way text (engine.DestinationExists dir) is written spoke = absurd is
  says_way text engine.NoMemory is written spoke = absurd is

  blocked : (why : EngineError) → IsAtWay origin ran at why → SpokeWay sink' last why → IsBlocked folder m
  blocked why h spoke = record {
    why = why;
    is = h.is;
    unchanged = h.unchanged;
    outcome = h.outcome;
    command = h.command;
    asked = asked_too h.outcome h.command h.asked;
    of_backups = h.of_backups;
    says = says_way h.outcome.text why h.way h.written spoke;
    log = logged_in h.outcome h.stands;
    files = kept_in h.outcome h.stands;
  }

  either_rose : Rose opened.disk.refusals shown.disk.refusals ⊎ Rose vault.disk.refusals vault'.disk.refusals → Rose before.refusals shown.disk.refusals ⊎ Rose vault.disk.refusals vault'.disk.refusals
  either_rose (inl rose) = inl (rose_later before.refusals opened.disk.refusals shown.disk.refusals opening.refusals rose)
  either_rose (inr rose) = inr rose

  pub ends : (e : Ended) → Closed origin ran at e → EndsWith folder sink' last e status → IsRun folder m status
  ends ended.Finished h w = as_finished folder m status all_counts w.0 free (record {
    bytes = h.bytes;
    read = h.read;
    at_end = h.at_end;
    few = h.few;
    outcome = h.outcome;
    output = h.output;
    written = subst (λ (s : Stream). Appends sink.bytes s.bytes h.outcome.text) (sym w.1) h.written;
    log = λ story tells.
        keeps shown.disk.told (log_path folder) h.outcome.accepted h.outcome.after.batches h.stands.store.batches
        (logged (made_durable h.outcome) h.stands story tells);
    files = kept_files (made_durable h.outcome) h.stands;
    folders = λ tells. read_undurable shown.disk.told h.outcome.after (read_folders (made_durable h.outcome) h.stands tells);
    backups = λ tells. held_undurable vault.disk.told vault'.disk.told h.outcome.after (held_backups (made_durable h.outcome) h.stands tells);
  })
  ends (ended.BadLine number) h (inl (is, spoke)) = as_bad folder m status all_counts is free (record {
    done = h.done;
    part = h.part;
    outcome = h.outcome;
    reached = reached_too h.done h.part h.outcome h.reached;
    bad = h.bad;
    says = says last m sink' h.outcome.text (bad_line (length h.done + 1)) refl counted.sink h.written (subst (λ (n : ℕ). Spoke sink' last (bad_line n)) h.is_number spoke);
    log = logged h.outcome h.stands;
    files = kept_files h.outcome h.stands;
    folders = read_folders h.outcome h.stands;
    backups = held_backups h.outcome h.stands;
  })
  ends (ended.BadLine number) h (inr none) = as_no_memory folder m status all_counts none
  ends ended.ReadFault h w = as_read folder m status all_counts w.0 free (record {
    rose = h.rose;
    done = h.done;
    part = h.part;
    outcome = h.outcome;
    reached = reached_too h.done h.part h.outcome h.reached;
    inside = h.inside;
    says = says last m sink' h.outcome.text (with_newline (codes "read fault")) refl counted.sink h.written w.1;
    log = logged h.outcome h.stands;
    files = kept_files h.outcome h.stands;
    folders = read_folders h.outcome h.stands;
    backups = held_backups h.outcome h.stands;
  })
  ends ended.WriteFault h w = as_write folder m status all_counts w.0 free (record {
    rose = omega (arith, h.rose, later);
    done = h.done;
    part = h.part;
    outcome = h.outcome;
    reached = reached_too h.done h.part h.outcome h.reached;
    line = h.line;
    ends = h.ends;
    next = h.next;
    does = h.does;
    front = h.front;
    rest = h.rest;
    parts = h.parts;
    took = subst (λ (s : Stream). Appends sink.bytes s.bytes (h.outcome.text ++ h.front)) (sym w.1) h.took;
    log = logged (both h.outcome h.next) h.stands;
    files = kept_files (both h.outcome h.next) h.stands;
    folders = read_folders (both h.outcome h.next) h.stands;
    backups = held_backups (both h.outcome h.next) h.stands;
  })
  ends ended.DiskFault h w = as_disk folder m status all_counts w.0 (inl (rose_later before.faults opened.disk.faults shown.disk.faults opening.faults h))
  ends ended.BackupFault h w = as_disk folder m status all_counts w.0 (inr h)
  ends ended.ClockFault h w = as_clock folder m status all_counts w.0 free (record {
    rose = h.rose;
    outcome = h.outcome;
    asked = asked_too h.outcome CreateBackup h.asked;
    says = says last m sink' h.outcome.text (with_newline (codes "clock fault")) refl counted.sink h.written w.1;
    log = logged h.outcome h.stands;
    files = kept_files h.outcome h.stands;
    folders = read_folders h.outcome h.stands;
    backups = held_backups h.outcome h.stands;
  })
  ends (ended.InTheWay why) h (inl (is, spoke)) =
      let stopped : IsBlocked folder m = blocked why h spoke in
      as_refused folder m status all_counts is (record { cause = inr (inl stopped); told = λ story tells. inr (inl stopped) })
  ends (ended.InTheWay why) h (inr none) = as_no_memory folder m status all_counts none
  ends (ended.Changed call path) h (inl is) = as_refused folder m status all_counts is (record {
    cause = inr (inr (inl (rose_later before.refusals opened.disk.refusals shown.disk.refusals opening.refusals h.0)));
    told = λ story tells. absurd (none_of before.told story h.1 tells);
  })
  ends (ended.Changed call path) h (inr none) = as_no_memory folder m status all_counts none
  ends (ended.BackupChanged call path) h (inl is) = as_refused folder m status all_counts is (record { cause = inr (inr (inr h)); told = λ story tells. inr (inr (inl h)) })
  ends (ended.BackupChanged call path) h (inr none) = as_no_memory folder m status all_counts none
  ends (ended.RestoreChanged call path) h (inl is) =
      let rose = either_rose h.rose in
      let asked : IsAskedRestore origin.start m h.outcome = record { id = h.asked.id; name = h.asked.name; asked = asked_too h.outcome (RestoreBackup h.asked.id h.asked.name) h.asked.asked } in
      as_refused folder m status all_counts is (record { cause = inr (inr rose); told = λ story tells. inr (inr (inr (record { outcome = h.outcome; asked = asked; rose = rose }))) })
  ends (ended.RestoreChanged call path) h (inr none) = as_no_memory folder m status all_counts none
  ends ended.NoMemory h is = as_no_memory folder m status all_counts is
  ends ended.Found h w = absurd h

-- a refused opening, and its last line
module _ (folder : List ℕ) (before after backups : Seen) (clock source sink last : Stream) (status : ℕ) (opening : SeenStay before after) (later : sink.faults ≤ last.faults) where
  abbrev met_refusal : Met
  met_refusal = met source source sink last before after backups backups clock clock

  few_counts : CountsStay met_refusal
  few_counts = record { source = omega arith; sink = later; faults = opening.faults; refusals = opening.refusals; backup_faults = omega arith; backup_refusals = omega arith; clock = omega arith }

  pub refuses : (why : OpenError) → IsUnopened folder before after why → EndsWith folder sink last (unopened_end why) status → IsRun folder met_refusal status
  refuses open_errors.DiskFault rose w = as_disk folder met_refusal status few_counts w.0 (inl rose)
  refuses open_errors.Found h (inl (is, spoke)) =
      let found : IsFound folder met_refusal = record {
        unread = refl;
        unchanged = h.1;
        untouched = refl;
        says = says last met_refusal sink [] (with_newline (codes "refused Found " ++ folder)) refl (omega arith) (Appends-nil sink.bytes) spoke;
      } in
      as_refused folder met_refusal status few_counts is (record {
        cause = inl found;
        told = λ story tells. inl (found, record { story = story; tells = tells; stands_there = h.0 story tells });
      })
  refuses open_errors.Found h (inr none) = as_no_memory folder met_refusal status few_counts none
  refuses (open_errors.Changed call path) h (inl is) = as_refused folder met_refusal status few_counts is (record {
    cause = inr (inr (inl h.1));
    told = λ story tells. absurd (none_of before.told story h.2 tells);
  })
  refuses (open_errors.Changed call path) h (inr none) = as_no_memory folder met_refusal status few_counts none
  refuses open_errors.NoMemory h is = as_no_memory folder met_refusal status few_counts is
