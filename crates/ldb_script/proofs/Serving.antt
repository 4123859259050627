-- What a command's answer leaves.
use Rattle.std.specs.Prelude.{◌≡◌, ◌⊎◌, ◌==◌, if◌then◌else◌, ℕ, Bool, true, false, List, [], ◌++◌, length, Option, Some, None, Result, Ok, Err}
use Rattle.std.proofs.Common.{inl, inr, refl, sym, ap, subst, ◌∙◌, append-nil}
use Rattle.std.specs.FinMap as finite
use Rattle.lsm_bytes.specs.declared.no_memory.NoMemory.{NoMemory as Lacking}
use Rattle.lsm_disk.specs.State.{Story}
use Rattle.lsm_rows.specs.declared.operations.Op.{Op}
use Rattle.lsm_rows.specs.Limits.{Refused}
use Rattle.lsm_rows.specs.Replay.{Contents, replayed, sequence_after}
use Rattle.ldb_script.specs.Printed.{sequence_line, value_line, scan_text, state_line, ok_line, too_large_line, ids_full_line, Backup}
use Rattle.std.specs.Io.KnownBytes.{Appends}
use Rattle.std.proofs.KnownBytes.{Appends-nil}
use Rattle.ldb_script.specs.Plain.{Outcome, Plain, Answers, told, both, written, all_durable, first_refusal, named, with_actor, line_at, Standing, Free, Reads, Taken, Untold, standing_of, Shows, RestoresAs, Restores, backup_of, backed_up}
use Rattle.ldb_script.specs.Run.{Stream}
use Rattle.ldb_script.specs.Vaults.{Vault}
use Rattle.ldb_script.specs.Tools.{Tools, Origin, AreAt, tools}
use Rattle.ldb_script.proofs.Keeping.{SameRest, at_rest}
use Rattle.ldb_script.specs.declared.line.Line.TheVariants.{Blank, Ask}
use Rattle.ldb_script.specs.Stored.{Shown, Stands, Logs, log_of}
use Rattle.ldb_script.specs.Opening.{Writes, Syncs, IsBroken, made_durable}
use Rattle.ldb_script.specs.Doing.{StoreAnsweredOr, AnsweredOr, MadeOr, broken_end, StoreBreaks, Breaks, ServedOr, IsDone, DoneOr, with_named}
use Rattle.ldb_script.specs.declared.line.Command.{Command}
use Rattle.ldb_script.specs.declared.line.Command.TheVariants.{Write, Sync, Get, Scan, State, ShowFolder, CreateBackup, ListBackups, RestoreBackup}
use Rattle.ldb_script.specs.declared.ending.Ended.{Ended}
use Rattle.ldb_script.specs.declared.ending.Ended.TheVariants as ended
use Rattle.ldb_script.specs.declared.store.StoreError.{StoreError}
use Rattle.ldb_script.specs.declared.store.StoreError.TheVariants as store_errors
use Rattle.ldb_script.proofs.Standings.{folders_of}

-- a line that accepts nothing leaves the store where it stood
pub stands_told : (start : Option Story) (shown : Shown) (outcome : Outcome) (text : List ℕ) → Stands start shown outcome → Stands start shown (both outcome (told outcome.after text))
stands_told start shown outcome text was =
    let none : outcome.accepted ++ [] ≡ outcome.accepted = append-nil outcome.accepted in
    record {
      contents = was.contents;
      sequence = was.sequence;
      replays = was.replays ∙ ap (replayed finite.empty) (sym none);
      counted = was.counted ∙ ap (sequence_after 0) (sym none);
      batches = was.batches ∙ ap (λ (a : List (List Op)). length a) (sym none);
      len = was.len ∙ ap (λ (a : List (List Op)). length (log_of a)) (sym none);
      log = λ story tells. subst (λ (a : List (List Op)). Logs shown.disk.told shown.log a outcome.after.durable) (sym none) (was.log story tells);
      beside = was.beside;
      home = was.home;
      folders = was.folders;
    }

module _ (start : Option Story) (old new : Shown) (outcome : Outcome) (was : Stands start old outcome) where
  made_by : (command : Command) (text : List ℕ) (next : Outcome) (result : Result (List ℕ) Ended) → Answers outcome.after command next → text ≡ next.text → Stands start new (both outcome next)
      → (made : Result (List ℕ) Lacking) → (made ≡ Ok text) ⊎ ((none : Lacking) × (made ≡ Err none)) → MadeOr made result → StoreAnsweredOr start old new outcome command result
  made_by command text next result answers is stands made (inl ok) h =
      subst (StoreAnsweredOr start old new outcome command) (sym (subst (λ (m : Result (List ℕ) Lacking). MadeOr m result) ok h)) (record { next = next; answers = answers; is_text = is; stands = stands })
  made_by command text next result answers is stands made (inr none) h =
      subst (StoreAnsweredOr start old new outcome command) (sym (subst (λ (m : Result (List ℕ) Lacking). MadeOr m result) none.1 h)) tt

  -- a text that was made, if it is the one that is asked for
  pub made_or : (made : Result (List ℕ) Lacking) (text : List ℕ) → ((t : List ℕ) → made ≡ Ok t → t ≡ text) → (made ≡ Ok text) ⊎ ((none : Lacking) × (made ≡ Err none))
  made_or (Ok t) text is = inl (ap Ok (is t refl))
  made_or (Err none) text is = inr (none, refl)

  pub write_answers : (durable : Bool) (batch : List Op) (last : ℕ) (made : Result (List ℕ) Lacking) (result : Result (List ℕ) Ended) → first_refusal [] batch ≡ None → Writes start old new outcome batch durable (Ok last)
      → ((t : List ℕ) → made ≡ Ok t → t ≡ sequence_line last) → MadeOr made result → StoreAnsweredOr start old new outcome (Write durable batch) result
  write_answers durable batch last made result fits writes is h =
      made_by (Write durable batch) (sequence_line last) (written outcome.after durable batch None) result
      (sym (ap (written outcome.after durable batch) fits)) (ap sequence_line writes.0) writes.1 made (made_or made (sequence_line last) is) h

  pub too_large_answers : (durable : Bool) (batch : List Op) (refused : Refused) (made : Result (List ℕ) Lacking) (result : Result (List ℕ) Ended) → new ≡ old → first_refusal [] batch ≡ Some refused
      → ((t : List ℕ) → made ≡ Ok t → t ≡ too_large_line refused) → MadeOr made result → StoreAnsweredOr start old new outcome (Write durable batch) result
  too_large_answers durable batch refused made result same is_refused is h =
      made_by (Write durable batch) (too_large_line refused) (told outcome.after (too_large_line refused)) result (sym (ap (written outcome.after durable batch) is_refused)) refl
      (subst (λ (s : Shown). Stands start s (both outcome (told outcome.after (too_large_line refused)))) (sym same) (stands_told start old outcome (too_large_line refused) was))
      made (made_or made (too_large_line refused) is) h

  pub sync_answers : (made : Result (List ℕ) Lacking) (result : Result (List ℕ) Ended) → Syncs start old new outcome (Ok tt) → ((t : List ℕ) → made ≡ Ok t → t ≡ ok_line) → MadeOr made result → StoreAnsweredOr start old new outcome Sync result
  sync_answers made result syncs is h =
      made_by Sync ok_line (told (all_durable outcome.after) ok_line) result refl refl (stands_told start new (made_durable outcome) ok_line syncs) made (made_or made ok_line is) h

  pub broken_answers : (command : Command) (error : StoreError) (e : Ended) → IsBroken start old new error → e ≡ broken_end error → StoreAnsweredOr start old new outcome command (Err e)
  broken_answers command store_errors.DiskFault e broken is = subst (StoreBreaks start old new) (sym is) broken
  broken_answers command (store_errors.Changed call path) e broken is = subst (StoreBreaks start old new) (sym is) broken
  broken_answers command store_errors.NoMemory e broken is = subst (StoreBreaks start old new) (sym is) tt

  pub get_answers : (key : List ℕ) (value : Option (List ℕ)) (made : Result (List ℕ) Lacking) (result : Result (List ℕ) Ended) → new ≡ old → value ≡ finite.get old.contents key
      → ((t : List ℕ) → made ≡ Ok t → t ≡ value_line value) → MadeOr made result → StoreAnsweredOr start old new outcome (Get key) result
  get_answers key value made result same is_value is h =
      let text : List ℕ = value_line (finite.get outcome.after.contents key) in
      let e : value_line value ≡ text = ap value_line (is_value ∙ ap (λ (m : Contents). finite.get m key) was.contents) in
      made_by (Get key) text (told outcome.after text) result refl refl
      (subst (λ (s : Shown). Stands start s (both outcome (told outcome.after text))) (sym same) (stands_told start old outcome text was))
      made (made_or made text (λ t ok. is t ok ∙ e)) h

  -- an answer that leaves all as it is
  told_answers : (command : Command) (text : List ℕ) (made : Result (List ℕ) Lacking) (result : Result (List ℕ) Ended) → new ≡ old → Answers outcome.after command (told outcome.after text)
      → ((t : List ℕ) → made ≡ Ok t → t ≡ text) → MadeOr made result → StoreAnsweredOr start old new outcome command result
  told_answers command text made result same answers is h =
      made_by command text (told outcome.after text) result answers refl
      (subst (λ (s : Shown). Stands start s (both outcome (told outcome.after text))) (sym same) (stands_told start old outcome text was)) made (made_or made text is) h

  pub scan_answers : (made : Result (List ℕ) Lacking) (result : Result (List ℕ) Ended) → new ≡ old → ((t : List ℕ) → made ≡ Ok t → t ≡ scan_text (finite.entries old.contents)) → MadeOr made result → StoreAnsweredOr start old new outcome Scan result
  scan_answers made result same is h =
      told_answers Scan (scan_text (finite.entries outcome.after.contents)) made result same refl (λ t ok. is t ok ∙ ap (λ (m : Contents). scan_text (finite.entries m)) was.contents) h

  pub state_answers : (made : Result (List ℕ) Lacking) (result : Result (List ℕ) Ended) → new ≡ old → ((t : List ℕ) → made ≡ Ok t → t ≡ state_line old.sequence (length (finite.entries old.contents))) → MadeOr made result
      → StoreAnsweredOr start old new outcome State result
  state_answers made result same is h =
      told_answers State (state_line outcome.after.sequence (length (finite.entries outcome.after.contents))) made result same refl
      (λ t ok. is t ok ∙ (λ i. state_line (was.sequence i) (length (finite.entries (was.contents i))))) h

-- ---- with the backups and the clock

-- a command of the store alone
abbrev pub IsOfStore : Command → Type 0
IsOfStore (Write durable batch) = Unit {0}
IsOfStore Sync = Unit {0}
IsOfStore (Get key) = Unit {0}
IsOfStore Scan = Unit {0}
IsOfStore State = Unit {0}
IsOfStore (ShowFolder name) = Unit {0}
IsOfStore command = ⊥

written_rest : (plain : Plain) (durable : Bool) (batch : List Op) (refused : Option Refused) → SameRest plain (written plain durable batch refused).after
written_rest plain durable batch None = record { backups = refl; given = refl; start = refl; times = refl }
written_rest plain durable batch (Some refused) = record { backups = refl; given = refl; start = refl; times = refl }

store_rest : (plain : Plain) (command : Command) (next : Outcome) → IsOfStore command → Answers plain command next → SameRest plain next.after
store_rest plain (Write durable batch) next of is = subst (λ (o : Outcome). SameRest plain o.after) (sym is) (written_rest plain durable batch (first_refusal [] batch))
store_rest plain Sync next of is = subst (λ (o : Outcome). SameRest plain o.after) (sym is) (record { backups = refl; given = refl; start = refl; times = refl })
store_rest plain (Get key) next of is = subst (λ (o : Outcome). SameRest plain o.after) (sym is) (record { backups = refl; given = refl; start = refl; times = refl })
store_rest plain Scan next of is = subst (λ (o : Outcome). SameRest plain o.after) (sym is) (record { backups = refl; given = refl; start = refl; times = refl })
store_rest plain State next of is = subst (λ (o : Outcome). SameRest plain o.after) (sym is) (record { backups = refl; given = refl; start = refl; times = refl })
store_rest plain (ShowFolder name) next of is = shown_rest (standing_of plain name) is where
  shown_rest : (standing : Standing) → Shows plain name standing next → SameRest plain next.after
  shown_rest Free h = subst (λ (o : Outcome). SameRest plain o.after) (sym h) (record { backups = refl; given = refl; start = refl; times = refl })
  shown_rest (Reads shown) h = subst (λ (o : Outcome). SameRest plain o.after) (sym h) (record { backups = refl; given = refl; start = refl; times = refl })
  shown_rest Taken h = subst (λ (o : Outcome). SameRest plain o.after) (sym h.1) (record { backups = refl; given = refl; start = refl; times = refl })
  shown_rest Untold h = subst (λ (o : Outcome). SameRest plain o.after) (sym h.1) (record { backups = refl; given = refl; start = refl; times = refl })
store_rest plain CreateBackup next of is = absurd of
store_rest plain ListBackups next of is = absurd of
store_rest plain (RestoreBackup id name) next of is = absurd of

-- the answer to a command of the store alone
module _ (origin : Origin) (old new : Shown) (vault : Vault) (clock : Stream) (outcome : Outcome) (command : Command) (was : AreAt origin (tools old vault clock) outcome) where
  pub lifted : (result : Result (List ℕ) Ended) → IsOfStore command → StoreAnsweredOr origin.store old new outcome command result → AnsweredOr origin (tools old vault clock) (tools new vault clock) outcome command result
  lifted (Ok text) of h = record {
    next = h.next;
    answers = h.answers;
    is_text = h.is_text;
    stands = at_rest origin (tools old vault clock) (tools new vault clock) outcome (both outcome h.next) refl refl (store_rest outcome.after command h.next of h.answers) was h.stands;
  }
  lifted (Err ended.DiskFault) of h = h
  lifted (Err (ended.Changed call path)) of h = h
  lifted (Err ended.NoMemory) of h = tt
  lifted (Err ended.BackupFault) of h = absurd h
  lifted (Err ended.ClockFault) of h = absurd h
  lifted (Err (ended.InTheWay why)) of h = absurd h
  lifted (Err (ended.BackupChanged call path)) of h = absurd h
  lifted (Err (ended.RestoreChanged call path)) of h = absurd h
  lifted (Err ended.Finished) of h = absurd h
  lifted (Err (ended.BadLine number)) of h = absurd h
  lifted (Err ended.ReadFault) of h = absurd h
  lifted (Err ended.WriteFault) of h = absurd h
  lifted (Err ended.Found) of h = absurd h

-- ---- printed

module _ (origin : Origin) (before after : Stream) (old new : Tools) (outcome : Outcome) (command : Command) where
  -- an answer that was not made prints nothing
  pub unserved : after ≡ before → (ended : Ended) → Breaks origin old new outcome command ended → ServedOr origin before after old new outcome command (Err ended)
  unserved silent ended.DiskFault h = (h, silent)
  unserved silent ended.BackupFault h = (h, silent)
  unserved silent ended.ClockFault h = (h, silent)
  unserved silent (ended.InTheWay why) h = (h, silent)
  unserved silent (ended.Changed call path) h = (h, silent)
  unserved silent (ended.BackupChanged call path) h = (h, silent)
  unserved silent (ended.RestoreChanged call path) h = (h, silent)
  unserved silent ended.NoMemory h = tt
  unserved silent ended.Finished h = absurd h
  unserved silent (ended.BadLine number) h = absurd h
  unserved silent ended.ReadFault h = absurd h
  unserved silent ended.WriteFault h = absurd h
  unserved silent ended.Found h = absurd h

written_actors : (plain : Plain) (durable : Bool) (batch : List Op) (refused : Option Refused) → (written plain durable batch refused).after.actors ≡ plain.actors
written_actors plain durable batch None = refl
written_actors plain durable batch (Some refused) = refl

created_actors : (plain : Plain) (now : ℕ) (left : Option (List ℕ)) (full : Bool) → (if full then told (record plain { times = left }) ids_full_line else backed_up plain now left).after.actors ≡ plain.actors
created_actors plain now left true = refl
created_actors plain now left false = refl

-- a command names nobody
answers_actors : (plain : Plain) (command : Command) (next : Outcome) → Answers plain command next → next.after.actors ≡ plain.actors
answers_actors plain (Write durable batch) next is = ap (λ (o : Outcome). o.after.actors) is ∙ written_actors plain durable batch (first_refusal [] batch)
answers_actors plain Sync next is = ap (λ (o : Outcome). o.after.actors) is
answers_actors plain (Get key) next is = ap (λ (o : Outcome). o.after.actors) is
answers_actors plain Scan next is = ap (λ (o : Outcome). o.after.actors) is
answers_actors plain State next is = ap (λ (o : Outcome). o.after.actors) is
answers_actors plain (ShowFolder name) next is = shows_actors (standing_of plain name) is where
  shows_actors : (standing : Standing) → Shows plain name standing next → next.after.actors ≡ plain.actors
  shows_actors Free h = ap (λ (o : Outcome). o.after.actors) h
  shows_actors (Reads shown) h = ap (λ (o : Outcome). o.after.actors) h
  shows_actors Taken h = ap (λ (o : Outcome). o.after.actors) h.1
  shows_actors Untold h = ap (λ (o : Outcome). o.after.actors) h.1
answers_actors plain CreateBackup next is = ap (λ (o : Outcome). o.after.actors) is.is ∙ created_actors plain is.now is.left (plain.given == 4294967295)
answers_actors plain ListBackups next is = ap (λ (o : Outcome). o.after.actors) is
answers_actors plain (RestoreBackup id name) next is = restores_actors (backup_of plain.backups id) is where
  by_standing : (backup : Backup) (standing : Standing) → RestoresAs plain backup name standing next → next.after.actors ≡ plain.actors
  by_standing backup Free h = ap (λ (o : Outcome). o.after.actors) h
  by_standing backup (Reads shown) h = ap (λ (o : Outcome). o.after.actors) h
  by_standing backup Taken h = ap (λ (o : Outcome). o.after.actors) h
  by_standing backup Untold h = ap (λ (o : Outcome). o.after.actors) h.1

  restores_actors : (found : Option Backup) → Restores plain id name found next → next.after.actors ≡ plain.actors
  restores_actors None h = ap (λ (o : Outcome). o.after.actors) h
  restores_actors (Some backup) h = by_standing backup (standing_of plain name) h

-- where an actor was named
pub stands_named : (start : Option Story) (shown : Shown) (outcome : Outcome) (actor : List ℕ) → Stands start shown outcome → Stands start shown (with_named outcome actor)
stands_named start shown outcome actor was = record {
  contents = was.contents;
  sequence = was.sequence;
  replays = was.replays;
  counted = was.counted;
  batches = was.batches;
  len = was.len;
  log = was.log;
  beside = was.beside;
  home = was.home;
  folders = λ tells. folders_of start shown.disk.told shown.log outcome.after (named outcome.after actor) refl refl (was.folders tells);
}

pub at_named : (origin : Origin) (tools : Tools) (outcome : Outcome) (actor : List ℕ) → AreAt origin tools outcome → AreAt origin tools (with_named outcome actor)
at_named origin tools outcome actor was =
    at_rest origin tools tools outcome (with_named outcome actor) refl refl (record { backups = refl; given = refl; start = refl; times = refl }) was (stands_named origin.store tools.store outcome actor was.store)

-- and where it was not
pub stands_unnamed : (start : Option Story) (shown : Shown) (outcome : Outcome) (actor : List ℕ) → Stands start shown (with_named outcome actor) → Stands start shown outcome
stands_unnamed start shown outcome actor was = record {
  contents = was.contents;
  sequence = was.sequence;
  replays = was.replays;
  counted = was.counted;
  batches = was.batches;
  len = was.len;
  log = was.log;
  beside = was.beside;
  home = was.home;
  folders = λ tells. folders_of start shown.disk.told shown.log (named outcome.after actor) outcome.after refl refl (was.folders tells);
}

pub at_unnamed : (origin : Origin) (tools : Tools) (outcome : Outcome) (actor : List ℕ) → AreAt origin tools (with_named outcome actor) → AreAt origin tools outcome
at_unnamed origin tools outcome actor was =
    at_rest origin tools tools (with_named outcome actor) outcome refl refl (record { backups = refl; given = refl; start = refl; times = refl }) was (stands_unnamed origin.store tools.store outcome actor was.store)

pub at_told : (origin : Origin) (tools : Tools) (outcome : Outcome) (text : List ℕ) → AreAt origin tools outcome → AreAt origin tools (both outcome (told outcome.after text))
at_told origin tools outcome text was =
    at_rest origin tools tools outcome (both outcome (told outcome.after text)) refl refl (record { backups = refl; given = refl; start = refl; times = refl }) was (stands_told origin.store tools.store outcome text was.store)

module _ (origin : Origin) (before after : Stream) (old new : Tools) (actors : List (List ℕ)) (outcome : Outcome) (line : List ℕ) (number : ℕ) where
  -- a line that does nothing
  pub blank_done : before ≡ after → new ≡ old → Some Blank ≡ line_at outcome.after.actors line → actors ≡ outcome.after.actors → AreAt origin old outcome → IsDone origin before after new actors outcome line
  blank_done same kept is names was = record {
    next = told outcome.after [];
    does = record { line = Blank; is_line = sym is; prints = refl };
    took = subst (λ (s : Stream). Appends before.bytes s.bytes []) same (Appends-nil before.bytes);
    stands = subst (λ (t : Tools). AreAt origin t (both outcome (told outcome.after []))) (sym kept) (at_told origin old outcome [] was);
    named = names;
  }

  -- an actor's command
  pub asked_done : (actor : List ℕ) (command : Command) (result : Result Unit Ended) → Some (Ask actor command) ≡ line_at outcome.after.actors line → actors ≡ with_actor outcome.after.actors actor
      → ServedOr origin before after old new (with_named outcome actor) command result → DoneOr origin before after old new actors outcome line number result
  asked_done actor command (Ok done) is names served = record {
    next = served.next;
    does = record { line = Ask actor command; is_line = sym is; prints = served.answers };
    took = served.took;
    stands = served.stands;
    named = names ∙ sym (answers_actors (named outcome.after actor) command served.next served.answers);
  }
  asked_done actor command (Err ended.WriteFault) is names served = record {
    next = served.next;
    does = record { line = Ask actor command; is_line = sym is; prints = served.answers };
    spoke = served.spoke;
    rose = served.rose;
    stands = served.stands;
  }
  asked_done actor command (Err ended.DiskFault) is names served = record { actor = actor; command = command; asks = sym is; breaks = served.0; silent = served.1 }
  asked_done actor command (Err ended.BackupFault) is names served = record { actor = actor; command = command; asks = sym is; breaks = served.0; silent = served.1 }
  asked_done actor command (Err ended.ClockFault) is names served = record { actor = actor; command = command; asks = sym is; breaks = served.0; silent = served.1 }
  asked_done actor command (Err (ended.InTheWay why)) is names served = record { actor = actor; command = command; asks = sym is; breaks = served.0; silent = served.1 }
  asked_done actor command (Err (ended.Changed call path)) is names served = record { actor = actor; command = command; asks = sym is; breaks = served.0; silent = served.1 }
  asked_done actor command (Err (ended.BackupChanged call path)) is names served = record { actor = actor; command = command; asks = sym is; breaks = served.0; silent = served.1 }
  asked_done actor command (Err (ended.RestoreChanged call path)) is names served = record { actor = actor; command = command; asks = sym is; breaks = served.0; silent = served.1 }
  asked_done actor command (Err ended.NoMemory) is names served = tt
  asked_done actor command (Err ended.Finished) is names served = absurd served
  asked_done actor command (Err (ended.BadLine n)) is names served = absurd served
  asked_done actor command (Err ended.ReadFault) is names served = absurd served
  asked_done actor command (Err ended.Found) is names served = absurd served
