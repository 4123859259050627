-- How the commands of backups and folders are answered.
use Rattle.std.specs.Prelude.{◌≡◌, ◌≢◌, ◌⊎◌, ◌==◌, if◌then◌else◌, ℕ, ◌+◌, ◌<◌, Bool, true, false, IsTrue, IsSome, IfOk, List, [], ◌∷◌, ◌++◌, length, Option, Some, Result, Ok, Err}
use Rattle.std.proofs.Common.{inl, inr, refl, sym, ap, subst, ◌∙◌, arith, append-nil}
use Rattle.std.proofs.lemmas.Bool.Decides.{nat_tests}
use Rattle.std.specs.FinMap as finite
use Rattle.lsm_bytes.specs.declared.no_memory.NoMemory.{NoMemory as Lacking}
use Rattle.lsm_io.specs.Causes.{Rose}
use Rattle.lsm_io.specs.Draws.{Draws}
use Rattle.lsm_disk.specs.State.{Story}
use Rattle.lsm_folder.specs.Reading.{Shown as Read}
use Rattle.lsm_folder.specs.declared.refusals.Refusal.{Refusal}
use Rattle.lsm_folder.specs.declared.refusals.Refusal.TheVariants as refusal
use Rattle.lsm_rows.specs.declared.operations.Op.{Op}
use Rattle.lsm_rows.specs.Replay.{replayed, sequence_after}
use Rattle.lsm_recover.specs.Answers.{IsRefusal}
use Rattle.lsm_recover.specs.Causes.{HasRisenBy}
use Rattle.lsm_recover.specs.Shown.{shown}
use Rattle.lsm_recover.specs.declared.folder.Found.{Found}
use Rattle.lsm_recover.specs.declared.errors.FolderError.{FolderError}
use Rattle.lsm_recover.specs.declared.errors.FolderError.TheVariants as folder
use Rattle.bk_engine.specs.declared.errors.EngineError.{EngineError}
use Rattle.bk_engine.specs.declared.errors.EngineError.TheVariants as engine
use Rattle.ldb_script.specs.Printed.{Backup, backup_line, restored_line, exists_line, no_backup_line, ids_full_line, no_folder_line, folder_text}
use Rattle.ldb_script.specs.Plain.{Start, Plain, Outcome, Answers, Standing, Free, Reads, Taken, Untold, standing_of, Shows as Shows_as, told, both, created, backed_up, backup_of, restored, RestoresAs, Restores}
use Rattle.ldb_script.specs.Stored.{Shown, Stands, Logs, log_of, log_path}
use Rattle.ldb_script.specs.Vaults.{Vault, Backs}
use Rattle.ldb_script.specs.Backing.{ShutBy, ArePlain, UncreatedBy}
use Rattle.ldb_script.specs.Files.{HasFiles}
use Rattle.lsm_names.specs.declared.file_names.FileName.{FileName}
use Rattle.lsm_disk.specs.Viewed.{Viewed}
use Rattle.ldb_script.specs.Opening.{SeenStay, ByOneLine, IsUntouched, IsBroken, ReadsAs}
use Rattle.ldb_script.specs.Restoring.{PutsBeside, MayBeTaken, IsUntold, IsRestoredAs, RestoresOr}
use Rattle.ldb_script.specs.Run.{Stream, IsOfBackups}
use Rattle.ldb_script.specs.Tools.{Tools, Origin, AreAt, tools}
use Rattle.ldb_script.specs.Doing.{StoreAnsweredOr, AnsweredOr, MadeOr, Breaks, broken_end}
use Rattle.ldb_script.specs.Answering.{IsText, IsSomeText, shut_end, HasCreated, CreatedOr, UncreatedAs, UnrestoredAs, UnshownAs}
use Rattle.ldb_script.specs.declared.line.Command.{Command}
use Rattle.ldb_script.specs.declared.line.Command.TheVariants.{ShowFolder, CreateBackup, RestoreBackup}
use Rattle.ldb_script.specs.declared.ending.Ended.{Ended}
use Rattle.ldb_script.specs.declared.ending.Ended.TheVariants as ended
use Rattle.ldb_script.specs.declared.store.StoreError.{StoreError}
use Rattle.ldb_script.specs.declared.store.StoreError.TheVariants as store_errors
use Rattle.ldb_script.proofs.Keeping.{backs_keep}
use Rattle.ldb_script.proofs.Serving.{stands_told}
use Rattle.ldb_script.proofs.Standings.{folders_of}
use Rattle.lsm_frame.proofs.Going.{rose_later}

-- ---- made texts

-- a text that was made is this one
pub made_text : (text : List ℕ) (made : Result (List ℕ) Lacking) (result : Result (List ℕ) Ended) → IfOk made (λ t. t ≡ text) → MadeOr made result → IsText text result
made_text text (Ok t) result is h = inl (h ∙ ap Ok is)
made_text text (Err none) result is h = inr h

pub made_some : (made : Result (List ℕ) Lacking) (result : Result (List ℕ) Ended) → MadeOr made result → IsSomeText result
made_some (Ok t) result h = (t, inl h)
made_some (Err none) result h = ([], inr h)

-- ---- an engine that isn't opened

module _ (origin : Origin) (shown : Shown) (old new : Vault) (before after : Stream) (outcome : Outcome) (command : Command) (of_backups : IsOfBackups command) (stands : Stands origin.store shown outcome) where
  breaks_shut : (why : EngineError) → ShutBy origin.backups old new why → Breaks origin (tools shown old before) (tools shown new after) outcome command (shut_end why)
  breaks_shut engine.DiskFault h = h
  breaks_shut (engine.Changed call path) h = h
  breaks_shut (engine.Found path) h = record { of_backups = of_backups; way = tt; is = h.is; unchanged = h.unchanged; stands = stands }
  breaks_shut (engine.StrangeFolder path) h = record { of_backups = of_backups; way = tt; is = h.is; unchanged = h.unchanged; stands = stands }
  breaks_shut engine.NoMemory h = tt
  breaks_shut engine.SourceFault h = absurd h
  breaks_shut engine.DestFault h = absurd h
  breaks_shut (engine.Halted first) h = absurd h
  breaks_shut (engine.NoSuchBackup id) h = absurd h
  breaks_shut (engine.Unreadable id line why) h = absurd h
  breaks_shut engine.IdsFull h = absurd h
  breaks_shut (engine.Missing name) h = absurd h
  breaks_shut (engine.WrongSize name kept found) h = absurd h
  breaks_shut (engine.Damaged name kept found) h = absurd h
  breaks_shut (engine.DestinationExists dir) h = absurd h

  pub shut_breaks : (why : EngineError) (e : Ended) → e ≡ shut_end why → ShutBy origin.backups old new why → Breaks origin (tools shown old before) (tools shown new after) outcome command e
  shut_breaks why e is h = subst (Breaks origin (tools shown old before) (tools shown new after) outcome command) (sym is) (breaks_shut why h)

-- ---- a creation

-- a plain state that differs in its backups and its times alone
pub stands_besides : (start : Option Story) (shown : Shown) (outcome next : Outcome) → next.accepted ≡ [] → next.after.contents ≡ outcome.after.contents → next.after.sequence ≡ outcome.after.sequence → next.after.batches ≡ outcome.after.batches
    → next.after.durable ≡ outcome.after.durable → next.after.start ≡ outcome.after.start → next.after.restored ≡ outcome.after.restored → Stands start shown outcome → Stands start shown (both outcome next)
stands_besides start shown outcome next nothing contents sequence batches durable began beside was =
    let none : outcome.accepted ++ next.accepted ≡ outcome.accepted = ap (λ (a : List (List Op)). outcome.accepted ++ a) nothing ∙ append-nil outcome.accepted in
    record {
      contents = was.contents ∙ sym contents;
      sequence = was.sequence ∙ sym sequence;
      replays = contents ∙ was.replays ∙ ap (replayed finite.empty) (sym none);
      counted = sequence ∙ was.counted ∙ ap (sequence_after 0) (sym none);
      batches = batches ∙ was.batches ∙ ap (λ (a : List (List Op)). length a) (sym none);
      len = was.len ∙ ap (λ (a : List (List Op)). length (log_of a)) (sym none);
      log = λ story tells.
          subst (λ (n : ℕ). Logs shown.disk.told shown.log (outcome.accepted ++ next.accepted) n) (sym durable)
          (subst (λ (a : List (List Op)). Logs shown.disk.told shown.log a outcome.after.durable) (sym none) (was.log story tells));
      beside = was.beside;
      home = was.home ∙ ap (λ (s : Start). log_path s.home) (sym began);
      folders = λ tells. folders_of start shown.disk.told shown.log outcome.after next.after began beside (was.folders (subst (λ (s : Start). IsTrue s.tells) began tells));
    }

same_number : (m n : ℕ) → (m == n) ≡ true → m ≡ n
same_number m n is = grind (arith, nat_tests)

module _ (plain : Plain) (now : ℕ) (left : Option (List ℕ)) where
  created_made : plain.given ≢ 4294967295 → created plain now left ≡ backed_up plain now left
  created_made room = by_test (plain.given == 4294967295) refl where
    by_test : (b : Bool) → (plain.given == 4294967295) ≡ b → (if b then told (record plain { times = left }) ids_full_line else backed_up plain now left) ≡ backed_up plain now left
    by_test true is = absurd (room (same_number plain.given 4294967295 is))
    by_test false is = refl

  created_full : plain.given ≡ 4294967295 → created plain now left ≡ told (record plain { times = left }) ids_full_line
  created_full full = ap (λ (n : ℕ). if n == 4294967295 then told (record plain { times = left }) ids_full_line else backed_up plain now left) full

module _ (origin : Origin) (old new : Shown) (vault vault' : Vault) (before after : Stream) (outcome : Outcome) (now : ℕ) (left : Option (List ℕ)) where
  abbrev Or : Result (List ℕ) Ended → Type 0
  Or = CreatedOr origin (tools old vault before) (tools new vault' after) outcome now left

  of_text : (text : List ℕ) (result : Result (List ℕ) Ended) → IsText text result → HasCreated origin (tools new vault' after) outcome now left text → Or result
  of_text text result (inl is) h = subst Or (sym is) h
  of_text text result (inr is) h = subst Or (sym is) tt

  of_end : (e : Ended) (result : Result (List ℕ) Ended) → result ≡ Err e → Breaks origin (tools old vault before) (tools new vault' after) outcome CreateBackup e → Or result
  of_end e result is h = subst Or (sym is) h

  pub create_answers : (id last : ℕ) (result : Result (List ℕ) Ended) → outcome.after.given ≢ 4294967295 → IsText (backup_line id last) result → Stands origin.store new outcome → id ≡ outcome.after.given + 1 → last ≡ outcome.after.sequence
      → Backs origin.backups vault' (backed_up outcome.after now left).after → Or result
  create_answers id last result room is stands is_id is_last backs =
      let next : created outcome.after now left ≡ backed_up outcome.after now left = created_made outcome.after now left room in
      of_text (backup_line id last) result is (record {
        is_text = (λ i. backup_line (is_id i) (is_last i)) ∙ sym (ap (λ (o : Outcome). o.text) next);
        store = subst (λ (o : Outcome). Stands origin.store new (both outcome o)) (sym next) (stands_besides origin.store new outcome (backed_up outcome.after now left) refl refl refl refl refl refl refl stands);
        backups = subst (λ (o : Outcome). Backs origin.backups vault' o.after) (sym next) backs;
      })

  full_answers : (result : Result (List ℕ) Ended) → outcome.after.given ≡ 4294967295 → IsText ids_full_line result → Stands origin.store new outcome → Backs origin.backups vault' outcome.after → Or result
  full_answers result full is stands backs =
      let next = created_full outcome.after now left full in
      of_text ids_full_line result is (record {
        is_text = sym (ap (λ (o : Outcome). o.text) next);
        store = subst (λ (o : Outcome). Stands origin.store new (both outcome o)) (sym next) (stands_besides origin.store new outcome (told (record outcome.after { times = left }) ids_full_line) refl refl refl refl refl refl refl stands);
        backups = subst (λ (o : Outcome). Backs origin.backups vault' o.after) (sym next) (backs_keep origin.backups outcome.after (record outcome.after { times = left }) refl refl refl vault' backs);
      })

  -- a refused creation, whose views had so many faults
  module _ (later : ℕ) (faulty : 0 < later → Rose old.disk.faults new.disk.faults) (stands : Stands origin.store new outcome) (backs : Backs origin.backups vault outcome.after) where
    pub uncreated_answers : (why : EngineError) (result : Result (List ℕ) Ended) → UncreatedBy vault vault' outcome.after later why → UncreatedAs why result → Or result
    uncreated_answers engine.DiskFault result h is = of_end ended.BackupFault result is h
    uncreated_answers engine.SourceFault result h is = of_end ended.DiskFault result is (faulty h)
    uncreated_answers (engine.Changed call path) result h is = of_end (ended.BackupChanged call path) result is h
    uncreated_answers engine.IdsFull result h is = full_answers result h.0 is stands (subst (λ (v : Vault). Backs origin.backups v outcome.after) (sym h.1) backs)
    uncreated_answers engine.NoMemory result h is = of_end ended.NoMemory result is tt
    uncreated_answers (engine.Halted first) result h is = absurd h
    uncreated_answers engine.DestFault result h is = absurd h
    uncreated_answers (engine.Found path) result h is = absurd h
    uncreated_answers (engine.StrangeFolder path) result h is = absurd h
    uncreated_answers (engine.NoSuchBackup id) result h is = absurd h
    uncreated_answers (engine.Unreadable id line why) result h is = absurd h
    uncreated_answers (engine.Missing name) result h is = absurd h
    uncreated_answers (engine.WrongSize name kept found) result h is = absurd h
    uncreated_answers (engine.Damaged name kept found) result h is = absurd h
    uncreated_answers (engine.DestinationExists dir) result h is = absurd h

  -- the store's files can't be viewed
  pub unviewed_answers : (error : StoreError) (e : Ended) → e ≡ broken_end error → IsBroken origin.store old new error → Or (Err e)
  unviewed_answers store_errors.DiskFault e is h = of_end ended.DiskFault (Err e) (ap Err is) h
  unviewed_answers (store_errors.Changed call path) e is h = of_end (ended.Changed call path) (Err e) (ap Err is) h
  unviewed_answers store_errors.NoMemory e is h = of_end ended.NoMemory (Err e) (ap Err is) tt

created_times : (plain : Plain) (now : ℕ) (left : Option (List ℕ)) (full : Bool) → (if full then told (record plain { times = left }) ids_full_line else backed_up plain now left).after.times ≡ left
created_times plain now left true = refl
created_times plain now left false = refl

created_start : (plain : Plain) (now : ℕ) (left : Option (List ℕ)) (full : Bool) → (if full then told (record plain { times = left }) ids_full_line else backed_up plain now left).after.start ≡ plain.start
created_start plain now left true = refl
created_start plain now left false = refl

-- with the clock
module _ (origin : Origin) (old new : Shown) (vault vault' : Vault) (before after : Stream) (outcome : Outcome) (was : AreAt origin (tools old vault before) outcome) where
  pub clocked : (now : ℕ) → Draws before.bytes after.bytes now → (result : Result (List ℕ) Ended) → CreatedOr origin (tools old vault before) (tools new vault' after) outcome now after.bytes result
      → AnsweredOr origin (tools old vault before) (tools new vault' after) outcome CreateBackup result
  clocked now drawn (Ok text) h = record {
    next = created outcome.after now after.bytes;
    answers = record { now = now; left = after.bytes; drawn = subst (λ (t : Option (List ℕ)). Draws t after.bytes now) was.clock drawn; is = refl };
    is_text = h.is_text;
    stands = record {
      store = h.store;
      backups = h.backups;
      clock = sym (created_times outcome.after now after.bytes (outcome.after.given == 4294967295));
      start = created_start outcome.after now after.bytes (outcome.after.given == 4294967295) ∙ was.start;
      told = was.told;
    };
  }
  clocked now drawn (Err e) h = h

-- the clock failed
pub unclocked : (origin : Origin) (shown : Shown) (vault : Vault) (before after : Stream) (outcome : Outcome) → AreAt origin (tools shown vault before) outcome → after.bytes ≡ before.bytes → Rose before.faults after.faults
    → AnsweredOr origin (tools shown vault before) (tools shown vault after) outcome CreateBackup (Err ended.ClockFault)
unclocked origin shown vault before after outcome was kept rose = record {
  rose = rose;
  is = refl;
  stands = record { store = was.store; backups = was.backups; clock = kept ∙ was.clock; start = was.start; told = was.told };
}

-- ---- an answer that leaves the plain state as it is

module _ (origin : Origin) (old new : Shown) (vault vault' : Vault) (clock : Stream) (outcome : Outcome) (command : Command) (was : AreAt origin (tools old vault clock) outcome)
    (stands : Stands origin.store new outcome) (backs : Backs origin.backups vault' outcome.after) where
  abbrev pub Answered : Result (List ℕ) Ended → Type 0
  Answered = AnsweredOr origin (tools old vault clock) (tools new vault' clock) outcome command

  pub told_same : (text : List ℕ) (result : Result (List ℕ) Ended) → IsText text result → Answers outcome.after command (told outcome.after text) → Answered result
  told_same text result (inl is) answers = subst Answered (sym is) (record {
    next = told outcome.after text;
    answers = answers;
    is_text = refl;
    stands = record {
      store = stands_told origin.store new outcome text stands;
      backups = backs_keep origin.backups outcome.after (told outcome.after text).after refl refl refl vault' backs;
      clock = was.clock;
      start = was.start;
      told = was.told;
    };
  })
  told_same text result (inr is) answers = subst Answered (sym is) tt

  pub told_some : (result : Result (List ℕ) Ended) → IsSomeText result → ((text : List ℕ) → Answers outcome.after command (told outcome.after text)) → Answered result
  told_some result some answers = told_same some.0 result some.1 (answers some.0)

-- ---- a restore

backup_has_id : (backups : List Backup) (id : ℕ) (backup : Backup) → backup_of backups id ≡ Some backup → backup.id ≡ id
backup_has_id [] id backup is = absurd (cc)
backup_has_id (b ∷ backups) id backup is = by_test (b.id == id) refl (backup_has_id backups id backup) is where
  by_test : (t : Bool) → (b.id == id) ≡ t → (backup_of backups id ≡ Some backup → backup.id ≡ id) → (if t then Some b else backup_of backups id) ≡ Some backup → backup.id ≡ id
  by_test true same rest found = let e : b ≡ backup = cc in ap (λ (x : Backup). x.id) (sym e) ∙ same_number b.id id same
  by_test false same rest found = rest found

module _ (origin : Origin) (old new : Shown) (vault vault' : Vault) (clock : Stream) (outcome : Outcome) (id : ℕ) (name : List ℕ) (was : AreAt origin (tools old vault clock) outcome) (backs : Backs origin.backups vault' outcome.after) where
  abbrev pub RestoreAnswered : Result (List ℕ) Ended → Type 0
  RestoreAnswered = AnsweredOr origin (tools old vault clock) (tools new vault' clock) outcome (RestoreBackup id name)

  restores : (backup : Backup) (next : Outcome) → backup_of outcome.after.backups id ≡ Some backup → RestoresAs outcome.after backup name (standing_of outcome.after name) next → Answers outcome.after (RestoreBackup id name) next
  restores backup next listed h = subst (λ (o : Option Backup). Restores outcome.after id name o next) (sym listed) h

  -- it is restored
  put_beside : (backup : Backup) → backup_of outcome.after.backups id ≡ Some backup → (standing : Standing) → standing_of outcome.after name ≡ standing → PutsBeside origin.store new outcome backup name standing
      → (result : Result (List ℕ) Ended) → IsText (restored_line id name) result → RestoreAnswered result
  put_beside backup listed Free is stands result (inl ok) = subst RestoreAnswered (sym ok) (record {
    next = restored outcome.after backup name;
    answers = restores backup (restored outcome.after backup name) listed (subst (λ (s : Standing). RestoresAs outcome.after backup name s (restored outcome.after backup name)) (sym is) refl);
    is_text = ap (λ (n : ℕ). restored_line n name) (sym (backup_has_id outcome.after.backups id backup listed));
    stands = record {
      store = stands;
      backups = backs_keep origin.backups outcome.after (restored outcome.after backup name).after refl refl refl vault' backs;
      clock = was.clock;
      start = was.start;
      told = was.told;
    };
  })
  put_beside backup listed Free is stands result (inr none) = subst RestoreAnswered (sym none) tt
  put_beside backup listed (Reads shown) is stands result text = absurd stands
  put_beside backup listed Taken is stands result text = absurd stands
  put_beside backup listed Untold is stands result text =
      told_same origin old new vault vault' clock outcome (RestoreBackup id name) was stands backs (restored_line id name) result text
      (restores backup (told outcome.after (restored_line id name)) listed
      (subst (λ (s : Standing). RestoresAs outcome.after backup name s (told outcome.after (restored_line id name))) (sym is) (restored_line id name, refl)))

  pub restored_answers : (sequence : ℕ) (result : Result (List ℕ) Ended) → IsRestoredAs origin.store new outcome id name sequence → IsText (restored_line id name) result → RestoreAnswered result
  restored_answers sequence result h text = put_beside h.backup h.listed (standing_of outcome.after name) refl h.beside result text

  exists_as : (backup : Backup) (standing : Standing) → MayBeTaken standing → RestoresAs outcome.after backup name standing (told outcome.after (exists_line name))
  exists_as backup Free taken = absurd taken
  exists_as backup (Reads shown) taken = refl
  exists_as backup Taken taken = refl
  exists_as backup Untold taken = (exists_line name, refl)

  untold_answers : (result : Result (List ℕ) Ended) → IsUntold origin.store new outcome id name → IsSomeText result → RestoreAnswered result
  untold_answers result h some =
      told_some origin old new vault vault' clock outcome (RestoreBackup id name) was h.stands backs result some
      (λ text. restores h.backup (told outcome.after text) h.listed (subst (λ (s : Standing). RestoresAs outcome.after h.backup name s (told outcome.after text)) (sym h.untold) (text, refl)))

  swapped : {A B : Type 0} → A ⊎ B → B ⊎ A
  swapped (inl a) = inr a
  swapped (inr b) = inl b

  ends_with : (e : Ended) (result : Result (List ℕ) Ended) → result ≡ Err e → Breaks origin (tools old vault clock) (tools new vault' clock) outcome (RestoreBackup id name) e → RestoreAnswered result
  ends_with e result is h = subst RestoreAnswered (sym is) h

  -- a refused restore
  pub unrestored_answers : (why : EngineError) (result : Result (List ℕ) Ended) → RestoresOr origin.store old new vault.disk vault'.disk outcome id name (Err why) → UnrestoredAs why result → RestoreAnswered result
  unrestored_answers engine.DiskFault result h is = ends_with ended.BackupFault result is h
  unrestored_answers engine.DestFault result h is = ends_with ended.DiskFault result is h
  unrestored_answers (engine.Changed call path) result h is = ends_with (ended.RestoreChanged call path) result is (tt, swapped h)
  unrestored_answers engine.NoMemory result h is = ends_with ended.NoMemory result is tt
  unrestored_answers (engine.NoSuchBackup n) result h is =
      told_same origin old new vault vault' clock outcome (RestoreBackup id name) was h.2 backs (no_backup_line n) result is
      (subst (λ (o : Option Backup). Restores outcome.after id name o (told outcome.after (no_backup_line n))) (sym h.1) (ap (λ (k : ℕ). told outcome.after (no_backup_line k)) h.0))
  unrestored_answers (engine.DestinationExists dir) result h is =
      told_same origin old new vault vault' clock outcome (RestoreBackup id name) was h.1.stands backs (exists_line dir) result is
      (restores h.1.backup (told outcome.after (exists_line dir)) h.1.listed
      (subst (λ (d : List ℕ). RestoresAs outcome.after h.1.backup name (standing_of outcome.after name) (told outcome.after (exists_line d))) (sym h.0) (exists_as h.1.backup (standing_of outcome.after name) h.1.taken)))
  unrestored_answers (engine.Missing path) result h is = untold_answers result h is
  unrestored_answers (engine.WrongSize path kept found) result h is = untold_answers result h is
  unrestored_answers (engine.Damaged path kept found) result h is = untold_answers result h is
  unrestored_answers engine.SourceFault result h is = absurd h
  unrestored_answers (engine.Halted first) result h is = absurd h
  unrestored_answers (engine.Unreadable n line why) result h is = absurd h
  unrestored_answers engine.IdsFull result h is = absurd h
  unrestored_answers (engine.StrangeFolder path) result h is = absurd h
  unrestored_answers (engine.Found path) result h is = absurd h

-- ---- a folder that is shown

module _ (start : Option Story) (old new : Shown) (outcome : Outcome) (name : List ℕ) (stands : Stands start new outcome) where
  abbrev pub ShowAnswered : Result (List ℕ) Ended → Type 0
  ShowAnswered = StoreAnsweredOr start old new outcome (ShowFolder name)

  show_told : (text : List ℕ) (result : Result (List ℕ) Ended) → IsText text result → Shows_as outcome.after name (standing_of outcome.after name) (told outcome.after text) → ShowAnswered result
  show_told text result (inl is) shows = subst ShowAnswered (sym is) (record { next = told outcome.after text; answers = shows; is_text = refl; stands = stands_told start new outcome text stands })
  show_told text result (inr is) shows = subst ShowAnswered (sym is) tt

  shows_found : (found : Found) (standing : Standing) → ReadsAs standing (Ok found) → Shows_as outcome.after name standing (told outcome.after (folder_text (shown found)))
  shows_found found Free reads = absurd (cc)
  shows_found found (Reads s) reads = ap (λ (r : Read). told outcome.after (folder_text r)) (sym (same_ok s (shown found) reads)) where
    same_ok : (a b : Read) → (let r : Result Read Refusal = Ok a in r) ≡ Ok b → a ≡ b
    same_ok a b e = cc
  shows_found found Taken reads = (folder_text (shown found), refl)
  shows_found found Untold reads = (folder_text (shown found), refl)

  pub found_answers : (found : Found) (result : Result (List ℕ) Ended) → ReadsAs (standing_of outcome.after name) (Ok found) → IsText (folder_text (shown found)) result → ShowAnswered result
  found_answers found result reads is = show_told (folder_text (shown found)) result is (shows_found found (standing_of outcome.after name) reads)

  abbrev good_read : Read → Result Read Refusal
  good_read s = Ok s

  abbrev refused_read : Refusal → Result Read Refusal
  refused_read r = Err r

  ok_is_no_err : (s : Read) (r : Refusal) → good_read s ≡ refused_read r → ⊥
  ok_is_no_err s r e = cc

  same_refusal : (a b : Refusal) → refused_read a ≡ refused_read b → a ≡ b
  same_refusal a b e = cc

  -- another refusal comes only of what isn't known
  other_shows : (text : List ℕ) (why : FolderError) (r : Refusal) → (refusal.NoFolder ≡ r → ⊥) → ((Has : Refusal → Type 0) → IsRefusal Has why → Has r) → (standing : Standing) → ReadsAs standing (Err why)
      → Shows_as outcome.after name standing (told outcome.after text)
  other_shows text why r apart has Free reads = absurd (apart (same_refusal refusal.NoFolder r (has (λ (x : Refusal). refused_read refusal.NoFolder ≡ refused_read x) reads)))
  other_shows text why r apart has (Reads s) reads = absurd (ok_is_no_err s r (has (λ (x : Refusal). good_read s ≡ refused_read x) reads))
  other_shows text why r apart has Taken reads = (text, refl)
  other_shows text why r apart has Untold reads = (text, refl)

  no_folder_shows : (at : List ℕ) (standing : Standing) → ReadsAs standing (Err (folder.NoFolder at)) → Shows_as outcome.after name standing (told outcome.after (no_folder_line name))
  no_folder_shows at Free reads = refl
  no_folder_shows at (Reads s) reads = absurd (ok_is_no_err s refusal.NoFolder reads)
  no_folder_shows at Taken reads = (no_folder_line name, refl)
  no_folder_shows at Untold reads = (no_folder_line name, refl)

  show_some : (why : FolderError) (r : Refusal) → (refusal.NoFolder ≡ r → ⊥) → ((Has : Refusal → Type 0) → IsRefusal Has why → Has r) → (result : Result (List ℕ) Ended) → IsSomeText result → ReadsAs (standing_of outcome.after name) (Err why) → ShowAnswered result
  show_some why r apart has result some reads = show_told some.0 result some.1 (other_shows some.0 why r apart has (standing_of outcome.after name) reads)

  -- a folder that isn't shown
  pub unshown_answers : (why : FolderError) (result : Result (List ℕ) Ended) → ReadsAs (standing_of outcome.after name) (Err why) → HasRisenBy name old.disk new.disk why → UnshownAs name why result → ShowAnswered result
  unshown_answers folder.DiskFault result reads rose is = subst ShowAnswered (sym is) rose
  unshown_answers folder.NoMemory result reads rose is = subst ShowAnswered (sym is) tt
  unshown_answers (folder.NoFolder at) result reads rose is = show_told (no_folder_line name) result is (no_folder_shows at (standing_of outcome.after name) reads)
  unshown_answers (folder.NoCurrent at) result reads rose is = show_some (folder.NoCurrent at) refusal.NoCurrent (λ e. cc) (λ Has h. h) result is reads
  unshown_answers (folder.Missing file) result reads rose is = show_some (folder.Missing file) (refusal.Missing file) (λ e. cc) (λ Has h. h) result is reads
  unshown_answers (folder.Changed call path) result reads rose is = show_some (folder.Changed call path) refusal.NoCurrent (λ e. cc) (λ Has h. absurd h) result is reads
  unshown_answers (folder.Short file kept found) result reads rose is =
      show_some (folder.Short file kept found) (refusal.Short file kept found) (λ e. cc) (λ Has h. h) result is reads
  unshown_answers (folder.Damaged file place kept found) result reads rose is = show_some (folder.Damaged file place kept found) (refusal.Damaged file place kept found) (λ e. cc) (λ Has h. h) result is reads
  unshown_answers (folder.Malformed file place) result reads rose is = show_some (folder.Malformed file place) (refusal.Malformed file place) (λ e. cc) (λ Has h. h) result is reads
  unshown_answers (folder.TornLog file place) result reads rose is = show_some (folder.TornLog file place) (refusal.TornLog file place) (λ e. cc) (λ Has h. h) result is reads
  unshown_answers (folder.Gap file kept found) result reads rose is = show_some (folder.Gap file kept found) (refusal.Gap file kept found) (λ e. cc) (λ Has h. h) result is reads
  unshown_answers (folder.BadLevels level left right) result reads rose is =
      show_some (folder.BadLevels level left right) (refusal.BadLevels level left right) (λ e. cc) (λ Has h. h) result is reads

-- ---- behind the opening of an engine

module _ (origin : Origin) (shown : Shown) (old mid : Vault) (clock : Stream) (new : Tools) (outcome : Outcome) (command : Command) (stay : SeenStay old.disk mid.disk) where
  -- what rose behind it rose in all
  pub breaks_later : (e : Ended) → Breaks origin (tools shown mid clock) new outcome command e → Breaks origin (tools shown old clock) new outcome command e
  breaks_later ended.DiskFault h = h
  breaks_later ended.BackupFault h = rose_later old.disk.faults mid.disk.faults new.backups.disk.faults stay.faults h
  breaks_later ended.ClockFault h = record { rose = h.rose; is = h.is; stands = h.stands }
  breaks_later (ended.InTheWay why) h = h
  breaks_later (ended.Changed call path) h = h
  breaks_later (ended.BackupChanged call path) h = rose_later old.disk.refusals mid.disk.refusals new.backups.disk.refusals stay.refusals h
  breaks_later (ended.RestoreChanged call path) h = (h.0, either h.1) where
    either : Rose shown.disk.refusals new.store.disk.refusals ⊎ Rose mid.disk.refusals new.backups.disk.refusals → Rose shown.disk.refusals new.store.disk.refusals ⊎ Rose old.disk.refusals new.backups.disk.refusals
    either (inl rose) = inl rose
    either (inr rose) = inr (rose_later old.disk.refusals mid.disk.refusals new.backups.disk.refusals stay.refusals rose)
  breaks_later ended.NoMemory h = tt
  breaks_later ended.Finished h = absurd h
  breaks_later (ended.BadLine number) h = absurd h
  breaks_later ended.ReadFault h = absurd h
  breaks_later ended.WriteFault h = absurd h
  breaks_later ended.Found h = absurd h

  pub answered_later : (result : Result (List ℕ) Ended) → AnsweredOr origin (tools shown mid clock) new outcome command result → AnsweredOr origin (tools shown old clock) new outcome command result
  answered_later (Ok text) h = h
  answered_later (Err e) h = breaks_later e h

-- the same of a creation
pub created_later : (origin : Origin) (shown : Shown) (old mid : Vault) (before : Stream) (new : Tools) (outcome : Outcome) (now : ℕ) (left : Option (List ℕ)) → SeenStay old.disk mid.disk → (result : Result (List ℕ) Ended)
    → CreatedOr origin (tools shown mid before) new outcome now left result → CreatedOr origin (tools shown old before) new outcome now left result
created_later origin shown old mid before new outcome now left stay (Ok text) h = h
created_later origin shown old mid before new outcome now left stay (Err e) h = breaks_later origin shown old mid before new outcome CreateBackup stay e h

-- all stands as before, with an engine opened
pub at_opened : (origin : Origin) (shown : Shown) (old mid : Vault) (clock : Stream) (outcome : Outcome) → AreAt origin (tools shown old clock) outcome → Backs origin.backups mid outcome.after → AreAt origin (tools shown mid clock) outcome
at_opened origin shown old mid clock outcome was backs = record { store = was.store; backups = backs; clock = was.clock; start = was.start; told = was.told }

-- what the start tells, where the plain state says so
pub told_of : (origin : Origin) (at : Tools) (outcome : Outcome) → AreAt origin at outcome → IsTrue outcome.after.start.tells → IsSome origin.backups
told_of origin at outcome was tells = was.told (subst (λ (s : Start). IsTrue s.tells) was.start tells)

-- the store's files are those of a store that holds what the plain state does
pub are_plain : (start : Option Story) (shown : Shown) (outcome : Outcome) (listed : List FileName) (views : List Viewed) → Stands start shown outcome → HasFiles start outcome.accepted listed views → IsTrue outcome.after.start.tells → ArePlain outcome.after listed views
are_plain start shown outcome listed views stands has tells =
    let f = stands.folders tells in record {
      accepted = outcome.accepted;
      names = has.names;
      texts = λ these are. has.texts f.first f.told_first these are;
      contents = stands.replays;
      sequence = stands.counted;
      logged = (stands.log f.first f.told_first).wal.each;
    }

-- a line of which only counts rise at the end is one line still
pub line_untouched : (old mid new : Shown) → ByOneLine old mid → IsUntouched mid new → SeenStay mid.disk new.disk → ByOneLine old new
line_untouched old mid new line same stay = record {
  counts = record { faults = omega (arith, line.counts.faults, stay.faults); refusals = omega (arith, line.counts.refusals, stay.refusals) };
  log = same.log ∙ line.log;
  sequence = omega (arith, line.sequence, same.sequence);
  len = omega (arith, line.len, same.len);
}
