-- A log grows by one accepted batch, and is made sure.
use Rattle.std.specs.Prelude.{◌≡◌, ℕ, ◌+◌, ◌%◌, ◌≤◌, Bool, true, false, if◌then◌else◌, List, [], ◌∷◌, ◌++◌, length, Option, Some, None, IsTrue, option_map, Ok}
use Rattle.std.proofs.Common.{refl, sym, ap, subst, ◌∙◌, arith, length-append}
use Rattle.std.proofs.lemmas.List.{append-nil, take_all}
use Rattle.std.specs.List.{fold}
use Rattle.lsm_rows.specs.declared.operations.Op.{Op}
use Rattle.lsm_rows.specs.BatchText.{batch_text}
use Rattle.lsm_rows.specs.Replay.{Contents, applied, replayed, sequence_after}
use Rattle.std.specs.FinMap as map
use Rattle.lsm_frame.specs.Frames.{record_text}
use Rattle.lsm_disk.specs.State.{State, Story, after as later, state_of, bytes_of, sure, file_synced}
use Rattle.lsm_disk.specs.Images.{Tree, IsImage, tree_now, bytes_at}
use Rattle.lsm_disk.specs.Answers.{Makes, pushed}
use Rattle.lsm_disk.specs.Goes.{GoesOn}
use Rattle.lsm_disk.specs.Kept.{InFile}
use Rattle.lsm_disk.proofs.Cuts.{cut_front}
use Rattle.lsm_disk.proofs.Kept.{kept_synced, kept_image, kept_at}
use Rattle.lsm_disk.proofs.Images.{reads_image}
use Rattle.lsm_disk.proofs.Runs.{state_push}
use Rattle.lsm_wal.specs.Batches.{Logged, text_of, wal_text, in_sequence}
use Rattle.lsm_wal.specs.Standing.{IsWal, IsLeft}
use Rattle.lsm_wal.proofs.Texts.{text_push, sequence_length}
use Prim.Native.Nat.{suc}
use Rattle.ldb_script.specs.Plain.{Outcome, written, with_batch, both}
use Rattle.ldb_script.specs.Stored.{Shown, Stands, Logs, FilesBeside, Keeps, log_of}
use Rattle.ldb_script.specs.Opening.{made_durable}
use Rattle.ldb_script.specs.Folders.{FoldersStand}
use Rattle.ldb_script.proofs.Besides.{files_go, files_synced}
use Rattle.ldb_script.proofs.Standings.{folders_of, folders_go, folders_synced}
use Rattle.lsm_wal.proofs.Following.{sequence_more}

replayed_push : (m : Contents) (batches : List (List Op)) (batch : List Op) → replayed m (batches ++ batch ∷ []) ≡ fold applied (replayed m batches) batch
replayed_push m [] batch = refl
replayed_push m (first ∷ batches) batch = replayed_push (fold applied m first) batches batch

sequence_from : (start more : ℕ) (batches : List (List Op)) → sequence_after (start + more) batches ≡ start + sequence_after more batches
sequence_from start more [] = refl
sequence_from start more (batch ∷ batches) = ap (λ (n : ℕ). sequence_after n batches) (omega arith) ∙ sequence_from start (more + length batch) batches

-- the batch that comes next has the next sequences
pub numbered_push : (first : ℕ) (batches : List (List Op)) (batch : List Op) → in_sequence first (batches ++ batch ∷ []) ≡ in_sequence first batches ++ (record { first = sequence_after first batches; ops = batch }) ∷ []
numbered_push first [] batch = refl
numbered_push first (ops ∷ batches) batch = ap (λ (bs : List Logged). (record { first = first; ops = ops }) ∷ bs) (numbered_push (first + length ops) batches batch)

module _ (accepted : List (List Op)) (batch : List Op) where
  abbrev pub next : Logged
  next = record { first = sequence_after 0 accepted + 1; ops = batch }

  pub accepted_push : in_sequence 1 (accepted ++ batch ∷ []) ≡ in_sequence 1 accepted ++ next ∷ []
  accepted_push = numbered_push 1 accepted batch ∙ ap (λ (n : ℕ). let b : Logged = record { first = n; ops = batch } in in_sequence 1 accepted ++ b ∷ []) (sequence_from 1 0 accepted ∙ omega arith)

  pub log_push : length (log_of (accepted ++ batch ∷ [])) ≡ length (log_of accepted) + length (record_text (length (log_of accepted) % 32768) (text_of next))
  unfolding log_of
  log_push = ap (λ (bs : List Logged). length (wal_text bs)) accepted_push ∙ ap length (text_push (in_sequence 1 accepted) next) ∙ length-append (wal_text (in_sequence 1 accepted)) (record_text (length (wal_text (in_sequence 1 accepted)) % 32768) (text_of next))

-- ---- a write

module _ (start : Option Story) (old new : Shown) (outcome : Outcome) (was : Stands start old outcome) (batch : List Op) (sync : Bool) where
  abbrev after : Outcome
  after = both outcome (written outcome.after sync batch None)

  abbrev behind : Logged
  behind = record { first = old.sequence + 1; ops = batch }

  pub behind_is : behind ≡ next outcome.accepted batch
  behind_is = ap (λ (n : ℕ). let b : Logged = record { first = n + 1; ops = batch } in b) (was.sequence ∙ was.counted)

  durable_is : (sync : Bool) → (if sync then length (in_sequence 1 outcome.accepted ++ next outcome.accepted batch ∷ []) else outcome.after.durable) ≡ (with_batch outcome.after sync batch).durable
  durable_is true = length-append (in_sequence 1 outcome.accepted) (next outcome.accepted batch ∷ []) ∙ ap (λ (n : ℕ). n + 1) (sequence_length 1 outcome.accepted ∙ sym was.batches)
  durable_is false = refl

  -- the log of the disk, where it told one
  pub logged : (wal : (logs : Logs old.disk.told old.log outcome.accepted outcome.after.durable) → (story : Story) × (new.disk.told ≡ Some story)
      × IsLeft {T = Unit {0}} old.log (in_sequence 1 outcome.accepted) behind outcome.after.durable sync (Ok tt) (state_of story))
      → new.log ≡ old.log → (story : Story) → start ≡ Some story → Logs new.disk.told new.log after.accepted after.after.durable
  logged wal same story tells =
      let left = wal (was.log story tells) in record {
        story = left.0;
        tells = left.1;
        wal =
            subst (λ (p : List ℕ). IsWal (state_of left.0) p (in_sequence 1 after.accepted) after.after.durable) (sym same)
            (subst (λ (bs : List Logged). IsWal (state_of left.0) old.log bs after.after.durable) (sym (accepted_push outcome.accepted batch))
            (subst (IsWal (state_of left.0) old.log (in_sequence 1 outcome.accepted ++ next outcome.accepted batch ∷ [])) (durable_is sync)
            (subst (λ (b : Logged). IsWal (state_of left.0) old.log (in_sequence 1 outcome.accepted ++ b ∷ []) (if sync then length (in_sequence 1 outcome.accepted ++ b ∷ []) else outcome.after.durable)) behind_is left.2)));
      }

  -- the files beside it
  pub beside_written : (wal : (logs : Logs old.disk.told old.log outcome.accepted outcome.after.durable) → (later : Story) × (new.disk.told ≡ Some later) × (P : State → Tree → Type 0) × GoesOn logs.story later (InFile logs.wal.id) P)
      → new.log ≡ old.log → (story : Story) → start ≡ Some story → FilesBeside new.disk.told new.log
  beside_written wal same story tells =
      let logs = was.log story tells in
      let went = wal logs in
      subst (FilesBeside new.disk.told) (sym same)
      (files_go old.disk.told new.disk.told old.log logs.story went.0 went.2 logs.wal.id logs.tells went.1 (kept_at (state_of logs.story) old.log logs.wal.id logs.wal.file logs.wal.kept) went.3 (was.beside story tells))

  -- and the folders
  pub folders_written : (wal : (logs : Logs old.disk.told old.log outcome.accepted outcome.after.durable) → (later : Story) × (new.disk.told ≡ Some later) × (P : State → Tree → Type 0) × GoesOn logs.story later (InFile logs.wal.id) P)
      → new.log ≡ old.log → IsTrue outcome.after.start.tells → FoldersStand start new.disk.told new.log after.after
  folders_written wal same tells =
      let stood = was.folders tells in
      let logs = was.log stood.first stood.told_first in
      let went = wal logs in
      folders_of start new.disk.told new.log outcome.after after.after refl refl
      (subst (λ (l : List ℕ). FoldersStand start new.disk.told l outcome.after) (sym same)
      (folders_go old.log logs.wal.id start old.disk.told new.disk.told outcome.after logs.story went.0 went.2 logs.tells went.1 (kept_at (state_of logs.story) old.log logs.wal.id logs.wal.file logs.wal.kept) went.3 stood))

  -- the store stands behind the batch that it wrote
  pub stands_written : new.log ≡ old.log → (IsTrue outcome.after.start.tells → FoldersStand start new.disk.told new.log after.after) → (log : (story : Story) → start ≡ Some story → Logs new.disk.told new.log after.accepted after.after.durable) → (beside : (story : Story) → start ≡ Some story → FilesBeside new.disk.told new.log) → new.contents ≡ fold applied old.contents batch → new.sequence ≡ old.sequence + length batch
      → new.len ≡ old.len + length (record_text (old.len % 32768) (batch_text (old.sequence + 1) batch)) → Stands start new after
  stands_written same folders log beside contents sequence len = record {
    contents = contents ∙ ap (λ (m : Contents). fold applied m batch) was.contents;
    sequence = sequence ∙ ap (λ (n : ℕ). n + length batch) was.sequence;
    replays = ap (λ (m : Contents). fold applied m batch) was.replays ∙ sym (replayed_push map.empty outcome.accepted batch);
    counted = ap (λ (n : ℕ). n + length batch) was.counted ∙ sym (sequence_more 0 outcome.accepted batch);
    batches = ap (λ (n : ℕ). n + 1) was.batches ∙ sym (length-append outcome.accepted (batch ∷ []));
    len = len ∙ (λ i. was.len i + length (record_text (was.len i % 32768) (text_of (behind_is i)))) ∙ sym (log_push outcome.accepted batch);
    log = log;
    beside = beside;
    home = same ∙ was.home;
    folders = folders;
  }

-- ---- a sync

module _ (s : State) (path : List ℕ) (batches : List Logged) (durable : ℕ) (wal : IsWal s path batches durable) where
  -- each batch is durable once the file was synced
  pub wal_synced : IsWal (later s (file_synced path s)) path batches (length batches)
  wal_synced = record {
    id = wal.id;
    file = sure wal.file;
    kept = kept_synced s path wal.id wal.file wal.kept;
    text = append-nil (bytes_of wal.file) ∙ wal.text;
    within = omega arith;
    synced = omega (arith, ap (λ (bs : List Logged). length (wal_text bs)) (take_all (length batches) batches (omega arith)), ap length wal.text);
    each = wal.each;
  }

module _ (s : State) (path : List ℕ) (batches : List Logged) (wal : IsWal s path batches (length batches)) where
  whole : length (bytes_of wal.file) ≤ length wal.file.synced
  whole = omega (arith, wal.synced, ap length wal.text, ap (λ (bs : List Logged). length (wal_text bs)) (take_all (length batches) batches (omega arith)))

  -- a log whose batches are durable is whole after each crash
  pub wal_images : (t : Tree) → IsImage s t → bytes_at t path ≡ Some (wal_text batches)
  wal_images t image =
      let held = kept_image s path wal.id wal.file wal.kept t image in
      let front = cut_front wal.file held.bytes held.cut in
      held.is ∙ ap (λ (b : List ℕ). Some b) (front.is ∙ take_all front.count (bytes_of wal.file) (omega (arith, whole, front.enough)) ∙ wal.text)

  pub wal_now : bytes_at (tree_now s) path ≡ Some (wal_text batches)
  wal_now = wal_images (tree_now s) (reads_image s)

-- the same of the log that a store stands on
module _ (start : Option Story) (old new : Shown) (outcome : Outcome) (was : Stands start old outcome) where
  pub logs_synced : Makes old.disk.told (file_synced old.log) new.disk.told → new.log ≡ old.log → (story : Story) → start ≡ Some story → Logs new.disk.told new.log outcome.accepted outcome.after.batches
  logs_synced makes same story tells =
      let logs = was.log story tells in record {
        story = pushed (file_synced old.log) logs.story;
        tells = makes ∙ ap (option_map (pushed (file_synced old.log))) logs.tells;
        wal =
            subst (λ (p : List ℕ). IsWal (state_of (pushed (file_synced old.log) logs.story)) p (in_sequence 1 outcome.accepted) outcome.after.batches) (sym same)
            (subst (IsWal (state_of (pushed (file_synced old.log) logs.story)) old.log (in_sequence 1 outcome.accepted)) (sequence_length 1 outcome.accepted ∙ sym was.batches)
            (subst (λ (s : State). IsWal s old.log (in_sequence 1 outcome.accepted) (length (in_sequence 1 outcome.accepted))) (sym (state_push logs.story (file_synced old.log (state_of logs.story))))
            (wal_synced (state_of logs.story) old.log (in_sequence 1 outcome.accepted) outcome.after.durable logs.wal)));
      }

  -- the files beside it
  pub beside_synced : Makes old.disk.told (file_synced old.log) new.disk.told → new.log ≡ old.log → (story : Story) → start ≡ Some story → FilesBeside new.disk.told new.log
  beside_synced makes same story tells =
      let logs = was.log story tells in
      subst (FilesBeside new.disk.told) (sym same) (files_synced old.disk.told new.disk.told old.log logs.story logs.wal.id logs.wal.file logs.tells logs.wal.kept makes (was.beside story tells))

  -- and the folders
  pub folders_sure : Makes old.disk.told (file_synced old.log) new.disk.told → new.log ≡ old.log → IsTrue outcome.after.start.tells → FoldersStand start new.disk.told new.log (made_durable outcome).after
  folders_sure makes same tells =
      let stood = was.folders tells in
      let logs = was.log stood.first stood.told_first in
      folders_of start new.disk.told new.log outcome.after (made_durable outcome).after refl refl
      (subst (λ (l : List ℕ). FoldersStand start new.disk.told l outcome.after) (sym same)
      (folders_synced start old.disk.told new.disk.told old.log outcome.after logs.story logs.wal.id logs.wal.file logs.tells logs.wal.kept makes stood))

  pub stands_synced : new.log ≡ old.log → (IsTrue outcome.after.start.tells → FoldersStand start new.disk.told new.log (made_durable outcome).after) → ((story : Story) → start ≡ Some story → Logs new.disk.told new.log outcome.accepted outcome.after.batches) → ((story : Story) → start ≡ Some story → FilesBeside new.disk.told new.log) → new.contents ≡ old.contents → new.sequence ≡ old.sequence → new.len ≡ old.len → Stands start new (made_durable outcome)
  stands_synced same folders log beside contents sequence len = record {
    contents = contents ∙ was.contents;
    sequence = sequence ∙ was.sequence;
    replays = was.replays;
    counted = was.counted;
    batches = was.batches;
    len = len ∙ was.len;
    log = log;
    beside = beside;
    home = same ∙ was.home;
    folders = folders;
  }

-- a log whose batches are durable keeps its text
pub keeps : (told : Option Story) (path : List ℕ) (accepted : List (List Op)) (durable : ℕ) → durable ≡ length accepted → Logs told path accepted durable → Keeps told path (log_of accepted)
unfolding log_of
keeps told path accepted durable all logs =
    let wal = subst (IsWal (state_of logs.story) path (in_sequence 1 accepted)) (all ∙ sym (sequence_length 1 accepted)) logs.wal in record {
      story = logs.story;
      tells = logs.tells;
      now = wal_now (state_of logs.story) path (in_sequence 1 accepted) wal;
      images = wal_images (state_of logs.story) path (in_sequence 1 accepted) wal;
    }

pub log_len : (accepted : List (List Op)) → length (log_of accepted) ≡ length (wal_text (in_sequence 1 accepted))
unfolding log_of
log_len accepted = refl

pub log_none : length (log_of []) ≡ 0
unfolding log_of
log_none = refl
