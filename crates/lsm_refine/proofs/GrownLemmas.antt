-- A batch is appended to the last log of a good store: what is good behind it, and what the images on the way read as.
use Rattle.std.specs.Prelude.{◌≡◌, ℕ, ◌+◌, ◌≤◌, Bool, true, false, if◌then◌else◌, List, [], ◌∷◌, ◌++◌, take, drop, length, All, Option, Some, None, Result}
use Rattle.std.proofs.Common.{refl, sym, ap, subst, ◌∙◌, arith, append_assoc, length-append}
use Rattle.std.proofs.lemmas.List.{append-nil, take_all, take-append-le, drop-append-le}
use Rattle.std.proofs.lemmas.List.Elements.{All-push, All-weaker}
use Rattle.std.proofs.lemmas.List.Sorted.{IsPermutation-trans, IsPermutation-append, IsPermutation-refl}
use Rattle.std.specs.List.Sorted.{IsPermutation}
use Rattle.std.specs.FinMap as finmap
use Rattle.lsm_names.specs.declared.file_names.FileName.TheVariants.{Log, Table}
use Rattle.lsm_rows.specs.declared.operations.Op.{Op}
use Rattle.lsm_rows.specs.declared.rows.Row.{Row}
use Rattle.lsm_rows.specs.Replay.{replayed, sequence_after}
use Rattle.lsm_rows.specs.Rows.{batch_rows, rows_of}
use Rattle.lsm_rows.specs.Contents.{newest}
use Rattle.lsm_rows.proofs.NewestRows.{newest_of, newest-append}
use Rattle.lsm_disk.specs.Names.{Folder_node}
use Rattle.lsm_disk.specs.State as disk
use Rattle.lsm_disk.specs.State.{Seen, Story, Synced, state_of, after, sure, bytes_of}
use Rattle.lsm_disk.specs.Images.{Tree, IsImage, tree_now, bytes_at}
use Rattle.lsm_disk.specs.Kept.{InFile}
use Rattle.lsm_disk.specs.Goes.{Went}
use Rattle.lsm_disk.specs.Dest.{path_in}
use Rattle.lsm_disk.specs.declared.calls.Halt.{Halt}
use Rattle.lsm_disk.specs.declared.calls.DiskRefusal.{DiskRefusal}
use Rattle.lsm_disk.proofs.Files.{get_changed}
use Rattle.lsm_disk.proofs.Images.{reads_image}
use Rattle.lsm_disk.proofs.Named.{name_image}
use Rattle.lsm_disk.proofs.Runs.{went_weaker, went_wider}
use Rattle.lsm_wal.specs.Batches.{Logged, IsLogged, in_sequence, wal_text, record_behind}
use Rattle.lsm_wal.specs.Reading.{At_end, open_end, IsReading}
use Rattle.lsm_wal.specs.Standing.{IsWal, IsTornWal, HoldsFront, IsLeft, durable_after}
use Rattle.lsm_wal.proofs.Following.{sequence_more}
use Rattle.lsm_wal.proofs.Fronts.{whole_reads}
use Rattle.lsm_wal.proofs.Images.{torn_image}
use Rattle.lsm_wal.proofs.Once.{read_once}
use Rattle.lsm_wal.proofs.Texts.{text_push, sequence_push, sequence_length}
use Rattle.lsm_folder.specs.Files.{files_in}
use Rattle.lsm_folder.specs.Needed.{Stands}
use Rattle.lsm_model.specs.declared.states.State.{State}
use Rattle.lsm_model.specs.declared.states.Pin.{Pin}
use Rattle.lsm_model.specs.Writes.{with_batch, doubting}
use Rattle.lsm_refine.specs.Kept.{KeptPin, Unfinished, Shown}
use Rattle.lsm_refine.specs.Parts.{Parts, AreRowsOf, batches_in, first_in_last, logged}
use Rattle.lsm_refine.specs.Sane.{Sane}
use Rattle.lsm_refine.specs.Pins.{IsKeptPin, folder_of_pin}
use Rattle.lsm_refine.specs.Tied.{Tied}
use Rattle.lsm_refine.specs.Folders.{StandsFrom}
use Rattle.lsm_refine.specs.Good.{IsRunning, IsInMode, Good}
use Rattle.lsm_refine.specs.Moments.{ReadsAsCrashed, ImagesShowWrite}
use Rattle.lsm_refine.specs.Beside.{WritesAt, IsLone, IsGiven, last_path, last_batches}
use Rattle.lsm_refine.specs.Grown.{next_batch, grown, grown_kept, grown_shown, grown_state, halted_shown, halted_state}
use Rattle.lsm_refine.proofs.BesideLemmas.{went_beside}
use Rattle.lsm_refine.proofs.GoodLemmas.{front_stands}
use Rattle.lsm_refine.proofs.HaltLemmas.{stands_less, halts_good}
use Rattle.lsm_refine.proofs.LastLogLemmas.{numbers_push}
use Rattle.lsm_refine.proofs.MomentLemmas.{crash_reads}
use Rattle.lsm_refine.proofs.OutsideLemmas.{sure_contents}
use Rattle.lsm_refine.proofs.PartsLemmas.{readable_beside, first_of}
use Rattle.lsm_refine.proofs.TableSyncs.{readable_synced}
use Rattle.lsm_refine.proofs.PinnedLemmas.{pins_fit}
use Rattle.lsm_refine.proofs.ShownLemmas.{rows_both}
use Rattle.lsm_refine.proofs.TiedLemmas.{logged_many}
use Rattle.lsm_refine.proofs.WritingLemmas.{table_apart, held_same, last_lone, synced_few, next_is, beside, folders_beside}

-- ---- the batches and the rows

module _ (parts : Parts) (s : State) (tied : Tied parts s) (ops : List Op) where
  above_grown : logged (grown ops false parts) ≡ drop tied.flushed (s.accepted ++ ops ∷ [])
  above_grown =
      sym (append_assoc (batches_in parts.older) parts.last.batches (ops ∷ []))
      ∙ ap (λ (l : List (List Op)). l ++ ops ∷ []) tied.above
      ∙ sym (drop-append-le tied.flushed s.accepted (ops ∷ []) tied.within)

  durable_grown : (sync : Bool) → (if sync then length s.accepted + 1 else s.durable)
      ≤ tied.flushed + (length (batches_in parts.older) + durable_after sync parts.synced
      (in_sequence (first_in_last parts) (parts.last.batches ++ ops ∷ [])))
  durable_grown true = omega (
    arith,
    logged_many parts s tied,
    sequence_length (first_in_last parts)
        (parts.last.batches ++ ops ∷ []),
    length-append parts.last.batches (ops ∷ []),
  )
  durable_grown false = tied.durable

  front_grown : take tied.flushed (s.accepted ++ ops ∷ []) ≡ take tied.flushed s.accepted
  front_grown = take-append-le tied.flushed s.accepted (ops ∷ []) tied.within

  abbrev tied_grown : (sync : Bool) → Tied (grown ops sync parts) (with_batch ops sync s)
  tied_grown sync = record {
    flushed = tied.flushed;
    within = omega (arith, tied.within, length-append s.accepted (ops ∷ []));
    below = tied.below ∙ ap (replayed s.opening) (sym front_grown);
    last = tied.last ∙ ap (sequence_after s.began) (sym front_grown);
    above = above_grown;
    durable = durable_grown sync;
  }

rows_grown : (first : ℕ) (batches : List (List Op)) (ops : List Op) (next : ℕ) (old new : List Row)
    → next ≡ sequence_after first batches → AreRowsOf first batches old
    → IsPermutation (old ++ batch_rows next ops) new → ((key : List ℕ)
    → newest key new ≡ newest key (old ++ batch_rows next ops)) → AreRowsOf first (batches ++ ops ∷ []) new
rows_grown first batches ops next old new is are same newest_is =
    let rows : rows_of first (batches ++ ops ∷ []) ≡ rows_of first batches ++ batch_rows next ops =
    rows_both first batches (ops ∷ [])
    ∙ ap (λ (n : ℕ). rows_of first batches ++ (batch_rows n ops ++ [])) (sym is)
    ∙ ap (λ (l : List Row). rows_of first batches ++ l) (append-nil (batch_rows next ops)) in
    record {
      same = subst (λ (l : List Row). IsPermutation l new) (sym rows)
          (IsPermutation-trans (rows_of first batches ++ batch_rows next ops) (old ++ batch_rows next ops) new
          (IsPermutation-append (rows_of first batches) old (batch_rows next ops) (batch_rows next ops) are.same
          (IsPermutation-refl (batch_rows next ops))) same);
      newest_is = λ key.
          newest_is key
          ∙ newest-append old (batch_rows next ops) key
          ∙ ap (λ (o : Option Row). newest_of o (newest key (batch_rows next ops))) (are.newest_is key)
          ∙ sym (newest-append (rows_of first batches) (batch_rows next ops) key)
          ∙ ap (newest key) (sym rows);
    }

-- ---- a log behind which a part of a record stands has all batches now

torn_now : (d : disk.State) (path : List ℕ) (batches : List Logged) (next : Logged) (durable : ℕ) → IsTornWal d path batches next durable
    → HoldsFront path (batches ++ next ∷ []) (length batches) d (tree_now d)
torn_now d path batches next durable torn =
    let later : disk.State = after d (Synced torn.id) in
    let whole : IsTornWal later path batches next (length batches) = record {
      id = torn.id;
      file = sure torn.file;
      kept = record { named = torn.kept.named; file = get_changed sure d.files torn.id torn.file torn.kept.file };
      count = torn.count;
      text = append-nil (bytes_of torn.file) ∙ torn.text;
      within = omega arith;
      synced = omega (
        arith,
        ap (λ (bs : List Logged). length (wal_text bs)) (take_all (length batches) batches (omega arith)),
        ap (λ (l : List ℕ). length l) torn.text,
        length-append (wal_text batches) (take torn.count (record_behind batches next)),
      );
      each = torn.each;
    } in
    let held = torn_image later path batches next (length batches) whole (tree_now later) (reads_image later) in
    record {
      bytes = held.bytes;
      is = ap (λ (bs : List (List ℕ)). bytes_at (record { names = (tree_now d).names; contents = bs }) path)
          (sym (sure_contents d.files torn.id)) ∙ held.is;
      batches_are = held.batches_are;
      ends = held.ends;
    }

-- ---- a running store

module _ (v : Shown) (s : State) (good : Good v s) (run : IsRunning (state_of good.story) v s) (ops : List Op)
    (logged : IsLogged (next_batch v.kept ops)) where
  abbrev d : disk.State
  d = state_of good.story

  abbrev parts : Parts
  parts = run.parts

  abbrev older : ℕ
  older = length (batches_in parts.older)

  abbrev path : List ℕ
  path = last_path v.dir run.parts

  abbrev batches : List Logged
  batches = last_batches run.parts

  abbrev next : Logged
  next = next_batch v.kept ops

  abbrev more : List (List Op)
  more = parts.last.batches ++ ops ∷ []

  abbrev IsWritten : disk.State → Type 0
  IsWritten x = WritesAt v.dir (Log run.parts.last.number) (state_of good.story) x

  batches_are : batches ++ next ∷ [] ≡ in_sequence (first_in_last parts) more
  batches_are =
      ap (λ (n : ℕ). let b : Logged = record { first = n; ops = ops } in batches ++ b ∷ []) (next_is v s good run)
      ∙ sym (sequence_push (first_in_last parts) parts.last.batches ops)

  each : All IsLogged (in_sequence (first_in_last parts) more)
  each = subst (All IsLogged) batches_are (All-push IsLogged batches next run.sane.logs.last.each logged)

  more_many : length more ≡ length parts.last.batches + 1
  more_many = length-append parts.last.batches (ops ∷ [])

  accepted_many : length (s.accepted ++ ops ∷ []) ≡ length s.accepted + 1
  accepted_many = length-append s.accepted (ops ∷ [])

  -- a record has some bytes, since with it the log reads to one batch more
  pub record_some : 1 ≤ length (record_behind (last_batches run.parts) (next_batch v.kept ops))
  record_some = by (record_behind batches next) refl
    where
      by : (bytes : List ℕ) → record_behind batches next ≡ bytes → 1 ≤ length bytes
      by (byte ∷ bytes) is = omega arith
      by [] is =
          let first : ℕ = first_in_last parts in
          let same : wal_text (in_sequence first more) ≡ wal_text batches =
          ap (λ (l : List Logged). wal_text l) (sym batches_are) ∙ text_push batches next ∙ ap
          (λ (l : List ℕ). wal_text batches ++ l) is ∙ append-nil (wal_text batches) in
          let both = read_once first (wal_text batches) parts.last.batches more (At_end (open_end None))
          (At_end (open_end None)) (whole_reads first parts.last.batches run.sane.logs.last.each)
          (subst (λ (text : List ℕ). IsReading first text more (At_end (open_end None))) same (whole_reads first more each)) in
          absurd (omega (arith, ap (λ (l : List (List Op)). length l) both.0, more_many))

  -- ---- what the folder stands for, where the last log reads to a front

  stands : (x : disk.State) → IsWritten x → (t : Tree) → IsImage x t → (least : ℕ) → parts.synced ≤ least → least ≤ length more
      → HoldsFront path (batches ++ next ∷ []) least x t
      → StandsFrom (doubting ops s) (run.tied.flushed + (older + least)) t
  stands x writes t i least enough within held =
      let all = beside v s good run x writes in
      let first = first_of x v.dir v.kept parts (readable_beside x v.dir v.kept parts (Log parts.last.number) all.sane
      (λ same. cc)) t i more least each within (subst (λ (l : List Logged). HoldsFront path l least x t) batches_are held) in
      let count : ℕ = run.tied.flushed + (older + first.0) in
      record {
        count = count;
        enough = omega (arith, first.2);
        within = omega (arith, first.3, logged_many parts s run.tied, accepted_many, more_many);
        stands = record {
          folder = ap (λ (dir : List ℕ). finmap.get t.names dir) (sym good.kept.own) ∙ name_image x v.dir
              (Some Folder_node) all.sane.current.folder t i;
          stands = subst (λ (dir : List ℕ). Stands (files_in dir t) (replayed s.opening (take count (s.accepted ++ ops ∷ [])))
              (sequence_after s.began (take count (s.accepted ++ ops ∷ [])))) good.kept.own
              (front_stands (grown ops false parts) (with_batch ops false s) run.sane.lawful
              (tied_grown parts s run.tied ops false) (files_in v.dir t) first.0 first.1 first.4 (omega (arith, enough, first.2)));
        };
      }

  shows_front : (x : disk.State) → IsWritten x → (t : Tree) → IsImage x t
      → HoldsFront path (batches ++ next ∷ []) parts.synced x t → StandsFrom (doubting ops s) s.durable t
  shows_front x writes t i held =
      stands_less (doubting ops s) (run.tied.flushed + (older + parts.synced)) s.durable t run.tied.durable
      (stands x writes t i parts.synced (omega arith) (omega (arith, synced_few v s good run, more_many)) held)

  shows_write : (x : disk.State) (t : Tree) → IsWritten x → IsImage x t
      → HoldsFront path (batches ++ next ∷ []) parts.synced x t → ReadsAsCrashed (doubting ops s) t
  shows_write x t writes i held =
      let read = folders_beside v s good run x writes in
      crash_reads x (doubting ops s) t i (record { now = read.now; sure = read.sure }) (shows_front x writes t i held)

  -- ---- the append

  module _ {T : Type 0} (sync : Bool) (result : Result T DiskRefusal) (told : Option Story)
      (went : Went good.story told (InFile run.sane.logs.last.id)
      (HoldsFront (last_path v.dir run.parts) (last_batches run.parts ++ next_batch v.kept ops ∷ []) run.parts.synced)
      (IsLeft (last_path v.dir run.parts) (last_batches run.parts) (next_batch v.kept ops) run.parts.synced sync result)) where
    -- what an append leaves is beside what stays, and each image on the way reads as a crash leaves the state, perhaps with
    -- the new batch
    pub append_went : Went good.story told (InFile run.sane.logs.last.id) (λ x t. ReadsAsCrashed (doubting ops s) t)
        (λ x. IsLeft (last_path v.dir run.parts) (last_batches run.parts) (next_batch v.kept ops) run.parts.synced sync result x
        × (WritesAt v.dir (Log run.parts.last.number) (state_of good.story) x
        × IsLone x v.dir (Log run.parts.last.number) run.sane.logs.last.id))
    append_went =
        went_beside v.dir (Log run.parts.last.number) good.story told run.sane.logs.last.id
        (HoldsFront path (batches ++ next ∷ []) parts.synced) (λ x t. ReadsAsCrashed (doubting ops s) t)
        (IsLeft path batches next parts.synced sync result) (last_lone v s good run)
        (λ x t writes i held. shows_write x t writes i held) went

    pub append_shows : ImagesShowWrite good.story told ops s
    append_shows =
        went_wider (InFile run.sane.logs.last.id) (λ c. Unit {0}) (λ x t. ReadsAsCrashed (doubting ops s) t)
        (λ x t. ReadsAsCrashed (doubting ops s) t) (λ c is. tt) (λ x t is. is)
        (went_weaker (λ x. IsLeft path batches next parts.synced sync result x
        × (IsWritten x × IsLone x v.dir (Log run.parts.last.number) run.sane.logs.last.id)) (λ x. Unit {0}) (λ x is. tt) append_went)

  -- ---- halted

  -- a fault of the disk halts the store, and the batch is doubtful
  pub torn_good : (seen : Seen) (at : Halt) (story : Story) → seen.told ≡ Some story
      → WritesAt v.dir (Log run.parts.last.number) (state_of good.story) (state_of story)
      → IsTornWal (state_of story) (last_path v.dir run.parts) (last_batches run.parts)
      (next_batch v.kept ops) run.parts.synced → Good (halted_shown seen at v) (halted_state seen at (Some ops) s)
  torn_good seen at story told writes torn =
      let x : disk.State = state_of story in
      let all = beside v s good run x writes in
      let held = subst (λ (n : ℕ). HoldsFront path (batches ++ next ∷ []) n x (tree_now x))
      (sequence_length (first_in_last parts) parts.last.batches) (torn_now x path batches next parts.synced torn) in
      halts_good v s good run seen at (Some ops) story told (record {
        tables = all.sane.tables;
        now = stands_less (doubting ops s) (run.tied.flushed + (older + length parts.last.batches)) (length s.accepted)
            (tree_now x) (omega (arith, logged_many parts s run.tied))
            (stands x writes (tree_now x) (reads_image x) (length parts.last.batches) (synced_few v s good run)
            (omega (arith, more_many)) held);
        images = λ t i. shows_front x writes t i (torn_image x path batches next parts.synced torn t i);
        files = all.sane.files;
        synced = readable_synced x v.dir v.kept parts (readable_beside x v.dir v.kept parts (Log parts.last.number) all.sane
            (λ same. cc));
        pinned = all.pinned;
        folders = folders_beside v s good run x writes;
        clear = all.clear;
      })

  -- ---- accepted

  module _ (seen : Seen) (sync : Bool) (rows : List Row) (len : ℕ)
      (same : IsPermutation (v.kept.active ++ batch_rows (v.kept.sequence + 1) ops) rows)
      (newest_is : (key : List ℕ) → newest key rows ≡ newest key (v.kept.active ++ batch_rows (v.kept.sequence + 1) ops))
      (long : len ≡ v.kept.log_len + length (record_behind (last_batches run.parts) (next_batch v.kept ops))) where
    abbrev t : State
    t = grown_state seen ops sync len s

    abbrev w : Shown
    w = grown_shown seen ops rows len v

    abbrev new_parts : Parts
    new_parts = grown ops sync parts

    len_is : len ≡ length (wal_text (in_sequence (first_in_last parts) more))
    len_is =
        long
        ∙ ap (λ (n : ℕ). n + length (record_behind batches next)) run.works.log_len
        ∙ sym (length-append (wal_text batches) (record_behind batches next))
        ∙ ap (λ (l : List ℕ). length l) (sym (text_push batches next))
        ∙ ap (λ (l : List Logged). length (wal_text l)) batches_are

    grown_sane : (x : disk.State) → IsWritten x → IsWal x path (batches ++ next ∷ [])
        (durable_after sync parts.synced (batches ++ next ∷ [])) → Sane x v.dir (grown_kept ops rows len v.kept) new_parts
    grown_sane x writes wal =
        let is = (beside v s good run x writes).sane in
        let edits = is.edits (λ same. cc) in
        record {
          current = record { named = is.current.named; folder = is.current.folder; numbered = is.current.numbered; file = is.current.file };
          edits = record {
            are = edits.are;
            file = edits.file;
            len = edits.len;
            version = edits.version;
            log = edits.log;
            last = edits.last;
          };
          tables = record {
            each = λ number placed found. let table = is.tables.each number placed found in
                record {
                  numbered = table.numbered;
                  bytes = table.bytes;
                  file = table.file;
                  table = table.table;
                  size = table.size;
                  viewed = table.viewed;
                };
          };
          logs = record {
            numbers = is.logs.numbers ∙ numbers_push parts.older parts.last ∙ sym (numbers_push parts.older new_parts.last);
            ascend = is.logs.ascend;
            live = is.logs.live;
            older = is.logs.older;
            last = subst (λ (l : List Logged). IsWal x path l (durable_after sync parts.synced l)) batches_are wal;
            only = is.logs.only;
            frozen = is.logs.frozen;
            active = rows_grown (first_in_last parts) parts.last.batches ops (v.kept.sequence + 1) v.kept.active rows
                (next_is v s good run) run.sane.logs.active same newest_is;
          };
          quiet = record {
            spares = λ other fits held. is.quiet.spares other fits
                (held_same v.kept (v.kept.sequence + length ops) rows len other held);
          };
          known = record { there = is.known.there; all = is.known.all };
          files = is.files;
          lawful = is.lawful;
          written = record {
            tables = All-weaker (IsGiven x v.dir (Log parts.last.number))
                (λ (table : Unfinished). bytes_at (tree_now x) (path_in v.dir (Table table.number)) ≡ Some table.bytes)
                (λ table given. given (table_apart v.dir table.number parts.last.number)) v.kept.unfinished is.given;
            alone = is.alone;
          };
          restored = is.restored;
        }

    pin_grown : (kept : KeptPin) (pin : Pin) → IsKeptPin s kept pin → IsKeptPin t kept pin
    pin_grown kept pin is =
        let front : take pin.batches s.accepted ≡ take pin.batches (s.accepted ++ ops ∷ []) =
        sym (take-append-le pin.batches s.accepted (ops ∷ []) is.within) in
        record {
          number = is.number;
          sequence = is.sequence ∙ ap (sequence_after s.began) front;
          files = is.files;
          manifest = is.manifest;
          holder = is.holder;
          within = omega (arith, is.within, accepted_many);
          stands = subst (λ (l : List (List Op)). Stands (folder_of_pin kept.manifest pin.files) (replayed s.opening l)
              (sequence_after s.began l)) front is.stands;
        }

    grown_runs : (x : disk.State) → IsWritten x → IsWal x path (batches ++ next ∷ [])
        (durable_after sync parts.synced (batches ++ next ∷ [])) → IsRunning x w t
    grown_runs x writes wal =
        let tied = tied_grown parts s run.tied ops sync in
        let jobs = (beside v s good run x writes).jobs in
        record {
          parts = new_parts;
          sane = grown_sane x writes wal;
          tied = record {
            flushed = tied.flushed;
            within = tied.within;
            below = tied.below;
            last = tied.last;
            above = tied.above;
            durable = tied.durable;
          };
          works = record {
            active = omega (arith, run.works.active, more_many);
            frozen = run.works.frozen;
            log_len = len_is;
            older_len = run.works.older_len;
            active_len = refl;
            frozen_len = run.works.frozen_len;
            tables = run.works.tables;
            merging = run.works.merging;
            outputs = run.works.outputs;
            next = run.works.next;
            manifest_len = run.works.manifest_len;
          };
          jobs = record { apart = jobs.apart; each = jobs.each };
          certain = run.certain;
        }

    durable_counted : (sync : Bool) → (if sync then length s.accepted + 1 else s.durable) ≤ length (s.accepted ++ ops ∷ [])
    durable_counted true = omega (arith, accepted_many)
    durable_counted false = omega (arith, accepted_many, good.counted.durable)

    -- an appended batch is accepted
    pub grown_good : (story : Story) → seen.told ≡ Some story → v.halt ≡ None
        → WritesAt v.dir (Log run.parts.last.number) (state_of good.story) (state_of story)
        → IsWal (state_of story) (last_path v.dir run.parts) (last_batches run.parts ++ next_batch v.kept ops ∷ [])
        (durable_after sync run.parts.synced (last_batches run.parts ++ next_batch v.kept ops ∷ []))
        → Good (grown_shown seen ops rows len v) (grown_state seen ops sync len s)
    grown_good story told none writes wal =
        let x : disk.State = state_of story in
        let all = beside v s good run x writes in
        let read = folders_beside v s good run x writes in
        record {
          story = story;
          told = told;
          mode = subst (λ (h : Option Halt). IsInMode h x w t) (sym none) (grown_runs x writes wal);
          pinned = record { pins = pins_fit (IsKeptPin s) (IsKeptPin t) pin_grown v.kept.pins s.pins good.pinned.pins; files = all.pinned };
          folders = record { now = read.now; sure = read.sure };
          clear = all.clear;
          counted = record {
            durable = durable_counted sync;
            numbers = good.counted.numbers;
            fronts = All-weaker (λ (pin : Pin). pin.batches ≤ length s.accepted)
                (λ (pin : Pin). pin.batches ≤ length (s.accepted ++ ops ∷ []))
                (λ pin few. omega (arith, few, accepted_many)) s.pins good.counted.fronts;
            begun = good.counted.begun;
          };
          kept = record {
            own = good.kept.own;
            sequence = ap (λ (n : ℕ). n + length ops) good.kept.sequence ∙ sym (sequence_more s.began s.accepted ops);
            greatest_pin = good.kept.greatest_pin;
            disables = good.kept.disables;
            begun = good.kept.begun;
            halt = good.kept.halt;
          };
          counts = record { faults = refl; refusals = refl };
        }
