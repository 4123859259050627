-- The files that a cut lists of what a running store keeps stand for the accepted batches.
use Rattle.std.specs.Prelude.{◌≡◌, ℕ, ◌+◌, ◌-◌, ◌≤◌, Bool, false, cond, List, [], ◌∷◌, ◌++◌, map, take, drop, length, T, All, Option, Some, None, option_map, Ok}
use Rattle.std.proofs.Common.{refl, sym, ap, subst, ◌∙◌, arith, append_assoc}
use Rattle.std.proofs.lemmas.List.{append-nil, map-append, take_all}
use Rattle.std.proofs.lemmas.List.Elements.{All-nil, All-cons, All-append, All-head, All-tail}
use Rattle.std.specs.List.Sorted.{IsStrictlySortedBy}
use Rattle.std.specs.Ordering.{nat_cmp, eq_by_cmp}
use Rattle.std.specs.Cmp.{nat_cmp_total}
use Rattle.std.specs.FinMap as finmap
use Rattle.std.specs.FinMap.Entries.{below_all, is_sorted}
use Rattle.lsm_names.specs.FileNames.{IsFileName}
use Rattle.lsm_names.specs.declared.file_names.FileName.{FileName}
use Rattle.lsm_names.specs.declared.file_names.FileName.TheVariants.{Log, Table, Manifest, Current}
use Rattle.lsm_rows.specs.declared.operations.Op.{Op}
use Rattle.lsm_rows.specs.Replay.{Contents, replayed, sequence_after}
use Rattle.lsm_rows.specs.Rows.{rows_of}
use Rattle.lsm_rows.specs.Contents.{contents_of}
use Rattle.lsm_disk.specs.State.{State}
use Rattle.lsm_disk.specs.Images.{bytes_at, tree_now}
use Rattle.lsm_disk.specs.Dest.{path_in}
use Rattle.lsm_disk.proofs.Images.{reads_image}
use Rattle.lsm_disk.proofs.Kept.{kept_bytes}
use Rattle.lsm_wal.specs.Batches.{in_sequence, wal_text}
use Rattle.lsm_wal.specs.Standing.{IsWal}
use Rattle.lsm_wal.proofs.Fronts.{whole_reads}
use Rattle.lsm_wal.proofs.Images.{synced_image}
use Rattle.lsm_wal.proofs.Texts.{sequence_length}
use Rattle.lsm_folder.specs.Files.{Item, A_file, Files, bytes_in, file_at}
use Rattle.lsm_folder.specs.Names.{name_cmp, names_total, current_text}
use Rattle.lsm_folder.proofs.FileLemmas.{name_itself}
use Rattle.lsm_folder.proofs.LiveLemmas.{same_entries, all_below}
use Rattle.lsm_version.specs.declared.tables.Placed.{Placed}
use Rattle.lsm_version.specs.Levels.{Tables}
use Rattle.lsm_folder.specs.Manifests.{manifest_text, tables_after, log_after, last_after}
use Rattle.lsm_folder.specs.Needed.{Stands}
use Rattle.lsm_folder.specs.Parts.{HasParts, AreLogs, IsLog, all_of, rows_of_tables, rows_of_all}
use Rattle.lsm_folder.specs.Parts as reading
use Rattle.lsm_folder.proofs.AssembledLemmas.{found_first, found_later}
use Rattle.lsm_folder.proofs.ManifestLemmas.{manifest_written}
use Rattle.lsm_folder.proofs.PartsLemmas.{parts_stand}
use Rattle.lsm_model.specs.declared.cuts.Cut.{Cut}
use Rattle.lsm_model.specs.declared.cuts.CutFile.{CutFile}
use Rattle.lsm_model.specs.declared.cuts.FlushRule.{FlushRule}
use Rattle.lsm_model.specs.declared.events.Event.TheVariants as event
use Rattle.lsm_model.specs.declared.replies.Reply.TheVariants as reply
use Rattle.lsm_model.specs.States.{shown_at}
use Rattle.lsm_model.specs.declared.states.PinnedFile.{PinnedFile}
use Rattle.lsm_model.specs.declared.states.State as model
use Rattle.lsm_model.specs.Pins.{listed, held}
use Rattle.lsm_refine.specs.Kept.{Kept, Shown}
use Rattle.lsm_refine.specs.Parts.{LogPart, Parts, batches_in, first_logged, first_in_last}
use Rattle.lsm_refine.specs.Sane.{Sane, AreSynced, IsOlder}
use Rattle.lsm_refine.specs.Tied.{WorksAs}
use Rattle.lsm_refine.specs.Fronts.{texts_from, texts_with, last_text, batches_with}
use Rattle.lsm_refine.specs.Good.{IsRunning}
use Rattle.lsm_refine.specs.Listing.{table_listed, logs_listed, manifest_listed, files_listed, ListsLive}
use Rattle.lsm_refine.specs.Caused.{Caused, CausedBy}
use Rattle.lsm_refine.specs.ListedNow.{HasFewLogs, ListedStandNow}
use Rattle.lsm_refine.specs.Pins.{entry_of, folder_of_pin, IsPinned, PinFiles, ListedStand}
use Rattle.lsm_refine.proofs.FileLemmas.{whole_image}
use Rattle.lsm_refine.proofs.ListedFolder.{passed, logs_pass, log_found, bytes_or_none, now_of, table_pin, tables_pass, table_found}
use Rattle.lsm_refine.proofs.ListedLogs.{held_texts, held_batches, all_held, sorted_held, held_read, held_all, log_pin, logs_alike}
use Rattle.lsm_refine.proofs.LogLemmas.{numbers_in, sorted_by, found_has, numbers_are, logs_are}
use Rattle.lsm_refine.proofs.LastLogLemmas.{last_is, older_are}
use Rattle.lsm_refine.proofs.PartsLemmas.{readable}
use Rattle.lsm_refine.proofs.TiedLemmas.{tied_reads, logged_many}

-- ---- entries of a map

-- what holds of each pair that is found holds of each entry
each_entry : (P : ℕ × Placed → Type 0) (es : List (ℕ × Placed)) → T (is_sorted nat_cmp es)
    → ((number : ℕ) (placed : Placed) → finmap.find nat_cmp number es ≡ Some placed → P (number, placed)) → All P es
each_entry P [] sorted each = All-nil P
each_entry P (e ∷ es) sorted each =
    let parts = all_below (below_all nat_cmp e.0 es) (is_sorted nat_cmp es) sorted in
    All-cons P e es (each e.0 e.1 (found_first e es)) (each_entry P es parts.1
    (λ number placed is. each number placed (found_later e es number placed parts.0 is)))

-- what holds of each entry of a list holds of what a function makes of it
all_mapped : {A B : Type 0} (f : A → B) (P : B → Type 0) (xs : List A) → All (λ (x : A). P (f x)) xs → All P (map f xs)
all_mapped f P [] each = All-nil P
all_mapped f P (x ∷ xs) each = All-cons P (f x) (map f xs) (All-head (λ y. P (f y)) x xs each)
    (all_mapped f P xs (All-tail (λ y. P (f y)) x xs each))

file_bytes : (o : Option (List ℕ)) → bytes_in (option_map A_file o) ≡ o
file_bytes None = refl
file_bytes (Some bytes) = refl

-- ---- the files

module _ (d : State) (dir : List ℕ) (kept : Kept) (parts : Parts) (sane : Sane d dir kept parts) where
  abbrev tables : List (ℕ × Placed)
  tables = finmap.entries kept.version

  abbrev texts : List (ℕ × List ℕ)
  texts = texts_with parts (last_text parts)

  abbrev logs : List (ℕ × List ℕ)
  logs = held_texts texts

  abbrev manifest_pin : PinnedFile
  manifest_pin = record { name = Manifest kept.manifest; bytes = manifest_text parts.edits }

  -- the tables as they are now, the logs that aren't empty, and the manifest
  abbrev files : List PinnedFile
  files = map (table_pin d dir) tables ++ (map log_pin logs ++ manifest_pin ∷ [])

  table_now : (number : ℕ) (placed : Placed) → finmap.get kept.version number ≡ Some placed
      → (bytes : List ℕ) × (bytes_at (tree_now d) (path_in dir (Table number)) ≡ Some bytes) × (length bytes ≡ placed.info.size)
  table_now number placed is =
      let has = sane.tables.each number placed is in
      (has.bytes, whole_image d (path_in dir (Table number)) has.bytes has.file (tree_now d) (reads_image d), has.size)

  -- ---- they are there

  abbrev IsThere : PinnedFile → Type 0
  IsThere file = IsPinned d dir file

  there_now : (file : PinnedFile) → IsFileName file.name → bytes_at (tree_now d) (path_in dir file.name) ≡ Some file.bytes → IsThere file
  there_now file fits is = record { fits = fits; more = []; there = is ∙ ap Some (sym (append-nil file.bytes)) }

  tables_there : All IsThere (map (table_pin d dir) tables)
  tables_there = all_mapped (table_pin d dir) IsThere tables
      (each_entry (λ (e : ℕ × Placed). IsThere (table_pin d dir e)) tables (finmap.entries_sorted kept.version)
      (λ number placed is.
      let here = finmap.get-entries kept.version number ∙ is in
      let now = table_now number placed here in
      there_now (table_pin d dir (number, placed)) (sane.tables.each number placed here).numbered
      (now.1 ∙ ap Some (sym (ap bytes_or_none now.1)))))

  abbrev IsLogThere : ℕ × List ℕ → Type 0
  IsLogThere e = IsFileName (Log e.0) × (bytes_at (tree_now d) (path_in dir (Log e.0)) ≡ Some e.1)

  older_there : (first : ℕ) (older : List LogPart) (last : ℕ × List ℕ) → All (IsOlder kept parts.last.number) older
      → AreSynced d dir first older → IsLogThere last → All IsLogThere (texts_from first older ++ last ∷ [])
  older_there first [] last fits synced there = All-cons IsLogThere last [] there (All-nil IsLogThere)
  older_there first (log ∷ older) last fits synced there =
      All-cons IsLogThere (log.number, wal_text (in_sequence first log.batches))
      (texts_from (sequence_after first log.batches) older ++ last ∷ []) (
        (All-head (IsOlder kept parts.last.number) log older fits).0,
        synced_image d (path_in dir (Log log.number)) (in_sequence first log.batches)
            (subst (IsWal d (path_in dir (Log log.number)) (in_sequence first log.batches))
            (sym (sequence_length first log.batches)) synced.0) (tree_now d) (reads_image d),
      )
      (older_there (sequence_after first log.batches) older last (All-tail (IsOlder kept parts.last.number) log older fits) synced.1 there)

  last_there : IsLogThere (parts.last.number, last_text parts)
  last_there =
      let wal = sane.logs.last in
      let held = kept_bytes d (path_in dir (Log parts.last.number)) wal.id wal.file wal.kept in
      ((last_is d dir kept parts (readable d dir kept parts sane).logs).1, held.file.is_now ∙ ap Some (held.whole ∙ wal.text))

  texts_there : All IsLogThere texts
  texts_there = older_there (first_logged parts) parts.older (parts.last.number, last_text parts)
      (older_are d dir kept parts (readable d dir kept parts sane).logs) sane.logs.older last_there

  logs_there : All IsThere (map log_pin logs)
  logs_there = all_mapped log_pin IsThere logs (all_held (λ (e : ℕ × List ℕ). IsThere (log_pin e)) texts
      (λ k x within. there_now (log_pin _) (texts_there k x within).0 (texts_there k x within).1))

  manifest_there : IsThere manifest_pin
  manifest_there = there_now manifest_pin sane.current.numbered
      (whole_image d (path_in dir (Manifest kept.manifest)) (manifest_text parts.edits) sane.edits.file (tree_now d)
      (reads_image d))

  pub files_there : PinFiles d dir files
  files_there =
      All-append IsThere (map (table_pin d dir) tables) (map log_pin logs ++ manifest_pin ∷ []) tables_there
      (All-append IsThere (map log_pin logs) (manifest_pin ∷ []) logs_there
      (All-cons IsThere manifest_pin [] manifest_there (All-nil IsThere)))

  -- ---- their folder has the same parts

  abbrev folder : Files
  folder = folder_of_pin kept.manifest files

  abbrev Entries : Type 0
  Entries = List (FileName × Item)

  abbrev manifest_entry : Entries
  manifest_entry = entry_of manifest_pin ∷ []

  abbrev log_entries : Entries
  log_entries = map entry_of (map log_pin logs)

  abbrev table_entries : Entries
  table_entries = map entry_of (map (table_pin d dir) tables)

  entries_are : map entry_of files ≡ table_entries ++ (log_entries ++ manifest_entry)
  entries_are =
      map-append entry_of (map (table_pin d dir) tables) (map log_pin logs ++ manifest_pin ∷ [])
      ∙ ap (λ (l : Entries). table_entries ++ l) (map-append entry_of (map log_pin logs) (manifest_pin ∷ []))

  -- what is found under a name that isn't CURRENT's
  found_in : (name : FileName) → eq_by_cmp name_cmp name Current ≡ false
      → finmap.get folder name ≡ finmap.find name_cmp name (table_entries ++ (log_entries ++ manifest_entry))
  unfolding folder_of_pin
  found_in name other =
      finmap.get-from_entries names_total ((Current, A_file (current_text kept.manifest)) ∷ map entry_of files) name
      ∙ ap (λ (b : Bool). cond b (Some (A_file (current_text kept.manifest))) (finmap.find name_cmp name (map entry_of files))) other
      ∙ ap (λ (es : Entries). finmap.find name_cmp name es) entries_are

  current_at : file_at folder Current ≡ Some (current_text kept.manifest)
  unfolding folder_of_pin
  current_at = ap bytes_in
      (finmap.get-from_entries names_total ((Current, A_file (current_text kept.manifest)) ∷ map entry_of files) Current
      ∙ ap (λ (b : Bool). cond b (Some (A_file (current_text kept.manifest)))
      (finmap.find name_cmp Current (map entry_of files))) (name_itself Current))

  manifest_at : file_at folder (Manifest kept.manifest) ≡ Some (manifest_text parts.edits)
  manifest_at = ap bytes_in
      (found_in (Manifest kept.manifest) refl
      ∙ passed (Manifest kept.manifest) table_entries (log_entries ++ manifest_entry)
      (tables_pass d dir (Manifest kept.manifest) tables (λ number. refl))
      ∙ passed (Manifest kept.manifest) log_entries manifest_entry (logs_pass (Manifest kept.manifest) logs (λ number. refl))
      ∙ ap (λ (b : Bool). cond b (Some (A_file (manifest_text parts.edits))) None) (name_itself (Manifest kept.manifest)))

  log_at : (number : ℕ) → file_at folder (Log number) ≡ finmap.find nat_cmp number logs
  log_at number =
      ap bytes_in
      (found_in (Log number) refl
      ∙ passed (Log number) table_entries (log_entries ++ manifest_entry) (tables_pass d dir (Log number) tables (λ n. refl))
      ∙ log_found number logs manifest_entry refl)
      ∙ file_bytes (finmap.find nat_cmp number logs)

  table_at : (number : ℕ) (placed : Placed) → finmap.get kept.version number ≡ Some placed
      → file_at folder (Table number) ≡ Some (now_of d dir number)
  table_at number placed is = ap bytes_in
      (found_in (Table number) refl
      ∙ table_found d dir number placed tables (log_entries ++ manifest_entry) (sym (finmap.get-entries kept.version number) ∙ is))

  table_there : (number : ℕ) (placed : Placed) → finmap.get (tables_after parts.edits) number ≡ Some placed
      → reading.HasTable folder number placed (parts.rows number)
  table_there number placed is =
      let live : finmap.get kept.version number ≡ Some placed =
      ap (λ (tables : Tables). finmap.get tables number) sane.edits.version ∙ is in
      let has = sane.tables.each number placed live in
      record {
        bytes = has.bytes;
        there = table_at number placed live ∙ ap Some (ap bytes_or_none
            (whole_image d (path_in dir (Table number)) has.bytes has.file (tree_now d) (reads_image d)));
        table = has.table;
        size = has.size;
      }

  -- ---- its logs

  numbers : kept.logs ≡ numbers_in texts
  numbers = sane.logs.numbers ∙ sym (numbers_are (first_logged parts) parts.older parts.last (last_text parts))

  logs_sorted : T (is_sorted nat_cmp logs)
  logs_sorted = sorted_held texts (sorted_by texts (subst (IsStrictlySortedBy nat_cmp) numbers sane.logs.ascend))

  log_entries_are : finmap.entries (finmap.from_entries {R = nat_cmp} logs) ≡ logs
  log_entries_are = same_entries nat_cmp nat_cmp_total logs logs_sorted finmap.nat_cmp-IsAntisymmetric

  logs_live : All (λ (e : ℕ × List ℕ). kept.log ≤ e.0) logs
  logs_live = all_held (λ (e : ℕ × List ℕ). kept.log ≤ e.0) texts
      (as_entries texts (subst (All (λ (n : ℕ). (kept.log ≤ n) × IsFileName (Log n))) numbers sane.logs.live))
    where
      as_entries : (some : List (ℕ × List ℕ)) → All (λ (n : ℕ). (kept.log ≤ n) × IsFileName (Log n)) (numbers_in some)
          → All (λ (e : ℕ × List ℕ). kept.log ≤ e.0) some
      as_entries [] each = All-nil (λ (e : ℕ × List ℕ). kept.log ≤ e.0)
      as_entries (e ∷ some) each =
          All-cons (λ (x : ℕ × List ℕ). kept.log ≤ x.0) e some
          (All-head (λ (n : ℕ). (kept.log ≤ n) × IsFileName (Log n)) e.0 (numbers_in some) each).0
          (as_entries some (All-tail (λ (n : ℕ). (kept.log ≤ n) × IsFileName (Log n)) e.0 (numbers_in some) each))

  found_log : (number : ℕ) → finmap.get (finmap.from_entries {R = nat_cmp} logs) number ≡ finmap.find nat_cmp number logs
  found_log number = finmap.get-from_entries nat_cmp_total logs number

  has_logs : reading.HasLogs folder (log_after parts.edits) (finmap.from_entries logs)
  has_logs = record {
    there = λ number least. log_at number ∙ sym (found_log number);
    live = λ number bytes is.
        subst (λ (n : ℕ). n ≤ number) sane.edits.log (found_has
        (λ (n : ℕ) (b : List ℕ). kept.log ≤ n) logs number bytes logs_live (sym (found_log number) ∙ is));
  }

  abbrev batches : List (List (List Op))
  batches = batches_with parts parts.last.batches

  all_read : AreLogs (first_logged parts) texts batches
  all_read = logs_are d dir (first_logged parts) parts.older parts.last.number (last_text parts) parts.last.batches sane.logs.older
      (record { torn = None; reading = whole_reads (first_in_last parts) parts.last.batches sane.logs.last.each; ends = refl })

  has_parts : HasParts folder parts.edits parts.rows (finmap.from_entries logs) (held_batches texts batches)
  has_parts = record {
    manifest = kept.manifest;
    numbered = sane.current.numbered;
    current = current_at;
    text = manifest_text parts.edits;
    there = manifest_at;
    edits_are = manifest_written parts.edits sane.edits.are;
    tables = table_there;
    has_logs = has_logs;
    logs_are = subst (λ (es : List (ℕ × List ℕ)). AreLogs (first_logged parts) es (held_batches texts batches)) (sym log_entries_are)
        (held_read (first_logged parts) texts batches all_read);
  }

  pub folder_stands : Stands folder (contents_of (rows_of_all parts.edits parts.rows batches))
      (sequence_after (last_after parts.edits) (all_of batches))
  folder_stands =
      subst (λ (l : List (List Op)). Stands folder (contents_of
      (rows_of_tables (tables_after parts.edits) parts.rows ++ rows_of (first_logged parts) l))
      (sequence_after (last_after parts.edits) l))
      (held_all (first_logged parts) texts batches all_read)
      (parts_stand folder parts.edits parts.rows (finmap.from_entries logs) (held_batches texts batches) has_parts sane.lawful)

  -- ---- as a cut lists them

  module _ (s : model.State) (works : WorksAs kept parts s) (few : HasFewLogs kept) where
    abbrev Listed : Type 0
    Listed = List (FileName × ℕ)

    tables_alike : map listed (map table_listed tables) ≡ map held (map (table_pin d dir) tables)
    tables_alike = each_alike tables
        (each_entry (λ (e : ℕ × Placed). listed (table_listed e) ≡ held (table_pin d dir e)) tables (finmap.entries_sorted kept.version)
        (λ number placed is.
        let now = table_now number placed (finmap.get-entries kept.version number ∙ is) in
        ap (λ (n : ℕ). (Table number, n)) (sym (ap (λ (o : Option (List ℕ)). length (bytes_or_none o)) now.1 ∙ now.2))))
      where
        each_alike : (es : List (ℕ × Placed)) → All (λ (e : ℕ × Placed). listed (table_listed e) ≡ held (table_pin d dir e)) es
            → map listed (map table_listed es) ≡ map held (map (table_pin d dir) es)
        each_alike [] each = refl
        each_alike (e ∷ es) each =
            ap (λ (x : FileName × ℕ). x ∷ map listed (map table_listed es))
            (All-head (λ (x : ℕ × Placed). listed (table_listed x) ≡ held (table_pin d dir x)) e es each)
            ∙ ap (λ (l : Listed). held (table_pin d dir e) ∷ l)
            (each_alike es (All-tail (λ (x : ℕ × Placed). listed (table_listed x) ≡ held (table_pin d dir x)) e es each))

    abbrev older_listed : List CutFile
    older_listed = logs_listed kept.older_len (take (length kept.logs - 1) kept.logs)

    abbrev last_listed : List CutFile
    last_listed = logs_listed kept.log_len (drop (length kept.logs - 1) kept.logs)

    logs_same : map listed (older_listed ++ last_listed) ≡ map held (map log_pin logs)
    logs_same =
        subst (λ (ns : List ℕ). map listed (logs_listed kept.older_len (take (length ns - 1) ns)
        ++ logs_listed kept.log_len (drop (length ns - 1) ns)) ≡ map held (map log_pin logs))
        (sym sane.logs.numbers)
        (logs_alike (first_logged parts) parts.last (last_text parts) parts.older kept.older_len kept.log_len
        (subst (λ (ns : List ℕ). length ns ≤ 2) sane.logs.numbers few) works.older_len works.log_len)

    manifest_same : listed (manifest_listed kept) ≡ held manifest_pin
    manifest_same = ap (λ (n : ℕ). (Manifest kept.manifest, n)) sane.edits.len

    pub files_alike : map listed (files_listed kept) ≡ map held files
    files_alike =
        map-append listed (map table_listed tables) (older_listed ++ (last_listed ++ manifest_listed kept ∷ []))
        ∙ ap (λ (l : List CutFile). map listed (map table_listed tables) ++ map listed l)
        (sym (append_assoc older_listed last_listed (manifest_listed kept ∷ [])))
        ∙ ap (λ (l : Listed). map listed (map table_listed tables) ++ l)
        (map-append listed (older_listed ++ last_listed) (manifest_listed kept ∷ []))
        ∙ ap (λ (l : Listed). map listed (map table_listed tables) ++ (l ++ listed (manifest_listed kept) ∷ [])) logs_same
        ∙ ap (λ (x : FileName × ℕ). map listed (map table_listed tables) ++ (map held (map log_pin logs) ++ x ∷ [])) manifest_same
        ∙ ap (λ (l : Listed). l ++ (map held (map log_pin logs) ++ held manifest_pin ∷ [])) tables_alike
        ∙ ap (λ (l : Listed). map held (map (table_pin d dir) tables) ++ l) (sym (map-append held (map log_pin logs) (manifest_pin ∷ [])))
        ∙ sym (map-append held (map (table_pin d dir) tables) (map log_pin logs ++ manifest_pin ∷ []))

-- ---- the law

pub listed_stand : (d : State) (v : Shown) (s : model.State) → IsRunning d v s → HasFewLogs v.kept → ListedStandNow d v s
listed_stand d v s is few =
    let parts : Parts = is.parts in
    let last : List (List Op) = parts.last.batches in
    let all : take (length last) last ≡ last = take_all (length last) last (omega arith) in
    let synced : parts.synced ≤ length last = subst (λ (n : ℕ). parts.synced ≤ n)
    (sequence_length (first_in_last parts) last) is.sane.logs.last.within in
    let shows = tied_reads parts s is.sane.lawful is.tied (length last) synced in
    let accepted : take (is.tied.flushed + (length (batches_in parts.older) + length last)) s.accepted
    ≡ take (length s.accepted) s.accepted =
    ap (λ (n : ℕ). take n s.accepted) (logged_many parts s is.tied) in
    let contents : contents_of (rows_of_all parts.edits parts.rows (batches_with parts last))
    ≡ replayed s.opening (take (length s.accepted) s.accepted) =
    ap (λ (l : List (List Op)). contents_of (rows_of_all parts.edits parts.rows (batches_with parts l)))
    (sym all) ∙ shows.contents ∙ ap (replayed s.opening) accepted in
    let sequence : sequence_after (last_after parts.edits) (all_of (batches_with parts last))
    ≡ sequence_after s.began (take (length s.accepted) s.accepted) =
    ap (λ (l : List (List Op)). sequence_after (last_after parts.edits) (all_of (batches_with parts l)))
    (sym all) ∙ shows.sequence ∙ ap (sequence_after s.began) accepted in
    let there : Files = folder_of_pin v.kept.manifest (files d v.dir v.kept parts is.sane) in
    record {
      files = files d v.dir v.kept parts is.sane;
      are = files_alike d v.dir v.kept parts is.sane s is.works few;
      there = files_there d v.dir v.kept parts is.sane;
      stands =
          subst (λ (n : ℕ). Stands there (replayed s.opening (take (length s.accepted) s.accepted)) n) sequence
          (subst (λ (m : Contents). Stands there m (sequence_after (last_after parts.edits) (all_of (batches_with parts last)))) contents
          (folder_stands d v.dir v.kept parts is.sane));
    }

-- ---- a cut

pub cut_lists : (v w : Shown) (rule : FlushRule) (cut : Cut) → Caused v (event.Cut rule) (reply.Cut (Ok cut)) w → ListsLive w.kept cut
unfolding CausedBy
cut_lists v w rule cut c =
    let done = c.by.1 in
    subst (λ (k : Kept). ListsLive k cut) (sym done.rest) (record { manifest = done.lists.manifest; files = done.lists.files })

pub cut_stands_now : (d : State) (v w : Shown) (s : model.State) (rule : FlushRule) (cut : Cut)
    → Caused v (event.Cut rule) (reply.Cut (Ok cut)) w → IsRunning d w s → HasFewLogs w.kept → ListedStand cut s
cut_stands_now d v w s rule cut c is few =
    let lists = cut_lists v w rule cut c in
    let now = listed_stand d w s is few in
    record {
      files = now.files;
      are = ap (map listed) lists.files ∙ now.are;
      stands = subst (λ (m : ℕ). Stands (folder_of_pin m now.files) (shown_at s (length s.accepted)).contents
          (shown_at s (length s.accepted)).sequence) (sym lists.manifest) now.stands;
    }
