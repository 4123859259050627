-- The store's folder in each image, from what a running store keeps of it.
use Rattle.std.specs.Prelude.{◌≡◌, ◌≢◌, ℕ, ◌≤◌, true, false, List, [], ◌∷◌, ◌++◌, take, length, All, Option, Some, None}
use Rattle.std.proofs.Common.{⊎_elim, inl, refl, sym, ap, subst, ◌∙◌}
use Rattle.std.proofs.lemmas.List.Elements.{All-nil, All-cons, All-contains, All-head, All-tail}
use Rattle.std.specs.List.Sorted.{IsStrictlySortedBy}
use Rattle.std.specs.Ordering.{nat_cmp}
use Rattle.std.specs.Cmp.{nat_cmp_total}
use Rattle.std.specs.FinMap as finmap
use Rattle.lsm_names.specs.FileNames.{IsFileName, is_file_number}
use Rattle.lsm_names.specs.declared.file_names.FileName.{FileName}
use Rattle.lsm_names.specs.declared.file_names.FileName.TheVariants.{Log, Table, Manifest, Current}
use Rattle.lsm_rows.specs.declared.operations.Op.{Op}
use Rattle.lsm_rows.specs.Replay.{sequence_after}
use Rattle.lsm_disk.specs.Names.{id_of}
use Rattle.lsm_disk.specs.State.{State}
use Rattle.lsm_disk.specs.Images.{Tree, IsImage, bytes_at, tree_now}
use Rattle.lsm_disk.specs.Dest.{path_in}
use Rattle.lsm_disk.proofs.Images.{reads_image}
use Rattle.lsm_disk.proofs.Kept.{kept_bytes}
use Rattle.lsm_wal.specs.Batches.{IsLogged, in_sequence, wal_text}
use Rattle.lsm_wal.specs.Standing.{IsWal, HoldsFront}
use Rattle.lsm_wal.proofs.Fronts.{image_reads, whole_reads}
use Rattle.lsm_wal.proofs.Images.{wal_image, synced_image}
use Rattle.lsm_wal.proofs.Texts.{sequence_length}
use Rattle.lsm_folder.specs.Files.{Files, files_in, file_at}
use Rattle.lsm_folder.proofs.LiveLemmas.{same_entries}
use Rattle.lsm_version.specs.declared.tables.Placed.{Placed}
use Rattle.lsm_version.specs.Levels.{Tables}
use Rattle.lsm_folder.specs.Manifests.{manifest_text, tables_after, log_after}
use Rattle.lsm_folder.specs.Parts.{HasParts, IsLog, AreLogs}
use Rattle.lsm_folder.specs.Parts as reading
use Rattle.lsm_folder.proofs.ManifestLemmas.{manifest_written}
use Rattle.lsm_refine.specs.Kept.{Kept}
use Rattle.lsm_refine.specs.Parts.{LogPart, Parts, first_logged, first_in_last}
use Rattle.lsm_refine.specs.Sane.{AreSynced, Sane}
use Rattle.lsm_refine.specs.Beside.{HasLast, last_path, last_batches, IsReadable, SaneBeside}
use Rattle.lsm_refine.specs.Fronts.{texts_from, texts_with, logs_with, last_text, batches_with, HasFirst}
use Rattle.lsm_refine.proofs.FileLemmas.{whole_image, quiet_image, file_there, file_gone, file_never}
use Rattle.lsm_refine.proofs.LogLemmas.{numbers_in, sorted_by, found_has, not_among, numbers_are, last_may, logs_are, take_taken, taken_enough}
use Rattle.lsm_names.proofs.FolderLemmas.{folder_has_bytes}
use Rattle.lsm_wal.proofs.Once.{taken_few}

-- the text of a log that is synced as a whole
synced_text : (d : State) (path : List ℕ) (first : ℕ) (batches : List (List Op))
    → IsWal d path (in_sequence first batches) (length batches) → (t : Tree) → IsImage d t
    → bytes_at t path ≡ Some (wal_text (in_sequence first batches))
synced_text d path first batches wal t i = synced_image d path (in_sequence first batches)
    (subst (IsWal d path (in_sequence first batches)) (sym (sequence_length first batches)) wal) t i

-- the numbers of these logs are those of files
abbrev AreNumbered : List ℕ → Type 0
AreNumbered numbers = All (λ (n : ℕ). IsFileName (Log n)) numbers

-- a running store's folder reads by what it keeps
pub readable : (d : State) (dir : List ℕ) (kept : Kept) (parts : Parts) → Sane d dir kept parts → IsReadable d dir kept parts
readable d dir kept parts sane = record {
  current = sane.current;
  edits = sane.edits;
  tables = sane.tables;
  logs = record {
    numbers = sane.logs.numbers;
    ascend = sane.logs.ascend;
    live = sane.logs.live;
    older = sane.logs.older;
    only = sane.logs.only;
    frozen = sane.logs.frozen;
  };
  quiet = λ number least fits. sane.quiet.spares (Log number) fits (inl least);
}

-- also while another file than its manifest is written
pub readable_beside : (d : State) (dir : List ℕ) (kept : Kept) (parts : Parts) (name : FileName)
    → SaneBeside d dir kept parts name → name ≢ Manifest kept.manifest → IsReadable d dir kept parts
readable_beside d dir kept parts name sane other = record {
  current = sane.current;
  edits = sane.edits other;
  tables = sane.tables;
  logs = sane.logs;
  quiet = λ number least fits. sane.quiet.spares (Log number) fits (inl least);
}

-- The folder in an image, whose last log has this text, which reads to these batches: they need not be those of the parts.
module _ (d : State) (dir : List ℕ) (kept : Kept) (parts : Parts) (reads : IsReadable d dir kept parts) (t : Tree) (i : IsImage d t) where
  abbrev files : Files
  files = files_in dir t

  named : 1 ≤ length dir
  named = folder_has_bytes dir reads.current.named

  abbrev IsThere : ℕ → List ℕ → Type 0
  IsThere number bytes = file_at files (Log number) ≡ Some bytes

  older_there : (first : ℕ) (older : List LogPart) (last : ℕ × List ℕ) → AreSynced d dir first older
      → AreNumbered (numbers_in (texts_from first older ++ last ∷ [])) → IsThere last.0 last.1
      → All (λ (e : ℕ × List ℕ). IsThere e.0 e.1) (texts_from first older ++ last ∷ [])
  older_there first [] last synced numbered there = All-cons (λ (e : ℕ × List ℕ). IsThere e.0 e.1) last [] there
      (All-nil (λ (e : ℕ × List ℕ). IsThere e.0 e.1))
  older_there first (log ∷ older) last synced numbered there =
      let rest : List (ℕ × List ℕ) = texts_from (sequence_after first log.batches) older ++ last ∷ [] in
      All-cons (λ (e : ℕ × List ℕ). IsThere e.0 e.1) (log.number, wal_text (in_sequence first log.batches)) rest
      (file_there dir t (Log log.number) (wal_text (in_sequence first log.batches)) named
      (All-head (λ (n : ℕ). IsFileName (Log n)) log.number (numbers_in rest) numbered)
      (synced_text d (path_in dir (Log log.number)) first log.batches synced.0 t i))
      (older_there (sequence_after first log.batches) older last synced.1
      (All-tail (λ (n : ℕ). IsFileName (Log n)) log.number (numbers_in rest) numbered) there)

  module _ (text : List ℕ) (read : List (List Op)) (there : bytes_at t (path_in dir (Log parts.last.number)) ≡ Some text)
      (is_log : IsLog true (first_in_last parts) text read) where
    abbrev es : List (ℕ × List ℕ)
    es = texts_with parts text

    numbers : kept.logs ≡ numbers_in es
    numbers = reads.logs.numbers ∙ sym (numbers_are (first_logged parts) parts.older parts.last text)

    live : All (λ (n : ℕ). (kept.log ≤ n) × IsFileName (Log n)) (numbers_in es)
    live = subst (All (λ (n : ℕ). (kept.log ≤ n) × IsFileName (Log n))) numbers reads.logs.live

    numbered : AreNumbered (numbers_in es)
    numbered = λ k x lt. (live k x lt).1

    last_numbered : IsFileName (Log parts.last.number)
    last_numbered = by_push (texts_from (first_logged parts) parts.older) numbered
      where
        by_push : (front : List (ℕ × List ℕ)) → AreNumbered (numbers_in (front ++ (parts.last.number, text) ∷ []))
            → IsFileName (Log parts.last.number)
        by_push [] each = All-head (λ (n : ℕ). IsFileName (Log n)) parts.last.number [] each
        by_push (e ∷ front) each = by_push front (All-tail (λ (n : ℕ). IsFileName (Log n)) e.0
            (numbers_in (front ++ (parts.last.number, text) ∷ [])) each)

    all_there : All (λ (e : ℕ × List ℕ). IsThere e.0 e.1) es
    all_there = older_there (first_logged parts) parts.older (parts.last.number, text) reads.logs.older numbered
        (file_there dir t (Log parts.last.number) text named last_numbered there)

    entries_are : finmap.entries (logs_with parts text) ≡ es
    entries_are = same_entries nat_cmp nat_cmp_total es (sorted_by es
        (subst (IsStrictlySortedBy nat_cmp) numbers reads.logs.ascend)) finmap.nat_cmp-IsAntisymmetric

    found_is : (number : ℕ) → finmap.get (logs_with parts text) number ≡ finmap.find nat_cmp number es
    found_is number = finmap.get-from_entries nat_cmp_total es number

    -- a log that isn't live isn't there
    gone : (number : ℕ) → kept.log ≤ number → IsFileName (Log number) → finmap.find nat_cmp number es ≡ None
        → file_at files (Log number) ≡ None
    gone number least fits none =
        let path : List ℕ = path_in dir (Log number) in
        ⊎_elim
        (λ among. absurd (All-contains (λ (n : ℕ). n ≢ number) kept.logs number
        (subst (All (λ (n : ℕ). n ≢ number)) (sym numbers) (not_among es number none)) among refl))
        (λ free. file_gone dir t (Log number) named fits (ap id_of (quiet_image d path (reads.quiet number least fits) t i) ∙ free))
        (reads.logs.only number least fits)

    missing : (number : ℕ) → kept.log ≤ number → finmap.find nat_cmp number es ≡ None → file_at files (Log number) ≡ None
    missing number least none =
        elim (is_file_number number) as (λ b. is_file_number number ≡ b → file_at files (Log number) ≡ None) [
          | true ↦ λ fits. gone number least fits none
          | false ↦ λ never. file_never dir t (Log number) named (λ fits. let clash : false ≡ true = sym never ∙ fits in absurd (cc))
        ] refl

    log_at : (number : ℕ) → kept.log ≤ number → (o : Option (List ℕ)) → finmap.find nat_cmp number es ≡ o → file_at files (Log number) ≡ o
    log_at number least None none = missing number least none
    log_at number least (Some bytes) is = found_has IsThere es number bytes all_there is

    has_logs : reading.HasLogs files (log_after parts.edits) (logs_with parts text)
    has_logs = record {
      there = λ number least. log_at number (subst (λ (n : ℕ). n ≤ number) (sym reads.edits.log) least)
          (finmap.find nat_cmp number es) refl ∙ sym (found_is number);
      live = λ number bytes is.
          subst (λ (n : ℕ). n ≤ number) reads.edits.log
          (found_has (λ (n : ℕ) (b : List ℕ). kept.log ≤ n) es number bytes (as_entries es live) (sym (found_is number) ∙ is));
    }
      where
        as_entries : (some : List (ℕ × List ℕ)) → All (λ (n : ℕ). (kept.log ≤ n) × IsFileName (Log n)) (numbers_in some)
            → All (λ (e : ℕ × List ℕ). kept.log ≤ e.0) some
        as_entries [] each = All-nil (λ (e : ℕ × List ℕ). kept.log ≤ e.0)
        as_entries (e ∷ some) each =
            All-cons (λ (x : ℕ × List ℕ). kept.log ≤ x.0) e some
            (All-head (λ (n : ℕ). (kept.log ≤ n) × IsFileName (Log n)) e.0 (numbers_in some) each).0
            (as_entries some (All-tail (λ (n : ℕ). (kept.log ≤ n) × IsFileName (Log n)) e.0 (numbers_in some) each))

    table_there : (number : ℕ) (placed : Placed) → finmap.get (tables_after parts.edits) number ≡ Some placed
        → reading.HasTable files number placed (parts.rows number)
    table_there number placed is =
        let has = reads.tables.each number placed (ap (λ (tables : Tables). finmap.get tables number) reads.edits.version ∙ is) in
        record {
          bytes = has.bytes;
          there = file_there dir t (Table number) has.bytes named has.numbered
              (whole_image d (path_in dir (Table number)) has.bytes has.file t i);
          table = has.table;
          size = has.size;
        }

    pub has_parts : HasParts files parts.edits parts.rows (logs_with parts text) (batches_with parts read)
    has_parts = record {
      manifest = kept.manifest;
      numbered = reads.current.numbered;
      current = file_there dir t Current _ named tt (whole_image d (path_in dir Current) _ reads.current.file t i);
      text = manifest_text parts.edits;
      there = file_there dir t (Manifest kept.manifest) _ named reads.current.numbered
          (whole_image d (path_in dir (Manifest kept.manifest)) _ reads.edits.file t i);
      edits_are = manifest_written parts.edits reads.edits.are;
      tables = table_there;
      has_logs = has_logs;
      logs_are = subst (λ (logs : List (ℕ × List ℕ)). AreLogs (first_logged parts) logs (batches_with parts read)) (sym entries_are)
          (logs_are d dir (first_logged parts) parts.older parts.last.number text read reads.logs.older is_log);
    }

  -- where what the image has of the last log reads to a front of these batches, the folder has them
  pub first_of : (batches : List (List Op)) (least : ℕ) → All IsLogged (in_sequence (first_in_last parts) batches) → least ≤ length batches
      → HoldsFront (path_in dir (Log parts.last.number)) (in_sequence (first_in_last parts) batches) least d t
      → (count : ℕ) × (text : List ℕ) × (least ≤ count) × (count ≤ length batches)
      × HasParts (files_in dir t) parts.edits parts.rows (logs_with parts text) (batches_with parts (take count batches))
  first_of batches least each within held =
      let path : List ℕ = path_in dir (Log parts.last.number) in
      let front = image_reads (first_in_last parts) path batches least d t each held in
      let count : ℕ = front.front_of.count in
      let read : front.read ≡ take (length (take count batches)) batches = front.front_of.is ∙ sym (take_taken count batches) in
      let log : IsLog true (first_in_last parts) held.bytes front.read =
      record { torn = front.torn; reading = front.reading; ends = last_may front.torn } in (
        length (take count batches),
        held.bytes,
        taken_enough least count batches front.front_of.enough within,
        taken_few count batches,
        has_parts held.bytes (take (length (take count batches)) batches) held.is
            (subst (IsLog true (first_in_last parts) held.bytes) read log),
      )

module _ (d : State) (dir : List ℕ) (kept : Kept) (parts : Parts) (reads : IsReadable d dir kept parts)
    (last : HasLast d dir parts parts.synced) where
  -- in each image the last log has a front of its batches
  pub first_in : (t : Tree) → IsImage d t → HasFirst dir parts t
  first_in t i =
      let held = wal_image d (last_path dir parts) (last_batches parts) parts.synced last t i in
      let within : parts.synced ≤ length parts.last.batches =
      subst (λ (n : ℕ). parts.synced ≤ n) (sequence_length (first_in_last parts) parts.last.batches) last.within in
      let first = first_of d dir kept parts reads t i parts.last.batches parts.synced last.each within held in
      record { count = first.0; enough = first.2; within = first.3; text = first.1; has = first.4 }

  -- now it has all of them
  pub all_in : HasParts (files_in dir (tree_now d)) parts.edits parts.rows (logs_with parts (last_text parts))
      (batches_with parts parts.last.batches)
  all_in =
      let held = kept_bytes d (last_path dir parts) last.id last.file last.kept in
      has_parts d dir kept parts reads (tree_now d) (reads_image d) (last_text parts) parts.last.batches
      (held.file.is_now ∙ ap Some (held.whole ∙ last.text))
      (record { torn = None; reading = whole_reads (first_in_last parts) parts.last.batches last.each; ends = refl })

pub has_first : (d : State) (dir : List ℕ) (kept : Kept) (parts : Parts) → Sane d dir kept parts → (t : Tree) → IsImage d t
    → HasFirst dir parts t
has_first d dir kept parts sane = first_in d dir kept parts (readable d dir kept parts sane) sane.logs.last

pub has_all : (d : State) (dir : List ℕ) (kept : Kept) (parts : Parts) → Sane d dir kept parts
    → HasParts (files_in dir (tree_now d)) parts.edits parts.rows (logs_with parts (last_text parts))
    (batches_with parts parts.last.batches)
has_all d dir kept parts sane = all_in d dir kept parts (readable d dir kept parts sane) sane.logs.last
