-- So it is good for its state.
use Rattle.std.specs.Prelude.{◌≡◌, ℕ, ◌≤◌, true, false, cond, List, [], ◌∷◌, map, Some, None}
use Rattle.std.proofs.Common.{refl, sym, ap, subst, ◌∙◌, arith}
use Rattle.std.proofs.lemmas.List.{append-nil}
use Rattle.std.proofs.lemmas.List.Elements.{All-nil, All-cons}
use Rattle.std.specs.List.{IsDistinct}
use Rattle.std.specs.Ordering.{nat_cmp, eq_by_cmp}
use Rattle.std.specs.Cmp.{nat_cmp_total}
use Rattle.std.specs.FinMap as finmap
use Rattle.lsm_names.specs.Folders.{is_folder_name}
use Rattle.lsm_names.specs.FileNames.{IsFileName}
use Rattle.lsm_names.specs.declared.file_names.FileName.{FileName}
use Rattle.lsm_names.specs.declared.file_names.FileName.TheVariants.{Log, Table, Manifest, Current}
use Rattle.lsm_rows.specs.declared.operations.Op.{Op}
use Rattle.lsm_rows.specs.Contents.{contents_of}
use Rattle.lsm_rows.specs.Replay.{Contents, replayed}
use Rattle.lsm_disk.specs.State as disk
use Rattle.lsm_disk.specs.State.{Story, state_of}
use Rattle.lsm_disk.specs.Images.{IsImage, tree_now}
use Rattle.lsm_disk.specs.Dest.{path_in}
use Rattle.lsm_disk.proofs.Images.{reads_image}
use Rattle.lsm_folder.specs.Files.{Item, A_file, Files, bytes_in, file_at}
use Rattle.lsm_folder.specs.Names.{name_cmp, names_total, current_text}
use Rattle.lsm_version.specs.Versions.{numbers_after}
use Rattle.lsm_version.specs.declared.tables.Placed.{Placed}
use Rattle.lsm_folder.specs.Manifests.{last_after}
use Rattle.lsm_folder.specs.Needed.{Stands}
use Rattle.lsm_folder.specs.Parts.{HasParts, rows_of_all}
use Rattle.lsm_folder.specs.Parts as reading
use Rattle.lsm_folder.proofs.ManifestLemmas.{manifest_written}
use Rattle.lsm_folder.proofs.PartsLemmas.{parts_stand}
use Rattle.lsm_model.specs.declared.states.FolderRead.{FolderRead}
use Rattle.lsm_model.specs.declared.states.Pin.{Pin}
use Rattle.lsm_model.specs.declared.states.PinnedFile.{PinnedFile}
use Rattle.lsm_model.specs.declared.states.Holder.TheVariants.{Caller}
use Rattle.lsm_model.specs.States.{shown_at}
use Rattle.lsm_refine.specs.Disks.{untouched}
use Rattle.lsm_refine.specs.Kept.{Shown}
use Rattle.lsm_refine.specs.Settled.{IsSettled}
use Rattle.lsm_refine.specs.Openings.{ReopensTo, HasOpened}
use Rattle.lsm_refine.specs.Sane.{IsWholeFile}
use Rattle.lsm_refine.specs.Tied.{Tied, WorksAs, live_table}
use Rattle.lsm_refine.specs.Fronts.{logs_with, last_text, texts_with, batches_with}
use Rattle.lsm_refine.specs.Pins.{IsPinned, PinFiles, IsKeptPin, folder_of_pin, JobsBuild}
use Rattle.lsm_refine.specs.Folders.{FoldersRead}
use Rattle.lsm_refine.specs.Good.{Good}
use Rattle.lsm_refine.specs.Witness.{tabled, older, newer, its_table, older_log, last_log, its_row, its_placed, its_manifest, its_files, its_disk, its_parts, its_kept, its_pin, pinned_files, its_state, its_store}
use Rattle.lsm_refine.proofs.CrashLemmas.{list_folders}
use Rattle.lsm_refine.proofs.FileLemmas.{whole_image}
use Rattle.lsm_refine.proofs.FolderDisks.{clear, settled_disk}
use Rattle.lsm_refine.proofs.PartsLemmas.{has_all}
use Rattle.lsm_refine.proofs.ReopenLemmas.{good_reopens}
use Rattle.lsm_refine.proofs.TiedLemmas.{tied_reads}
use Rattle.lsm_refine.proofs.WitnessLemmas.{table_is, edits_are, table_shows, table_after, entries_are, last_is, are_lawful}
use Rattle.lsm_refine.proofs.WitnessDisk.{its_apart, table_file, manifest_file, older_file, newer_file, its_sane}

-- ---- its batches

module _ (dir : List ℕ) (folders : List FolderRead) where
  abbrev tied : Tied its_parts (its_state dir folders)
  tied = record { flushed = 1; within = omega arith; below = table_shows; last = last_is; above = refl; durable = omega arith }

  works : WorksAs its_kept its_parts (its_state dir folders)
  unfolding last_after numbers_after older_log last_log
  works = record {
    active = refl;
    frozen = refl;
    log_len = refl;
    older_len = omega arith;
    active_len = refl;
    frozen_len = refl;
    tables = sym (ap (map live_table) entries_are);
    merging = refl;
    outputs = refl;
    next = refl;
    manifest_len = refl;
  }

  jobs : (d : disk.State) → JobsBuild d dir its_kept.pins (its_state dir folders)
  unfolding IsDistinct
  jobs d = record { apart = tt; each = (tt, tt) }

-- a folder with its parts stands for all three batches
pub its_parts_stand : (files : Files) → HasParts files its_parts.edits its_parts.rows
    (logs_with its_parts (last_text its_parts)) (batches_with its_parts its_parts.last.batches)
    → Stands files (replayed finmap.empty (tabled ∷ older ∷ newer ∷ [])) 3
its_parts_stand files has =
    let shows = tied_reads its_parts (its_state [] []) are_lawful (tied [] []) 1 (omega arith) in
    let batches : List (List (List Op)) = batches_with its_parts its_parts.last.batches in
    subst (λ (m : Contents). Stands files m 3) shows.contents
    (subst (λ (n : ℕ). Stands files (contents_of (rows_of_all its_parts.edits its_parts.rows batches)) n) shows.sequence
    (parts_stand files its_parts.edits its_parts.rows (logs_with its_parts (last_text its_parts)) batches has are_lawful))

-- ---- its pin

-- a folder of these files
module _ (current manifest table older newer : List ℕ) where
  abbrev its_entries : List (FileName × Item)
  its_entries = (Current, A_file current) ∷ (Table 3, A_file table) ∷ (Log 4, A_file older) ∷ (Log 5, A_file newer)
      ∷ (Manifest 1, A_file manifest) ∷ []

  abbrev files : Files
  files = finmap.from_entries its_entries

  file_is : (name : FileName) → file_at files name ≡ bytes_in (finmap.find name_cmp name its_entries)
  file_is name = ap bytes_in (finmap.get-from_entries names_total its_entries name)

  log_is : (number : ℕ) → bytes_in (finmap.find name_cmp (Log number) its_entries)
      ≡ finmap.find nat_cmp number ((4, older) ∷ (5, newer) ∷ [])
  log_is number =
      elim (eq_by_cmp nat_cmp number 4) as (λ b. bytes_in (cond b (Some (A_file older))
      (cond (eq_by_cmp nat_cmp number 5) (Some (A_file newer)) None))
      ≡ cond b (Some older) (cond (eq_by_cmp nat_cmp number 5) (Some newer) None)) [
        | true ↦ refl
        | false ↦ elim (eq_by_cmp nat_cmp number 5) as (λ b. bytes_in (cond b (Some (A_file newer)) None)
            ≡ cond b (Some newer) None) [ true ↦ refl | false ↦ refl ]
      ]

abbrev a_file : FileName → List ℕ → PinnedFile
a_file name bytes = record { name = name; bytes = bytes }

abbrev the_pin : Pin
the_pin = record { number = 1; batches = 3; manifest = 1; files = pinned_files; holder = Caller }

abbrev pin_folder : Files
pin_folder = folder_of_pin 1 pinned_files

pin_file : (name : FileName) → file_at pin_folder name ≡ bytes_in
    (finmap.find name_cmp name (its_entries (current_text 1) its_manifest its_table older_log last_log))
unfolding folder_of_pin
pin_file name = file_is (current_text 1) its_manifest its_table older_log last_log name

pin_log : (number : ℕ) → file_at pin_folder (Log number) ≡ finmap.get (logs_with its_parts (last_text its_parts)) number
unfolding last_after numbers_after older_log last_log
pin_log number =
    pin_file (Log number) ∙ log_is (current_text 1) its_manifest its_table older_log last_log number
    ∙ sym (finmap.get-from_entries nat_cmp_total (texts_with its_parts (last_text its_parts)) number)

pub pin_manifest : reading.IsManifest its_manifest its_parts.edits
unfolding its_manifest
pin_manifest = manifest_written its_parts.edits edits_are

pin_table : reading.HasTable pin_folder 3 its_placed (its_row ∷ [])
pin_table = record { bytes = its_table; there = pin_file (Table 3); table = table_is; size = refl }

module _ (dir : List ℕ) (fits : is_folder_name dir ≡ true) where
  abbrev d : disk.State
  d = its_disk dir

  pin_parts : HasParts pin_folder its_parts.edits its_parts.rows (logs_with its_parts (last_text its_parts))
      (batches_with its_parts its_parts.last.batches)
  pin_parts =
      let all = has_all d dir its_kept its_parts (its_sane dir fits) in
      record {
        manifest = 1;
        numbered = refl;
        current = pin_file Current;
        text = its_manifest;
        there = pin_file (Manifest 1);
        edits_are = pin_manifest;
        tables = λ number placed is.
            let only = table_after number placed is in
            subst (λ (n : ℕ). reading.HasTable pin_folder n placed (its_row ∷ [])) (sym only.0)
            (subst (λ (p : Placed). reading.HasTable pin_folder 3 p (its_row ∷ [])) (sym only.1) pin_table);
        has_logs = record { there = λ number least. pin_log number; live = all.has_logs.live };
        logs_are = all.logs_are;
      }

  pin_stands : (folders : List FolderRead) → Stands pin_folder (shown_at (its_state dir folders) 3).contents
      (shown_at (its_state dir folders) 3).sequence
  pin_stands folders = its_parts_stand pin_folder pin_parts

  kept_pin : (folders : List FolderRead) → IsKeptPin (its_state dir folders) its_pin the_pin
  kept_pin folders = record {
    number = refl;
    sequence = refl;
    files = refl;
    manifest = refl;
    holder = refl;
    within = omega arith;
    stands = pin_stands folders;
  }

  is_pinned : (name : FileName) (bytes : List ℕ) → IsFileName name → IsWholeFile d (path_in dir name) bytes
      → IsPinned d dir (a_file name bytes)
  is_pinned name bytes fits file = record {
    fits = fits;
    more = [];
    there = whole_image d (path_in dir name) bytes file (tree_now d) (reads_image d) ∙ ap Some (sym (append-nil bytes));
  }

  pin_files : PinFiles d dir pinned_files
  pin_files =
      All-cons (IsPinned d dir) (a_file (Table 3) its_table)
      (a_file (Log 4) older_log ∷ a_file (Log 5) last_log ∷ a_file (Manifest 1) its_manifest ∷ [])
      (is_pinned (Table 3) its_table refl (table_file dir fits))
      (All-cons (IsPinned d dir) (a_file (Log 4) older_log) (a_file (Log 5) last_log ∷ a_file (Manifest 1) its_manifest ∷ [])
      (is_pinned (Log 4) older_log refl (older_file dir fits))
      (All-cons (IsPinned d dir) (a_file (Log 5) last_log) (a_file (Manifest 1) its_manifest ∷ [])
      (is_pinned (Log 5) last_log refl (newer_file dir fits))
      (All-cons (IsPinned d dir) (a_file (Manifest 1) its_manifest) []
      (is_pinned (Manifest 1) its_manifest refl (manifest_file dir fits)) (All-nil (IsPinned d dir)))))

  -- ---- all of it

  its_good : (folders : List FolderRead) → FoldersRead d (its_state dir folders) → Good (its_store dir) (its_state dir folders)
  its_good folders read = record {
    story = record { start = d; log = [] };
    told = refl;
    mode = record {
      parts = its_parts;
      sane = its_sane dir fits;
      tied = tied dir folders;
      works = works dir folders;
      jobs = jobs dir folders d;
      certain = refl;
    };
    pinned = record {
      pins = (kept_pin folders, tt);
      files = All-cons (λ (pin : Pin). PinFiles d dir pin.files) the_pin [] pin_files
          (All-nil (λ (pin : Pin). PinFiles d dir pin.files));
    };
    folders = read;
    clear = clear dir fits its_files its_apart;
    counted = record {
      durable = omega arith;
      numbers = All-cons (λ (pin : Pin). pin.number ≤ 1) the_pin [] (omega arith) (All-nil (λ (pin : Pin). pin.number ≤ 1));
      fronts = All-cons (λ (pin : Pin). pin.batches ≤ 3) the_pin [] (omega arith) (All-nil (λ (pin : Pin). pin.batches ≤ 3));
      begun = tt;
    };
    kept = record { own = refl; sequence = refl; greatest_pin = refl; disables = refl; begun = refl; halt = refl };
    counts = record { faults = refl; refusals = refl };
  }

  pub its_listed : (folders : List FolderRead) × Good (its_store dir) (its_state dir folders)
  its_listed =
      let read = list_folders d (its_state dir []) refl in
      (read.0, its_good read.0 read.1)

  pub its_settled : IsSettled d
  its_settled = settled_disk dir fits its_files its_apart

  -- its disk has one image, and what opens this gives a good store again
  pub its_reopening : (folders : List FolderRead) (before : Story) (w : Shown) → Good (its_store dir) (its_state dir folders)
      → IsSettled (state_of before) → tree_now (state_of before) ≡ tree_now d → HasOpened before dir w
      → ReopensTo (its_state dir folders) w
  its_reopening folders before w good settled same opened =
      let told : untouched d ≡ good.story = same_story (untouched d) good.story good.told in
      let image : IsImage (state_of good.story) (tree_now d) =
      subst (λ (q : Story). IsImage (state_of q) (tree_now d)) told (reads_image d) in
      good_reopens (its_store dir) w (its_state dir folders) (tree_now d) before good image settled same opened
    where
      same_story : (one two : Story) → Some one ≡ Some two → one ≡ two
      same_story one two same = cc
