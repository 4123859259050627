-- An opening of a folder that stood leaves a store that is good for what was found.
use Rattle.std.specs.Prelude.{◌≡◌, ℕ, ◌+◌, ◌≤◌, true, List, [], map, take, length, Some}
use Rattle.std.specs.List.{IsDistinct}
use Rattle.std.specs.Ordering.{nat_cmp}
use Rattle.std.specs.FinMap as finmap
use Rattle.std.proofs.Common.{refl, sym, subst, arith}
use Rattle.std.proofs.lemmas.List.Elements.{All-nil}
use Rattle.lsm_names.specs.Folders.{is_folder_name}
use Rattle.lsm_names.specs.declared.file_names.FileName.{FileName}
use Rattle.lsm_rows.specs.Replay.{Contents, replayed, sequence_after}
use Rattle.lsm_disk.specs.State as disk
use Rattle.lsm_disk.specs.State.{Seen, Story, state_of}
use Rattle.lsm_disk.specs.Images.{tree_now}
use Rattle.lsm_disk.specs.Viewed.{Viewed}
use Rattle.lsm_folder.specs.Files.{files_in, place_of}
use Rattle.lsm_folder.specs.Manifests.{manifest_text}
use Rattle.lsm_folder.specs.Needed.{IsFresh, Stands}
use Rattle.lsm_model.specs.declared.states.State.{State}
use Rattle.lsm_model.specs.declared.states.Pin.{Pin}
use Rattle.lsm_model.specs.States.{written}
use Rattle.lsm_model.specs.Crashes.{Opened, closed}
use Rattle.lsm_refine.specs.Kept.{Shown}
use Rattle.lsm_refine.specs.Parts.{Parts}
use Rattle.lsm_refine.specs.Sane.{AreFiles, TablesAreSynced}
use Rattle.lsm_refine.specs.Tied.{Tied, WorksAs, live_table}
use Rattle.lsm_refine.specs.Pins.{AreClearable, PinFiles, JobsBuild}
use Rattle.lsm_refine.specs.Folders.{ChangesInside, FoldersRead}
use Rattle.lsm_refine.specs.Good.{Good}
use Rattle.lsm_refine.specs.Openings.{Holds, As_store, As_fresh, HasOnlyFiles, IsFound, OpensTo}
use Rattle.lsm_refine.specs.FoundFolder.{Recovery, IsRecovery, HasRecovered, TellTables, HasAdded, new_log, new_version, opening_names, opening_edits, recovered_kept, recovered_store}
use Rattle.lsm_refine.proofs.FoundRows.{found_sequence}
use Rattle.lsm_refine.proofs.FoundTables.{table_below, read_not_fresh}
use Rattle.lsm_refine.proofs.OutsideLemmas.{folders_stay}
use Rattle.lsm_refine.proofs.RecoveredRows.{recovered_shows, recovered_sequence}
use Rattle.lsm_refine.proofs.RecoveredStores.{all_fit, recovered_parts, recovered_sane}
use Rattle.lsm_refine.proofs.SwitchedLemmas.{clear_among}
use Rattle.lsm_refine.proofs.TableSyncs.{files_image}

module _ (before : Story) (dir : List ℕ) (named : is_folder_name dir ≡ true) (r : Recovery)
    (is : IsRecovery (state_of before) dir r) (story : Story) (seen : Seen) (told : seen.told ≡ Some story)
    (has : HasRecovered (state_of before) (state_of story) dir r) (views : finmap.FinMap nat_cmp Viewed)
    (tell : TellTables (state_of before) (state_of story) dir r views) (known : List FileName) (adds : HasAdded r known)
    (s : State) (own : s.own ≡ dir) (found : IsFound (state_of before) s) where
  abbrev d : disk.State
  d = state_of before

  abbrev later : disk.State
  later = state_of story

  abbrev v : Shown
  v = recovered_store seen dir r views known

  files : AreFiles d dir
  files = files_image d dir (λ t i. subst (λ (p : List ℕ). HasOnlyFiles p t.names) own (found.images t i).files)

  synced : TablesAreSynced d dir
  synced = subst (TablesAreSynced d) own found.synced

  -- ---- the state

  module _ (count : ℕ) (enough : length s.accepted ≤ count) where
    abbrev contents : Contents
    contents = replayed s.opening (take count (written s))

    abbrev sequence : ℕ
    sequence = sequence_after s.began (take count (written s))

    abbrev opened : State
    opened = record (closed s) {
      opening = contents;
      began = sequence;
      accepted = [];
      durable = 0;
      folders = s.folders;
      tables = map live_table (finmap.entries (new_version r));
      next = new_log r + 1;
      manifest_len = length (manifest_text (opening_edits r));
      faults = seen.faults;
      refusals = seen.refusals;
    }

    opens_so : Opened s opened
    opens_so = record {
      kept = count;
      accepted = enough;
      shown = refl;
      folders = λ name. refl;
      sure = λ name folder listed sure. listed;
      rest = refl;
    }

    module _ (stands : Stands (files_in dir (tree_now d)) contents sequence) where
      abbrev parts : Parts
      parts = recovered_parts d later dir named r is has contents sequence stands synced files

      tied : Tied parts opened
      tied =
          let below = table_below d dir named r is contents sequence stands in
          record {
            flushed = 0;
            within = omega arith;
            below = recovered_shows (files_in dir (tree_now d)) r is.read is.planned below contents sequence stands;
            last = recovered_sequence (files_in dir (tree_now d)) r is.read is.planned below contents sequence stands;
            above = refl;
            durable = omega arith;
          }

      works : WorksAs (recovered_kept r views known) parts opened
      works = record {
        active = refl;
        frozen = refl;
        log_len = refl;
        older_len = refl;
        active_len = refl;
        frozen_len = refl;
        tables = refl;
        merging = refl;
        outputs = refl;
        next = refl;
        manifest_len = refl;
      }

      no_jobs : JobsBuild later dir [] opened
      unfolding IsDistinct
      no_jobs = record { apart = tt; each = tt }

      reads_so : FoldersRead later opened
      reads_so =
          let all = folders_stay d later s (subst (λ (p : List ℕ). ChangesInside p d later) (sym own) has.inside)
          found.folders in
          record { now = all.now; sure = all.sure }

      clear_so : AreClearable later
      clear_so = clear_among dir named (opening_names r)
          (all_fit d later dir named r is has contents sequence stands synced files) d later has.among files found.clear

      good_so : Good v opened
      good_so = record {
        story = story;
        told = told;
        mode = record {
          parts = parts;
          sane = recovered_sane d later dir named r is has contents sequence stands synced files known adds views tell;
          tied = tied;
          works = works;
          jobs = no_jobs;
          certain = refl;
        };
        pinned = record { pins = tt; files = All-nil (λ (pin : Pin). PinFiles later dir pin.files) };
        folders = reads_so;
        clear = clear_so;
        counted = record {
          durable = omega arith;
          numbers = All-nil (λ (pin : Pin). pin.number ≤ 0);
          fronts = All-nil (λ (pin : Pin). pin.batches ≤ 0);
          begun = tt;
        };
        kept = record {
          own = sym own;
          sequence = found_sequence (files_in dir (tree_now d)) r is.read contents sequence stands;
          greatest_pin = refl;
          disables = refl;
          begun = refl;
          halt = refl;
        };
        counts = record { faults = refl; refusals = refl };
      }

      opens : OpensTo s v
      opens = record { state = opened; opened = opens_so; folders = refl; good = good_so }

  by_holds : (count : ℕ) → length s.accepted ≤ count → Holds s (tree_now d) count → OpensTo s v
  by_holds count enough (As_store held) =
      opens count enough
      (subst (λ (p : List ℕ). Stands (files_in p (tree_now d)) (contents count enough) (sequence count enough)) own held.stands)
  by_holds count enough (As_fresh fresh none) =
      absurd (read_not_fresh d dir r named is (subst (λ (p : List ℕ). IsFresh (place_of p (tree_now d))) own fresh))

  -- whatever state was found, the store is good for what the opening makes of it
  pub recovered_opens : OpensTo s (recovered_store seen dir r views known)
  recovered_opens = by_holds found.now.count found.now.enough found.now.holds
