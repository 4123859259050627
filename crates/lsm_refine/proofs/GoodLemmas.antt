-- What a good store's folder stands for, now and in each image.
use Rattle.std.specs.Prelude.{◌≡◌, ℕ, ◌+◌, ◌≤◌, List, ◌++◌, take, length, Option, Some, None}
use Rattle.std.proofs.Common.{sym, ap, subst, ◌∙◌, arith}
use Rattle.std.proofs.lemmas.List.{append-nil, take_all}
use Rattle.std.specs.FinMap as finmap
use Rattle.lsm_rows.specs.declared.operations.Op.{Op}
use Rattle.lsm_rows.specs.Replay.{Contents, replayed, sequence_after}
use Rattle.lsm_rows.specs.Contents.{contents_of}
use Rattle.lsm_disk.specs.Names.{Folder_node}
use Rattle.lsm_disk.specs.State as disk
use Rattle.lsm_disk.specs.State.{state_of}
use Rattle.lsm_disk.specs.Images.{Tree, IsImage, tree_now}
use Rattle.lsm_disk.specs.declared.calls.Halt.{Halt}
use Rattle.lsm_disk.proofs.Images.{reads_image}
use Rattle.lsm_disk.proofs.Named.{name_image}
use Rattle.lsm_folder.specs.Files.{Files, files_in}
use Rattle.lsm_folder.specs.Needed.{Stands}
use Rattle.lsm_folder.specs.Parts.{AreLawful, HasParts, rows_of_all}
use Rattle.lsm_folder.proofs.PartsLemmas.{parts_stand}
use Rattle.lsm_model.specs.declared.states.State.{State}
use Rattle.lsm_model.specs.States.{written, none_or_one}
use Rattle.lsm_refine.specs.Kept.{Shown}
use Rattle.lsm_refine.specs.Parts.{Parts, batches_in}
use Rattle.lsm_refine.specs.Tied.{Tied}
use Rattle.lsm_refine.specs.Fronts.{logs_with, last_text, batches_with}
use Rattle.lsm_refine.specs.Folders.{StandsFor, StandsFrom}
use Rattle.lsm_refine.specs.Good.{IsRunning, IsInMode, Good}
use Rattle.lsm_refine.specs.Beside.{HasLast, IsReadable}
use Rattle.lsm_refine.specs.Sane.{AreFiles, TablesAreSynced}
use Rattle.lsm_refine.proofs.TiedLemmas.{logged_many, tied_reads}
use Rattle.lsm_refine.proofs.PartsLemmas.{readable, first_in, all_in}
use Rattle.lsm_refine.proofs.TableSyncs.{readable_synced}

-- a state without a doubtful batch has written what it accepted
certain_is : (s : State) → s.doubtful ≡ None → written s ≡ s.accepted
certain_is s is = ap (λ (o : Option (List Op)). s.accepted ++ none_or_one o) is ∙ append-nil s.accepted

-- files with the parts, but of the last log a front, stand for a front of the accepted batches
pub front_stands : (parts : Parts) (s : State) → AreLawful parts.edits parts.rows → (tied : Tied parts s)
    → (files : Files) (kept : ℕ) (text : List ℕ)
    → HasParts files parts.edits parts.rows (logs_with parts text) (batches_with parts (take kept parts.last.batches)) → parts.synced ≤ kept
    → let count : ℕ = tied.flushed + (length (batches_in parts.older) + kept) in Stands files
    (replayed s.opening (take count s.accepted)) (sequence_after s.began (take count s.accepted))
front_stands parts s are tied files kept text has enough =
    let batches : List (List (List Op)) = batches_with parts (take kept parts.last.batches) in
    let count : ℕ = tied.flushed + (length (batches_in parts.older) + kept) in
    let shows = tied_reads parts s are tied kept enough in
    subst (λ (m : Contents). Stands files m (sequence_after s.began (take count s.accepted))) shows.contents
    (subst (λ (n : ℕ). Stands files (contents_of (rows_of_all parts.edits parts.rows batches)) n) shows.sequence
    (parts_stand files parts.edits parts.rows (logs_with parts text) batches has are))

-- a folder that reads by the parts of a state
module _ (d : disk.State) (v : Shown) (s : State) (own : v.dir ≡ s.own) (parts : Parts)
    (lawful : AreLawful parts.edits parts.rows) (tied : Tied parts s) (certain : s.doubtful ≡ None)
    (reads : IsReadable d v.dir v.kept parts) (last : HasLast d v.dir parts parts.synced) where
  abbrev older : ℕ
  older = length (batches_in parts.older)

  stands_for : (t : Tree) → IsImage d t → (kept : ℕ) (text : List ℕ)
      → HasParts (files_in v.dir t) parts.edits parts.rows (logs_with parts text) (batches_with parts (take kept parts.last.batches))
      → parts.synced ≤ kept → StandsFor s t (tied.flushed + (older + kept))
  stands_for t i kept text has enough =
      let count : ℕ = tied.flushed + (older + kept) in
      let accepted : take count s.accepted ≡ take count (written s) =
      ap (λ (l : List (List Op)). take count l) (sym (certain_is s certain)) in
      record {
        folder = ap (λ (dir : List ℕ). finmap.get t.names dir) (sym own) ∙ name_image d v.dir (Some Folder_node) reads.current.folder t i;
        stands = subst (λ (dir : List ℕ). Stands (files_in dir t) (replayed s.opening (take count (written s)))
            (sequence_after s.began (take count (written s)))) own
            (subst (λ (l : List (List Op)). Stands (files_in v.dir t) (replayed s.opening l) (sequence_after s.began l)) accepted
            (front_stands parts s lawful tied (files_in v.dir t) kept text has enough));
      }

  pub readable_image : (t : Tree) → IsImage d t → StandsFrom s s.durable t
  readable_image t i =
      let first = first_in d v.dir v.kept parts reads last t i in
      let shows = tied_reads parts s lawful tied first.count first.enough in
      record {
        count = tied.flushed + (older + first.count);
        enough = shows.durable;
        within = subst (λ (l : List (List Op)). tied.flushed + (older + first.count) ≤ length l) (sym (certain_is s certain))
            (omega (arith, logged_many parts s tied, first.within));
        stands = stands_for t i first.count first.text first.has first.enough;
      }

  pub readable_now : StandsFrom s (length s.accepted) (tree_now d)
  readable_now =
      let all : take (length parts.last.batches) parts.last.batches ≡ parts.last.batches =
      take_all (length parts.last.batches) parts.last.batches (omega arith) in
      let has = subst (λ (l : List (List Op)). HasParts (files_in v.dir (tree_now d)) parts.edits parts.rows
      (logs_with parts (last_text parts)) (batches_with parts l)) (sym all)
      (all_in d v.dir v.kept parts reads last) in
      let first = first_in d v.dir v.kept parts reads last (tree_now d) (reads_image d) in
      record {
        count = tied.flushed + (older + length parts.last.batches);
        enough = omega (arith, logged_many parts s tied);
        within = subst (λ (l : List (List Op)). tied.flushed + (older + length parts.last.batches) ≤ length l)
            (sym (certain_is s certain)) (omega (arith, logged_many parts s tied));
        stands = stands_for (tree_now d) (reads_image d) (length parts.last.batches) (last_text parts) has
            (omega (arith, first.enough, first.within));
      }

module _ (d : disk.State) (v : Shown) (s : State) (own : v.dir ≡ s.own) (is : IsRunning d v s) where
  pub running_image : (t : Tree) → IsImage d t → StandsFrom s s.durable t
  running_image = readable_image d v s own is.parts is.sane.lawful is.tied is.certain
      (readable d v.dir v.kept is.parts is.sane) is.sane.logs.last

  pub running_now : StandsFrom s (length s.accepted) (tree_now d)
  running_now = readable_now d v s own is.parts is.sane.lawful is.tied is.certain
      (readable d v.dir v.kept is.parts is.sane) is.sane.logs.last

module _ (v : Shown) (s : State) (good : Good v s) where
  by_image : (halt : Option Halt) → IsInMode halt (state_of good.story) v s → (t : Tree) → IsImage (state_of good.story) t
      → StandsFrom s s.durable t
  by_image None is = running_image (state_of good.story) v s good.kept.own is
  by_image (Some first) is = is.images

  by_now : (halt : Option Halt) → IsInMode halt (state_of good.story) v s
      → StandsFrom s (length s.accepted) (tree_now (state_of good.story))
  by_now None is = running_now (state_of good.story) v s good.kept.own is
  by_now (Some first) is = is.now

  -- each image stands for a front of the written batches, which has the durable ones
  pub good_image : (t : Tree) → IsImage (state_of good.story) t → StandsFrom s s.durable t
  good_image = by_image v.halt good.mode

  -- now the folder stands for the accepted batches, perhaps with the doubtful one
  pub good_now : StandsFrom s (length s.accepted) (tree_now (state_of good.story))
  good_now = by_now v.halt good.mode

  -- no folder stands under a file's name in it, and the tables that its manifest names are synced
  pub good_files : AreFiles (state_of good.story) v.dir
  good_files = by_mode v.halt good.mode
    where
      by_mode : (halt : Option Halt) → IsInMode halt (state_of good.story) v s → AreFiles (state_of good.story) v.dir
      by_mode None is = is.sane.files
      by_mode (Some first) is = is.files

  pub good_synced : TablesAreSynced (state_of good.story) v.dir
  good_synced = by_mode v.halt good.mode
    where
      by_mode : (halt : Option Halt) → IsInMode halt (state_of good.story) v s → TablesAreSynced (state_of good.story) v.dir
      by_mode None is = readable_synced (state_of good.story) v.dir v.kept is.parts
          (readable (state_of good.story) v.dir v.kept is.parts is.sane)
      by_mode (Some first) is = is.synced
