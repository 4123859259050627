-- An image whose folder is as it was in one from before is what a crash leaves of what was found.
use Rattle.std.specs.Prelude.{◌≡◌, ℕ, ◌≤◌, true, List, [], take, length, Option}
use Rattle.std.proofs.Common.{sym, ap, subst, ◌∙◌}
use Rattle.std.specs.FinMap as finmap
use Rattle.lsm_names.specs.Folders.{is_folder_name}
use Rattle.lsm_rows.specs.declared.operations.Op.{Op}
use Rattle.lsm_rows.specs.Replay.{Contents, replayed, sequence_after}
use Rattle.lsm_disk.specs.State as disk
use Rattle.lsm_disk.specs.State.{Story, state_of}
use Rattle.lsm_disk.specs.Images.{Tree}
use Rattle.lsm_disk.specs.Goes.{Went}
use Rattle.lsm_disk.proofs.Cuts.{take_none}
use Rattle.lsm_disk.proofs.Runs.{went_wider}
use Rattle.lsm_folder.specs.Files.{files_in}
use Rattle.lsm_folder.specs.Needed.{Stands}
use Rattle.lsm_model.specs.declared.states.State.{State}
use Rattle.lsm_model.specs.States.{written}
use Rattle.lsm_refine.specs.Folders.{StandsFor, FoldersAre, AreAlikeOutside}
use Rattle.lsm_refine.specs.Openings.{IsUnwritten, Holds, As_store, As_fresh, HasOnlyFiles, IsClearable, IsLeftOf, IsFound, StandsAs, IsAsBefore, Same, Still_fresh, Made, IsKeptImage, LosesNothing}
use Rattle.lsm_refine.proofs.FoundLemmas.{found_leaves}
use Rattle.lsm_refine.proofs.IdleLemmas.{stands_once, not_fresh}
use Rattle.lsm_refine.proofs.OutsideLemmas.{folders_alike}
use Rattle.lsm_names.proofs.FolderLemmas.{folder_has_bytes}

-- ---- the folder

module _ (s : State) (one t : Tree) (count : ℕ) (some : 1 ≤ length s.own) where
  abbrev front : List (List Op)
  front = take count (written s)

  abbrev ShowsFront : Contents → ℕ → Type 0
  ShowsFront contents sequence = Stands (files_in s.own t) contents sequence

  stands_on : (contents : Contents) (sequence : ℕ) → contents ≡ replayed s.opening front
      → sequence ≡ sequence_after s.began front → StandsAs s.own contents sequence t → StandsFor s t count
  stands_on contents sequence as_contents as_sequence is = record {
    folder = is.folder;
    stands = subst (λ (m : Contents). ShowsFront m (sequence_after s.began front)) as_contents
        (subst (ShowsFront contents) as_sequence is.stands);
  }

  nothing_more : IsUnwritten s → (finmap.empty ≡ replayed s.opening front) × (0 ≡ sequence_after s.began front)
  nothing_more none =
      let nothing : front ≡ [] = ap (take count) none.none ∙ take_none count in
      (sym none.opening ∙ ap (replayed s.opening) (sym nothing), sym none.began ∙ ap (sequence_after s.began) (sym nothing))

  still_holds : Holds s one count → IsAsBefore s.own one t → Holds s t count
  still_holds (As_store stands) (Same contents sequence before after) =
      let same = stands_once (files_in s.own one) contents (replayed s.opening front) sequence
      (sequence_after s.began front) before.stands stands.stands in
      As_store (stands_on contents sequence same.0 same.1 after)
  still_holds (As_store stands) (Still_fresh before after) =
      not_fresh s.own one (replayed s.opening front) (sequence_after s.began front) some stands.folder stands.stands before
  still_holds (As_store stands) (Made before after) = not_fresh s.own one (replayed s.opening front)
      (sequence_after s.began front) some stands.folder stands.stands before
  still_holds (As_fresh fresh none) (Same contents sequence before after) =
      not_fresh s.own one contents sequence some before.folder before.stands fresh
  still_holds (As_fresh fresh none) (Still_fresh before after) = As_fresh after none
  still_holds (As_fresh fresh none) (Made before after) =
      let nothing = nothing_more none in
      As_store (stands_on finmap.empty 0 nothing.0 nothing.1 after)

-- ---- the whole tree

module _ (s : State) (one other t : Tree) (own : IsLeftOf s one) (others : IsLeftOf s other) (some : 1 ≤ length s.own) where
  abbrev left : State
  left = record own.left { folders = others.left.folders }

  own_is : s.own ≡ own.left.own
  own_is = sym (ap (λ (q : State). q.own) own.crashed.rest)

  others_own : others.left.own ≡ own.left.own
  others_own = ap (λ (q : State). q.own) others.crashed.rest ∙ own_is

  same_holds : Holds own.left t (length own.left.accepted) → Holds left t (length own.left.accepted)
  same_holds (As_store stands) = As_store (record { folder = stands.folder; stands = stands.stands })
  same_holds (As_fresh fresh none) = As_fresh fresh (record { opening = none.opening; began = none.began; none = none.none })

  left_so : IsAsBefore s.own one t → (HasOnlyFiles s.own one.names → HasOnlyFiles s.own t.names)
      → AreAlikeOutside s.own other t → IsClearable t.names → IsLeftOf s t
  left_so as_before files alike clear = record {
    left = left;
    crashed = record {
      kept = own.crashed.kept;
      durable = own.crashed.durable;
      accepted = own.crashed.accepted;
      all = own.crashed.all;
      folders = others.crashed.folders;
      rest = ap (λ (q : State). record q { folders = others.left.folders }) own.crashed.rest;
    };
    holds = record {
      own = same_holds (still_holds own.left one t (length own.left.accepted)
          (subst (λ (dir : List ℕ). 1 ≤ length dir) own_is some) own.holds.own
          (subst (λ (dir : List ℕ). IsAsBefore dir one t) own_is as_before));
      files = subst (λ (dir : List ℕ). HasOnlyFiles dir one.names → HasOnlyFiles dir t.names) own_is files own.holds.files;
      others = folders_alike own.left.own others.left.folders other t (subst (λ (dir : List ℕ). AreAlikeOutside dir other t) own_is alike)
          (subst (λ (dir : List ℕ). FoldersAre dir others.left.folders other) others_own others.holds.others);
      clear = clear;
    };
  }

pub kept_left : (d : disk.State) (s : State) (dir : List ℕ) (t : Tree) → is_folder_name dir ≡ true → s.own ≡ dir → IsFound d s
    → IsKeptImage dir d t → IsLeftOf s t
kept_left d s dir t named own found kept =
    left_so s kept.one kept.other t (found_leaves d s found kept.one kept.of) (found_leaves d s found kept.other kept.also)
    (subst (λ (q : List ℕ). 1 ≤ length q) (sym own) (folder_has_bytes dir named))
    (subst (λ (q : List ℕ). IsAsBefore q kept.one t) (sym own) kept.own)
    (subst (λ (q : List ℕ). HasOnlyFiles q kept.one.names → HasOnlyFiles q t.names) (sym own) kept.files)
    (subst (λ (q : List ℕ). AreAlikeOutside q kept.other t) (sym own) kept.outside) kept.clear

pub kept_loses_nothing : (before : Story) (dir : List ℕ) (told : Option Story) → is_folder_name dir ≡ true
    → Went before told (λ c. Unit {0}) (λ d t. IsKeptImage dir (state_of before) t) (λ d. Unit {0}) → LosesNothing before dir told
kept_loses_nothing before dir told named went s own found =
    went_wider (λ c. Unit {0}) (λ c. Unit {0}) (λ d t. IsKeptImage dir (state_of before) t) (λ d t. IsLeftOf s t) (λ c done. tt)
    (λ d t kept. kept_left (state_of before) s dir t named own found kept) went
