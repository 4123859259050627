-- A new manifest and then a new log keep the folder: each image on the way is one from the start of the opening.
use Rattle.std.specs.Prelude.{◌≡◌, ℕ, ◌+◌, ◌^◌, ◌<◌, ◌≤◌, true, List, [], ◌∷◌, length, Option, Some}
use Rattle.std.proofs.Common.{inl, inr, ⊎_elim, append-nil, refl, sym, ap, subst, ◌∙◌}
use Rattle.lsm_names.specs.Folders.{is_folder_name}
use Rattle.lsm_names.specs.declared.file_names.FileName.TheVariants.{Log, Current}
use Rattle.lsm_disk.specs.State.{State, Story, Change, state_of}
use Rattle.lsm_disk.specs.Images.{Tree, bytes_at}
use Rattle.lsm_disk.specs.Building.{sealed}
use Rattle.lsm_disk.specs.Goes.{Went}
use Rattle.lsm_disk.specs.Kept.{HasCut}
use Rattle.lsm_disk.specs.Dest.{path_in}
use Rattle.lsm_disk.proofs.Runs.{went_weaker, went_wider}
use Rattle.lsm_publish.specs.Publishing.{The_file, Not_known}
use Rattle.lsm_version.specs.declared.edits.Edit.{Edit}
use Rattle.lsm_folder.specs.Names.{current_text}
use Rattle.lsm_folder.specs.Manifests.{log_after}
use Rattle.lsm_manifest.specs.Installing.{Before, StillBefore, IsApart, NamesOldOrNew, Installs, IsInstalled, manifest_path}
use Rattle.lsm_refine.specs.Beside.{WritesNew}
use Rattle.lsm_refine.specs.Naming.{Replaces, ReplacesAt}
use Rattle.lsm_refine.specs.OpeningImages.{KeepsFolder, HasOldOrNamesNew, MaySwitch, MayMakeLog}
use Rattle.lsm_refine.proofs.OpeningRuns.{Keeps, opening_then, switch_went, made_went}
use Rattle.lsm_refine.proofs.OpeningWays.{switched_log}
use Rattle.lsm_refine.proofs.SettledLemmas.{cut_whole}
use Rattle.lsm_opening.specs.Installing.{Switches, MakesLog, HasInstalled, WasCutOff, At_manifest, At_log}
use Rattle.lsm_opening.proofs.Installs.{apart_any}
use Rattle.lsm_opening.proofs.Replaced.{installs_replace, shows_names, installed_replaced}

-- nothing is said of the disk's state
abbrev pub Anything : State → Type 0
Anything x = Unit {0}

-- each image on the way is kept
abbrev pub IsKeptWay : List ℕ → State → Story → Option Story → Type 0
IsKeptWay dir start before told = Went before told (λ (c : Change). Unit {0}) (Keeps dir start) Anything

same_story : (x y : Story) → Some x ≡ Some y → x ≡ y
same_story x y same = cc

-- whatever is changed, and whatever holds behind it
pub kept_way : (dir : List ℕ) (start : State) (before : Story) (told : Option Story) (q : Change → Type 0)
    (I : State → Type 0)
    → Went before told q (Keeps dir start) I → IsKeptWay dir start before told
kept_way dir start before told q I went = went_weaker I Anything (λ x held. tt)
    (went_wider q (λ (c : Change). Unit {0}) (Keeps dir start) (Keeps dir start) (λ c kind. tt) (λ x t held. held) went)

module _ (dir : List ℕ) (named : is_folder_name dir ≡ true) (start : State) (before : Story) (number : ℕ) (some : 1 ≤ number)
    (most : number + 2 < 2 ^ 56) (edit : Edit) (may : MaySwitch dir start (state_of before) number (edit ∷ [])) where
  abbrev first : ℕ
  first = length (state_of before).files

  -- CURRENT is whole before
  abbrev was : Before
  was = record {
    current = The_file may.current.id (sealed (current_text may.found));
    path = manifest_path dir (number + 1);
    manifest = Not_known;
  }

  still : StillBefore dir was (state_of before)
  still = record { current = may.current.file; manifest = tt }

  apart : IsApart dir number (manifest_path dir (number + 1))
  apart = apart_any dir number some most edit before

  old_current : (t : Tree) → HasCut (path_in dir Current) (sealed (current_text may.found)) t
      → bytes_at t (path_in dir Current) ≡ Some (current_text may.found)
  old_current t has = has.is ∙ ap Some (cut_whole (sealed (current_text may.found)) has.bytes refl has.cut
      ∙ append-nil (current_text may.found))

  shows : (x : State) (t : Tree) → NamesOldOrNew dir number edit was x t
      → HasOldOrNamesNew dir (current_text may.found) number (edit ∷ []) t
  shows x t held = ⊎_elim (λ old. inl (old_current t old.0)) (λ new. inr (shows_names dir number edit t new)) held

  switched_kept : (told : Option Story) (J : State → Type 0) → Switches dir number edit before told J
      → Went before told (Replaces dir number (length (state_of before).files)) (Keeps dir start)
      (λ (x : State). (J x × ReplacesAt dir number (state_of before) x) × KeepsFolder dir start x)
  switched_kept told J switches =
      switch_went dir named start before number (edit ∷ []) may J shows
      (went_wider (Installs dir number first) (Replaces dir number first) (NamesOldOrNew dir number edit was)
      (NamesOldOrNew dir number edit was) (installs_replace dir number first) (λ x t held. held) (switches was still apart))

  module _ (log : ℕ) (log_is : log_after (edit ∷ []) ≡ log) where
    module _ (mid : Story) (is : IsInstalled dir number edit (state_of mid))
        (at : ReplacesAt dir number (state_of before) (state_of mid)) (kept : KeepsFolder dir start (state_of mid)) where
      may_log : MayMakeLog dir start (state_of mid) number (edit ∷ [])
      may_log = switched_log dir named start (state_of before) number (edit ∷ []) may (state_of mid) kept at
          (installed_replaced dir number edit (state_of mid) is)

      log_kept : (told : Option Story) (J : State → Type 0) → MakesLog dir log mid told J → IsKeptWay dir start mid told
      log_kept told J makes = kept_way dir start mid told
          (WritesNew (path_in dir (Log (log_after (edit ∷ [])))) (length (state_of mid).files)) _
          (made_went dir named start mid number (edit ∷ []) may_log J
          (subst (λ (n : ℕ). MakesLog dir n mid told J) (sym log_is) makes))

    both_kept : (mid : Story) (told : Option Story) (J : State → Type 0)
        → Switches dir number edit before (Some mid) (IsInstalled dir number edit) → MakesLog dir log mid told J
        → IsKeptWay dir start before told
    both_kept mid told J switches makes =
        opening_then dir start (λ (c : Change). Unit {0})
        (λ (x : State). (IsInstalled dir number edit x × ReplacesAt dir number (state_of before) x) × KeepsFolder dir start x)
        Anything
        (went_wider (Replaces dir number first) (λ (c : Change). Unit {0}) (Keeps dir start) (Keeps dir start) (λ c kind. tt)
        (λ x t held. held) (switched_kept (Some mid) (IsInstalled dir number edit) switches))
        (λ story is held. log_kept story held.0.0 held.0.1 held.1 told J
        (subst (λ (s : Story). MakesLog dir log s told J) (same_story mid story is) makes))

    pub cut_off_kept : (told : Option Story) → WasCutOff dir number log edit before told → IsKeptWay dir start before told
    cut_off_kept told (At_manifest switches) =
        kept_way dir start before told (Replaces dir number first) _ (switched_kept told Anything switches)
    cut_off_kept told (At_log mid switches makes) = both_kept mid told Anything switches makes

    pub installed_kept : (told : Option Story) → HasInstalled dir number log edit before told
        → IsKeptWay dir start before told
    installed_kept told has = both_kept has.mid told _ has.switched has.made
