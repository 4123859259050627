-- The calls of a new manifest and of a new log, one run behind another.
use Rattle.std.specs.Prelude.{◌≡◌, ◌≢◌, ℕ, ◌+◌, ◌^◌, ◌<◌, ◌≤◌, true, List, length, Option, Some, Result, Ok, Err}
use Rattle.std.proofs.Common.{subst, arith}
use Rattle.std.proofs.lemmas.Bool.Decides.{nat_tests}
use Rattle.lsm_names.specs.Numbers.{is_file_number}
use Rattle.lsm_names.specs.declared.file_names.FileName.TheVariants.{Log}
use Rattle.lsm_disk.specs.State.{State, Story, state_of}
use Rattle.lsm_disk.specs.Goes.{Went}
use Rattle.lsm_disk.specs.Kept.{Making}
use Rattle.lsm_disk.specs.Dest.{path_in}
use Rattle.lsm_disk.specs.declared.calls.DiskRefusal.{DiskRefusal}
use Rattle.lsm_disk.proofs.Runs.{went_weaker}
use Rattle.lsm_publish.specs.Publishing.{Not_known}
use Rattle.lsm_version.specs.declared.edits.Edit.{Edit}
use Rattle.lsm_manifest.specs.Installing.{Before, StillBefore, IsApart, NamesOldOrNew, Installs, Leaves, IsInstalled, manifest_path}
use Rattle.lsm_manifest.proofs.Names.{other_manifest}
use Rattle.lsm_wal.specs.Making.{MayHaveNew, IsMade, with_made}
use Rattle.lsm_opening.specs.Installing.{Switches, MakesLog, HasInstalled, WasCutOff, At_manifest, At_log}

-- what Manifest::create says
abbrev pub Creates : {T : Type 0} → List ℕ → ℕ → Edit → Story → Option Story → Result T DiskRefusal → Type 0
Creates dir number edit start told result = (before : Before) → StillBefore dir before (state_of start)
    → IsApart dir number before.path
    → Went start told (Installs dir number (length (state_of start).files)) (NamesOldOrNew dir number edit before)
    (Leaves dir number (length (state_of start).files) edit before result)

module _ (dir : List ℕ) (number : ℕ) (some : 1 ≤ number) (most : number + 2 < 2 ^ 56) (edit : Edit) (start : Story) where
  -- what there was is not known
  abbrev pub before_any : Before
  before_any = record { current = Not_known; path = manifest_path dir (number + 1); manifest = Not_known }

  fits : is_file_number number ≡ true
  fits = grind (arith, nat_tests, some, most)

  other_fits : is_file_number (number + 1) ≡ true
  other_fits = grind (arith, nat_tests, some, most)

  differs : number + 1 ≢ number
  differs same = absurd (omega (arith, same))

  pub apart_any : IsApart dir number before_any.path
  apart_any = other_manifest dir number fits (number + 1) other_fits differs

  pub still_any : StillBefore dir before_any (state_of start)
  still_any = record { current = tt; manifest = tt }

  pub cut_at_manifest : (told : Option Story) (r : DiskRefusal) → Creates {T = Unit {0}} dir number edit start told (Err r)
      → (log : ℕ) → WasCutOff dir number log edit start told
  cut_at_manifest told r creates log = At_manifest (λ before still apart. went_weaker
      (Leaves {T = Unit {0}} dir number (length (state_of start).files) edit before (Err r)) (λ (x : State). Unit {0})
      (λ x left. tt)
      (creates before still apart))

  module _ {T : Type 0} (value : T) (told : Option Story) (creates : Creates dir number edit start told (Ok value)) where
    ran : Went start told (Installs dir number (length (state_of start).files)) (NamesOldOrNew dir number edit before_any)
        (Leaves dir number (length (state_of start).files) edit before_any (Ok value))
    ran = creates before_any still_any apart_any

    pub mid_told : (mid : Story) × (told ≡ Some mid)
    mid_told = (ran.story, ran.tells)

    switched : (mid : Story) → told ≡ Some mid → Switches dir number edit start (Some mid) (IsInstalled dir number edit)
    switched mid is before still apart =
        subst (λ (o : Option Story). Went start o (Installs dir number (length (state_of start).files))
        (NamesOldOrNew dir number edit before) (IsInstalled dir number edit)) is
        (went_weaker (Leaves dir number (length (state_of start).files) edit before (Ok value)) (IsInstalled dir number edit)
        (λ x left. left.0) (creates before still apart))

    -- what Wal::create says
    module _ (log : ℕ) (path : List ℕ) (path_is : path ≡ path_in dir (Log log)) (now : Option Story) where
      at_path : {U : Type 0} (mid : Story) (result : Result U DiskRefusal)
          → Went mid now (Making path) (MayHaveNew (state_of mid) path) (IsMade (state_of mid) path result)
          → MakesLog dir log mid now (IsMade (state_of mid) (path_in dir (Log log)) result)
      at_path mid result went =
          subst (λ (p : List ℕ). Went mid now (Making p) (MayHaveNew (state_of mid) p)
          (IsMade (state_of mid) p result)) path_is went

      pub installed : {U : Type 0} (made : U)
          → ((story : Story) → told ≡ Some story
          → Went story now (Making path) (MayHaveNew (state_of story) path) (IsMade (state_of story) path (Ok made)))
          → HasInstalled dir number log edit start now
      installed made makes = record {
        mid = ran.story;
        switched = switched ran.story ran.tells;
        made = went_weaker (IsMade (state_of ran.story) (path_in dir (Log log)) (Ok made))
            (λ (x : State). x ≡ with_made (path_in dir (Log log)) (state_of ran.story)) (λ x is. is.1)
            (at_path ran.story (Ok made) (makes ran.story ran.tells));
      }

      pub cut_at_log : (r : DiskRefusal)
          → ((story : Story) → told ≡ Some story
          → Went story now (Making path) (MayHaveNew (state_of story) path)
          (IsMade {T = Unit {0}} (state_of story) path (Err r)))
          → WasCutOff dir number log edit start now
      cut_at_log r makes = At_log ran.story (switched ran.story ran.tells)
          (went_weaker (IsMade {T = Unit {0}} (state_of ran.story) (path_in dir (Log log)) (Err r)) (λ (x : State). Unit {0})
          (λ x is. tt)
          (at_path {U = Unit {0}} ran.story (Err r) (makes ran.story ran.tells)))
