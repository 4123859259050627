-- The parts of an installing, whose paths and bytes are given by equations.
use Rattle.std.specs.Prelude.{◌≡◌, ◌≢◌, ℕ, List, [], ◌∷◌, length, Option, Some, Result, Ok, Err}
use Rattle.std.proofs.Common.{refl, subst}
use Rattle.lsm_names.specs.FileNames.{IsFileName}
use Rattle.lsm_names.specs.declared.file_names.FileName.TheVariants.{Manifest}
use Rattle.lsm_disk.specs.Names.{Moved}
use Rattle.lsm_disk.specs.State.{Story, state_of}
use Rattle.lsm_disk.specs.Goes.{Went}
use Rattle.lsm_disk.specs.Kept.{IsFileNow, OpSpares}
use Rattle.lsm_disk.specs.Halts.{IsAmong}
use Rattle.lsm_disk.specs.Tree.{IsLawful}
use Rattle.lsm_disk.specs.declared.calls.DiskCall.TheVariants.{Create}
use Rattle.lsm_disk.specs.declared.calls.DiskError.TheVariants.{NoMemory}
use Rattle.lsm_disk.specs.declared.calls.DiskRefusal.{DiskRefusal}
use Rattle.lsm_disk.proofs.Runs.{went_weaker}
use Rattle.lsm_publish.specs.Publishing.{Old, StillHas, Writes, Switches, written}
use Rattle.lsm_version.specs.declared.edits.Edit.{Edit}
use Rattle.lsm_manifest.specs.Texts.{IsTaken, manifest_text}
use Rattle.lsm_manifest.specs.Installing.{Before, StillBefore, IsApart, NamesOldOrNew, Installs, Leaves, Anything, IsFilled, IsOnly, LeadsEither, HasLed, new_calls, current_path, manifest_path, temporary_path, current_text}
use Rattle.lsm_manifest.proofs.Names.{manifest_spared, temporary_is_not_current}
use Rattle.lsm_manifest.proofs.Filling.{Unknown}
use Rattle.lsm_manifest.proofs.Installed.{untouched, refused_new, refused_temporary, then_led}

-- what the making of a file left
abbrev pub Wrote : Story → Option Story → List ℕ → List ℕ → Result (Unit {0}) DiskRefusal → Type 0
Wrote story told path bytes result = Went story told (Writes path (length (state_of story).files)) Anything (IsFilled {T = Unit {0}} path (length (state_of story).files) bytes result)

-- what the switch left
abbrev pub LedBy : Option Story → Option Story → Result (Unit {0}) DiskRefusal → List ℕ → List ℕ → Type 0
LedBy o3 o4 result temporary path = (mid : Story) (old : Old) (id k : ℕ) (bytes other text : List ℕ) → o3 ≡ Some mid
    → StillHas path old (state_of mid) → IsFileNow (state_of mid) temporary id (written bytes) → IsFileNow (state_of mid) other k (written text)
    → OpSpares other (Moved temporary path) → IsOnly (state_of mid) other k → id ≢ k → temporary ≢ path
    → Went mid o4 (Switches temporary path) (LeadsEither path other old bytes text) (HasLed {T = Unit {0}} temporary path other old id bytes k text result)

-- no call was made
pub exit_none : (dir : List ℕ) (number : ℕ) (edit : Edit) (before : Before) → IsFileName (Manifest number) → IsTaken edit → IsApart dir number before.path → (story : Story) → StillBefore dir before (state_of story)
    → (r : DiskRefusal) → r.at.path ≡ manifest_path dir number → r.at.call ≡ Create → r.why ≡ NoMemory → {told : Option Story} → told ≡ Some story
    → Went story told (Installs dir number (length (state_of story).files)) (NamesOldOrNew dir number edit before) (Leaves {T = Unit {0}} dir number (length (state_of story).files) edit before (Err r))
exit_none dir number edit before is taken apart story still r at is_call because tells =
    untouched dir number edit before is taken apart (length (state_of story).files) story r at is_call because refl tells still

module _ (dir : List ℕ) (number : ℕ) (edit : Edit) (before : Before) (is : IsFileName (Manifest number)) (taken : IsTaken edit) (apart : IsApart dir number before.path)
    (new temporary path text bytes : List ℕ) (new_is : new ≡ manifest_path dir number) (temporary_is : temporary ≡ temporary_path dir number) (path_is : path ≡ current_path dir)
    (text_is : text ≡ manifest_text (edit ∷ [])) (bytes_is : bytes ≡ current_text number) (story : Story)
    (still : StillBefore dir before (state_of story)) (lawful : IsLawful (state_of story)) where
  abbrev Came : Option Story → Result (Unit {0}) DiskRefusal → Type 0
  Came told result = Went story told (Installs dir number (length (state_of story).files)) (NamesOldOrNew dir number edit before) (Leaves {T = Unit {0}} dir number (length (state_of story).files) edit before result)

  wrote_as : (mid : Story) (told : Option Story) (p q b d : List ℕ) (result : Result (Unit {0}) DiskRefusal) → p ≡ q → b ≡ d → Wrote mid told p b result → Wrote mid told q d result
  wrote_as mid told p q b d result same alike w = subst (λ (x : List ℕ). Wrote mid told q x result) alike (subst (λ (x : List ℕ). Wrote mid told x b result) same w)

  module _ {o2 : Option Story} where
    pub exit_new : (r : DiskRefusal) → IsAmong r.at (new_calls new) → Wrote story o2 new text (Err r) → Came o2 (Err r)
    exit_new r at w = refused_new dir number edit before is taken apart (length
        (state_of story).files) story o2 still lawful refl r
        (subst (λ (x : List ℕ). IsAmong r.at (new_calls x)) new_is at) (wrote_as story o2 new (manifest_path dir number) text (manifest_text (edit ∷ [])) (Err r) new_is text_is w)

    module _ (wrote : Wrote story o2 new text (Ok (tt {0}))) where
      made : Wrote story o2 (manifest_path dir number) (manifest_text (edit ∷ [])) (Ok (tt {0}))
      made = wrote_as story o2 new (manifest_path dir number) text (manifest_text (edit ∷ [])) (Ok (tt {0})) new_is text_is wrote

      module _ {o3 : Option Story} where
        pub exit_temporary : (r : DiskRefusal) → IsAmong r.at (new_calls temporary) → ((mid : Story) → o2 ≡ Some mid → Wrote mid o3 temporary bytes (Err r)) → Came o3 (Err r)
        exit_temporary r at next = refused_temporary dir number edit before is taken apart (length
            (state_of story).files) story o2 still lawful refl made o3 r
            (subst (λ (x : List ℕ). IsAmong r.at (new_calls x)) temporary_is at)
            (λ mid here. went_weaker (IsFilled {T = Unit {0}} (temporary_path dir number) (length (state_of mid).files) (current_text number) (Err r)) Unknown (λ s left. tt)
            (wrote_as mid o3 temporary (temporary_path dir number) bytes (current_text number) (Err r) temporary_is bytes_is (next mid here)))

        pub exit_led : {o4 : Option Story} (result : Result (Unit {0}) DiskRefusal) → ((mid : Story) → o2 ≡ Some mid → Wrote mid o3 temporary bytes (Ok (tt {0}))) → LedBy o3 o4 result temporary path → Came o4 result
        exit_led {o4} result next led =
            let leads : LedBy o3 o4 result (temporary_path dir number) (current_path dir) =
            subst (λ (x : List ℕ). LedBy o3 o4 result (temporary_path dir number) x) path_is (subst (λ (x : List ℕ). LedBy o3 o4 result x path) temporary_is led) in
            then_led dir number edit before is taken apart (length
            (state_of story).files) story o2 still lawful refl made o3 o4 result
            (λ mid here. wrote_as mid o3 temporary (temporary_path dir number) bytes (current_text number) (Ok (tt {0})) temporary_is bytes_is (next mid here))
            (λ mid k here current now new_now only ne. leads mid before.current k (length (state_of story).files)
            (current_text number) (manifest_path dir number) (manifest_text (edit ∷ [])) here current now new_now
            (manifest_spared dir number is number is) only ne
            (temporary_is_not_current dir number is))
