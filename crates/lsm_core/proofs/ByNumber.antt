-- Pins by their numbers.
use Rattle.std.specs.Prelude.{◌≡◌, ℕ, ◌==◌, Bool, not, true, false, if◌then◌else◌, List, [], ◌∷◌, ◌++◌, Contains, filter, find, Some, ◌≤◌}
use Rattle.std.specs.List.{flat_map}
use Rattle.std.specs.Ordering.{nat_cmp}
use Rattle.std.specs.FinMap as finmap
use Rattle.std.proofs.Common.{⊎_elim, refl, ap, subst}
use Rattle.std.proofs.lemmas.List.Elements.{All-filter, Contains-append_left, Contains-append_right, Contains-append_cases}
use Rattle.lsm_names.specs.declared.file_names.FileName.{FileName}
use Rattle.lsm_names.specs.declared.file_names.FileName.TheVariants.{Current}
use Rattle.lsm_disk.specs.Viewed.{Viewed}
use Rattle.lsm_version.specs.Levels.{Tables}
use Rattle.lsm_refine.specs.Kept.{KeptPin}
use Rattle.lsm_refine.specs.Caused.{kept_pin_of, without_kept}
use Rattle.lsm_refine.specs.Sane.{names_held}
use Rattle.lsm_core.specs.Catalogs.{AreGiven, IsCatalog}

pub found_by : (number : ℕ) (pins : List KeptPin)
    → find (λ (pin : KeptPin). pin.number == number) pins ≡ kept_pin_of number pins
found_by number [] = refl
found_by number (pin ∷ pins) = elim (pin.number == number) as
    (λ b. (if b then Some pin else find (λ (other : KeptPin). other.number == number) pins) ≡ (if b then Some pin
    else kept_pin_of number pins)) [
      | true ↦ refl
      | false ↦ found_by number pins
    ]

pub filtered_by : (number : ℕ) (pins : List KeptPin)
    → filter (λ (pin : KeptPin). not (pin.number == number)) pins ≡ without_kept number pins
filtered_by number [] = refl
filtered_by number (pin ∷ pins) = elim (pin.number == number) as
    (λ b. (if not b then pin ∷ filter (λ (other : KeptPin). not (other.number == number)) pins else filter
    (λ (other : KeptPin). not (other.number == number)) pins)
    ≡ (if b then without_kept number pins else pin ∷ without_kept number pins)) [
      | true ↦ filtered_by number pins
      | false ↦ ap (λ (l : List KeptPin). pin ∷ l) (filtered_by number pins)
    ]

given_without : (number : ℕ) (pins : List KeptPin) (greatest : ℕ) → AreGiven pins greatest
    → AreGiven (without_kept number pins) greatest
given_without number pins greatest given =
    subst (λ (l : List KeptPin). AreGiven l greatest) (filtered_by number pins)
    (All-filter (λ (pin : KeptPin). not (pin.number == number)) (λ (pin : KeptPin). pin.number ≤ greatest) pins given)

-- what the pins hold that are left was held before
held_without : (number : ℕ) (pins : List KeptPin) (name : FileName) → Contains (flat_map names_held (without_kept number pins)) name
    → Contains (flat_map names_held pins) name
held_without number [] name among = among
held_without number (pin ∷ pins) name among = by (pin.number == number) among (held_without number pins name)
  where
    by : (b : Bool) → Contains (flat_map names_held (if b then without_kept number pins else pin ∷ without_kept number pins)) name
        → (Contains (flat_map names_held (without_kept number pins)) name → Contains (flat_map names_held pins) name)
        → Contains (names_held pin ++ flat_map names_held pins) name
    by true is before = Contains-append_right (names_held pin) (flat_map names_held pins) name (before is)
    by false is before = ⊎_elim (λ own. Contains-append_left (names_held pin) (flat_map names_held pins) name own)
        (λ other. Contains-append_right (names_held pin) (flat_map names_held pins) name (before other))
        (Contains-append_cases (names_held pin) (flat_map names_held (without_kept number pins)) name is)

-- a catalog whose pin of this number ends is one
pub catalog_without : (number : ℕ) (tables : Tables) (views : finmap.FinMap nat_cmp Viewed) (pins : List KeptPin) (greatest : ℕ)
    → IsCatalog tables views pins greatest → IsCatalog tables views (without_kept number pins) greatest
catalog_without number tables views pins greatest is = record {
  given = given_without number pins greatest is.given;
  current = λ among. is.current (held_without number pins Current among);
  range = is.range;
  live = is.live;
}
