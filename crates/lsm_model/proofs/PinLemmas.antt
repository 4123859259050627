-- Pins by their numbers and folders by their names, in lists that grow and shrink.
use Rattle.std.specs.Prelude.{◌≡◌, ◌≢◌, ℕ, ◌<◌, Bool, true, false, ◌==◌, cond, List, [], ◌∷◌, ◌++◌, Some, None}
use Rattle.std.proofs.Common.{refl, sym, ap, ◌∙◌, arith}
use Rattle.std.proofs.lemmas.Bool.Decides.{nat_tests}
use Rattle.std.proofs.lemmas.Slice.Eq.{bytes_eq-Decides}
use Rattle.std.specs.Str.{bytes_eq}
use Rattle.std.specs.Option.{option_map}
use Rattle.lsm_model.specs.declared.states.Pin.{Pin}
use Rattle.lsm_model.specs.declared.states.FolderRead.{FolderRead}
use Rattle.lsm_model.specs.States.{pin_of, with_pin, without_pin, folder_of, with_folder}
use Rattle.lsm_disk.proofs.Paths.{itself}

-- ---- tests of numbers

pub same_if : (a b : ℕ) → (a == b) ≡ true → a ≡ b
same_if a b test = grind (arith, nat_tests)

pub other_if : (a b : ℕ) → a ≢ b → (a == b) ≡ false
other_if a b differ = grind (arith, nat_tests)

pub not_if : (a b : ℕ) → (a == b) ≡ false → a ≢ b
not_if a b test = grind (arith, nat_tests)

-- ---- a pin more

-- a pin that is found has the number
pub found_number : (number : ℕ) (pins : List Pin) (pin : Pin) → pin_of number pins ≡ Some pin → pin.number ≡ number
found_number number [] pin found = absurd (cc)
found_number number (first ∷ pins) pin found =
    elim (first.number == number) as (λ b. (first.number == number) ≡ b → cond b (Some first) (pin_of number pins) ≡ Some pin → pin.number ≡ number) [
      | true ↦ λ test is. let same : first ≡ pin = cc in ap (λ (p : Pin). p.number) (sym same) ∙ same_if first.number number test
      | false ↦ λ test is. found_number number pins pin is
    ] refl found

-- one of a greater number behind the others isn't found
pub found_before : (number : ℕ) (pins : List Pin) (new : Pin) → number < new.number → pin_of number (pins ++ new ∷ []) ≡ pin_of number pins
found_before number [] new less = ap (λ (b : Bool). cond b (Some new) None) (other_if new.number number (λ e. absurd (omega (arith, e, less))))
found_before number (pin ∷ pins) new less = ap (cond (pin.number == number) (Some pin)) (found_before number pins new less)

-- ---- a pin less

pub gone : (number : ℕ) (pins : List Pin) → pin_of number (without_pin number pins) ≡ None
gone number [] = refl
gone number (pin ∷ pins) =
    elim (pin.number == number) as (λ b. (pin.number == number) ≡ b → pin_of number (cond b (without_pin number pins) (pin ∷ without_pin number pins)) ≡ None) [
      | true ↦ λ test. gone number pins
      | false ↦ λ test. ap (λ (b : Bool). cond b (Some pin) (pin_of number (without_pin number pins))) test ∙ gone number pins
    ] refl

pub others_stay : (number other : ℕ) (pins : List Pin) → number ≢ other → pin_of number (without_pin other pins) ≡ pin_of number pins
others_stay number other [] differ = refl
others_stay number other (pin ∷ pins) differ =
    elim (pin.number == other) as (λ b. (pin.number == other) ≡ b → pin_of number (cond b (without_pin other pins) (pin ∷ without_pin other pins)) ≡ pin_of number (pin ∷ pins)) [
      | true ↦ λ test. others_stay number other pins differ
          ∙ sym (ap (λ (b : Bool). cond b (Some pin) (pin_of number pins)) (other_if pin.number number (λ e. differ (sym e ∙ same_if pin.number other test))))
      | false ↦ λ test. ap (cond (pin.number == number) (Some pin)) (others_stay number other pins differ)
    ] refl

-- ---- a pin changed

pub placed : (new : Pin) (pins : List Pin) → pin_of new.number (with_pin new pins) ≡ option_map (λ (p : Pin). new) (pin_of new.number pins)
placed new [] = refl
placed new (pin ∷ pins) =
    elim (pin.number == new.number) as (λ b. (pin.number == new.number) ≡ b
    → pin_of new.number (cond b (new ∷ pins) (pin ∷ with_pin new pins)) ≡ option_map (λ (p : Pin). new) (cond b (Some pin) (pin_of new.number pins))) [
      | true ↦ λ test. ap (λ (b : Bool). cond b (Some new) (pin_of new.number pins)) (itself new.number)
      | false ↦ λ test. ap (λ (b : Bool). cond b (Some pin) (pin_of new.number (with_pin new pins))) test ∙ placed new pins
    ] refl

pub others_kept : (number : ℕ) (new : Pin) (pins : List Pin) → number ≢ new.number → pin_of number (with_pin new pins) ≡ pin_of number pins
others_kept number new [] differ = refl
others_kept number new (pin ∷ pins) differ =
    elim (pin.number == new.number) as (λ b. (pin.number == new.number) ≡ b → pin_of number (cond b (new ∷ pins) (pin ∷ with_pin new pins)) ≡ pin_of number (pin ∷ pins)) [
      | true ↦ λ test. ap (λ (b : Bool). cond b (Some new) (pin_of number pins)) (other_if new.number number (λ e. differ (sym e)))
          ∙ sym (ap (λ (b : Bool). cond b (Some pin) (pin_of number pins)) (other_if pin.number number (λ e. differ (sym e ∙ same_if pin.number new.number test))))
      | false ↦ λ test. ap (cond (pin.number == number) (Some pin)) (others_kept number new pins differ)
    ] refl

-- ---- folders

other_name : (a b : List ℕ) → (a ≡ b → ⊥) → bytes_eq a b ≡ false
other_name a b differ = elim (bytes_eq a b) as (λ t. bytes_eq a b ≡ t → t ≡ false) [ true ↦ λ test. absurd (differ ((bytes_eq-Decides a b).0 test)) | false ↦ λ test. refl ] refl

-- a folder that is found stays the one that is found
pub folder_stays : (name : List ℕ) (folders : List FolderRead) (folder new : FolderRead) → folder_of name folders ≡ Some folder → folder_of name (folders ++ new ∷ []) ≡ Some folder
folder_stays name [] folder new found = absurd (cc)
folder_stays name (first ∷ folders) folder new found =
    elim (bytes_eq first.name name) as (λ b. cond b (Some first) (folder_of name folders) ≡ Some folder → cond b (Some first) (folder_of name (folders ++ new ∷ [])) ≡ Some folder) [
      | true ↦ λ is. is
      | false ↦ λ is. folder_stays name folders folder new is
    ] found

-- one that isn't is the new one of its name
pub folder_new : (name : List ℕ) (folders : List FolderRead) (new : FolderRead) → folder_of name folders ≡ None → bytes_eq new.name name ≡ true → folder_of name (folders ++ new ∷ []) ≡ Some new
folder_new name [] new none same = ap (λ (b : Bool). cond b (Some new) None) same
folder_new name (first ∷ folders) new none same =
    elim (bytes_eq first.name name) as (λ b. cond b (Some first) (folder_of name folders) ≡ None → cond b (Some first) (folder_of name (folders ++ new ∷ [])) ≡ Some new) [
      | true ↦ λ is. absurd (cc)
      | false ↦ λ is. folder_new name folders new is same
    ] none

-- ---- what a folder reads as, changed

-- one of another name stays
pub folder_kept : (name : List ℕ) (new : FolderRead) (folders : List FolderRead) → (new.name ≡ name → ⊥) → folder_of name (with_folder new folders) ≡ folder_of name folders
folder_kept name new [] differ = ap (λ (b : Bool). cond b (Some new) None) (other_name new.name name differ)
folder_kept name new (first ∷ folders) differ =
    elim (bytes_eq first.name new.name) as (λ b. bytes_eq first.name new.name ≡ b → folder_of name (cond b (new ∷ folders) (first ∷ with_folder new folders)) ≡ folder_of name (first ∷ folders)) [
      | true ↦ λ test. ap (λ (b : Bool). cond b (Some new) (folder_of name folders)) (other_name new.name name differ)
          ∙ sym (ap (λ (b : Bool). cond b (Some first) (folder_of name folders)) (other_name first.name name (λ e. differ (sym ((bytes_eq-Decides first.name new.name).0 test) ∙ e))))
      | false ↦ λ test. ap (cond (bytes_eq first.name name) (Some first)) (folder_kept name new folders differ)
    ] refl

-- the one of its name is the new one
pub folder_placed : (new : FolderRead) (folders : List FolderRead) → folder_of new.name (with_folder new folders) ≡ Some new
folder_placed new [] = ap (λ (b : Bool). cond b (Some new) None) ((bytes_eq-Decides new.name new.name).1 refl)
folder_placed new (first ∷ folders) =
    elim (bytes_eq first.name new.name) as (λ b. bytes_eq first.name new.name ≡ b → folder_of new.name (cond b (new ∷ folders) (first ∷ with_folder new folders)) ≡ Some new) [
      | true ↦ λ test. ap (λ (b : Bool). cond b (Some new) (folder_of new.name folders)) ((bytes_eq-Decides new.name new.name).1 refl)
      | false ↦ λ test. ap (λ (b : Bool). cond b (Some first) (folder_of new.name (with_folder new folders))) test ∙ folder_placed new folders
    ] refl
