-- The folders of a plain store, where one is put into the place of the one of its name.
use Rattle.std.specs.Prelude.{◌≡◌, ℕ, zero, suc, ◌<◌, Bool, true, false, cond, List, [], ◌∷◌, ◌++◌, take, drop, map, length, get_or, All}
use Rattle.std.proofs.Math.ListN.{set}
use Rattle.std.proofs.Common.{refl, ap, arith}
use Rattle.std.proofs.lemmas.List.Elements.{All-nil, All-cons}
use Rattle.std.specs.Str.{bytes_eq}
use Rattle.lsm_rows.specs.declared.operations.Op.{Op}
use Rattle.lsm_model.specs.declared.states.FolderRead.{FolderRead}
use Rattle.lsm_model.specs.declared.lookups.PlainFolder.{PlainFolder}
use Rattle.lsm_model.specs.States.{with_folder}
use Rattle.lsm_model.specs.Plain.{plain_folder, with_plain}

-- ---- up to a place

-- the first one of the name goes
pub set_there : (folders : List PlainFolder) (i : ℕ) (d new : PlainFolder) → i < length folders → bytes_eq (get_or folders i d).name new.name ≡ true
    → take i folders ++ with_plain new (drop i folders) ≡ set folders i new
set_there [] i d new less same = absurd (omega (arith, less))
set_there (folder ∷ folders) zero d new less same = ap (λ (b : Bool). cond b (new ∷ folders) (folder ∷ with_plain new folders)) same
set_there (folder ∷ folders) (suc i) d new less same = ap (λ (l : List PlainFolder). folder ∷ l) (set_there folders i d new (omega (arith, less)) same)

-- ---- as the state has them

pub placed : (accepted : List (List Op)) (new : PlainFolder) (folders : List PlainFolder)
    → map (plain_folder accepted) (with_plain new folders) ≡ with_folder (plain_folder accepted new) (map (plain_folder accepted) folders)
placed accepted new [] = refl
placed accepted new (folder ∷ folders) =
    let rest : List FolderRead = map (plain_folder accepted) folders in
    elim (bytes_eq folder.name new.name) as (λ b. map (plain_folder accepted) (cond b (new ∷ folders) (folder ∷ with_plain new folders)) ≡ cond b (plain_folder accepted new ∷ rest) (plain_folder accepted folder ∷ with_folder (plain_folder accepted new) rest)) [
      | true ↦ refl
      | false ↦ ap (λ (l : List FolderRead). plain_folder accepted folder ∷ l) (placed accepted new folders)
    ]

-- what all have, and the new one, all have then
pub all_placed : (P : PlainFolder → Type 0) (new : PlainFolder) (folders : List PlainFolder) → P new → All P folders → All P (with_plain new folders)
all_placed P new [] is all = All-cons P new [] is (All-nil P)
all_placed P new (folder ∷ folders) is all =
    let rest : All P folders = λ k d less. all (suc k) d (omega (arith, less)) in
    elim (bytes_eq folder.name new.name) as (λ b. All P (cond b (new ∷ folders) (folder ∷ with_plain new folders))) [
      | true ↦ All-cons P new folders is rest
      | false ↦ All-cons P folder (with_plain new folders) (all zero folder (omega arith)) (all_placed P new folders is rest)
    ]
