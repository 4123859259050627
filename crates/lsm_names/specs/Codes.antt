-- A code of file names, by which they may be parts of a model's value.
use Rattle.std.specs.Prelude.{◌≡◌, ◌⊎◌, ℕ, refl}
use Rattle.std.proofs.Common.{inl, inr}
use Rattle.std.specs.Coded.{Coded, code_by, coded⊎, coded_ℕ}
use base.Stored.{coded_unit}
use Rattle.lsm_names.specs.declared.file_names.FileName.{FileName}
use Rattle.lsm_names.specs.declared.file_names.FileName.TheVariants.{Log, Table, Manifest, Temp, Current}

abbrev pub name_to : FileName → (ℕ ⊎ ℕ) ⊎ ((ℕ ⊎ ℕ) ⊎ Unit {0})
name_to (Log n) = inl (inl n)
name_to (Table n) = inl (inr n)
name_to (Manifest n) = inr (inl (inl n))
name_to (Temp n) = inr (inl (inr n))
name_to Current = inr (inr tt)

abbrev pub name_from : (ℕ ⊎ ℕ) ⊎ ((ℕ ⊎ ℕ) ⊎ Unit {0}) → FileName
name_from (inl (inl n)) = Log n
name_from (inl (inr n)) = Table n
name_from (inr (inl (inl n))) = Manifest n
name_from (inr (inl (inr n))) = Temp n
name_from (inr (inr _)) = Current

pub name_again : (name : FileName) → name_from (name_to name) ≡ name
name_again (Log n) = refl
name_again (Table n) = refl
name_again (Manifest n) = refl
name_again (Temp n) = refl
name_again Current = refl

abbrev pub coded_name : Coded FileName
coded_name =
    code_by ((ℕ ⊎ ℕ) ⊎ ((ℕ ⊎ ℕ) ⊎ Unit {0}))
    (coded⊎ (coded⊎ coded_ℕ coded_ℕ) (coded⊎ (coded⊎ coded_ℕ coded_ℕ) coded_unit)) name_to name_from name_again
