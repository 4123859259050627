-- Where the files of a folder stand.
use Rattle.std.specs.Prelude.{◌≡◌, ◌≢◌, ℕ, true, List, [], ◌∷◌, ◌++◌, length, is_some}
use Rattle.std.proofs.Common.{refl, sym, ap, ◌∙◌, arith, length-append}
use Rattle.std.proofs.lemmas.List.{append-nil}
use Rattle.lsm_names.specs.FileNames.{spelled, IsFileName}
use Rattle.lsm_names.specs.Paths.{parent_of}
use Rattle.lsm_names.specs.declared.file_names.FileName.{FileName}
use Rattle.lsm_names.specs.declared.file_names.FileName.TheVariants.{Log, Table, Manifest, Temp, Current}
use Rattle.lsm_names.proofs.FileNameLemmas.{spelled_injective, spelled_is_component}
use Rattle.lsm_names.proofs.PathLemmas.{parent_of_joined}
use Rattle.lsm_disk.specs.Names.{is_in, under}
use Rattle.lsm_disk.specs.Dest.{IsPartName, path_in, temporary}
use Rattle.lsm_disk.proofs.Paths.{under_append}

-- ---- names

pub part_is_file : (name : FileName) → IsPartName name → IsFileName name
part_is_file (Log number) is = is
part_is_file (Table number) is = is
part_is_file (Manifest number) is = is
part_is_file (Temp number) is = absurd is
part_is_file Current is = absurd is

pub temporary_is_file : IsFileName temporary
temporary_is_file = refl

pub not_current : (name : FileName) → IsPartName name → Current ≢ name
not_current (Log number) is same = cc
not_current (Table number) is same = cc
not_current (Manifest number) is same = cc
not_current (Temp number) is same = absurd is
not_current Current is same = absurd is

pub not_temporary : (name : FileName) → IsPartName name → temporary ≢ name
not_temporary (Log number) is same = cc
not_temporary (Table number) is same = cc
not_temporary (Manifest number) is same = cc
not_temporary (Temp number) is same = absurd is
not_temporary Current is same = absurd is

pub names_apart : (a b : FileName) → IsFileName a → IsFileName b → a ≢ b → spelled a ≢ spelled b
names_apart a b is_a is_b apart same = apart (spelled_injective a b is_a is_b same)

-- ---- paths

tail_of : List ℕ → List ℕ
tail_of [] = []
tail_of (c ∷ rest) = rest

pub same_rest : (folder a b : List ℕ) → folder ++ 47 ∷ a ≡ folder ++ 47 ∷ b → a ≡ b
unfolding tail_of
same_rest [] a b same = ap tail_of same
same_rest (c ∷ folder) a b same = same_rest folder a b (ap tail_of same)

-- what follows the folder tells its places apart
pub rests_apart : (folder a b : List ℕ) → a ≢ b → folder ++ 47 ∷ a ≢ folder ++ 47 ∷ b
rests_apart folder a b apart same = apart (same_rest folder a b same)

pub not_the_folder : (folder rest : List ℕ) → folder ≢ folder ++ 47 ∷ rest
not_the_folder folder rest same = absurd (omega (arith, ap length same, length-append folder (47 ∷ rest)))

pub parent_is : (folder : List ℕ) (name : FileName) → IsFileName name → parent_of (path_in folder name) ≡ folder
parent_is folder name is = parent_of_joined folder (spelled name) (spelled_is_component name is)

pub inside_folder : (folder rest : List ℕ) → is_in folder (folder ++ 47 ∷ rest) ≡ true
inside_folder [] rest = refl
inside_folder (c ∷ folder) rest = ap is_some (under_append (c ∷ folder) (47 ∷ rest) refl)

pub folder_itself : (folder : List ℕ) → is_in folder folder ≡ true
folder_itself [] = refl
folder_itself (c ∷ folder) = ap (λ (l : List ℕ). is_some (under (c ∷ folder) l)) (sym (append-nil (c ∷ folder))) ∙ ap is_some (under_append (c ∷ folder) [] refl)
