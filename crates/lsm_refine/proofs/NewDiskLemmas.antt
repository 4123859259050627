-- A disk may have a new store's folder.
use Rattle.std.specs.Prelude.{◌≡◌, ◌≢◌, ℕ, true, List, [], ◌∷◌, All}
use Rattle.std.proofs.Common.{refl, sym, arith}
use Rattle.std.proofs.lemmas.List.Elements.{All-nil, All-cons}
use Rattle.lsm_names.specs.Folders.{is_folder_name}
use Rattle.lsm_names.specs.FileNames.{IsFileName, spelled}
use Rattle.lsm_names.specs.declared.file_names.FileName.{FileName}
use Rattle.lsm_names.specs.declared.file_names.FileName.TheVariants.{Log, Manifest, Current}
use Rattle.lsm_names.proofs.FileNameLemmas.{spelled_injective}
use Rattle.lsm_disk.specs.Dest.{path_in}
use Rattle.lsm_disk.specs.Building.{Part, IsKeptPart}
use Rattle.lsm_folder.specs.Names.{current_text}
use Rattle.lsm_refine.specs.Sane.{IsAlone}
use Rattle.lsm_refine.specs.New.{first_manifest, new_files, new_disk, IsLeftover, IsThere, HasNewStore}
use Rattle.lsm_refine.proofs.FolderDisks.{AreApart, folder_kept, part_kept, none_kept, part_alone, clear}

-- ---- names that differ

current_differs : (number : ℕ) → IsFileName (Manifest number) → spelled (Manifest number) ≢ spelled Current
current_differs number fits same = let is : Manifest number ≡ Current = spelled_injective (Manifest number) Current fits tt same in cc

log_differs : (number : ℕ) → IsFileName (Log number) → spelled (Log number) ≢ spelled Current
log_differs number fits same = let is : Log number ≡ Current = spelled_injective (Log number) Current fits tt same in cc

log_and_manifest : (m n : ℕ) → IsFileName (Log m) → IsFileName (Manifest n) → spelled (Log m) ≢ spelled (Manifest n)
log_and_manifest m n fits number same = let is : Log m ≡ Manifest n = spelled_injective (Log m) (Manifest n) fits number same in cc

-- ---- the disk

abbrev part : FileName → List ℕ → Part
part name bytes = record { name = name; bytes = bytes }

pub new_apart : AreApart (new_files 1)
new_apart = (
  All-cons (λ (name : FileName). spelled Current ≢ spelled name) (Manifest 1) (Log 2 ∷ []) (λ same. current_differs 1 refl (sym same))
      (All-cons (λ (name : FileName). spelled Current ≢ spelled name) (Log 2) [] (λ same. log_differs 2 refl (sym same))
      (All-nil (λ (name : FileName). spelled Current ≢ spelled name))),
  (
    All-cons (λ (name : FileName). spelled (Manifest 1) ≢ spelled name) (Log 2) [] (λ same. log_and_manifest 2 1 refl refl (sym same))
        (All-nil (λ (name : FileName). spelled (Manifest 1) ≢ spelled name)),
    (All-nil (λ (name : FileName). spelled (Log 2) ≢ spelled name), tt),
  ),
)

module _ (dir : List ℕ) (fits : is_folder_name dir ≡ true) where
  kept_parts : All (IsKeptPart dir (new_disk dir)) (new_files 1)
  kept_parts =
      All-cons (IsKeptPart dir (new_disk dir)) (part Current (current_text 1)) (part (Manifest 1) (first_manifest 1) ∷ part (Log 2) [] ∷ [])
      (part_kept dir fits (new_files 1) new_apart 0 (part Current (current_text 1)) refl)
      (All-cons (IsKeptPart dir (new_disk dir)) (part (Manifest 1) (first_manifest 1)) (part (Log 2) [] ∷ [])
      (part_kept dir fits (new_files 1) new_apart 1 (part (Manifest 1) (first_manifest 1)) refl)
      (All-cons (IsKeptPart dir (new_disk dir)) (part (Log 2) []) [] (part_kept dir fits (new_files 1) new_apart 2 (part (Log 2) []) refl)
      (All-nil (IsKeptPart dir (new_disk dir)))))

  pub new_there : HasNewStore (new_disk dir) dir 1 []
  new_there = record {
    named = fits;
    least = omega arith;
    most = omega arith;
    earlier = All-nil (IsLeftover 1);
    settled = refl;
    stands = folder_kept dir fits (new_files 1) new_apart;
    each = kept_parts;
    there = All-nil (IsThere (new_disk dir) dir);
    only = λ name named others. none_kept dir fits (new_files 1) new_apart name others;
    alone =
        All-cons (IsAlone (new_disk dir)) (path_in dir (Manifest 1)) (path_in dir (Log 2) ∷ [])
        (part_alone dir fits (new_files 1) new_apart 1 (part (Manifest 1) (first_manifest 1)) refl)
        (All-cons (IsAlone (new_disk dir)) (path_in dir (Log 2)) []
        (part_alone dir fits (new_files 1) new_apart 2 (part (Log 2) []) refl) (All-nil (IsAlone (new_disk dir))));
    clear = clear dir fits (new_files 1) new_apart;
  }
