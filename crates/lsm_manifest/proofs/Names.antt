-- The paths of a new manifest, of its temporary file and of `CURRENT` are apart.
use Rattle.std.specs.Prelude.{◌≡◌, ◌≢◌, ℕ, true, false, cond, ◌==◌, List, [], ◌∷◌, ◌++◌, Option, Some, None}
use Rattle.std.proofs.Common.{refl, sym, ap, ◌∙◌, append_assoc, arith}
use Rattle.std.proofs.lemmas.Bool.{and_parts}
use Rattle.std.proofs.lemmas.Bool.Decides.{nat_tests}
use Rattle.std.proofs.lemmas.List.{append-nil}
use Rattle.std.specs.List.{list_all}
use Rattle.lsm_names.specs.FileNames.{spelled, IsFileName}
use Rattle.lsm_names.specs.Paths.{is_component_byte}
use Rattle.lsm_names.specs.declared.file_names.FileName.{FileName}
use Rattle.lsm_names.specs.declared.file_names.FileName.TheVariants.{Manifest, Temp, Current}
use Rattle.lsm_names.proofs.FileNameLemmas.{spelled_injective, spelled_is_component}
use Rattle.lsm_disk.specs.Names.{Moved, under}
use Rattle.lsm_disk.specs.Kept.{OpSpares}
use Rattle.lsm_disk.specs.Dest.{path_in}
use Rattle.lsm_disk.proofs.Paths.{under_tail}
use Rattle.lsm_disk.proofs.Moves.{under_is}
use Rattle.lsm_manifest.specs.Installing.{IsApart, current_path, manifest_path, temporary_path}
use Rattle.lsm_names.proofs.PathLemmas.{bytes_of_component}

tail_of : List ℕ → List ℕ
tail_of [] = []
tail_of (c ∷ rest) = rest

same_rest : (dir a b : List ℕ) → dir ++ 47 ∷ a ≡ dir ++ 47 ∷ b → a ≡ b
unfolding tail_of
same_rest [] a b same = ap tail_of same
same_rest (c ∷ dir) a b same = same_rest dir a b (ap tail_of same)

-- ---- no slash in a name

byte_in : (xs : List ℕ) (c : ℕ) (rest : List ℕ) → list_all is_component_byte (xs ++ c ∷ rest) ≡ true → is_component_byte c ≡ true
byte_in [] c rest h = (and_parts (is_component_byte c) (list_all is_component_byte rest) h).0
byte_in (x ∷ xs) c rest h = byte_in xs c rest (and_parts (is_component_byte x) (list_all is_component_byte (xs ++ c ∷ rest)) h).1

no_slash : (c : ℕ) → is_component_byte c ≡ true → (c == 47) ≡ false
unfolding is_component_byte
no_slash c h = grind (arith, nat_tests)

-- what follows a path inside it begins with a slash
only_none : (c : ℕ) (rest : List ℕ) → (c == 47) ≡ false → under [] (c ∷ rest) ≡ Some (c ∷ rest) → ⊥
only_none c rest is tail = let e : None ≡ Some (c ∷ rest) = sym (ap (λ b. cond b (Some (c ∷ rest)) None) is) ∙ tail in cc

module _ (dir : List ℕ) (a b : FileName) (is_a : IsFileName a) (is_b : IsFileName b) (apart : a ≢ b) where
  pub paths_apart : path_in dir a ≢ path_in dir b
  paths_apart same = apart (spelled_injective a b is_a is_b (same_rest dir (spelled a) (spelled b) same))

  clash : (rest : List ℕ) → under [] rest ≡ Some rest → spelled b ≡ spelled a ++ rest → ⊥
  clash [] tail same = apart (spelled_injective a b is_a is_b (sym (same ∙ append-nil (spelled a))))
  clash (c ∷ rest) tail same =
      let bytes : list_all is_component_byte (spelled a ++ c ∷ rest) ≡ true = sym (ap (list_all is_component_byte) same) ∙ bytes_of_component (spelled b) (spelled_is_component b is_b) in
      only_none c rest (no_slash c (byte_in (spelled a) c rest bytes)) tail

  -- one is not inside the other
  pub not_under : under (path_in dir a) (path_in dir b) ≡ None
  not_under = by_rest (under (path_in dir a) (path_in dir b)) refl where
    by_rest : (o : Option (List ℕ)) → under (path_in dir a) (path_in dir b) ≡ o → o ≡ None
    by_rest None is = refl
    by_rest (Some rest) is =
        let same : path_in dir b ≡ path_in dir a ++ rest = under_is (path_in dir a) (path_in dir b) rest is in
        absurd (clash rest (under_tail (path_in dir a) (path_in dir b) rest is) (same_rest dir (spelled b) (spelled a ++ rest) (same ∙ append_assoc dir (47 ∷ spelled a) rest)))

not_temporary : (m n : ℕ) → Temp n ≢ Manifest m
not_temporary m n same = cc

not_manifest : (m n : ℕ) → Manifest m ≢ Temp n
not_manifest m n same = cc

not_current : (m : ℕ) → Manifest m ≢ Current
not_current m same = cc

current_not : (m : ℕ) → Current ≢ Manifest m
current_not m same = cc

temporary_not_current : (n : ℕ) → Temp n ≢ Current
temporary_not_current n same = cc

number_of_manifest : FileName → ℕ
number_of_manifest (Manifest n) = n
number_of_manifest other = 0

same_number : (m n : ℕ) → Manifest m ≡ Manifest n → m ≡ n
unfolding number_of_manifest
same_number m n same = ap number_of_manifest same

module _ (dir : List ℕ) (number : ℕ) (is : IsFileName (Manifest number)) where
  pub new_not_current : manifest_path dir number ≢ current_path dir
  new_not_current = paths_apart dir (Manifest number) Current is tt (not_current number)

  pub temporary_is_not_current : temporary_path dir number ≢ current_path dir
  temporary_is_not_current = paths_apart dir (Temp number) Current is tt (temporary_not_current number)

  pub current_apart_new : current_path dir ≢ manifest_path dir number
  current_apart_new same = new_not_current (sym same)

  pub current_apart_temporary : current_path dir ≢ temporary_path dir number
  current_apart_temporary same = temporary_is_not_current (sym same)

  pub new_apart_temporary : manifest_path dir number ≢ temporary_path dir number
  new_apart_temporary = paths_apart dir (Manifest number) (Temp number) is is (not_manifest number number)

  -- the switch leaves each manifest
  pub manifest_spared : (m : ℕ) → IsFileName (Manifest m) → OpSpares (manifest_path dir m) (Moved (temporary_path dir number) (current_path dir))
  manifest_spared m is_m = (
    paths_apart dir (Manifest m) (Temp number) is_m is (not_manifest m number),
    paths_apart dir (Manifest m) Current is_m tt (not_current m),
    not_under dir (Temp number) (Manifest m) is is_m (not_temporary m number),
    not_under dir Current (Manifest m) tt is_m (current_not m),
  )

  -- a manifest of another number is apart
  pub other_manifest : (m : ℕ) → IsFileName (Manifest m) → m ≢ number → IsApart dir number (manifest_path dir m)
  other_manifest m is_m ne = record {
    new = paths_apart dir (Manifest m) (Manifest number) is_m is (λ same. ne (same_number m number same));
    temporary = paths_apart dir (Manifest m) (Temp number) is_m is (not_manifest m number);
    moved = manifest_spared m is_m;
  }
