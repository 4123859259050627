-- The paths that a creation makes are paths of a disk.
use Rattle.std.proofs.Common.{◌≡◌, ◌≢◌, ℕ, ◌+◌, ◌^◌, ◌<◌, ◌≤◌, List, [], ◌∷◌, ◌++◌, length, Bool, true, false, refl, ap, sym, ◌∙◌, arith}
use Rattle.std.specs.Prelude.{codes, ◌||◌, slice_index}
use Rattle.std.specs.Char.{is_ascii_digit, is_ascii_alphanumeric}
use Rattle.std.specs.Fmt.{decimal}
use Rattle.std.specs.List.{list_all}
use Rattle.std.specs.Str.{bytes_eq}
use Rattle.std.proofs.lemmas.Bool.Decides.{nat_tests}
use Rattle.std.proofs.lemmas.Fmt.{digits_decimal, decimal_nonempty, length-decimal-le}
use Rattle.std.proofs.lemmas.List.{append_assoc, length-append}
use Rattle.std.proofs.lemmas.Slice.Eq.{bytes_eq-Decides}
use Rattle.lsm_names.specs.Paths.{is_path, is_component, is_component_byte, is_dots}
use Rattle.lsm_names.proofs.FileNameLemmas.{digit_is_component_byte, digit_is_alphanumeric}
use Rattle.lsm_names.proofs.NumberLemmas.{digit_texts}
use Rattle.lsm_names.proofs.PathLemmas.{list_all-append, list_all-weaker, component_of_parts, component_is_path, joined_is_path, not_dots}
use Rattle.lsm_names.specs.FileNames.{spelled}
use Rattle.lsm_names.specs.declared.file_names.FileName.{FileName}
use Rattle.bk_meta.specs.declared.backup_files.BackupFile.TheVariants.{Private}
use Rattle.bk_meta.specs.BackupFiles.{path_of}
use Rattle.bk_tree.specs.Places.{meta_path}
use Rattle.bk_engine.specs.Paths.{own_folder, temporary_path}
use Rattle.std.proofs.lemmas.Bool.{and_parts}
use Rattle.bk_meta.proofs.FileLemmas.{first_digit, identifier_is_component, private_is_path}

pub short_decimal : (id : ℕ) → id < 2 ^ 32 → length (decimal id) ≤ 10
short_decimal id small = length-decimal-le 10 id (omega arith) (omega arith) (omega arith)

pub decimal_digits : (id : ℕ) → id < 2 ^ 32 → list_all is_ascii_digit (decimal id) ≡ true
decimal_digits id small = digits_decimal digit_texts id (omega arith)

pub decimal_some : (id : ℕ) → id < 2 ^ 32 → 0 < length (decimal id)
decimal_some id small = decimal_nonempty id (omega arith)

decimal_bytes : (id : ℕ) → id < 2 ^ 32 → list_all is_component_byte (decimal id) ≡ true
decimal_bytes id small = list_all-weaker is_ascii_digit is_component_byte digit_is_component_byte (decimal id) (decimal_digits id small)

meta_is_path : is_path (codes "meta") ≡ true
unfolding is_path is_component is_component_byte is_dots
meta_is_path = refl

pub own_folder_is_path : (id : ℕ) → id < 2 ^ 32 → is_path (codes "private/" ++ decimal id) ≡ true
own_folder_is_path id small = joined_is_path (codes "private") (decimal id) private_is_path (component_is_path (decimal id) (identifier_is_component id small)) (omega (arith, short_decimal id small))

pub meta_path_is_path : (id : ℕ) → id < 2 ^ 32 → is_path (codes "meta/" ++ decimal id) ≡ true
meta_path_is_path id small = joined_is_path (codes "meta") (decimal id) meta_is_path (component_is_path (decimal id) (identifier_is_component id small)) (omega (arith, short_decimal id small))

differs : (left right : List ℕ) → length left ≢ length right → bytes_eq left right ≡ false
differs left right ne = by_test (bytes_eq left right) (λ same. ne (ap length ((bytes_eq-Decides left right).0 same))) where
  by_test : (b : Bool) → (b ≡ true → ⊥) → b ≡ false
  by_test true no_one = absurd (no_one refl)
  by_test false no_one = refl

long_is_not_dots : (part : List ℕ) → 3 ≤ length part → is_dots part ≡ false
unfolding is_dots
long_is_not_dots part long = λ i. differs part (codes ".") (λ same. omega (arith, same, long)) i || differs part (codes "..") (λ same. omega (arith, same, long)) i

point_bytes : list_all is_component_byte (codes ".") ≡ true
unfolding is_component_byte
point_bytes = refl

tmp_has_bytes : list_all is_component_byte (codes ".tmp") ≡ true
unfolding is_component_byte
tmp_has_bytes = refl

temporary_component : (id : ℕ) → id < 2 ^ 32 → is_component (codes "." ++ decimal id ++ codes ".tmp") ≡ true
temporary_component id small =
    let front : length (codes "." ++ decimal id) ≡ 1 + length (decimal id) = length-append (codes ".") (decimal id) in
    let whole : length (codes "." ++ decimal id ++ codes ".tmp") ≡ length (codes "." ++ decimal id) + 4 = length-append (codes "." ++ decimal id) (codes ".tmp") in
    component_of_parts (codes "." ++ decimal id ++ codes ".tmp") (omega (arith, whole)) (omega (arith, whole, front, short_decimal id small))
    (list_all-append is_component_byte (codes "." ++ decimal id) (codes ".tmp") (list_all-append is_component_byte (codes ".") (decimal id) point_bytes (decimal_bytes id small)) tmp_has_bytes)
    (long_is_not_dots (codes "." ++ decimal id ++ codes ".tmp") (omega (arith, whole)))

pub temporary_is_path : (id : ℕ) → id < 2 ^ 32 → is_path (codes "meta/." ++ decimal id ++ codes ".tmp") ≡ true
temporary_is_path id small =
    let front : length (codes "." ++ decimal id) ≡ 1 + length (decimal id) = length-append (codes ".") (decimal id) in
    let whole : length (codes "." ++ decimal id ++ codes ".tmp") ≡ length (codes "." ++ decimal id) + 4 = length-append (codes "." ++ decimal id) (codes ".tmp") in
    joined_is_path (codes "meta") (codes "." ++ decimal id ++ codes ".tmp") meta_is_path (component_is_path (codes "." ++ decimal id ++ codes ".tmp") (temporary_component id small)) (omega (arith, whole, front, short_decimal id small))

-- ---- a text that is written in parts

pub two_parts : (none one text front back : List ℕ) → none ≡ [] → one ≡ none ++ front → text ≡ one ++ back → text ≡ front ++ back
two_parts none one text front back empty first second = second ∙ ap (λ (l : List ℕ). l ++ back) (first ∙ ap (λ (l : List ℕ). l ++ front) empty)

pub three_parts : (none one two text front middle back : List ℕ) → none ≡ [] → one ≡ none ++ front → two ≡ one ++ middle → text ≡ two ++ back → text ≡ front ++ middle ++ back
three_parts none one two text front middle back empty first second third = third ∙ ap (λ (l : List ℕ). l ++ back) (two_parts none one two front middle empty first second)

pub is_own_folder : (id : ℕ) → own_folder id ≡ codes "private/" ++ decimal id
unfolding own_folder
is_own_folder id = refl

pub is_meta_path : (id : ℕ) → meta_path id ≡ codes "meta/" ++ decimal id
unfolding meta_path
is_meta_path id = refl

pub is_temporary : (id : ℕ) → temporary_path id ≡ codes "meta/." ++ decimal id ++ codes ".tmp"
unfolding temporary_path
is_temporary id = refl

pub is_own_path : (id : ℕ) (name : FileName) → path_of id (Private name) ≡ codes "private/" ++ decimal id ++ codes "/" ++ spelled name
unfolding path_of
is_own_path id name = refl
