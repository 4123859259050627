-- A folder's name is a component of a path.
use Rattle.std.proofs.Common.{◌≡◌, ℕ, ◌≤◌, List, length, true, arith}
use Rattle.std.specs.Prelude.{slice_index}
use Rattle.std.specs.List.{list_all}
use Rattle.std.specs.Char.{is_ascii_alphanumeric}
use Rattle.std.proofs.lemmas.Bool.Decides.{nat_tests}
use Rattle.lsm_names.specs.Paths.{is_component_byte, is_component}
use Rattle.lsm_names.proofs.PathLemmas.{component_of_parts, list_all-weaker, not_dots}
use Rattle.lsm_names.specs.Folders.{is_small_letter_or_digit, is_folder_byte, is_folder_name}

pub folder_is_short : (name : List ℕ) → is_folder_name name ≡ true → length name ≤ 64
unfolding is_folder_name
folder_is_short name h = grind (arith, nat_tests)

-- each of a folder's bytes may stand in a path
component_byte : (byte : ℕ) → is_folder_byte byte ≡ true → is_component_byte byte ≡ true
unfolding is_folder_byte is_small_letter_or_digit is_component_byte
component_byte byte h = grind (arith, nat_tests)

first_is_alphanumeric : (byte : ℕ) → is_small_letter_or_digit byte ≡ true → is_ascii_alphanumeric byte ≡ true
unfolding is_small_letter_or_digit
first_is_alphanumeric byte h = grind (arith, nat_tests)

first_of_folder : (name : List ℕ) → is_folder_name name ≡ true → is_small_letter_or_digit (slice_index name 0) ≡ true
unfolding is_folder_name
first_of_folder name h = grind (arith, nat_tests)

pub bytes_of_folder : (name : List ℕ) → is_folder_name name ≡ true → list_all is_folder_byte name ≡ true
unfolding is_folder_name
bytes_of_folder name h = grind (arith, nat_tests)

pub folder_has_bytes : (name : List ℕ) → is_folder_name name ≡ true → 1 ≤ length name
unfolding is_folder_name
folder_has_bytes name h = grind (arith, nat_tests)

pub folder_is_component : (name : List ℕ) → is_folder_name name ≡ true → is_component name ≡ true
folder_is_component name h =
    component_of_parts name (folder_has_bytes name h) (omega (arith, folder_is_short name h))
    (list_all-weaker is_folder_byte is_component_byte component_byte name (bytes_of_folder name h))
    (not_dots name (first_is_alphanumeric (slice_index name 0) (first_of_folder name h)))
