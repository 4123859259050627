-- The lines of a meta's text, and what is read of them.
use Rattle.std.proofs.Common.{◌≡◌, ℕ, ◌-◌, ◌/◌, ◌%◌, ◌^◌, ◌<◌, ◌≤◌, List, [], ◌∷◌, ◌++◌, length, Bool, true, false, refl, ap, sym, ◌∙◌, arith, Option, Some, None, Ok, suc}
use Rattle.std.specs.Prelude.{not, ◌==◌, ◌&&◌, codes, nat_le, if◌then◌else◌, slice_index, is_some}
use Rattle.std.specs.Char.{is_ascii_digit}
use Rattle.std.specs.Fmt.{decimal}
use Rattle.std.specs.List.{list_all}
use Rattle.std.specs.Result.{result_ok}
use Rattle.std.proofs.lemmas.Bool.{agree_below_at, and_parts}
use Rattle.std.proofs.lemmas.Bool.Decides.{nat_tests}
use Rattle.std.proofs.lemmas.Fmt.{digits_decimal, decimal_nonempty}
use Rattle.std.proofs.lemmas.List.{append_assoc}
use Rattle.hex.specs.Hex.{encode_lower, encode_with, lower_digits, decode_of, IsBytes}
use Rattle.hex.proofs.HexLemmas.{length-encode_with, decode_of-encode_lower}
use Rattle.lsm_names.specs.Paths.{is_component, is_component_byte}
use Rattle.lsm_names.proofs.NumberLemmas.{digit_texts}
use Rattle.lsm_names.proofs.PathLemmas.{list_all-weaker, list_all-append, bytes_of_component}
use Rattle.bk_meta.specs.declared.errors.MetaWhy.TheVariants.{Ending}
use Rattle.bk_meta.specs.Lines.{some_or, cut_at, line_at, begins}
use Rattle.bk_meta.specs.Numbers.{is_lower_digit, metadata_of}
use Rattle.lsm_names.specs.declared.file_names.FileName.{FileName}
use Rattle.lsm_names.specs.FileNames.{spelled, IsFileName}
use Rattle.lsm_names.specs.SharedNames.{spelled_shared}
use Rattle.lsm_names.proofs.FileNameLemmas.{spelled_is_component}
use Rattle.lsm_names.proofs.SharedNameLemmas.{shared_is_component}
use Rattle.bk_meta.specs.declared.backup_files.BackupFile.{BackupFile}
use Rattle.bk_meta.specs.declared.backup_files.BackupFile.TheVariants.{Private, Shared}
use Rattle.bk_meta.specs.declared.metas.MetaFile.{MetaFile}
use Rattle.bk_meta.specs.BackupFiles.{private_folder, shared_folder, path_of, IsBackupFile, file_at}
use Rattle.bk_meta.specs.Metas.{metadata_text, file_text, file_of, file_where, file_with, crc_of, IsMetaFile}
use Rattle.bk_meta.proofs.FileLemmas.{path_spells, private_is_named}
use Rattle.bk_meta.proofs.LineLemmas.{cut_whole}
use Rattle.bk_meta.proofs.NumberLemmas.{number_found}

-- ---- texts without a mark

abbrev pub lacks : ℕ → List ℕ → Type 0
lacks mark text = list_all (λ byte. not (byte == mark)) text ≡ true

digit_is_other : (mark : ℕ) → is_ascii_digit mark ≡ false → (byte : ℕ) → is_ascii_digit byte ≡ true → not (byte == mark) ≡ true
digit_is_other mark h byte k = grind (arith, nat_tests)

pub decimal_lacks : (mark number : ℕ) → number < 2 ^ 64 → is_ascii_digit mark ≡ false → lacks mark (decimal number)
decimal_lacks mark number small h = list_all-weaker is_ascii_digit (λ byte. not (byte == mark)) (digit_is_other mark h) (decimal number) (digits_decimal digit_texts number small)

byte_is_other : (mark : ℕ) → is_component_byte mark ≡ false → (byte : ℕ) → is_component_byte byte ≡ true → not (byte == mark) ≡ true
byte_is_other mark h byte k = by_test (byte == mark) refl where
  by_test : (is : Bool) → byte == mark ≡ is → not is ≡ true
  by_test true same =
      let equal : byte ≡ mark = grind (arith, nat_tests) in
      let both_ways : false ≡ true = sym h ∙ ap is_component_byte (sym equal) ∙ k in
      absurd (cc)
  by_test false same = refl

pub component_lacks : (mark : ℕ) (part : List ℕ) → is_component_byte mark ≡ false → is_component part ≡ true → lacks mark part
component_lacks mark part h known = list_all-weaker is_component_byte (λ byte. not (byte == mark)) (byte_is_other mark h) part (bytes_of_component part known)

lower_is_other : (byte : ℕ) → is_lower_digit byte ≡ true → not (byte == 10) ≡ true
unfolding is_lower_digit
lower_is_other byte h = grind (arith, nat_tests)

pub lower_lacks : (digits : List ℕ) → list_all is_lower_digit digits ≡ true → lacks 10 digits
lower_lacks digits h = list_all-weaker is_lower_digit (λ byte. not (byte == 10)) lower_is_other digits h

-- ---- a line is read

pub line_reads : (at : ℕ) (line rest : List ℕ) → lacks 10 line → line_at at (line ++ 10 ∷ rest) ≡ Ok (line, rest)
line_reads at line rest whole = ap (λ (cut : Option (List ℕ × List ℕ)). some_or at Ending cut) (cut_whole 10 line rest whole)

first_differs : (first : ℕ) (front digits behind : List ℕ) → is_ascii_digit first ≡ false → 0 < length digits → list_all is_ascii_digit digits ≡ true → begins (first ∷ front) (digits ++ behind) ≡ false
first_differs first front [] behind h some whole = absurd (omega arith)
first_differs first front (digit ∷ digits) behind h some whole =
    let cut = and_parts (is_ascii_digit digit) (list_all is_ascii_digit digits) whole in
    let other : digit == first ≡ false = grind (arith, nat_tests, h, cut.0) in
    rw other

pub number_begins : (first number : ℕ) (front behind : List ℕ) → number < 2 ^ 64 → is_ascii_digit first ≡ false → begins (first ∷ front) (decimal number ++ behind) ≡ false
number_begins first number front behind small h = first_differs first front (decimal number) behind h (decimal_nonempty number small) (digits_decimal digit_texts number small)

-- ---- hexadecimal digits, and_parts ways

digit_of : ℕ → Bool
digit_of value = is_lower_digit (slice_index lower_digits value)

abbrev always : ℕ → Bool
always value = true

digits_are_lower : (value : ℕ) → value < 16 → is_lower_digit (slice_index lower_digits value) ≡ true
unfolding is_lower_digit digit_of
digits_are_lower value small = agree_below_at digit_of always 16 value refl small

pub encoded_is_lower : (bytes : List ℕ) → IsBytes bytes → list_all is_lower_digit (encode_lower bytes) ≡ true
unfolding encode_with
encoded_is_lower [] h = refl
encoded_is_lower (byte ∷ bytes) h =
    let small : byte < 256 = h 0 in
    let high = digits_are_lower (byte / 16) (omega arith) in
    let low = digits_are_lower (byte % 16) (omega arith) in
    rw (high, low) (encoded_is_lower bytes (λ k. h (suc k)))

chosen : (a b c : Bool) (it : Option (List ℕ)) → a ≡ true → b ≡ true → c ≡ true → (if a && b && c then it else None) ≡ it
chosen a b c it p q r = rw (p, q, r)

pub metadata_found : (bytes : List ℕ) → IsBytes bytes → 1 ≤ length bytes → length bytes ≤ 1024 → metadata_of (encode_lower bytes) ≡ Some bytes
unfolding metadata_of
metadata_found bytes h some short =
    let long = length-encode_with lower_digits bytes in
    let least : nat_le 2 (length (encode_lower bytes)) ≡ true = grind (arith, nat_tests, long) in
    let most : nat_le (length (encode_lower bytes)) 2048 ≡ true = grind (arith, nat_tests, long) in
    chosen (list_all is_lower_digit (encode_lower bytes)) (nat_le 2 (length (encode_lower bytes))) (nat_le (length (encode_lower bytes)) 2048) (result_ok (decode_of (encode_lower bytes))) (encoded_is_lower bytes h) least most
    ∙ ap result_ok (decode_of-encode_lower bytes h)

pub metadata_pushed : (text bytes one two three digits : List ℕ) → (bytes ≡ [] → ⊥) → one ≡ text ++ codes "metadata " → two ≡ one ++ digits → three ≡ two ++ 10 ∷ [] → digits ≡ encode_lower bytes → three ≡ text ++ metadata_text bytes
metadata_pushed text [] one two three digits some p q r s = absurd (some refl)
metadata_pushed text (byte ∷ bytes) one two three digits some p q r s =
    r
    ∙ ap (λ (t : List ℕ). t ++ 10 ∷ []) (q ∙ (λ i. p i ++ s i) ∙ append_assoc text (codes "metadata ") (encode_lower (byte ∷ bytes)))
    ∙ append_assoc text (codes "metadata " ++ encode_lower (byte ∷ bytes)) (10 ∷ [])

-- ---- a file's line

private_lacks : (mark id : ℕ) (name : FileName) → id < 2 ^ 64 → is_component_byte mark ≡ false → is_ascii_digit mark ≡ false → lacks mark (codes "private/") → lacks mark (codes "/") → IsFileName name → lacks mark (private_folder id ++ spelled name)
private_lacks mark id name small h k front slash known =
    let test : ℕ → Bool = λ byte. not (byte == mark) in
    list_all-append test (private_folder id) (spelled name)
    (list_all-append test (codes "private/" ++ decimal id) (codes "/") (list_all-append test (codes "private/") (decimal id) front (decimal_lacks mark id small k)) slash)
    (component_lacks mark (spelled name) h (spelled_is_component name known))

file_lacks : (mark id : ℕ) (file : BackupFile) → id < 2 ^ 64 → is_component_byte mark ≡ false → is_ascii_digit mark ≡ false → lacks mark (codes "private/") → lacks mark (codes "/") → lacks mark (codes "shared_checksum/") → IsBackupFile file → lacks mark (path_of id file)
unfolding path_of
file_lacks mark id (Private name) small h k front slash shared known = private_lacks mark id name small h k front slash (private_is_named name known)
file_lacks mark id (Shared name) small h k front slash shared known =
    list_all-append (λ byte. not (byte == mark)) shared_folder (spelled_shared name) shared (component_lacks mark (spelled_shared name) h (shared_is_component name known))

some_file : (o : Option BackupFile) → is_some o ≡ true → (file : BackupFile) × o ≡ Some file
some_file None h = absurd (cc)
some_file (Some file) h = (file, refl)

path_lacks : (mark id : ℕ) (path : List ℕ) → id < 2 ^ 64 → is_component_byte mark ≡ false → is_ascii_digit mark ≡ false → lacks mark (codes "private/") → lacks mark (codes "/") → lacks mark (codes "shared_checksum/") → is_some (file_at id path) ≡ true → lacks mark path
path_lacks mark id path small h k front slash shared named =
    let it = some_file (file_at id path) named in
    let said = path_spells id path it.0 it.1 in
    ap (list_all (λ byte. not (byte == mark))) said.1 ∙ file_lacks mark id it.0 small h k front slash shared said.0

newline_is_none : is_component_byte 10 ≡ false
unfolding is_component_byte
newline_is_none = refl

space_is_none : is_component_byte 32 ≡ false
unfolding is_component_byte
space_is_none = refl

pub file_line_lacks : (id : ℕ) (file : MetaFile) → id < 2 ^ 64 → IsMetaFile id file → lacks 10 (file_text file)
file_line_lacks id file small h =
    let test : ℕ → Bool = λ byte. not (byte == 10) in
    list_all-append test (file.path ++ codes " crc32 ") (decimal file.crc)
    (list_all-append test file.path (codes " crc32 ") (path_lacks 10 id file.path small newline_is_none refl refl refl refl h.named) refl)
    (decimal_lacks 10 file.crc (omega (arith, h.fits)) refl)

crc_reads : (crc : ℕ) → crc < 2 ^ 32 → crc_of (codes "crc32 " ++ decimal crc) ≡ Some crc
crc_reads crc small = number_found (2 ^ 32 - 1) crc (omega arith) (omega arith)

with_named : (named : Bool) (path : List ℕ) (crc : Option ℕ) → named ≡ true → (if named then file_with path crc else None) ≡ file_with path crc
with_named named path crc h = rw h

pub file_found : (id : ℕ) (file : MetaFile) → id < 2 ^ 64 → IsMetaFile id file → file_of id (file_text file) ≡ Some file
unfolding file_of
file_found id file small h =
    let behind = codes "crc32 " ++ decimal file.crc in
    ap (λ (line : List ℕ). file_where id (cut_at 32 line)) (append_assoc file.path (codes " crc32 ") (decimal file.crc))
    ∙ ap (file_where id) (cut_whole 32 file.path behind (path_lacks 32 id file.path small space_is_none refl refl refl refl h.named))
    ∙ with_named (is_some (file_at id file.path)) file.path (crc_of behind) h.named
    ∙ ap (file_with file.path) (crc_reads file.crc h.fits)
