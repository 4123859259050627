-- Which file a path names, and_parts ways.
use Rattle.std.proofs.Common.{◌≡◌, ◌≢◌, ℕ, ◌^◌, ◌<◌, List, [], ◌∷◌, ◌++◌, length, take, drop, Bool, true, false, refl, ap, sym, ◌∙◌, subst, arith, Option, Some, None, inl, inr}
use Rattle.std.specs.Prelude.{◌&&◌, ◌⊎◌, if◌then◌else◌, codes, slice_index, nat_lt}
use Rattle.std.specs.Char.{is_ascii_digit, is_ascii_alphanumeric}
use Rattle.std.specs.Fmt.{decimal}
use Rattle.std.specs.List.{list_all, filter}
use Rattle.std.specs.Option.{option_map}
use Rattle.std.specs.Str.{bytes_eq}
use Rattle.std.specs.Str.Parse.{digits_value}
use Rattle.std.proofs.lemmas.Bool.Decides.{nat_tests}
use Rattle.std.proofs.lemmas.Fmt.{digits_decimal, digits_value-decimal, decimal_nonempty, length-decimal-le}
use Rattle.std.proofs.lemmas.List.{append-nil, append_assoc, length-append}
use Rattle.std.proofs.lemmas.List.Elements.{filter-append}
use Rattle.std.proofs.lemmas.Slice.Eq.{bytes_eq-Decides}
use Rattle.std.proofs.Math.Seq.{take-append_seam, drop-append_seam}
use Rattle.lsm_names.specs.declared.file_names.FileName.{FileName}
use Rattle.lsm_names.specs.declared.file_names.FileName.TheVariants.{Log, Table, Manifest, Temp, Current}
use Rattle.lsm_names.specs.declared.shared_names.SharedName.{SharedName}
use Rattle.lsm_names.specs.FileNames.{spelled, IsFileName}
use Rattle.lsm_names.specs.Numbers.{six_digits, is_file_number}
use Rattle.lsm_names.specs.Paths.{is_path, is_component, is_component_byte, is_dots}
use Rattle.lsm_names.specs.Sessions.{is_session}
use Rattle.lsm_names.specs.SharedNames.{spelled_shared, IsSharedName}
use Rattle.lsm_names.proofs.FileNameLemmas.{spelled_injective, spelled_is_component, spelled_is_short, file_number_fits, six_are_digits, digit_is_component_byte}
use Rattle.lsm_names.proofs.NumberLemmas.{digit_texts, padded_value}
use Rattle.lsm_names.proofs.PathLemmas.{list_all-weaker, component_of_parts, component_is_path, component_is_short, joined_is_path, not_dots}
use Rattle.lsm_names.proofs.SessionLemmas.{length_of_session}
use Rattle.lsm_names.proofs.SharedNameLemmas.{origin, shared_parts, six_have_no_underscore, same_name, shared_is_component}
use Rattle.bk_meta.specs.declared.backup_files.BackupFile.{BackupFile}
use Rattle.bk_meta.specs.declared.backup_files.BackupFile.TheVariants.{Private, Shared}
use Rattle.bk_meta.specs.BackupFiles.{private_folder, shared_folder, path_of, IsBackupFile, number_in, private_name, shared_by, is_shared_name, if_spelled, shared_where, shared_name, file_at}
use Rattle.bk_meta.specs.Lines.{begins, cut_at}
use Rattle.bk_meta.proofs.LineLemmas.{cut_whole, begins_with, begun_by, behind_front}
use Rattle.std.proofs.lemmas.Bool.{and_parts}

-- ---- tests of texts

same_text : (text : List ℕ) → bytes_eq text text ≡ true
same_text text = (bytes_eq-Decides text text).1 refl

equal_texts : (left right : List ℕ) → bytes_eq left right ≡ true → left ≡ right
equal_texts left right = (bytes_eq-Decides left right).0

pub by_difference : (is : Bool) → (is ≡ true → ⊥) → is ≡ false
by_difference true no_one = absurd (no_one refl)
by_difference false no_one = refl

pub other_texts : (left right : List ℕ) → left ≢ right → bytes_eq left right ≡ false
other_texts left right differ = by_difference (bytes_eq left right) (λ same. differ (equal_texts left right same))

-- ---- the digits of a text

all_kept : (test : ℕ → Bool) (xs : List ℕ) → list_all test xs ≡ true → filter test xs ≡ xs
all_kept test [] h = refl
all_kept test (x ∷ xs) h =
    let cut = and_parts (test x) (list_all test xs) h in
    rw (cut.0, all_kept test xs cut.1)

digits_in_front : (digits behind : List ℕ) → list_all is_ascii_digit digits ≡ true → filter is_ascii_digit behind ≡ [] → number_in (digits ++ behind) ≡ digits_value 10 digits
digits_in_front digits behind whole none =
    ap (digits_value 10) (filter-append is_ascii_digit digits behind ∙ rw none (append-nil (filter is_ascii_digit digits)) ∙ all_kept is_ascii_digit digits whole)

six_in_front : (number : ℕ) (behind : List ℕ) → is_file_number number ≡ true → filter is_ascii_digit behind ≡ [] → number_in (six_digits number ++ behind) ≡ number
six_in_front number behind h none = digits_in_front (six_digits number) behind (six_are_digits number h) none ∙ padded_value 6 number (file_number_fits number h)

number_of_log : (number : ℕ) → is_file_number number ≡ true → number_in (spelled (Log number)) ≡ number
unfolding spelled
number_of_log number h = six_in_front number (codes ".log") h refl

number_of_manifest : (number : ℕ) → is_file_number number ≡ true → number_in (spelled (Manifest number)) ≡ number
unfolding spelled
number_of_manifest number h =
    ap (digits_value 10) (all_kept is_ascii_digit (six_digits number) (six_are_digits number h)) ∙ padded_value 6 number (file_number_fits number h)

-- ---- a backup's own files

abbrev first_of : {A : Type 0} → Bool → Bool → Bool → A → A → A → Option A
first_of a b c x y z = if a then Some x else if b then Some y else if c then Some z else None

third : {A : Type 0} (a b c : Bool) (x y z : A) → a ≡ false → b ≡ false → c ≡ true → first_of a b c x y z ≡ Some z
third a b c x y z p q r = rw (p, q, r)

second : {A : Type 0} (a b c : Bool) (x y z : A) → a ≡ false → b ≡ true → first_of a b c x y z ≡ Some y
second a b c x y z p q = rw (p, q)

which : {A : Type 0} (a b c : Bool) (x y z it : A) → first_of a b c x y z ≡ Some it → ((a ≡ true) × (x ≡ it)) ⊎ (((b ≡ true) × (y ≡ it)) ⊎ ((c ≡ true) × (z ≡ it)))
which true b c x y z it h = inl (refl, cc)
which false true c x y z it h = inr (inl (refl, cc))
which false false true x y z it h = inr (inr (refl, cc))
which false false false x y z it h = absurd (cc)

spellings_differ : (a b : FileName) → IsFileName a → IsFileName b → a ≢ b → bytes_eq (spelled a) (spelled b) ≡ false
spellings_differ a b p q differ = other_texts (spelled a) (spelled b) (λ same. differ (spelled_injective a b p q same))

both_hold : (a b : Bool) → a ≡ true → b ≡ true → (a && b) ≡ true
both_hold a b p q = rw (p, q)

second_fails : (a b : Bool) → b ≡ false → (a && b) ≡ false
second_fails true b q = q
second_fails false b q = refl

pub private_found : (name : FileName) → IsBackupFile (Private name) → private_name (spelled name) ≡ Some name
unfolding private_name
private_found (Log number) h =
    let own = number_of_log number h in
    rw own (third _ _ _ Current (Manifest number) (Log number)
    (spellings_differ (Log number) Current h tt (λ same. absurd (cc)))
    (second_fails (is_file_number number) _ (spellings_differ (Log number) (Manifest number) h h (λ same. absurd (cc))))
    (both_hold (is_file_number number) _ h (same_text (spelled (Log number)))))
private_found (Table number) h = absurd h
private_found (Manifest number) h =
    let own = number_of_manifest number h in
    rw own (second _ _ _ Current (Manifest number) (Log number)
    (spellings_differ (Manifest number) Current h tt (λ same. absurd (cc)))
    (both_hold (is_file_number number) _ h (same_text (spelled (Manifest number)))))
private_found (Temp number) h = absurd h
private_found Current h = rw (same_text (spelled Current))

pub private_spells : (text : List ℕ) (name : FileName) → private_name text ≡ Some name → IsBackupFile (Private name) × (text ≡ spelled name)
unfolding private_name
private_spells text name h =
    let number = number_in text in
    let has = is_file_number number in
    elim (which (bytes_eq text (spelled Current)) (has && bytes_eq text (spelled (Manifest number))) (has && bytes_eq text (spelled (Log number))) Current (Manifest number) (Log number) name h) [
      | inl current ↦ subst (λ (n : FileName). IsBackupFile (Private n) × (text ≡ spelled n)) current.1 (tt, equal_texts text (spelled Current) current.0)
      | inr (inl manifest) ↦
          let cut = and_parts has (bytes_eq text (spelled (Manifest number))) manifest.0 in
          subst (λ (n : FileName). IsBackupFile (Private n) × (text ≡ spelled n)) manifest.1 (cut.0, equal_texts text (spelled (Manifest number)) cut.1)
      | inr (inr log) ↦
          let cut = and_parts has (bytes_eq text (spelled (Log number))) log.0 in
          subst (λ (n : FileName). IsBackupFile (Private n) × (text ≡ spelled n)) log.1 (cut.0, equal_texts text (spelled (Log number)) cut.1)
    ]

pub private_is_named : (name : FileName) → IsBackupFile (Private name) → IsFileName name
private_is_named (Log number) h = h
private_is_named (Table number) h = absurd h
private_is_named (Manifest number) h = h
private_is_named (Temp number) h = absurd h
private_is_named Current h = tt

none_or : {A : Type 0} (r : Option A) → ((it : A) → r ≡ Some it → ⊥) → None ≡ r
none_or None no_one = refl
none_or (Some it) no_one = absurd (no_one it refl)

-- no name of a store has this spelling
pub private_unnamed : (text : List ℕ) → ((name : FileName) → IsFileName name → text ≢ spelled name) → None ≡ private_name text
private_unnamed text unnamed =
    none_or (private_name text) (λ name h. let said = private_spells text name h in unnamed name (private_is_named name said.0) said.1)

-- another kind of name has this spelling
pub private_other : (text : List ℕ) (name : FileName) → IsFileName name → text ≡ spelled name → (IsBackupFile (Private name) → ⊥) → None ≡ private_name text
private_other text name known spells other =
    none_or (private_name text) (λ found h.
    let said = private_spells text found h in
    let same = spelled_injective found name (private_is_named found said.0) known (sym said.1 ∙ spells) in
    other (subst (λ (n : FileName). IsBackupFile (Private n)) same said.0))

abbrev kept : FileName → Option FileName
kept (Log number) = Some (Log number)
kept (Table number) = None
kept (Manifest number) = Some (Manifest number)
kept (Temp number) = None
kept Current = Some Current

private_by_name : (name : FileName) → IsFileName name → kept name ≡ private_name (spelled name)
private_by_name (Log number) h = sym (private_found (Log number) h)
private_by_name (Table number) h = private_other (spelled (Table number)) (Table number) h refl (λ other. other)
private_by_name (Manifest number) h = sym (private_found (Manifest number) h)
private_by_name (Temp number) h = private_other (spelled (Temp number)) (Temp number) h refl (λ other. other)
private_by_name Current h = sym (private_found Current tt)

kept_whole : (name : FileName) → ((number : ℕ) → name ≡ Table number → ⊥) → ((number : ℕ) → name ≡ Temp number → ⊥) → Some name ≡ kept name
kept_whole (Log number) p q = refl
kept_whole (Table number) p q = absurd (p number refl)
kept_whole (Manifest number) p q = refl
kept_whole (Temp number) p q = absurd (q number refl)
kept_whole Current p q = refl

-- by what `parse` gave
pub private_none : (text : List ℕ) (name : FileName) → ((number : ℕ) × name ≡ Table number) ⊎ ((number : ℕ) × name ≡ Temp number) → IsFileName name → text ≡ spelled name → None ≡ private_name text
private_none text name (inl table) known spells = ap kept (sym table.1) ∙ private_by_name name known ∙ ap private_name (sym spells)
private_none text name (inr temp) known spells = ap kept (sym temp.1) ∙ private_by_name name known ∙ ap private_name (sym spells)

pub private_some : (text : List ℕ) (name : FileName) → ((number : ℕ) → name ≡ Table number → ⊥) → ((number : ℕ) → name ≡ Temp number → ⊥) → IsFileName name → text ≡ spelled name → Some name ≡ private_name text
private_some text name p q known spells = kept_whole name p q ∙ private_by_name name known ∙ ap private_name (sym spells)

-- ---- shared files

tail_size : (size : ℕ) → size < 2 ^ 64 → number_in (95 ∷ (decimal size ++ codes ".sst")) ≡ size
tail_size size small = digits_in_front (decimal size) (codes ".sst") (digits_decimal digit_texts size small) refl ∙ digits_value-decimal digit_texts size small

drop_session : (session behind : List ℕ) → length session ≡ 20 → drop 20 (session ++ behind) ≡ behind
drop_session session behind long = rw (← long) (drop-append_seam session behind)

take_session : (session behind : List ℕ) → length session ≡ 20 → take 20 (session ++ behind) ≡ session
take_session session behind long = rw (← long) (take-append_seam session behind)

parts_are : (name : SharedName) → IsSharedName name → shared_by (six_digits name.number, origin name.session name.size) ≡ name
parts_are name h =
    let long = length_of_session name.session h.session in
    let behind = 95 ∷ (decimal name.size ++ codes ".sst") in
    same_name (digits_value 10 (six_digits name.number)) (number_in (drop 21 (origin name.session name.size))) (take 20 (drop 1 (origin name.session name.size))) name
    (padded_value 6 name.number (file_number_fits name.number h.number))
    (take_session name.session behind long)
    (ap number_in (drop_session name.session behind long) ∙ tail_size name.size h.size)

shared_is_tested : (name : SharedName) → IsSharedName name → is_shared_name name ≡ true
unfolding is_shared_name
shared_is_tested name h =
    let fits : nat_lt name.size (2 ^ 64) ≡ true = grind (arith, nat_tests, h.size) in
    both_hold (is_file_number name.number && is_session name.session) _ (both_hold (is_file_number name.number) (is_session name.session) h.number h.session) fits

tested_is_shared : (name : SharedName) → is_shared_name name ≡ true → IsSharedName name
unfolding is_shared_name
tested_is_shared name h =
    let outer = and_parts (is_file_number name.number && is_session name.session) (nat_lt name.size (2 ^ 64)) h in
    let inner = and_parts (is_file_number name.number) (is_session name.session) outer.0 in
    record { number = inner.0; session = inner.1; size = grind (arith, nat_tests, outer.1) }

if_true : {A : Type 0} (is : Bool) (it : A) → is ≡ true → (if is then Some it else None) ≡ Some it
if_true is it h = rw h

if_some : {A : Type 0} (is : Bool) (it found : A) → (if is then Some it else None) ≡ Some found → (is ≡ true) × (it ≡ found)
if_some true it found h = (refl, cc)
if_some false it found h = absurd (cc)

pub shared_found : (name : SharedName) → IsSharedName name → shared_name (spelled_shared name) ≡ Some name
unfolding shared_name
shared_found name h =
    let cut = ap (cut_at 95) (shared_parts name) ∙ cut_whole 95 (six_digits name.number) (origin name.session name.size) (six_have_no_underscore name.number h.number) in
    ap (shared_where (spelled_shared name)) cut
    ∙ ap (if_spelled (spelled_shared name)) (parts_are name h)
    ∙ if_true (is_shared_name name && bytes_eq (spelled_shared name) (spelled_shared name)) name (both_hold (is_shared_name name) _ (shared_is_tested name h) (same_text (spelled_shared name)))

spelled_where : (text : List ℕ) (parts : Option (List ℕ × List ℕ)) (name : SharedName) → shared_where text parts ≡ Some name → IsSharedName name × (text ≡ spelled_shared name)
spelled_where text None name h = absurd (cc)
spelled_where text (Some parts) name h =
    let it = shared_by parts in
    let found = if_some (is_shared_name it && bytes_eq text (spelled_shared it)) it name h in
    let cut = and_parts (is_shared_name it) (bytes_eq text (spelled_shared it)) found.0 in
    subst (λ (n : SharedName). IsSharedName n × (text ≡ spelled_shared n)) found.1 (tested_is_shared it cut.0, equal_texts text (spelled_shared it) cut.1)

pub shared_spells : (text : List ℕ) (name : SharedName) → shared_name text ≡ Some name → IsSharedName name × (text ≡ spelled_shared name)
unfolding shared_name
shared_spells text name h = spelled_where text (cut_at 95 text) name h

pub shared_unnamed : (text : List ℕ) → ((name : SharedName) → IsSharedName name → text ≢ spelled_shared name) → None ≡ shared_name text
shared_unnamed text unnamed =
    none_or (shared_name text) (λ name h. let said = shared_spells text name h in unnamed name said.0 said.1)

-- ---- paths

abbrev by_folder : Bool → Bool → Option BackupFile → Option BackupFile → Option BackupFile
by_folder own shared a b = if own then a else if shared then b else None

in_own : (own shared : Bool) (a b : Option BackupFile) → own ≡ true → by_folder own shared a b ≡ a
in_own own shared a b h = rw h

in_shared : (own shared : Bool) (a b : Option BackupFile) → own ≡ false → shared ≡ true → by_folder own shared a b ≡ b
in_shared own shared a b h k = rw (h, k)

pub path_names : (id : ℕ) (file : BackupFile) → IsBackupFile file → file_at id (path_of id file) ≡ Some file
unfolding file_at path_of
path_names id (Private name) h =
    let path = private_folder id ++ spelled name in
    in_own (begins (private_folder id) path) (begins shared_folder path)
    (option_map (λ (n : FileName). Private n) (private_name (drop (length (private_folder id)) path)))
    (option_map (λ (n : SharedName). Shared n) (shared_name (drop 16 path))) (begins_with (private_folder id) (spelled name))
    ∙ ap (λ (text : List ℕ). option_map (λ (n : FileName). Private n) (private_name text)) (behind_front (private_folder id) (spelled name))
    ∙ ap (option_map (λ (n : FileName). Private n)) (private_found name h)
path_names id (Shared name) h =
    let path = shared_folder ++ spelled_shared name in
    in_shared (begins (private_folder id) path) (begins shared_folder path)
    (option_map (λ (n : FileName). Private n) (private_name (drop (length (private_folder id)) path)))
    (option_map (λ (n : SharedName). Shared n) (shared_name (drop 16 path))) refl (begins_with shared_folder (spelled_shared name))
    ∙ ap (λ (text : List ℕ). option_map (λ (n : SharedName). Shared n) (shared_name text)) (behind_front shared_folder (spelled_shared name))
    ∙ ap (option_map (λ (n : SharedName). Shared n)) (shared_found name h)

from_own : (id : ℕ) (path text : List ℕ) (r : Option FileName) (file : BackupFile) → path ≡ private_folder id ++ text → ((name : FileName) → r ≡ Some name → IsBackupFile (Private name) × (text ≡ spelled name)) → option_map (λ name. Private name) r ≡ Some file →
    IsBackupFile file × (path ≡ path_of id file)
unfolding path_of
from_own id path text None file cut said h = absurd (cc)
from_own id path text (Some name) file cut said h =
    let it = said name refl in
    let same : Private name ≡ file = cc in
    subst (λ (f : BackupFile). IsBackupFile f × (path ≡ path_of id f)) same (it.0, cut ∙ ap (λ (t : List ℕ). private_folder id ++ t) it.1)

from_shared : (id : ℕ) (path text : List ℕ) (r : Option SharedName) (file : BackupFile) → path ≡ shared_folder ++ text → ((name : SharedName) → r ≡ Some name → IsSharedName name × (text ≡ spelled_shared name)) → option_map (λ name. Shared name) r ≡ Some file →
    IsBackupFile file × (path ≡ path_of id file)
unfolding path_of
from_shared id path text None file cut said h = absurd (cc)
from_shared id path text (Some name) file cut said h =
    let it = said name refl in
    let same : Shared name ≡ file = cc in
    subst (λ (f : BackupFile). IsBackupFile f × (path ≡ path_of id f)) same (it.0, cut ∙ ap (λ (t : List ℕ). shared_folder ++ t) it.1)

named_by : (id : ℕ) (path : List ℕ) (file : BackupFile) (own shared : Bool) → begins (private_folder id) path ≡ own → begins shared_folder path ≡ shared →
    by_folder own shared (option_map (λ name. Private name) (private_name (drop (length (private_folder id)) path))) (option_map (λ name. Shared name) (shared_name (drop 16 path))) ≡ Some file →
    IsBackupFile file × (path ≡ path_of id file)
named_by id path file true shared p q h =
    let text = drop (length (private_folder id)) path in
    from_own id path text (private_name text) file (begun_by (private_folder id) path p) (private_spells text) h
named_by id path file false true p q h =
    let text = drop 16 path in
    from_shared id path text (shared_name text) file (begun_by shared_folder path q) (shared_spells text) h
named_by id path file false false p q h = absurd (cc)

pub path_spells : (id : ℕ) (path : List ℕ) (file : BackupFile) → file_at id path ≡ Some file → IsBackupFile file × (path ≡ path_of id file)
unfolding file_at
path_spells id path file h = named_by id path file (begins (private_folder id) path) (begins shared_folder path) refl refl h

-- ---- such a path is one of a disk

pub first_digit : (digits : List ℕ) → 0 < length digits → list_all is_ascii_digit digits ≡ true → is_ascii_alphanumeric (slice_index digits 0) ≡ true
first_digit [] some h = absurd (omega arith)
first_digit (digit ∷ digits) some h =
    let cut = and_parts (is_ascii_digit digit) (list_all is_ascii_digit digits) h in
    digit_is_alphanumeric digit cut.0 where
      digit_is_alphanumeric : (byte : ℕ) → is_ascii_digit byte ≡ true → is_ascii_alphanumeric byte ≡ true
      digit_is_alphanumeric byte h = grind (arith, nat_tests)

pub identifier_is_component : (id : ℕ) → id < 2 ^ 32 → is_component (decimal id) ≡ true
identifier_is_component id small =
    let digits = digits_decimal digit_texts id (omega arith) in
    let some = decimal_nonempty id (omega arith) in
    component_of_parts (decimal id) some (omega (arith, length-decimal-le 20 id (omega arith) (omega arith) (omega arith)))
    (list_all-weaker is_ascii_digit is_component_byte digit_is_component_byte (decimal id) digits)
    (not_dots (decimal id) (first_digit (decimal id) some digits))

pub private_is_path : is_path (codes "private") ≡ true
unfolding is_path is_component is_component_byte is_dots
private_is_path = refl

shared_is_path : is_path (codes "shared_checksum") ≡ true
unfolding is_path is_component is_component_byte is_dots
shared_is_path = refl

pub file_has_path : (id : ℕ) (file : BackupFile) → id < 2 ^ 32 → IsBackupFile file → is_path (path_of id file) ≡ true
unfolding path_of
file_has_path id (Private name) small h =
    let known = private_is_named name h in
    let long = length-decimal-le 20 id (omega arith) (omega arith) (omega arith) in
    let short = spelled_is_short name known in
    let inner = joined_is_path (decimal id) (spelled name) (component_is_path (decimal id) (identifier_is_component id small)) (component_is_path (spelled name) (spelled_is_component name known)) (omega (arith, long, short)) in
    let outer = joined_is_path (codes "private") (decimal id ++ 47 ∷ spelled name) private_is_path inner (omega (arith, long, short, length-append (decimal id) (47 ∷ spelled name))) in
    ap is_path (ap (λ (t : List ℕ). codes "private/" ++ t) (append_assoc (decimal id) (codes "/") (spelled name))) ∙ outer
file_has_path id (Shared name) small h =
    let known = shared_is_component name h in
    joined_is_path (codes "shared_checksum") (spelled_shared name) shared_is_path (component_is_path (spelled_shared name) known) (omega (arith, component_is_short (spelled_shared name) known))
