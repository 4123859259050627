-- The meta of a backup that has no tables is one that a text can spell.
use Rattle.std.proofs.Common.{◌≡◌, ℕ, zero, suc, ◌+◌, ◌^◌, ◌<◌, ◌≤◌, List, [], ◌∷◌, ◌++◌, length, Bool, true, false, refl, ap, sym, subst, ◌∙◌, arith, Option, Some, None, is_some, rules}
use Rattle.std.specs.Prelude.{◌&&◌, ◌==◌, IsTrue, if◌then◌else◌, map}
use Rattle.std.specs.Char.{is_ascii_digit}
use Rattle.std.specs.Cmp.{tied_itself, nat_cmp_total}
use Rattle.std.specs.Cmp.Lexicographic.{slice_cmp}
use Rattle.std.specs.List.{All, count_by, filter_map, list_all}
use Rattle.std.specs.Ordering.{nat_cmp, is_lt, ordering_then}
use Rattle.std.specs.declared.cmp.Ordering.{Ordering}
use Rattle.std.specs.declared.cmp.Ordering.TheVariants.{Less, Equal}
use Rattle.std.proofs.lemmas.Bool.Decides.{nat_tests}
use Rattle.std.proofs.lemmas.List.Elements.{All-nil, All-cons}
use Rattle.hex.specs.Hex.{IsBytes}
use Rattle.lsm_bytes.specs.Checksum.{crc32c}
use Rattle.lsm_names.specs.FileNames.{spelled, is_file_number, six_digits}
use Rattle.lsm_names.specs.declared.file_names.FileName.{FileName}
use Rattle.lsm_names.specs.declared.file_names.FileName.TheVariants.{Log, Manifest, Current}
use Rattle.lsm_names.proofs.FileNameLemmas.{six_are_digits, file_number_fits}
use Rattle.lsm_names.proofs.NumberLemmas.{padded_has_digits}
use Rattle.bk_meta.specs.declared.backup_files.BackupFile.{BackupFile}
use Rattle.bk_meta.specs.declared.backup_files.BackupFile.TheVariants.{Private}
use Rattle.bk_meta.specs.declared.metas.MetaFile.{MetaFile}
use Rattle.bk_meta.specs.BackupFiles.{file_at, path_of, private_folder, IsBackupFile}
use Rattle.bk_meta.specs.Metas.{IsMeta, IsMetaFile, Ascends, comes_before, is_whole, is_current, is_manifest, shared_number, are_different, path_at}
use Rattle.bk_meta.proofs.FileLemmas.{path_names}
use Rattle.bk_engine.specs.Creating.{plain_names, own_file, own_files, plain_meta}
use Rattle.std.proofs.lemmas.Bool.{and_parts}

pub found : (id : ℕ) (name : FileName) → IsBackupFile (Private name) → file_at id (path_of id (Private name)) ≡ Some (Private name)
found id name known = path_names id (Private name) known

-- ---- the order of the paths

behind_same : (front left right : List ℕ) → slice_cmp nat_cmp (front ++ left) (front ++ right) ≡ slice_cmp nat_cmp left right
behind_same [] left right = refl
behind_same (byte ∷ front) left right = ap (λ (o : Ordering). ordering_then o (slice_cmp nat_cmp (front ++ left) (front ++ right))) (tied_itself nat_cmp_total byte) ∙ behind_same front left right

comes : (id : ℕ) (a b : FileName) → is_lt (slice_cmp nat_cmp (spelled a) (spelled b)) ≡ true → comes_before (path_of id (Private a)) (path_of id (Private b)) ≡ true
unfolding path_of
comes id a b lt = ap is_lt (behind_same (private_folder id) (spelled a) (spelled b)) ∙ lt

current_first : (number : ℕ) → is_lt (slice_cmp nat_cmp (spelled Current) (spelled (Manifest number))) ≡ true
unfolding spelled
current_first number = refl

digit_before : (byte : ℕ) → is_ascii_digit byte ≡ true → nat_cmp byte 67 ≡ Less
digit_before byte h = grind (arith, nat_tests)

digits_first : (digits behind rest : List ℕ) → 0 < length digits → list_all is_ascii_digit digits ≡ true → is_lt (slice_cmp nat_cmp (digits ++ behind) (67 ∷ rest)) ≡ true
digits_first [] behind rest some h = absurd (omega (arith, some))
digits_first (digit ∷ digits) behind rest some h =
    ap (λ (o : Ordering). is_lt (ordering_then o (slice_cmp nat_cmp (digits ++ behind) rest))) (digit_before digit (and_parts (is_ascii_digit digit) (list_all is_ascii_digit digits) h).0)

log_first : (number : ℕ) → is_file_number number ≡ true → is_lt (slice_cmp nat_cmp (spelled (Log number)) (spelled Current)) ≡ true
unfolding spelled
log_first number h = digits_first (six_digits number) _ _ (padded_has_digits 6 number (file_number_fits number h)) (six_are_digits number h)

-- ---- the rule on whole sets

abbrev whole_of : List (Option BackupFile) → Bool
whole_of files = count_by is_current files == 1 && count_by is_manifest files == 1 && are_different (filter_map shared_number files)

whole_two : (id : ℕ) (a b : MetaFile) → is_whole id (a ∷ b ∷ []) ≡ whole_of (file_at id a.path ∷ file_at id b.path ∷ [])
unfolding is_whole
whole_two id a b = refl

whole_three : (id : ℕ) (a b c : MetaFile) → is_whole id (a ∷ b ∷ c ∷ []) ≡ whole_of (file_at id a.path ∷ file_at id b.path ∷ file_at id c.path ∷ [])
unfolding is_whole
whole_three id a b c = refl

-- ---- the meta

abbrev pub Fits : List ℕ → Type 0
Fits text = crc32c text < 2 ^ 32

is_file : (id : ℕ) (name : FileName) (text : List ℕ) → IsBackupFile (Private name) → Fits text → IsMetaFile id (own_file id name text)
is_file id name text known fits = record { named = ap is_some (found id name known); fits = fits }

module _ (id timestamp sequence : ℕ) (range : (1 ≤ id) × (id < 2 ^ 32)) (time : timestamp < 2 ^ 64) (last : sequence < 2 ^ 64) (manifest : ℕ) (named : is_file_number manifest ≡ true) where
  no_bytes : IsBytes []
  no_bytes = search rules

  pub meta_of_two : (current edits : List ℕ) → Fits current → Fits edits → IsMeta (plain_meta id timestamp sequence (plain_names None manifest) (current ∷ edits ∷ []))
  meta_of_two current edits p q = record {
    identifier = range;
    time = time;
    last = last;
    short = omega arith;
    bytes = no_bytes;
    count = (omega arith, omega arith);
    each = All-cons (IsMetaFile id) (own_file id Current current) (own_file id (Manifest manifest) edits ∷ []) (is_file id Current current tt p) (All-cons (IsMetaFile id) (own_file id (Manifest manifest) edits) [] (is_file id (Manifest manifest) edits named q) (All-nil (IsMetaFile id)));
    ascending = order;
    whole = whole_two id (own_file id Current current) (own_file id (Manifest manifest) edits) ∙ λ i. whole_of (found id Current tt i ∷ found id (Manifest manifest) named i ∷ []);
  } where
    order : Ascends (own_files id (plain_names None manifest) (current ∷ edits ∷ []))
    order zero lt = comes id Current (Manifest manifest) (current_first manifest)
    order (suc index) lt = absurd (omega (arith, lt))

  pub meta_of_three : (log : ℕ) → is_file_number log ≡ true → (batches current edits : List ℕ) → Fits batches → Fits current → Fits edits
      → IsMeta (plain_meta id timestamp sequence (plain_names (Some log) manifest) (batches ∷ current ∷ edits ∷ []))
  meta_of_three log known batches current edits o p q = record {
    identifier = range;
    time = time;
    last = last;
    short = omega arith;
    bytes = no_bytes;
    count = (omega arith, omega arith);
    each = All-cons (IsMetaFile id) (own_file id (Log log) batches) (own_file id Current current ∷ own_file id (Manifest manifest) edits ∷ []) (is_file id (Log log) batches known o) (All-cons (IsMetaFile id) (own_file id Current current) (own_file id (Manifest manifest) edits ∷ []) (is_file id Current current tt p) (All-cons (IsMetaFile id) (own_file id (Manifest manifest) edits) [] (is_file id (Manifest manifest) edits named q) (All-nil (IsMetaFile id))));
    ascending = order;
    whole = whole_three id (own_file id (Log log) batches) (own_file id Current current) (own_file id (Manifest manifest) edits)
        ∙ λ i. whole_of (found id (Log log) known i ∷ found id Current tt i ∷ found id (Manifest manifest) named i ∷ []);
  } where
    order : Ascends (own_files id (plain_names (Some log) manifest) (batches ∷ current ∷ edits ∷ []))
    order zero lt = comes id (Log log) Current (log_first log known)
    order (suc zero) lt = comes id Current (Manifest manifest) (current_first manifest)
    order (suc (suc index)) lt = absurd (omega (arith, lt))
