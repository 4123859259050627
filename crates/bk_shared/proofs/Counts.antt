-- A meta names a file on one line at most: so as many metas name it as there are lines of it.
use Rattle.std.specs.Prelude.{◌≡◌, ℕ, ◌+◌, ◌-◌, ◌^◌, ◌<◌, ◌≤◌, min, Bool, true, false, not, ◌==◌, ◌&&◌, ◌||◌, cond, List, [], ◌∷◌, length, map, Option, Some, None, option_map}
use Rattle.std.proofs.Common.{refl, sym, ap, ◌∙◌, arith, get_or}
use Rattle.std.proofs.Math.Nat.{min-eq_left}
use Rattle.std.specs.BTreeMap.{BTreeMap, get, is_at}
use Rattle.std.specs.Map.{lookup}
use Rattle.std.specs.List.{find, count_by, list_any, filter_map, cons_option, All}
use Rattle.std.specs.List.Sorted.{IsStrictlyIncreasing, IsStrictlySortedBy}
use Rattle.std.specs.Ordering.{nat_cmp}
use Rattle.std.specs.declared.cmp.Ordering.TheVariants.{Less}
use Rattle.std.proofs.lemmas.Bool.{and_parts, or_parts, not-true, lt-ltb}
use Rattle.std.proofs.lemmas.List.{length-map}
use Rattle.std.proofs.lemmas.List.Elements.{All-head, All-tail, All-map, All-cons, All-nil, recursion_from_All}
use Rattle.std.proofs.lemmas.List.Folds.{list_any-append}
use Rattle.std.proofs.lemmas.List.Sums.{sum_by-append, sum_by-cons, count_by-le-length}
use Rattle.std.proofs.lemmas.Map.Keys.{sorted_from_strictly_increasing}
use Rattle.std.proofs.lemmas.Map.Views.{length-le_from_below}
use Rattle.lsm_names.specs.declared.shared_names.SharedName.{SharedName}
use Rattle.bk_meta.specs.declared.backup_files.BackupFile.{BackupFile}
use Rattle.bk_meta.specs.declared.backup_files.BackupFile.TheVariants.{Private, Shared}
use Rattle.bk_meta.specs.declared.metas.Meta.{Meta}
use Rattle.bk_meta.specs.declared.metas.MetaFile.{MetaFile}
use Rattle.bk_meta.specs.BackupFiles.{file_at}
use Rattle.bk_meta.specs.Metas.{IsMeta, is_whole, is_current, is_manifest, shared_number, shared_numbers, are_different}
use Rattle.bk_shared.specs.declared.counting.Shared.{Shared as Counted}
use Rattle.bk_shared.specs.declared.counting.SharedFile.{SharedFile}
use Rattle.bk_shared.specs.declared.keys.Key.{Key}
use Rattle.bk_shared.specs.SharedLines.{SharedLine, is_of, line_with, shared_line, lines_of, all_lines, names_file, count_of, crc_in, crc_of, Agree}
use Rattle.bk_shared.specs.Keeping.{key_of, key_cmp, with_count, KeepsLines, CountsShared}
use Rattle.bk_shared.proofs.Names.{names_equal, numbers_differ}

-- ---- the lines of one meta

abbrev pub number_of : SharedLine → ℕ
number_of line = line.name.number

abbrev pub count_in : SharedName → List SharedLine → ℕ
count_in name lines = count_by (is_of name) lines

pub count_first : (name : SharedName) (line : SharedLine) (lines : List SharedLine)
    → count_in name (line ∷ lines) ≡ cond (is_of name line) 1 0 + count_in name lines
count_first name line lines = sum_by-cons (λ (l : SharedLine). cond (is_of name l) 1 0) line lines

-- lines of other numbers name other files
none_of : (name : SharedName) (number : ℕ) (lines : List SharedLine) → name.number ≡ number
    → list_any (λ other. other == number) (map number_of lines) ≡ false → count_in name lines ≡ 0
none_of name number [] is none = refl
none_of name number (line ∷ lines) is none =
    let apart = or_parts (line.name.number == number) (list_any (λ other. other == number) (map number_of lines)) none in
    let other : is_of name line ≡ false = numbers_differ line.name name
    (ap (λ (n : ℕ). line.name.number == n) is ∙ apart.0) in
    count_first name line lines ∙ (λ i. cond (other i) 1 0 + none_of name number lines is apart.1 i)

-- lines of different numbers name a file once at most
once : (name : SharedName) (lines : List SharedLine) → are_different (map number_of lines) ≡ true
    → count_in name lines ≡ cond (list_any (is_of name) lines) 1 0
once name [] different = refl
once name (line ∷ lines) different =
    let parts = and_parts (not (list_any (λ other. other == line.name.number) (map number_of lines)))
    (are_different (map number_of lines)) different in
    count_first name line lines
    ∙ by (is_of name line) (list_any (is_of name) lines) (count_in name lines)
    (λ here. none_of name line.name.number lines
    (ap (λ (n : SharedName). n.number) (sym (names_equal line.name name here)))
    (not-true (list_any (λ other. other == line.name.number) (map number_of lines)) parts.0))
    (once name lines parts.1) where
      by : (here later : Bool) (count : ℕ) → (here ≡ true → count ≡ 0) → count ≡ cond later 1 0
          → cond here 1 0 + count ≡ cond (here || later) 1 0
      by true later count none rest = omega (arith, none refl)
      by false later count none rest = omega (arith, rest)

-- the numbers of the lines are those of the shared files
numbers_of_lines : (id : ℕ) (files : List MetaFile)
    → shared_numbers id files ≡ map number_of (filter_map (λ file. shared_line id file) files)
numbers_of_lines id [] = refl
numbers_of_lines id (file ∷ files) = by (file_at id file.path) (numbers_of_lines id files) where
  by : (found : Option BackupFile)
      → shared_numbers id files ≡ map number_of (filter_map (λ file. shared_line id file) files)
      → cons_option (shared_number found) (shared_numbers id files) ≡ map number_of
      (cons_option (line_with file.crc found) (filter_map (λ file. shared_line id file) files))
  by None rest = rest
  by (Some (Private name)) rest = rest
  by (Some (Shared name)) rest = ap (λ (numbers : List ℕ). name.number ∷ numbers) rest

numbers_in_meta : (meta : Meta) → IsMeta meta → are_different (shared_numbers meta.id meta.files) ≡ true
unfolding is_whole
numbers_in_meta meta lawful =
    (and_parts (count_by (λ file. is_current (file_at meta.id file.path)) meta.files == 1
    && count_by (λ file. is_manifest (file_at meta.id file.path)) meta.files == 1)
    (are_different (shared_numbers meta.id meta.files)) lawful.whole).1

pub once_in_meta : (name : SharedName) (meta : Meta) → IsMeta meta
    → count_in name (lines_of meta) ≡ cond (names_file name meta) 1 0
once_in_meta name meta lawful = once name (lines_of meta)
    (ap are_different (sym (numbers_of_lines meta.id meta.files)) ∙ numbers_in_meta meta lawful)

-- ---- the lines of all metas

counted : (name : SharedName) (metas : List Meta) → All IsMeta metas
    → count_in name (all_lines metas) ≡ count_by (names_file name) metas
counted name [] lawful = refl
counted name (meta ∷ metas) lawful =
    sum_by-append (λ (l : SharedLine). cond (is_of name l) 1 0) (lines_of meta) (all_lines metas)
    ∙ (λ i. once_in_meta name meta (All-head IsMeta meta metas lawful) i + counted name metas
    (All-tail IsMeta meta metas lawful) i)
    ∙ sym (sum_by-cons (λ (m : Meta). cond (names_file name m) 1 0) meta metas)

-- ---- identifiers are below 2^32, so that there are fewer metas than that

abbrev pub ids : List Meta → List ℕ
ids metas = map (λ meta. meta.id) metas

from_zero : (numbers : List ℕ) → IsStrictlySortedBy nat_cmp numbers → All (λ number. 1 ≤ number) numbers
    → IsStrictlySortedBy nat_cmp (0 ∷ numbers)
unfolding IsStrictlySortedBy
from_zero numbers sorted some = (
  recursion_from_All (λ number. nat_cmp 0 number ≡ Less) numbers
      (λ k d within. above (get_or numbers k d) (some k d within)),
  sorted,
) where
  above : (number : ℕ) → 1 ≤ number → nat_cmp 0 number ≡ Less
  above number at_least = rw (lt-ltb 0 number at_least) refl

few_metas : (metas : List Meta) → IsStrictlyIncreasing (ids metas) → All IsMeta metas → length metas ≤ 2 ^ 32 - 1
few_metas metas rising lawful =
    let few = length-le_from_below (2 ^ 32) (0 ∷ ids metas)
    (from_zero (ids metas) (sorted_from_strictly_increasing (ids metas) rising)
    (All-map (λ n. 1 ≤ n) (λ m. m.id) metas (λ k d within. (lawful k d within).identifier.0)))
    (All-cons (λ n. n < 2 ^ 32) 0 (ids metas) (omega arith)
    (All-map (λ n. n < 2 ^ 32) (λ m. m.id) metas (λ k d within. (lawful k d within).identifier.1))) in
    omega (arith, length-map metas (λ (m : Meta). m.id))

-- ---- what is kept, told of metas

pub empty_held : (files : BTreeMap Key SharedFile) → files.entries ≡ [] → KeepsLines [] files
unfolding Agree
empty_held files none = record {
  kept = λ name. ap (λ (es : List (Key × SharedFile)). lookup (is_at (key_cmp (key_of name))) es) none;
  agree = All-nil (λ line. crc_in line.name [] ≡ Some line.crc);
}

pub lines_tell : (metas : List Meta) (files : BTreeMap Key SharedFile) → IsStrictlyIncreasing (ids metas)
    → All IsMeta metas → KeepsLines (all_lines metas) files → CountsShared metas (record { files = files })
unfolding count_of crc_of
lines_tell metas files rising lawful holds = record {
  agree = holds.agree;
  kept = λ name. holds.kept name ∙ ap (λ (n : ℕ). with_count n (crc_of metas name)) (whole name);
} where
  whole : (name : SharedName) → min (count_in name (all_lines metas)) (2 ^ 32 - 1) ≡ count_of metas name
  whole name =
      let same = counted name metas lawful in
      let within : count_in name (all_lines metas) ≤ 2 ^ 32 - 1 = omega
      (arith, same, count_by-le-length (names_file name) metas, few_metas metas rising lawful) in
      min-eq_left within ∙ same

-- ---- what a lookup finds

no_line : (name : SharedName) (lines : List SharedLine) → crc_in name lines ≡ None → list_any (is_of name) lines ≡ false
no_line name [] none = refl
no_line name (line ∷ lines) none = by (is_of name line) (find (is_of name) lines) (list_any (is_of name) lines) none
    (no_line name lines) where
      by : (here : Bool) (found : Option SharedLine) (later : Bool)
          → option_map (λ l. l.crc) (cond here (Some line) found) ≡ None
          → (option_map (λ l. l.crc) found ≡ None → later ≡ false) → (here || later) ≡ false
      by true found later none rest = absurd (cc)
      by false found later none rest = rest none

no_crc : (name : SharedName) (lines : List SharedLine) → list_any (is_of name) lines ≡ false → crc_in name lines ≡ None
no_crc name [] none = refl
no_crc name (line ∷ lines) none =
    let parts = or_parts (is_of name line) (list_any (is_of name) lines) none in
    ap (λ (here : Bool). option_map (λ (l : SharedLine). l.crc) (cond here (Some line) (find (is_of name) lines))) parts.0
    ∙ no_crc name lines parts.1

-- a file without a checksum is named by no meta
no_count : (name : SharedName) (metas : List Meta) → crc_in name (all_lines metas) ≡ None
    → count_by (names_file name) metas ≡ 0
no_count name [] none = refl
no_count name (meta ∷ metas) none =
    let all = or_parts (list_any (is_of name) (lines_of meta)) (list_any (is_of name) (all_lines metas))
    (sym (list_any-append (is_of name) (lines_of meta) (all_lines metas)) ∙ no_line name (all_lines (meta ∷ metas)) none) in
    sum_by-cons (λ (m : Meta). cond (names_file name m) 1 0) meta metas
    ∙ (λ i. cond (all.0 i) 1 0 + no_count name metas (no_crc name (all_lines metas) all.1) i)

some_is : (x y : SharedFile) → ◌≡◌ {A = Option SharedFile} (Some x) (Some y) → x ≡ y
some_is x y same = cc

pub found_count : (metas : List Meta) (shared : Counted) (name : SharedName) (file : SharedFile) → CountsShared metas shared
    → get key_cmp shared.files (key_of name) ≡ Some file
    → (file.count ≡ count_of metas name) × (Some file.crc ≡ crc_of metas name)
found_count metas shared name file tells found = by (count_of metas name) (crc_of metas name)
    (sym found ∙ tells.kept name) where
      by : (count : ℕ) (crc : Option ℕ) → Some file ≡ with_count count crc → (file.count ≡ count) × (Some file.crc ≡ crc)
      by count None is = absurd (cc)
      by count (Some crc) is =
          let same = some_is file (record { crc = crc; count = count }) is in
          (ap (λ (f : SharedFile). f.count) same, ap (λ (f : SharedFile). Some f.crc) same)

pub found_none : (metas : List Meta) (shared : Counted) (name : SharedName) → CountsShared metas shared
    → get key_cmp shared.files (key_of name) ≡ None
    → (0 ≡ count_of metas name) × (None ≡ crc_of metas name)
unfolding count_of crc_of
found_none metas shared name tells found = by (crc_of metas name) refl (sym found ∙ tells.kept name) where
  by : (crc : Option ℕ) → crc_of metas name ≡ crc → None ≡ with_count (count_of metas name) crc
      → (0 ≡ count_of metas name) × (None ≡ crc_of metas name)
  by None none is = (sym (no_count name metas none), sym none)
  by (Some crc) there is = absurd (cc)
