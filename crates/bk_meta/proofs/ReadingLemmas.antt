-- How a text's files are read, one line after the other.
use Rattle.std.proofs.Common.{◌≡◌, ℕ, ◌+◌, ◌-◌, ◌<◌, List, [], ◌∷◌, ◌++◌, length, Bool, true, false, refl, ap, sym, ◌∙◌, subst, arith, Option, Some, None, Result, Ok, Err, suc, zero, inl, inr}
use Rattle.std.specs.Prelude.{◌^◌, codes, is_some, if◌then◌else◌, drop}
use Rattle.std.specs.Fmt.{decimal}
use Rattle.std.specs.List.{All}
use Rattle.std.proofs.lemmas.List.Elements.{All-nil, All-cons, All-append}
use Rattle.std.proofs.lemmas.Bool.{cases_lt}
use Rattle.std.proofs.lemmas.List.{length-append, append_assoc}
use Rattle.bk_meta.specs.declared.errors.MetaWhy.{MetaWhy}
use Rattle.bk_meta.specs.declared.errors.MetaWhy.TheVariants.{File, Order}
use Rattle.bk_meta.specs.declared.errors.MetaError.{MetaError}
use Rattle.bk_meta.specs.declared.errors.MetaError.TheVariants.{BadMeta, NoMemory}
use Rattle.bk_meta.specs.declared.metas.MetaFile.{MetaFile}
use Rattle.bk_meta.specs.Lines.{Bad, ◌>>=◌, some_or, holds_or, begins, cut_at, line_at, IsBad}
use Rattle.bk_meta.specs.Metas.{file_of, file_in, files_at, last_path, comes_after, comes_before, path_at, Ascends, IsMetaFile, file_where, file_with, crc_of, file_text}
use Rattle.bk_meta.specs.BackupFiles.{file_at}
use Rattle.bk_meta.specs.Numbers.{number_up_to}
use Rattle.bk_meta.proofs.LineLemmas.{cut_joins, begun_by}
use Rattle.bk_meta.proofs.NumberLemmas.{number_spells}

pub last_path_push : (files : List MetaFile) (file : MetaFile) → last_path (files ++ file ∷ []) ≡ Some file.path
last_path_push [] file = refl
last_path_push (a ∷ []) file = refl
last_path_push (a ∷ b ∷ files) file = last_path_push (b ∷ files) file

-- ---- one line more

-- a line and its file behind files that were read
abbrev one_more : ℕ → ℕ → List MetaFile × List ℕ → Result (List MetaFile × List ℕ) Bad
one_more id at files =
    line_at at files.1 >>= λ line. file_in id at (last_path files.0) line.0 >>= λ file. Ok (files.0 ++ file ∷ [], line.1)

files_next : (id first count : ℕ) (text : List ℕ) → files_at id first (suc count) text ≡ (files_at id first count text >>= one_more id (first + count))
unfolding files_at
files_next id first count text = refl

read_next : (id first count : ℕ) (text : List ℕ) (so_far : List MetaFile × List ℕ) → files_at id first count text ≡ Ok so_far → files_at id first (suc count) text ≡ one_more id (first + count) so_far
read_next id first count text so_far before = files_next id first count text ∙ ap (λ (r : Result (List MetaFile × List ℕ) Bad). r >>= one_more id (first + count)) before

more_line : (id at : ℕ) (files : List MetaFile) (rest : List ℕ) (bad : Bad) → line_at at rest ≡ Err bad → one_more id at (files, rest) ≡ Err bad
more_line id at files rest bad h = ap (λ (r : Result (List ℕ × List ℕ) Bad). r >>= λ line. file_in id at (last_path files) line.0 >>= λ file. Ok (files ++ file ∷ [], line.1)) h

more_file : (id at : ℕ) (files : List MetaFile) (rest line behind : List ℕ) (read : Result MetaFile Bad) → line_at at rest ≡ Ok (line, behind) → file_in id at (last_path files) line ≡ read →
    one_more id at (files, rest) ≡ (read >>= λ file. Ok (files ++ file ∷ [], behind))
more_file id at files rest line behind read h k =
    ap (λ (r : Result (List ℕ × List ℕ) Bad). r >>= λ l. file_in id at (last_path files) l.0 >>= λ file. Ok (files ++ file ∷ [], l.1)) h
    ∙ ap (λ (r : Result MetaFile Bad). r >>= λ file. Ok (files ++ file ∷ [], behind)) k

pub files_step : (id first count next : ℕ) (text rest line behind : List ℕ) (files : List MetaFile) (last : Option (List ℕ)) (file : MetaFile) → files_at id first count text ≡ Ok (files, rest) → last ≡ last_path files → line_at (first + count) rest ≡ Ok (line, behind) → file_in id (first + count) last line ≡ Ok file → next ≡ count + 1 →
    files_at id first next text ≡ Ok (files ++ file ∷ [], behind)
files_step id first count next text rest line behind files last file before is cut read one =
    let this : next ≡ suc count = omega arith in
    rw this (read_next id first count text (files, rest) before ∙ more_file id (first + count) files rest line behind (Ok file) cut (ap (λ (l : Option (List ℕ)). file_in id (first + count) l line) (sym is) ∙ read))

-- ---- a bad line ends all

stays_bad : (id first count : ℕ) (text : List ℕ) (bad : Bad) → files_at id first count text ≡ Err bad → files_at id first (suc count) text ≡ Err bad
stays_bad id first count text bad h = files_next id first count text ∙ ap (λ (r : Result (List MetaFile × List ℕ) Bad). r >>= one_more id (first + count)) h

bad_after : (id first count more : ℕ) (text : List ℕ) (bad : Bad) → files_at id first count text ≡ Err bad → files_at id first (count + more) text ≡ Err bad
bad_after id first count zero text bad h = let same : count + 0 ≡ count = omega arith in rw same h
bad_after id first count (suc more) text bad h =
    let next : count + suc more ≡ suc (count + more) = omega arith in
    rw next (stays_bad id first (count + more) text bad (bad_after id first count more text bad h))

bad_within : (id first count total : ℕ) (text : List ℕ) (bad : Bad) → count < total → files_at id first (suc count) text ≡ Err bad → files_at id first total text ≡ Err bad
bad_within id first count total text bad within h =
    let rest : suc count + (total - suc count) ≡ total = omega arith in
    subst (λ (n : ℕ). files_at id first n text ≡ Err bad) rest (bad_after id first (suc count) (total - suc count) text bad h)

pub files_end_line : (id first count total : ℕ) (text rest : List ℕ) (files : List MetaFile) (error : MetaError) → count < total → files_at id first count text ≡ Ok (files, rest) → IsBad (line_at (first + count) rest) error → IsBad (files_at id first total text) error
files_end_line id first count total text rest files (BadMeta line why) within before bad =
    bad_within id first count total text (line, why) within (read_next id first count text (files, rest) before ∙ more_line id (first + count) files rest (line, why) bad)
files_end_line id first count total text rest files NoMemory within before bad = tt

pub files_end_file : (id first count total : ℕ) (text rest line behind : List ℕ) (files : List MetaFile) (last : Option (List ℕ)) (error : MetaError) → count < total → files_at id first count text ≡ Ok (files, rest) → last ≡ last_path files → line_at (first + count) rest ≡ Ok (line, behind) → IsBad (file_in id (first + count) last line) error →
    IsBad (files_at id first total text) error
files_end_file id first count total text rest line behind files last (BadMeta at why) within before is cut bad =
    bad_within id first count total text (at, why) within
    (read_next id first count text (files, rest) before ∙ more_file id (first + count) files rest line behind (Err (at, why)) cut (ap (λ (l : Option (List ℕ)). file_in id (first + count) l line) (sym is) ∙ bad))
files_end_file id first count total text rest line behind files last NoMemory within before is cut bad = tt

pub no_files : (id first : ℕ) (text : List ℕ) → files_at id first 0 text ≡ Ok ([], text)
unfolding files_at
no_files id first text = refl

-- ---- what was read

pub read_first : {A B : Type 0} (r : Result A Bad) (next : A → Result B Bad) (y : B) → (r >>= next) ≡ Ok y → (x : A) × (r ≡ Ok x) × (next x ≡ Ok y)
read_first (Ok x) next y h = (x, refl, h)
read_first (Err bad) next y h = absurd (cc)

pub had_some : {A : Type 0} (line : ℕ) (why : MetaWhy) (o : Option A) (x : A) → some_or line why o ≡ Ok x → o ≡ Some x
had_some line why None x h = absurd (cc)
had_some line why (Some y) x h = cc

pub had_rule : (line : ℕ) (why : MetaWhy) (is : Bool) (x : Unit {0}) → holds_or line why is ≡ Ok x → is ≡ true
had_rule line why true x h = refl
had_rule line why false x h = absurd (cc)

pub same_ok : {A : Type 0} (x y : A) → ◌≡◌ {A = Result A Bad} (Ok x) (Ok y) → x ≡ y
same_ok x y h = cc

-- a file line says its file, which comes after the last one
pub file_was : (id at : ℕ) (last : Option (List ℕ)) (line : List ℕ) (file : MetaFile) → file_in id at last line ≡ Ok file → (file_of id line ≡ Some file) × (comes_after last file.path ≡ true)
file_was id at last line file h =
    let first = read_first (some_or at File (file_of id line)) _ file h in
    let second = read_first (holds_or at Order (comes_after last first.0.path)) _ file first.2 in
    let same : first.0 ≡ file = same_ok first.0 file second.2 in
    (had_some at File (file_of id line) first.0 first.1 ∙ ap (λ (f : MetaFile). Some f) same, ap (λ (f : MetaFile). comes_after last f.path) (sym same) ∙ had_rule at Order (comes_after last first.0.path) second.0 second.1)

-- one file more was read behind those before
pub files_were : (id first count : ℕ) (text rest : List ℕ) (files : List MetaFile) → files_at id first (suc count) text ≡ Ok (files, rest) →
    (before : List MetaFile × List ℕ) × (line : List ℕ × List ℕ) × (file : MetaFile) × (files_at id first count text ≡ Ok before) × (line_at (first + count) before.1 ≡ Ok line) × (file_in id (first + count) (last_path before.0) line.0 ≡ Ok file)
    × (files ≡ before.0 ++ file ∷ []) × (rest ≡ line.1)
files_were id first count text rest files h =
    let one = read_first (files_at id first count text) (one_more id (first + count)) (files, rest) (sym (files_next id first count text) ∙ h) in
    let two = read_first (line_at (first + count) one.0.1) _ (files, rest) one.2 in
    let three = read_first (file_in id (first + count) (last_path one.0.0) two.0.0) _ (files, rest) two.2 in
    let same = same_ok (one.0.0 ++ three.0 ∷ [], two.0.1) (files, rest) three.2 in
    (one.0, two.0, three.0, one.1, two.1, three.1, sym (λ i. (same i).0), sym (λ i. (same i).1))

-- ---- the order of the paths

pub path_in_front : (files more : List MetaFile) (index : ℕ) → index < length files → path_at (files ++ more) index ≡ path_at files index
path_in_front [] more index within = absurd (omega arith)
path_in_front (file ∷ files) more zero within = refl
path_in_front (file ∷ files) more (suc index) within = path_in_front files more index (omega arith)

pub path_behind : (files more : List MetaFile) (file : MetaFile) (index : ℕ) → index ≡ length files → path_at (files ++ file ∷ more) index ≡ file.path
path_behind [] more file index at = rw at refl
path_behind (a ∷ files) more file zero at = absurd (omega arith)
path_behind (a ∷ files) more file (suc index) at = path_behind files more file index (omega arith)

pub last_is : (files : List MetaFile) (index : ℕ) → index + 1 ≡ length files → last_path files ≡ Some (path_at files index)
last_is [] index at = absurd (omega arith)
last_is (a ∷ []) zero at = refl
last_is (a ∷ []) (suc index) at = absurd (omega arith)
last_is (a ∷ b ∷ files) zero at = absurd (omega arith)
last_is (a ∷ b ∷ files) (suc index) at = last_is (b ∷ files) index (omega arith)

after_last : (last : Option (List ℕ)) (before path : List ℕ) → last ≡ Some before → comes_after last path ≡ true → comes_before before path ≡ true
after_last last before path is after = ap (λ (l : Option (List ℕ)). comes_after l path) (sym is) ∙ after

pub ascends_push : (files : List MetaFile) (file : MetaFile) → Ascends files → comes_after (last_path files) file.path ≡ true → Ascends (files ++ file ∷ [])
ascends_push files file ascending after index within =
    let long = length-append files (file ∷ []) in
    let here : index < length files = omega (arith, long) in
    elim (cases_lt (index + 1) (length files)) [
      | inl inner ↦ rw (path_in_front files (file ∷ []) index here, path_in_front files (file ∷ []) (index + 1) inner) (ascending index inner)
      | inr end ↦
          let at : index + 1 ≡ length files = omega (arith, long) in
          rw (path_in_front files (file ∷ []) index here, path_behind files [] file (index + 1) at) (after_last (last_path files) (path_at files index) file.path (last_is files index at) after)
    ]

pub files_ascend : (id first count : ℕ) (text rest : List ℕ) (files : List MetaFile) → files_at id first count text ≡ Ok (files, rest) → Ascends files
files_ascend id first zero text rest files h =
    let none : [] ≡ files = λ i. (same_ok ([], text) (files, rest) (sym (no_files id first text) ∙ h) i).0 in
    λ index within. absurd (omega (arith, ap length none))
files_ascend id first (suc count) text rest files h =
    let were = files_were id first count text rest files h in
    let before = files_ascend id first count text were.0.1 were.0.0 were.3 in
    let said = file_was id (first + count) (last_path were.0.0) were.1.0 were.2 were.5 in
    subst Ascends (sym were.6) (ascends_push were.0.0 were.2 before said.1)

-- ---- the files that were read

text_of_crc : (begun : Bool) (text : List ℕ) (crc : ℕ) → begins (codes "crc32 ") text ≡ begun → (if begun then number_up_to (2 ^ 32 - 1) (drop 6 text) else None) ≡ Some crc → (text ≡ codes "crc32 " ++ decimal crc) × (crc < 2 ^ 32)
text_of_crc true text crc is h =
    let said = number_spells (2 ^ 32 - 1) crc (drop 6 text) (omega arith) h in
    (begun_by (codes "crc32 ") text is ∙ ap (λ (t : List ℕ). codes "crc32 " ++ t) said.0, omega (arith, said.1))
text_of_crc false text crc is h = absurd (cc)

with_crc : (path text : List ℕ) (crc : Option ℕ) (file : MetaFile) → ((n : ℕ) → crc ≡ Some n → (text ≡ codes "crc32 " ++ decimal n) × (n < 2 ^ 32)) → file_with path crc ≡ Some file → (file.path ≡ path) × (text ≡ codes "crc32 " ++ decimal file.crc) × (file.crc < 2 ^ 32)
with_crc path text None file said h = absurd (cc)
with_crc path text (Some n) file said h =
    let it = said n refl in
    let same : ◌≡◌ {A = MetaFile} (record { path = path; crc = n }) file = cc in
    (λ i. (sym same i).path, it.0 ∙ λ i. codes "crc32 " ++ decimal (same i).crc, subst (λ (f : MetaFile). f.crc < 2 ^ 32) same it.1)

text_is : (path digits : List ℕ) → path ++ 32 ∷ (codes "crc32 " ++ digits) ≡ path ++ codes " crc32 " ++ digits
text_is path digits = sym (append_assoc path (codes " crc32 ") digits)

with_path : (id : ℕ) (line : List ℕ) (parts : List ℕ × List ℕ) (named : Bool) (file : MetaFile) → line ≡ parts.0 ++ 32 ∷ parts.1 → is_some (file_at id parts.0) ≡ named → (if named then file_with parts.0 (crc_of parts.1) else None) ≡ Some file →
    IsMetaFile id file × (line ≡ file_text file)
with_path id line parts true file cut known h =
    let said = with_crc parts.0 parts.1 (crc_of parts.1) file (λ n is. text_of_crc (begins (codes "crc32 ") parts.1) parts.1 n refl is) h in (
      record { named = ap (λ (p : List ℕ). is_some (file_at id p)) said.0 ∙ known; fits = said.2 },
      cut ∙ (λ i. sym said.0 i ++ 32 ∷ said.1 i) ∙ text_is file.path (decimal file.crc),
    )
with_path id line parts false file cut known h = absurd (cc)

where_cut : (id : ℕ) (line : List ℕ) (parts : Option (List ℕ × List ℕ)) (file : MetaFile) → cut_at 32 line ≡ parts → file_where id parts ≡ Some file → IsMetaFile id file × (line ≡ file_text file)
where_cut id line None file cut h = absurd (cc)
where_cut id line (Some parts) file cut h = with_path id line parts (is_some (file_at id parts.0)) file (cut_joins 32 line parts cut) refl h

-- a line is the text of its file
pub file_spells : (id : ℕ) (line : List ℕ) (file : MetaFile) → file_of id line ≡ Some file → IsMetaFile id file × (line ≡ file_text file)
unfolding file_of
file_spells id line file h = where_cut id line (cut_at 32 line) file refl h

pub files_named : (id first count : ℕ) (text rest : List ℕ) (files : List MetaFile) → files_at id first count text ≡ Ok (files, rest) → All (IsMetaFile id) files
files_named id first zero text rest files h =
    let none : [] ≡ files = λ i. (same_ok ([], text) (files, rest) (sym (no_files id first text) ∙ h) i).0 in
    subst (All (IsMetaFile id)) none (All-nil (IsMetaFile id))
files_named id first (suc count) text rest files h =
    let were = files_were id first count text rest files h in
    let before = files_named id first count text were.0.1 were.0.0 were.3 in
    let said = file_was id (first + count) (last_path were.0.0) were.1.0 were.2 were.5 in
    let this = file_spells id were.1.0 were.2 said.0 in
    subst (All (IsMetaFile id)) (sym were.6) (All-append (IsMetaFile id) were.0.0 (were.2 ∷ []) before (All-cons (IsMetaFile id) were.2 [] this.0 (All-nil (IsMetaFile id))))
