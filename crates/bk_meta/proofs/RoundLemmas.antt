-- A meta's text is read as that meta.
use Rattle.std.proofs.Common.{◌≡◌, ℕ, ◌+◌, ◌-◌, ◌^◌, ◌<◌, ◌≤◌, List, [], ◌∷◌, ◌++◌, length, take, drop, Bool, true, false, refl, ap, sym, ◌∙◌, arith, Option, Some, Ok, suc, zero}
use Rattle.std.specs.Prelude.{not, ◌==◌, codes, nat_le}
use Rattle.std.specs.Fmt.{decimal}
use Rattle.std.specs.List.{All}
use Rattle.std.proofs.lemmas.Bool.Decides.{nat_tests}
use Rattle.std.proofs.lemmas.List.{append_assoc, append-nil, length-take-le, take-append-drop, take_all, drop_all}
use Rattle.std.proofs.lemmas.List.Elements.{All-head, All-tail}
use Rattle.hex.specs.Hex.{encode_lower, IsBytes}
use Rattle.lsm_names.proofs.PathLemmas.{list_all-append}
use Rattle.bk_meta.specs.declared.errors.MetaWhy.TheVariants.{SchemaTwo, Number, Metadata, Count, File, Order, Set, Extra}
use Rattle.bk_meta.specs.declared.metas.Meta.{Meta}
use Rattle.bk_meta.specs.declared.metas.MetaFile.{MetaFile}
use Rattle.bk_meta.specs.Lines.{◌>>=◌, some_or, holds_or, begins, line_at}
use Rattle.bk_meta.specs.Metas.{file_text, files_text, metadata_text, meta_text, comes_before, comes_after, last_path, path_at, Ascends, IsMetaFile, IsMeta, is_whole, number_at, timestamp_at, metadata_in, behind_metadata, some_from_two, count_at, file_in, files_at, is_end, ends_at, meta_of}
use Rattle.bk_meta.proofs.MetaLemmas.{goes_on, IsBegun, whole_meta}
use Rattle.bk_meta.proofs.NumberLemmas.{number_found}
use Rattle.bk_meta.proofs.PrintLemmas.{decimal_lacks, lower_lacks, line_reads, number_begins, encoded_is_lower, metadata_found, file_line_lacks, file_found}
use Rattle.bk_meta.proofs.ReadingLemmas.{no_files, files_step, path_in_front, last_is}

-- ---- numbers

pub number_reads : (at number : ℕ) (rest : List ℕ) → number < 2 ^ 64 → number_at at (decimal number ++ 10 ∷ rest) ≡ Ok (number, rest)
number_reads at number rest small =
    goes_on (line_at at (decimal number ++ 10 ∷ rest)) _ (decimal number, rest) (line_reads at (decimal number) rest (decimal_lacks 10 number small refl))
    ∙ ap (λ (n : Option ℕ). some_or at Number n >>= λ number. Ok (number, rest)) (number_found (2 ^ 64 - 1) number (omega arith) small)

pub timestamp_reads : (number : ℕ) (rest : List ℕ) → number < 2 ^ 64 → timestamp_at (decimal number ++ 10 ∷ rest) ≡ Ok (number, rest)
timestamp_reads number rest small =
    ap (λ (is : Bool). holds_or 1 SchemaTwo (not is) >>= λ first. number_at 1 (decimal number ++ 10 ∷ rest)) (number_begins 115 number (codes "chema_version ") (10 ∷ rest) small refl)
    ∙ number_reads 1 number rest small

from_two_reads : (count : ℕ) → 2 ≤ count → some_from_two (Some count) ≡ Some count
from_two_reads count some = let is : nat_le 2 count ≡ true = grind (arith, nat_tests) in rw is

pub count_reads : (at count : ℕ) (rest : List ℕ) → 2 ≤ count → count ≤ 10000 → count_at at (decimal count ++ 10 ∷ rest) ≡ Ok (count, rest)
count_reads at count rest some few =
    goes_on (line_at at (decimal count ++ 10 ∷ rest)) _ (decimal count, rest) (line_reads at (decimal count) rest (decimal_lacks 10 count (omega arith) refl))
    ∙ ap (λ (n : Option ℕ). some_or at Count n >>= λ number. Ok (number, rest)) (ap some_from_two (number_found 10000 count few (omega arith)) ∙ from_two_reads count some)

-- ---- metadata

-- the third line of a text, and what stands behind the metadata
record IsThird (third metadata rest : List ℕ) (at : ℕ) : Type 0 where
  line : List ℕ
  fourth : List ℕ
  line_is : line_at 3 third ≡ Ok (line, fourth)
  metadata_is : metadata_in line ≡ Ok metadata
  at_is : at ≡ (behind_metadata metadata third fourth).0
  rest_is : rest ≡ (behind_metadata metadata third fourth).1

abbrev line_of : List ℕ → ℕ
line_of [] = 3
line_of (byte ∷ bytes) = 4

not_metadata : (line : List ℕ) → begins (codes "metadata ") line ≡ false → metadata_in line ≡ Ok []
not_metadata line h = rw h

some_metadata : (bytes : List ℕ) → IsBytes bytes → 1 ≤ length bytes → length bytes ≤ 1024 → metadata_in (codes "metadata " ++ encode_lower bytes) ≡ Ok bytes
some_metadata bytes h some short = ap (some_or 3 Metadata) (metadata_found bytes h some short)

third_reads : (metadata behind : List ℕ) (count : ℕ) → count < 2 ^ 64 → IsBytes metadata → length metadata ≤ 1024 → IsThird (metadata_text metadata ++ (decimal count ++ 10 ∷ behind)) metadata (decimal count ++ 10 ∷ behind) (line_of metadata)
third_reads [] behind count small h short = record {
  line = decimal count;
  fourth = behind;
  line_is = line_reads 3 (decimal count) behind (decimal_lacks 10 count small refl);
  metadata_is = not_metadata (decimal count) (ap (begins (codes "metadata ")) (sym (append-nil (decimal count))) ∙ number_begins 109 count (codes "etadata ") [] small refl);
  at_is = refl;
  rest_is = refl;
}
third_reads (byte ∷ bytes) behind count small h short =
    let digits = encode_lower (byte ∷ bytes) in
    let line = codes "metadata " ++ digits in
    let rest = decimal count ++ 10 ∷ behind in
    record {
      line = line;
      fourth = rest;
      line_is =
          ap (line_at 3) (append_assoc line (10 ∷ []) rest)
          ∙ line_reads 3 line rest (list_all-append (λ byte. not (byte == 10)) (codes "metadata ") digits refl (lower_lacks digits (encoded_is_lower (byte ∷ bytes) h)));
      metadata_is = some_metadata (byte ∷ bytes) h (omega arith) short;
      at_is = refl;
      rest_is = refl;
    }

-- ---- files

-- the file at an index
record IsAt (id : ℕ) (files : List MetaFile) (index : ℕ) : Type 0 where
  file : MetaFile
  front : take (suc index) files ≡ take index files ++ file ∷ []
  back : drop index files ≡ file ∷ drop (suc index) files
  lawful : IsMetaFile id file
  path : path_at files index ≡ file.path

at_index : (id : ℕ) (files : List MetaFile) (index : ℕ) → All (IsMetaFile id) files → index < length files → IsAt id files index
at_index id [] index h within = absurd (omega arith)
at_index id (file ∷ files) zero h within = record {
  file = file;
  front = refl;
  back = refl;
  lawful = All-head (IsMetaFile id) file files h;
  path = refl;
}
at_index id (first ∷ files) (suc index) h within =
    let it = at_index id files index (All-tail (IsMetaFile id) first files h) (omega arith) in
    record {
      file = it.file;
      front = ap (λ (fs : List MetaFile). first ∷ fs) it.front;
      back = it.back;
      lawful = it.lawful;
      path = it.path;
    }

after_front : (files : List MetaFile) (index : ℕ) (path : List ℕ) → Ascends files → index < length files → path_at files index ≡ path → comes_after (last_path (take index files)) path ≡ true
after_front files zero path ascending within is = refl
after_front files (suc index) path ascending within is =
    let front = take (suc index) files in
    let long : length front ≡ suc index = length-take-le (suc index) files (omega arith) in
    let last = last_is front index (omega (arith, long)) in
    let same = sym (path_in_front front (drop (suc index) files) index (omega (arith, long))) ∙ ap (λ (fs : List MetaFile). path_at fs index) (take-append-drop (suc index) files) in
    let next : index + 1 ≡ suc index = omega arith in
    ap (λ (l : Option (List ℕ)). comes_after l path) (last ∙ ap (λ (p : List ℕ). Some p) same)
    ∙ ap (comes_before (path_at files index)) (sym is ∙ ap (path_at files) (sym next))
    ∙ ascending index (omega arith)

file_reads : (id at : ℕ) (last : Option (List ℕ)) (file : MetaFile) → id < 2 ^ 64 → IsMetaFile id file → comes_after last file.path ≡ true → file_in id at last (file_text file) ≡ Ok file
file_reads id at last file small h after =
    ap (λ (f : Option MetaFile). some_or at File f >>= λ file. holds_or at Order (comes_after last file.path) >>= λ ordered. Ok file) (file_found id file small h)
    ∙ ap (λ (is : Bool). holds_or at Order is >>= λ ordered. Ok file) after

files_line : (file : MetaFile) (files : List MetaFile) → files_text (file ∷ files) ≡ file_text file ++ 10 ∷ files_text files
files_line file files = append_assoc (file_text file) (10 ∷ []) (files_text files)

files_read : (id first count : ℕ) (files : List MetaFile) → id < 2 ^ 64 → All (IsMetaFile id) files → Ascends files → count ≤ length files → files_at id first count (files_text files) ≡ Ok (take count files, files_text (drop count files))
files_read id first zero files small h ascending within = no_files id first (files_text files)
files_read id first (suc count) files small h ascending within =
    let it = at_index id files count h (omega arith) in
    let text = files_text (drop (suc count) files) in
    let after = after_front files count it.file.path ascending (omega arith) it.path in
    files_step id first count (suc count) (files_text files) (files_text (drop count files)) (file_text it.file) text (take count files) (last_path (take count files)) it.file
    (files_read id first count files small h ascending (omega arith)) refl
    (ap (λ (fs : List MetaFile). line_at (first + count) (files_text fs)) it.back ∙ ap (line_at (first + count)) (files_line it.file (drop (suc count) files)) ∙ line_reads (first + count) (file_text it.file) text (file_line_lacks id it.file small it.lawful))
    (file_reads id (first + count) (last_path (take count files)) it.file small it.lawful after) (omega arith)
    ∙ ap (λ (fs : List MetaFile). Ok (fs, text)) (sym it.front)

all_files : (id first : ℕ) (files : List MetaFile) → id < 2 ^ 64 → All (IsMetaFile id) files → Ascends files → files_at id first (length files) (files_text files) ≡ Ok (files, [])
all_files id first files small h ascending =
    files_read id first (length files) files small h ascending (omega arith)
    ∙ λ i. Ok (take_all (length files) files (omega arith) i, files_text (drop_all (length files) files (omega arith) i))

-- ---- a whole meta

ends_well : (id last : ℕ) (files : List MetaFile) → is_whole id files ≡ true → ends_at id last files [] ≡ Ok tt
ends_well id last files whole = ap (λ (is : Bool). holds_or last Set is >>= λ w. holds_or (last + 1) Extra (is_end [])) whole

pub text_form : (meta : Meta) → meta_text meta ≡ decimal meta.timestamp ++ 10 ∷ (decimal meta.sequence ++ 10 ∷ (metadata_text meta.metadata ++ (decimal (length meta.files) ++ 10 ∷ files_text meta.files)))
unfolding meta_text
text_form meta = simp append_assoc

pub printed : (meta : Meta) → IsMeta meta → meta_of meta.id (meta_text meta) ≡ Ok meta
printed meta h =
    let files = files_text meta.files in
    let rest = decimal (length meta.files) ++ 10 ∷ files in
    let third = metadata_text meta.metadata ++ rest in
    let second = decimal meta.sequence ++ 10 ∷ third in
    let text = decimal meta.timestamp ++ 10 ∷ second in
    let it = third_reads meta.metadata files (length meta.files) (omega (arith, h.count.1)) h.bytes h.short in
    let at = line_of meta.metadata in
    let begun : IsBegun text meta.timestamp meta.sequence meta.metadata at rest = record {
      second = second;
      third = third;
      line = it.line;
      fourth = it.fourth;
      first_is = timestamp_reads meta.timestamp second h.time;
      second_is = number_reads 2 meta.sequence third h.last;
      third_is = it.line_is;
      metadata_is = it.metadata_is;
      at_is = it.at_is;
      rest_is = it.rest_is;
    } in
    ap (meta_of meta.id) (text_form meta)
    ∙ whole_meta meta.id meta.timestamp meta.sequence at (length meta.files) text meta.metadata rest files [] meta.files begun (count_reads at (length meta.files) files h.count.0 h.count.1)
    (all_files meta.id (at + 1) meta.files (omega (arith, h.identifier.1)) h.each h.ascending) (ends_well meta.id (at + length meta.files) meta.files h.whole)
