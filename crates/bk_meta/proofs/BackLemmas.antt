-- A text that is read is the text of its meta.
use Rattle.std.proofs.Common.{◌≡◌, ℕ, ◌+◌, ◌-◌, ◌^◌, ◌<◌, ◌≤◌, List, [], ◌∷◌, ◌++◌, length, drop, Bool, true, false, refl, ap, sym, ◌∙◌, subst, arith, Option, Some, None, Ok, suc, zero, inl, inr}
use Rattle.std.specs.Prelude.{not, codes, ◌⊎◌, if◌then◌else◌}
use Rattle.std.specs.Fmt.{decimal}
use Rattle.std.proofs.lemmas.Bool.Decides.{nat_tests}
use Rattle.std.proofs.lemmas.List.{append_assoc, append-nil, length-append}
use Rattle.std.proofs.lemmas.Grind.{flat_map-append}
use Rattle.hex.specs.Hex.{encode_lower, IsBytes}
use Rattle.bk_meta.specs.declared.errors.MetaWhy.TheVariants.{SchemaTwo, Number, Metadata, Count, Set, Extra, Ending}
use Rattle.bk_meta.specs.declared.metas.Meta.{Meta}
use Rattle.bk_meta.specs.declared.metas.MetaFile.{MetaFile}
use Rattle.bk_meta.specs.Lines.{some_or, holds_or, begins, line_at, cut_at}
use Rattle.bk_meta.specs.Metas.{with_newline, file_text, files_text, metadata_text, meta_text, last_path, IsMeta, is_whole, number_at, timestamp_at, metadata_in, behind_metadata, some_from_two, count_at, files_at, is_end, ends_at, meta_of}
use Rattle.bk_meta.specs.Numbers.{number_up_to, metadata_of}
use Rattle.bk_meta.proofs.DigitLemmas.{IsMetadata, metadata_spells}
use Rattle.bk_meta.proofs.LineLemmas.{cut_joins, begun_by}
use Rattle.bk_meta.proofs.MetaLemmas.{meta_steps, after_timestamp, after_sequence, after_line, after_metadata, after_count, after_files}
use Rattle.bk_meta.proofs.NumberLemmas.{number_spells}
use Rattle.bk_meta.proofs.ReadingLemmas.{read_first, had_some, had_rule, same_ok, no_files, files_were, file_was, file_spells, files_named, files_ascend}
use Rattle.bk_meta.proofs.RoundLemmas.{text_form}

-- ---- lines

line_was : (at : ℕ) (text : List ℕ) (line : List ℕ × List ℕ) → line_at at text ≡ Ok line → text ≡ line.0 ++ 10 ∷ line.1
line_was at text line h = cut_joins 10 text line (had_some at Ending (cut_at 10 text) line h)

number_was : (at number : ℕ) (text rest : List ℕ) → number_at at text ≡ Ok (number, rest) → (text ≡ decimal number ++ 10 ∷ rest) × (number < 2 ^ 64)
number_was at number text rest h =
    let one = read_first (line_at at text) _ (number, rest) h in
    let two = read_first (some_or at Number (number_up_to (2 ^ 64 - 1) one.0.0)) _ (number, rest) one.2 in
    let same = same_ok (two.0, one.0.1) (number, rest) two.2 in
    let said = number_spells (2 ^ 64 - 1) two.0 one.0.0 (omega arith) (had_some at Number (number_up_to (2 ^ 64 - 1) one.0.0) two.0 two.1) in
    let is : two.0 ≡ number = λ i. (same i).0 in
    (line_was at text one.0 one.1 ∙ (λ i. (said.0 ∙ ap decimal is) i ++ 10 ∷ (same i).1), omega (arith, said.1, is))

timestamp_was : (number : ℕ) (text rest : List ℕ) → timestamp_at text ≡ Ok (number, rest) → (text ≡ decimal number ++ 10 ∷ rest) × (number < 2 ^ 64)
timestamp_was number text rest h =
    let one = read_first (holds_or 1 SchemaTwo (not (begins (codes "schema_version ") text))) (λ first. number_at 1 text) (number, rest) h in
    number_was 1 number text rest one.2

two_was : (read : Option ℕ) (count : ℕ) → some_from_two read ≡ Some count → (read ≡ Some count) × (2 ≤ count)
two_was None count h = absurd (cc)
two_was (Some n) count h = grind (arith, nat_tests)

count_was : (at count : ℕ) (text rest : List ℕ) → count_at at text ≡ Ok (count, rest) → (text ≡ decimal count ++ 10 ∷ rest) × (2 ≤ count) × (count ≤ 10000)
count_was at count text rest h =
    let one = read_first (line_at at text) _ (count, rest) h in
    let two = read_first (some_or at Count (some_from_two (number_up_to 10000 one.0.0))) _ (count, rest) one.2 in
    let same = same_ok (two.0, one.0.1) (count, rest) two.2 in
    let read = two_was (number_up_to 10000 one.0.0) two.0 (had_some at Count (some_from_two (number_up_to 10000 one.0.0)) two.0 two.1) in
    let said = number_spells 10000 two.0 one.0.0 (omega arith) read.0 in
    let is : two.0 ≡ count = λ i. (same i).0 in
    (line_was at text one.0 one.1 ∙ (λ i. (said.0 ∙ ap decimal is) i ++ 10 ∷ (same i).1), omega (arith, read.1, is), omega (arith, said.1, is))

-- ---- metadata

metadata_by : (begun : Bool) (line bytes : List ℕ) → begins (codes "metadata ") line ≡ begun → (if begun then some_or 3 Metadata (metadata_of (drop 9 line)) else Ok []) ≡ Ok bytes → ([] ≡ bytes) ⊎ ((line ≡ codes "metadata " ++ drop 9 line) × IsMetadata (drop 9 line) bytes)
metadata_by true line bytes is h = inr (begun_by (codes "metadata ") line is, metadata_spells (drop 9 line) bytes (had_some 3 Metadata (metadata_of (drop 9 line)) bytes h))
metadata_by false line bytes is h = inl (same_ok [] bytes h)

-- the third line's text, and the rules of metadata
record WasThird (third metadata rest : List ℕ) : Type 0 where
  text : third ≡ metadata_text metadata ++ rest
  short : length metadata ≤ 1024
  each : IsBytes metadata

no_bytes : IsBytes []
no_bytes index = omega arith

third_by : (third line fourth metadata : List ℕ) → third ≡ line ++ 10 ∷ fourth → ([] ≡ metadata) ⊎ ((line ≡ codes "metadata " ++ drop 9 line) × IsMetadata (drop 9 line) metadata) → WasThird third metadata (behind_metadata metadata third fourth).1
third_by third line fourth metadata cut (inl none) = subst (λ (m : List ℕ). WasThird third m (behind_metadata m third fourth).1) none (record { text = refl; short = omega arith; each = no_bytes })
third_by third line fourth [] cut (inr some) = absurd (omega (arith, some.1.some))
third_by third line fourth (byte ∷ bytes) cut (inr some) =
    let bytes_are = some.1 in
    record {
      text =
          cut ∙ ap (λ (l : List ℕ). l ++ 10 ∷ fourth) (some.0 ∙ ap (λ (d : List ℕ). codes "metadata " ++ d) bytes_are.spelled)
          ∙ sym (append_assoc (codes "metadata " ++ encode_lower (byte ∷ bytes)) (10 ∷ []) fourth);
      short = bytes_are.short;
      each = bytes_are.each;
    }

third_was : (third metadata : List ℕ) (line : List ℕ × List ℕ) → line_at 3 third ≡ Ok line → metadata_in line.0 ≡ Ok metadata → WasThird third metadata (behind_metadata metadata third line.1).1
third_was third metadata line p q =
    third_by third line.0 line.1 metadata (line_was 3 third line p) (metadata_by (begins (codes "metadata ") line.0) line.0 metadata refl q)

-- ---- files

last_text : (file : MetaFile) (rest : List ℕ) → files_text (file ∷ []) ++ rest ≡ file_text file ++ 10 ∷ rest
last_text file rest = ap (λ (t : List ℕ). t ++ rest) (append-nil (with_newline (file_text file))) ∙ append_assoc (file_text file) (10 ∷ []) rest

files_spell : (id first count : ℕ) (text rest : List ℕ) (files : List MetaFile) → files_at id first count text ≡ Ok (files, rest) → (text ≡ files_text files ++ rest) × (length files ≡ count)
files_spell id first zero text rest files h =
    let same = same_ok ([], text) (files, rest) (sym (no_files id first text) ∙ h) in
    (λ i. files_text (same i).0 ++ (same i).1, ap length (λ i. (sym same i).0))
files_spell id first (suc count) text rest files h =
    let were = files_were id first count text rest files h in
    let before = files_spell id first count text were.0.1 were.0.0 were.3 in
    let cut = line_was (first + count) were.0.1 were.1 were.4 in
    let said = file_spells id were.1.0 were.2 (file_was id (first + count) (last_path were.0.0) were.1.0 were.2 were.5).0 in
    let last : were.0.1 ≡ files_text (were.2 ∷ []) ++ rest = cut ∙ (λ i. said.1 i ++ 10 ∷ sym were.7 i) ∙ sym (last_text were.2 rest) in (
      before.0 ∙ ap (λ (t : List ℕ). files_text were.0.0 ++ t) last ∙ sym (append_assoc (files_text were.0.0) (files_text (were.2 ∷ [])) rest)
          ∙ ap (λ (t : List ℕ). t ++ rest) (sym (flat_map-append (λ file. with_newline (file_text file)) were.0.0 (were.2 ∷ [])))
          ∙ ap (λ (fs : List MetaFile). files_text fs ++ rest) (sym were.6),
      ap length were.6 ∙ length-append were.0.0 (were.2 ∷ []) ∙ omega (arith, before.1),
    )

end_was : (text : List ℕ) → is_end text ≡ true → text ≡ []
end_was [] h = refl
end_was (byte ∷ text) h = absurd (cc)

ends_was : (id last : ℕ) (files : List MetaFile) (rest : List ℕ) (u : Unit {0}) → ends_at id last files rest ≡ Ok u → (is_whole id files ≡ true) × (rest ≡ [])
ends_was id last files rest u h =
    let one = read_first (holds_or last Set (is_whole id files)) (λ whole. holds_or (last + 1) Extra (is_end rest)) u h in
    (had_rule last Set (is_whole id files) one.0 one.1, end_was rest (had_rule (last + 1) Extra (is_end rest) u one.2))

-- ---- a whole meta

pub was_printed : (id : ℕ) (text : List ℕ) (meta : Meta) → 1 ≤ id → id < 2 ^ 32 → meta_of id text ≡ Ok meta → (text ≡ meta_text meta) × IsMeta meta × (meta.id ≡ id)
was_printed id text meta one small h =
    let timestamp = read_first (timestamp_at text) (after_timestamp id) meta (sym (meta_steps id text) ∙ h) in
    let sequence = read_first (number_at 2 timestamp.0.1) (after_sequence id timestamp.0.0) meta timestamp.2 in
    let third = sequence.0.1 in
    let line = read_first (line_at 3 third) (after_line id timestamp.0.0 sequence.0.0 third) meta sequence.2 in
    let metadata = read_first (metadata_in line.0.0) (after_metadata id timestamp.0.0 sequence.0.0 third line.0.1) meta line.2 in
    let at = (behind_metadata metadata.0 third line.0.1).0 in
    let rest = (behind_metadata metadata.0 third line.0.1).1 in
    let count = read_first (count_at at rest) (after_count id timestamp.0.0 sequence.0.0 metadata.0 at) meta metadata.2 in
    let files = read_first (files_at id (at + 1) count.0.0 count.0.1) (after_files id timestamp.0.0 sequence.0.0 metadata.0 at count.0.0) meta count.2 in
    let it : Meta = record { id = id; timestamp = timestamp.0.0; sequence = sequence.0.0; metadata = metadata.0; files = files.0.0 } in
    let close = read_first (ends_at id (at + count.0.0) files.0.0 files.0.1) (λ over. Ok it) meta files.2 in
    let first = timestamp_was timestamp.0.0 text timestamp.0.1 timestamp.1 in
    let second = number_was 2 sequence.0.0 timestamp.0.1 third sequence.1 in
    let middle = third_was third metadata.0 line.0 line.1 metadata.1 in
    let number = count_was at count.0.0 rest count.0.1 count.1 in
    let list = files_spell id (at + 1) count.0.0 count.0.1 files.0.1 files.0.0 files.1 in
    let end = ends_was id (at + count.0.0) files.0.0 files.0.1 close.0 close.1 in
    let last : count.0.1 ≡ files_text files.0.0 = list.0 ∙ ap (λ (t : List ℕ). files_text files.0.0 ++ t) end.1 ∙ append-nil (files_text files.0.0) in
    let spelled : text ≡ meta_text it =
    first.0 ∙ ap (λ (t : List ℕ). decimal timestamp.0.0 ++ 10 ∷ t)
    (second.0 ∙ ap (λ (t : List ℕ). decimal sequence.0.0 ++ 10 ∷ t)
    (middle.text ∙ ap (λ (t : List ℕ). metadata_text metadata.0 ++ t) (number.0 ∙ λ i. decimal (sym list.1 i) ++ 10 ∷ last i)))
    ∙ sym (text_form it) in
    let lawful : IsMeta it = record {
      identifier = (one, small);
      time = first.1;
      last = second.1;
      short = middle.short;
      bytes = middle.each;
      count = (omega (arith, number.1, list.1), omega (arith, number.2, list.1));
      each = files_named id (at + 1) count.0.0 count.0.1 files.0.1 files.0.0 files.1;
      ascending = files_ascend id (at + 1) count.0.0 count.0.1 files.0.1 files.0.0 files.1;
      whole = end.0;
    } in
    subst (λ (m : Meta). (text ≡ meta_text m) × IsMeta m × (m.id ≡ id)) (same_ok it meta close.2) (spelled, lawful, refl)
