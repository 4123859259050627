-- How a meta is read, step by step.
use Rattle.std.proofs.Common.{◌≡◌, ℕ, ◌+◌, List, refl, ap, sym, ◌∙◌, Result, Ok}
use Rattle.bk_meta.specs.declared.errors.MetaError.{MetaError}
use Rattle.bk_meta.specs.declared.errors.MetaError.TheVariants.{BadMeta, NoMemory}
use Rattle.bk_meta.specs.declared.metas.Meta.{Meta}
use Rattle.bk_meta.specs.declared.metas.MetaFile.{MetaFile}
use Rattle.bk_meta.specs.Lines.{Bad, ◌>>=◌, line_at, IsBad}
use Rattle.bk_meta.specs.Metas.{timestamp_at, number_at, metadata_in, behind_metadata, count_at, files_at, ends_at, meta_of}

-- ---- steps of a reading

bad_here : {A B : Type 0} (r : Result A Bad) (next : A → Result B Bad) (error : MetaError) → IsBad r error → IsBad (r >>= next) error
bad_here {A = A} r next (BadMeta line why) bad = ap (λ (r : Result A Bad). r >>= next) bad
bad_here r next NoMemory bad = tt

pub goes_on : {A B : Type 0} (r : Result A Bad) (next : A → Result B Bad) (x : A) → r ≡ Ok x → (r >>= next) ≡ next x
goes_on {A = A} r next x is = ap (λ (r : Result A Bad). r >>= next) is

at_end : {A : Type 0} (r s : Result A Bad) (error : MetaError) → r ≡ s → IsBad s error → IsBad r error
at_end r s (BadMeta line why) same bad = same ∙ bad
at_end r s NoMemory same bad = tt

-- ---- the steps of a meta's

abbrev pub after_files : ℕ → ℕ → ℕ → List ℕ → ℕ → ℕ → List MetaFile × List ℕ → Result Meta Bad
after_files id timestamp sequence metadata at count files =
    ends_at id (at + count) files.0 files.1 >>= λ over. Ok (record { id = id; timestamp = timestamp; sequence = sequence; metadata = metadata; files = files.0 })

abbrev pub after_count : ℕ → ℕ → ℕ → List ℕ → ℕ → ℕ × List ℕ → Result Meta Bad
after_count id timestamp sequence metadata at count = files_at id (at + 1) count.0 count.1 >>= after_files id timestamp sequence metadata at count.0

abbrev pub after_metadata : ℕ → ℕ → ℕ → List ℕ → List ℕ → List ℕ → Result Meta Bad
after_metadata id timestamp sequence third fourth metadata =
    count_at (behind_metadata metadata third fourth).0 (behind_metadata metadata third fourth).1 >>= after_count id timestamp sequence metadata (behind_metadata metadata third fourth).0

abbrev pub after_line : ℕ → ℕ → ℕ → List ℕ → List ℕ × List ℕ → Result Meta Bad
after_line id timestamp sequence third line = metadata_in line.0 >>= after_metadata id timestamp sequence third line.1

abbrev pub after_sequence : ℕ → ℕ → ℕ × List ℕ → Result Meta Bad
after_sequence id timestamp sequence = line_at 3 sequence.1 >>= after_line id timestamp sequence.0 sequence.1

abbrev pub after_timestamp : ℕ → ℕ × List ℕ → Result Meta Bad
after_timestamp id timestamp = number_at 2 timestamp.1 >>= after_sequence id timestamp.0

pub meta_steps : (id : ℕ) (text : List ℕ) → meta_of id text ≡ (timestamp_at text >>= after_timestamp id)
unfolding meta_of
meta_steps id text = refl

pub at_timestamp : (id timestamp : ℕ) (text second : List ℕ) → timestamp_at text ≡ Ok (timestamp, second) → meta_of id text ≡ (number_at 2 second >>= after_sequence id timestamp)
at_timestamp id timestamp text second p = meta_steps id text ∙ goes_on (timestamp_at text) (after_timestamp id) (timestamp, second) p

pub at_sequence : (id timestamp sequence : ℕ) (text second third : List ℕ) → timestamp_at text ≡ Ok (timestamp, second) → number_at 2 second ≡ Ok (sequence, third) → meta_of id text ≡ (line_at 3 third >>= after_line id timestamp sequence third)
at_sequence id timestamp sequence text second third p q =
    at_timestamp id timestamp text second p ∙ goes_on (number_at 2 second) (after_sequence id timestamp) (sequence, third) q

-- the lines before the number of files were read
pub record IsBegun (text : List ℕ) (timestamp sequence : ℕ) (metadata : List ℕ) (at : ℕ) (rest : List ℕ) : Type 0 where
  pub second : List ℕ
  pub third : List ℕ
  pub line : List ℕ
  pub fourth : List ℕ
  pub first_is : timestamp_at text ≡ Ok (timestamp, second)
  pub second_is : number_at 2 second ≡ Ok (sequence, third)
  pub third_is : line_at 3 third ≡ Ok (line, fourth)
  pub metadata_is : metadata_in line ≡ Ok metadata
  pub at_is : at ≡ (behind_metadata metadata third fourth).0
  pub rest_is : rest ≡ (behind_metadata metadata third fourth).1

pub at_count : (id timestamp sequence at : ℕ) (text metadata rest : List ℕ) → IsBegun text timestamp sequence metadata at rest → meta_of id text ≡ (count_at at rest >>= after_count id timestamp sequence metadata at)
at_count id timestamp sequence at text metadata rest h =
    at_sequence id timestamp sequence text h.second h.third h.first_is h.second_is
    ∙ goes_on (line_at 3 h.third) (after_line id timestamp sequence h.third) (h.line, h.fourth) h.third_is
    ∙ goes_on (metadata_in h.line) (after_metadata id timestamp sequence h.third h.fourth) metadata h.metadata_is
    ∙ λ i. count_at (sym h.at_is i) (sym h.rest_is i) >>= after_count id timestamp sequence metadata (sym h.at_is i)

pub at_files : (id timestamp sequence at count : ℕ) (text metadata rest behind : List ℕ) → IsBegun text timestamp sequence metadata at rest → count_at at rest ≡ Ok (count, behind) →
    meta_of id text ≡ (files_at id (at + 1) count behind >>= after_files id timestamp sequence metadata at count)
at_files id timestamp sequence at count text metadata rest behind h p =
    at_count id timestamp sequence at text metadata rest h ∙ goes_on (count_at at rest) (after_count id timestamp sequence metadata at) (count, behind) p

pub at_close : (id timestamp sequence at count : ℕ) (text metadata rest behind over : List ℕ) (files : List MetaFile) → IsBegun text timestamp sequence metadata at rest → count_at at rest ≡ Ok (count, behind) → files_at id (at + 1) count behind ≡ Ok (files, over) →
    meta_of id text ≡ (ends_at id (at + count) files over >>= λ end. Ok (record { id = id; timestamp = timestamp; sequence = sequence; metadata = metadata; files = files }))
at_close id timestamp sequence at count text metadata rest behind over files h p q =
    at_files id timestamp sequence at count text metadata rest behind h p ∙ goes_on (files_at id (at + 1) count behind) (after_files id timestamp sequence metadata at count) (files, over) q

-- ---- where a reading ends

pub bad_timestamp : (id : ℕ) (text : List ℕ) (error : MetaError) → IsBad (timestamp_at text) error → IsBad (meta_of id text) error
bad_timestamp id text error bad = at_end (meta_of id text) _ error (meta_steps id text) (bad_here (timestamp_at text) (after_timestamp id) error bad)

pub bad_sequence : (id timestamp : ℕ) (text second : List ℕ) (error : MetaError) → timestamp_at text ≡ Ok (timestamp, second) → IsBad (number_at 2 second) error → IsBad (meta_of id text) error
bad_sequence id timestamp text second error p bad =
    at_end (meta_of id text) _ error (at_timestamp id timestamp text second p) (bad_here (number_at 2 second) (after_sequence id timestamp) error bad)

pub bad_line : (id timestamp sequence : ℕ) (text second third : List ℕ) (error : MetaError) → timestamp_at text ≡ Ok (timestamp, second) → number_at 2 second ≡ Ok (sequence, third) → IsBad (line_at 3 third) error → IsBad (meta_of id text) error
bad_line id timestamp sequence text second third error p q bad =
    at_end (meta_of id text) _ error (at_sequence id timestamp sequence text second third p q) (bad_here (line_at 3 third) (after_line id timestamp sequence third) error bad)

pub bad_metadata : (id timestamp sequence : ℕ) (text second third line fourth : List ℕ) (error : MetaError) → timestamp_at text ≡ Ok (timestamp, second) → number_at 2 second ≡ Ok (sequence, third) → line_at 3 third ≡ Ok (line, fourth) → IsBad (metadata_in line) error →
    IsBad (meta_of id text) error
bad_metadata id timestamp sequence text second third line fourth error p q r bad =
    at_end (meta_of id text) _ error (at_sequence id timestamp sequence text second third p q ∙ goes_on (line_at 3 third) (after_line id timestamp sequence third) (line, fourth) r)
    (bad_here (metadata_in line) (after_metadata id timestamp sequence third fourth) error bad)

pub bad_count : (id timestamp sequence at : ℕ) (text metadata rest : List ℕ) (error : MetaError) → IsBegun text timestamp sequence metadata at rest → IsBad (count_at at rest) error → IsBad (meta_of id text) error
bad_count id timestamp sequence at text metadata rest error h bad =
    at_end (meta_of id text) _ error (at_count id timestamp sequence at text metadata rest h) (bad_here (count_at at rest) (after_count id timestamp sequence metadata at) error bad)

pub bad_files : (id timestamp sequence at count : ℕ) (text metadata rest behind : List ℕ) (error : MetaError) → IsBegun text timestamp sequence metadata at rest → count_at at rest ≡ Ok (count, behind) → IsBad (files_at id (at + 1) count behind) error → IsBad (meta_of id text) error
bad_files id timestamp sequence at count text metadata rest behind error h p bad =
    at_end (meta_of id text) _ error (at_files id timestamp sequence at count text metadata rest behind h p) (bad_here (files_at id (at + 1) count behind) (after_files id timestamp sequence metadata at count) error bad)

pub bad_end : (id timestamp sequence at count : ℕ) (text metadata rest behind over : List ℕ) (files : List MetaFile) (error : MetaError) → IsBegun text timestamp sequence metadata at rest → count_at at rest ≡ Ok (count, behind) → files_at id (at + 1) count behind ≡ Ok (files, over) →
    IsBad (ends_at id (at + count) files over) error → IsBad (meta_of id text) error
bad_end id timestamp sequence at count text metadata rest behind over files error h p q bad =
    at_end (meta_of id text) _ error (at_close id timestamp sequence at count text metadata rest behind over files h p q)
    (bad_here (ends_at id (at + count) files over) (λ end. Ok (record { id = id; timestamp = timestamp; sequence = sequence; metadata = metadata; files = files })) error bad)

pub whole_meta : (id timestamp sequence at count : ℕ) (text metadata rest behind over : List ℕ) (files : List MetaFile) → IsBegun text timestamp sequence metadata at rest → count_at at rest ≡ Ok (count, behind) → files_at id (at + 1) count behind ≡ Ok (files, over) →
    ends_at id (at + count) files over ≡ Ok tt → meta_of id text ≡ Ok (record { id = id; timestamp = timestamp; sequence = sequence; metadata = metadata; files = files })
whole_meta id timestamp sequence at count text metadata rest behind over files h p q r =
    at_close id timestamp sequence at count text metadata rest behind over files h p q
    ∙ goes_on (ends_at id (at + count) files over) (λ end. Ok (record { id = id; timestamp = timestamp; sequence = sequence; metadata = metadata; files = files })) tt r
