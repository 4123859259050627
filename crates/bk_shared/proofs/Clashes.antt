-- Where lines clash first, and lines that go on behind others.
use Rattle.std.specs.Prelude.{◌≡◌, ℕ, ◌+◌, ◌<◌, List, [], ◌∷◌, ◌++◌, length, take, drop}
use Rattle.std.proofs.Common.{sym, ap, subst, ◌∙◌, get_or}
use Rattle.std.specs.List.{filter_map, cons_option}
use Rattle.std.proofs.lemmas.List.{append_assoc, append-nil, take-append-drop, take_more}
use Rattle.std.proofs.lemmas.List.Elements.{filter_map-append}
use Rattle.std.proofs.lemmas.Grind.{flat_map-append}
use Rattle.bk_meta.specs.declared.metas.Meta.{Meta}
use Rattle.bk_meta.specs.declared.metas.MetaFile.{MetaFile}
use Rattle.bk_shared.specs.declared.errors.SharedError.{SharedError}
use Rattle.bk_shared.specs.declared.errors.SharedError.TheVariants.{SharedClash, NoMemory}
use Rattle.bk_shared.specs.SharedLines.{SharedLine, shared_line, lines_of, all_lines, TellsClash}

-- a clash stays the first one where lines follow
pub clash_stays : (lines more : List SharedLine) (error : SharedError) → TellsClash lines error
    → TellsClash (lines ++ more) error
clash_stays lines more (SharedClash name kept found) clash = record {
  before = clash.before;
  behind = clash.behind ++ more;
  stands = ap (λ (l : List SharedLine). l ++ more) clash.stands ∙ append_assoc clash.before _ more;
  agreed = clash.agreed;
  first = clash.first;
  differs = clash.differs;
}
clash_stays lines more NoMemory clash = tt

-- ---- a loop's step over the files of a meta

taken : {X : Type 0} (xs : List X) (index : ℕ) (x : X) → index < length xs → get_or xs index x ≡ x
    → take (index + 1) xs ≡ take index xs ++ x ∷ []
taken {X} xs index x within at = take_more xs index x within ∙ ap (λ (next : X). take index xs ++ next ∷ []) at

abbrev pub lines_in : ℕ → List MetaFile → List SharedLine
lines_in id files = filter_map (λ file. shared_line id file) files

-- the lines of one file more
pub file_lines : (id : ℕ) (lines : List SharedLine) (files : List MetaFile) (index : ℕ) (file : MetaFile)
    → index < length files → get_or files index file ≡ file
    → (lines ++ lines_in id (take index files)) ++ cons_option (shared_line id file) [] ≡ lines ++ lines_in id
    (take (index + 1) files)
file_lines id lines files index file within at =
    append_assoc lines (lines_in id (take index files)) (cons_option (shared_line id file) [])
    ∙ ap (λ (l : List SharedLine). lines ++ l)
    (sym (filter_map-append (λ f. shared_line id f) (take index files) (file ∷ []))
    ∙ ap (lines_in id) (sym (taken files index file within at)))

-- a clash at a file is one of the whole meta
pub file_clashes : (id : ℕ) (lines : List SharedLine) (files : List MetaFile) (index : ℕ) (file : MetaFile)
    (error : SharedError) → index < length files → get_or files index file ≡ file
    → TellsClash ((lines ++ lines_in id (take index files)) ++ cons_option (shared_line id file) []) error
    → TellsClash (lines ++ lines_in id files) error
file_clashes id lines files index file error within at clash =
    subst (λ (l : List SharedLine). TellsClash l error)
    (ap (λ (l : List SharedLine). l ++ lines_in id (drop (index + 1) files))
    (file_lines id lines files index file within at)
    ∙ append_assoc lines (lines_in id (take (index + 1) files)) (lines_in id (drop (index + 1) files))
    ∙ ap (λ (l : List SharedLine). lines ++ l)
    (sym (filter_map-append (λ f. shared_line id f) (take (index + 1) files) (drop (index + 1) files))
    ∙ ap (lines_in id) (take-append-drop (index + 1) files)))
    (clash_stays ((lines ++ lines_in id (take index files)) ++ cons_option (shared_line id file) [])
    (lines_in id (drop (index + 1) files)) error clash)

-- the lines of one meta more
pub meta_lines : (metas : List Meta) (index : ℕ) (meta : Meta) → index < length metas → get_or metas index meta ≡ meta
    → all_lines (take index metas) ++ lines_of meta ≡ all_lines (take (index + 1) metas)
meta_lines metas index meta within at =
    ap (λ (l : List SharedLine). all_lines (take index metas) ++ l) (sym (append-nil (lines_of meta)))
    ∙ sym (flat_map-append lines_of (take index metas) (meta ∷ [])) ∙ ap all_lines (sym (taken metas index meta within at))

-- a clash at a meta is one of all metas
pub meta_clashes : (metas : List Meta) (index : ℕ) (meta : Meta) (error : SharedError) → index < length metas
    → get_or metas index meta ≡ meta
    → TellsClash (all_lines (take index metas) ++ lines_of meta) error → TellsClash (all_lines metas) error
meta_clashes metas index meta error within at clash =
    subst (λ (l : List SharedLine). TellsClash l error)
    (ap (λ (l : List SharedLine). l ++ all_lines (drop (index + 1) metas)) (meta_lines metas index meta within at)
    ∙ sym (flat_map-append lines_of (take (index + 1) metas) (drop (index + 1) metas))
    ∙ ap all_lines (take-append-drop (index + 1) metas))
    (clash_stays (all_lines (take index metas) ++ lines_of meta) (all_lines (drop (index + 1) metas)) error clash)
