-- `CURRENT` among the files of a meta.
use Rattle.std.specs.Prelude.{◌≡◌, ℕ, ◌+◌, ◌<◌, ◌≤◌, Bool, true, false, cond, List, [], ◌∷◌, ◌++◌, length, take, drop, Some}
use Rattle.std.proofs.Common.{refl, sym, ap, ◌∙◌, arith, get_or}
use Rattle.std.proofs.lemmas.List.{take_all}
use Rattle.std.proofs.lemmas.List.Elements.{filter-append}
use Rattle.std.proofs.lemmas.List.Sums.{length-filter}
use Rattle.lsm_names.specs.declared.file_names.FileName.TheVariants.{Log, Table, Manifest, Temp, Current}
use Rattle.bk_meta.specs.declared.backup_files.BackupFile.{BackupFile}
use Rattle.bk_meta.specs.declared.backup_files.BackupFile.TheVariants.{Private, Shared}
use Rattle.bk_meta.specs.declared.metas.MetaFile.{MetaFile}
use Rattle.bk_meta.specs.BackupFiles.{file_at}
use Rattle.bk_meta.specs.Metas.{is_current}
use Rattle.bk_restore.specs.Wrong.{is_current_file, currents}
use Rattle.bk_restore.specs.Restored.{AreMetaFiles}
use Rattle.bk_restore.proofs.Going.{take_next}
use Rattle.bk_meta.proofs.SetLemmas.{cut_files}

no_current : (id : ℕ) (file : MetaFile) (which : BackupFile) → file_at id file.path ≡ Some which → is_current (Some which) ≡ false → currents id (file ∷ []) ≡ []
no_current id file which named is = ap (λ (b : Bool). cond b (file ∷ []) []) (ap is_current named ∙ is)

pub none_more : (id : ℕ) (files : List MetaFile) (index : ℕ) (file : MetaFile) (which : BackupFile) → index < length files → get_or files index file ≡ file → currents id (take index files) ≡ []
    → file_at id file.path ≡ Some which → is_current (Some which) ≡ false → currents id (take (index + 1) files) ≡ []
none_more id files index file which within at none named is =
    ap (currents id) (take_next files index file within at) ∙ filter-append (λ (f : MetaFile). is_current_file id f) (take index files) (file ∷ [])
    ∙ (λ i. none i ++ no_current id file which named is i)

no_length : (files : List MetaFile) → length files ≡ 0 → files ≡ []
no_length [] is = refl
no_length (file ∷ files) is = absurd (omega arith)

count_is : (id : ℕ) (files : List MetaFile) → AreMetaFiles id files → length (currents id files) ≡ 1
count_is id files lawful = length-filter (λ (f : MetaFile). is_current_file id f) files ∙ lawful.current

pub current_there : (id : ℕ) (files : List MetaFile) (index : ℕ) (file : MetaFile) (which : BackupFile) → AreMetaFiles id files → index < length files → get_or files index file ≡ file → currents id (take index files) ≡ []
    → file_at id file.path ≡ Some which → is_current (Some which) ≡ true → currents id files ≡ file ∷ []
current_there id files index file which lawful within at none named is =
    let rest : List MetaFile = drop (index + 1) files in
    let whole : currents id files ≡ file ∷ currents id rest =
    ap (currents id) (cut_files files index file within at) ∙ filter-append (λ (f : MetaFile). is_current_file id f) (take index files) (file ∷ rest)
    ∙ (λ i. none i ++ cond ((ap is_current named ∙ is) i) (file ∷ currents id rest) (currents id rest)) in
    let one = count_is id files lawful in
    let long : length (currents id files) ≡ length (file ∷ currents id rest) = ap length whole in
    whole ∙ ap (λ (fs : List MetaFile). file ∷ fs) (no_length (currents id rest) (omega (arith, one, long)))

pub none_is_wrong : (id : ℕ) (files : List MetaFile) (index : ℕ) → AreMetaFiles id files → length files ≤ index → currents id (take index files) ≡ [] → ⊥
none_is_wrong id files index lawful end none =
    let one = count_is id files lawful in
    let all : currents id files ≡ [] = ap (currents id) (sym (take_all index files end)) ∙ none in
    let long : length (currents id files) ≡ 0 = ap length all in
    absurd (omega (arith, one, long))

pub only_current : (which : BackupFile) → is_current (Some which) ≡ true → which ≡ Private Current
only_current (Private (Log number)) is = cc
only_current (Private (Table number)) is = cc
only_current (Private (Manifest number)) is = cc
only_current (Private (Temp number)) is = cc
only_current (Private Current) is = refl
only_current (Shared name) is = cc
