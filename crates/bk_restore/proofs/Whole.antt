-- A backup that is held has no file that is wrong.
use Rattle.std.specs.List.{filter}
use Rattle.std.specs.Prelude.{◌≡◌, ℕ, ◌==◌, Bool, true, false, cond, not, List, [], ◌∷◌, ◌++◌, Option, Some, None}
use Rattle.std.specs.FinMap as map
use Rattle.std.proofs.Common.{refl, sym, ap, ◌∙◌}
use Rattle.std.proofs.lemmas.Bool.{and_parts}
use Rattle.lsm_bytes.specs.Checksum.{crc32c}
use Rattle.lsm_names.specs.declared.file_names.FileName.{FileName}
use Rattle.lsm_disk.specs.Images.{Tree, bytes_at}
use Rattle.lsm_folder.specs.Files.{Item, A_file, Files}
use Rattle.bk_meta.specs.declared.backup_files.BackupFile.{BackupFile}
use Rattle.bk_meta.specs.declared.metas.MetaFile.{MetaFile}
use Rattle.bk_meta.specs.declared.metas.Meta.{Meta}
use Rattle.bk_meta.specs.BackupFiles.{file_at}
use Rattle.bk_tree.specs.Holds.{◌>>=◌, only_if, meta_in, texts_in, store_name, is_right, has_its_size, entry_of, entries_of, folder_of, held}
use Rattle.bk_tree.proofs.Holding.{made_of, held_steps, texts_steps}
use Rattle.bk_restore.specs.declared.errors.RestoreError.{RestoreError}
use Rattle.bk_restore.specs.Wrong.{or_else, wrong_by, wrong_as, is_current_file, others, currents, in_order, first_wrong}
use Rattle.bk_restore.proofs.Going.{by_tests}
use Rattle.bk_restore.proofs.Holding.{entry_steps, entries_steps, folder_steps}

bound : {A B : Type 0} (o : Option A) (next : A → Option B) (y : B) → (o >>= next) ≡ Some y → (x : A) × (o ≡ Some x) × (next x ≡ Some y)
bound None next y is = cc
bound (Some x) next y is = (x, refl, is)

test_held : {A : Type 0} (test : Bool) (x y : A) → only_if test x ≡ Some y → test ≡ true
test_held true x y is = refl
test_held false x y is = cc

module _ (id : ℕ) (t : Tree) where
  abbrev IsRightFile : MetaFile → Type 0
  IsRightFile file = wrong_as t file (file_at id file.path) ≡ None

  abbrev AreRightFiles : List MetaFile → Type 0
  AreRightFiles [] = Unit {0}
  AreRightFiles (file ∷ files) = IsRightFile file × AreRightFiles files

  file_right : (file : MetaFile) (bytes : List ℕ) (entry : FileName × Item) → bytes_at t file.path ≡ Some bytes → entry_of id file bytes ≡ Some entry → IsRightFile file
  file_right file bytes entry at is =
      let named = bound (file_at id file.path) (λ (which : BackupFile). only_if (is_right file which bytes) (store_name which, A_file bytes)) entry (sym (entry_steps id file bytes) ∙ is) in
      let which : BackupFile = named.0 in
      let right = test_held (is_right file which bytes) (store_name which, A_file bytes) entry named.2 in
      let tests = and_parts (crc32c bytes == file.crc) (has_its_size which bytes) right in
      ap (wrong_as t file) named.1 ∙ ap (wrong_by file which) at ∙ by_tests file which bytes tests.0 tests.1

  files_right : (files : List MetaFile) (texts : List (List ℕ)) (entries : List (FileName × Item)) → texts_in t files ≡ Some texts → entries_of id files texts ≡ Some entries → AreRightFiles files
  files_right [] texts entries there is = tt
  files_right (file ∷ files) texts entries there is =
      let first = bound (bytes_at t file.path) (λ (bytes : List ℕ). texts_in t files >>= λ (more : List (List ℕ)). Some (bytes ∷ more)) texts (sym (texts_steps t file files) ∙ there) in
      let bytes : List ℕ = first.0 in
      let rest = bound (texts_in t files) (λ (more : List (List ℕ)). Some (bytes ∷ more)) texts first.2 in
      let more : List (List ℕ) = rest.0 in
      let whole : Some (bytes ∷ more) ≡ Some texts = rest.2 in
      let same : bytes ∷ more ≡ texts = cc in
      let made : entries_of id (file ∷ files) (bytes ∷ more) ≡ Some entries = ap (entries_of id (file ∷ files)) same ∙ is in
      let entry = bound (entry_of id file bytes) (λ (e : FileName × Item). entries_of id files more >>= λ (es : List (FileName × Item)). Some (e ∷ es)) entries (sym (entries_steps id file files bytes more) ∙ made) in
      let others = bound (entries_of id files more) (λ (es : List (FileName × Item)). Some (entry.0 ∷ es)) entries entry.2 in
      (file_right file bytes entry.0 first.1 entry.1, files_right files more others.0 rest.1 others.1)

  by_test : (file : MetaFile) (files : List MetaFile) (test : Bool) → IsRightFile file → AreRightFiles files → AreRightFiles (cond test (file ∷ files) files)
  by_test file files true first rest = (first, rest)
  by_test file files false first rest = rest

  some_right : (p : MetaFile → Bool) (files : List MetaFile) → AreRightFiles files → AreRightFiles (filter p files)
  some_right p [] is = tt
  some_right p (file ∷ files) is = by_test file (filter p files) (p file) is.0 (some_right p files is.1)

  both_right : (files more : List MetaFile) → AreRightFiles files → AreRightFiles more → AreRightFiles (files ++ more)
  both_right [] more a b = b
  both_right (file ∷ files) more a b = (a.0, both_right files more a.1 b)

  wrong_steps : (file : MetaFile) (files : List MetaFile) → first_wrong id t (file ∷ files) ≡ or_else (wrong_as t file (file_at id file.path)) (first_wrong id t files)
  unfolding first_wrong
  wrong_steps file files = refl

  no_wrong : first_wrong id t [] ≡ None
  unfolding first_wrong
  no_wrong = refl

  none_wrong : (files : List MetaFile) → AreRightFiles files → first_wrong id t files ≡ None
  none_wrong [] is = no_wrong
  none_wrong (file ∷ files) is = wrong_steps file files ∙ ap (λ (o : Option RestoreError). or_else o (first_wrong id t files)) is.0 ∙ none_wrong files is.1

pub held_right : (t : Tree) (meta : Meta) (files : Files) → meta_in t meta.id ≡ Some meta → held t meta.id ≡ Some files → first_wrong meta.id t (in_order meta.id meta.files) ≡ None
held_right t meta files there is =
    let id : ℕ = meta.id in
    let made : made_of t (Some meta) ≡ Some files = sym (held_steps t id ∙ ap (made_of t) there) ∙ is in
    let texts = bound (texts_in t meta.files) (folder_of meta) files made in
    let entries = bound (entries_of id meta.files texts.0) (λ (es : List (FileName × Item)). Some (map.from_entries es)) files (sym (folder_steps meta texts.0) ∙ texts.2) in
    let right = files_right id t meta.files texts.0 entries.0 texts.1 entries.1 in
    none_wrong id t (in_order id meta.files)
    (both_right id t (others id meta.files) (currents id meta.files) (some_right id t (λ file. not (is_current_file id file)) meta.files right) (some_right id t (λ file. is_current_file id file) meta.files right))
