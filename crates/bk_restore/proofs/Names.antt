-- Each file of a meta gets a name of its own in a store's folder.
use Rattle.std.specs.Prelude.{◌≡◌, ◌≢◌, ℕ, ◌==◌, ◌&&◌, ◌||◌, not, Bool, true, false, cond, List, [], ◌∷◌, ◌++◌, All, Option, Some, None}
use Rattle.std.proofs.Common.{Ordering, Less, Equal, Greater, refl, sym, ap, subst, ◌∙◌}
use Rattle.std.specs.Cmp.Lexicographic.{slice_cmp}
use Rattle.std.specs.List.{list_any, cons_option}
use Rattle.std.specs.Ordering.{nat_cmp, is_lt, ordering_reverse}
use Rattle.std.proofs.lemmas.Bool.{and_parts}
use Rattle.std.proofs.lemmas.Cmp.{nat_list_cmp_total}
use Rattle.std.proofs.lemmas.List.Elements.{All-nil, All-cons}
use Rattle.lsm_names.specs.declared.file_names.FileName.{FileName}
use Rattle.lsm_names.specs.declared.file_names.FileName.TheVariants.{Log, Table, Manifest, Temp, Current}
use Rattle.lsm_disk.specs.State.{Story}
use Rattle.lsm_disk.specs.Dest.{IsPartName}
use Rattle.lsm_disk.specs.Building.{Part, names_of}
use Rattle.bk_meta.specs.declared.backup_files.BackupFile.{BackupFile}
use Rattle.bk_meta.specs.declared.backup_files.BackupFile.TheVariants.{Private, Shared}
use Rattle.bk_meta.specs.declared.metas.MetaFile.{MetaFile}
use Rattle.bk_meta.specs.BackupFiles.{file_at, path_of, IsBackupFile}
use Rattle.bk_meta.specs.Metas.{comes_before, is_current, shared_number, shared_numbers, are_different, Ascends}
use Rattle.bk_meta.proofs.FileLemmas.{path_spells}
use Rattle.bk_meta.proofs.SetLemmas.{ascends_tail, reaches, hits}
use Rattle.bk_tree.specs.Holds.{store_name}
use Rattle.bk_restore.specs.Wrong.{is_current_file, others}
use Rattle.bk_restore.specs.Restored.{IsRestored, AreRestored}

-- ---- paths

not_before_itself : (o : Ordering) → o ≡ ordering_reverse o → is_lt o ≡ true → ⊥
not_before_itself Less same is = cc
not_before_itself Equal same is = cc
not_before_itself Greater same is = cc

before_differs : (a b : List ℕ) → comes_before a b ≡ true → a ≢ b
before_differs a b before same =
    not_before_itself (slice_cmp nat_cmp b b) (nat_list_cmp_total.antisymm b b) (subst (λ (p : List ℕ). comes_before p b ≡ true) same before)

-- ---- shared numbers

abbrev has : ℕ → List ℕ → Bool
has number numbers = list_any (λ other. other == number) numbers

clash : (a b : Bool) → a ≡ true → (not a && b) ≡ true → ⊥
clash true b is both = cc
clash false b is both = cc

later : (a b : Bool) → b ≡ true → (a || b) ≡ true
later true b is = refl
later false b is = is

has_more : (first : Option ℕ) (number : ℕ) (numbers : List ℕ) → has number numbers ≡ true → has number (cons_option first numbers) ≡ true
has_more None number numbers is = is
has_more (Some other) number numbers is = later (other == number) (has number numbers) is

number_there : (id number : ℕ) (files more : List MetaFile) (file : MetaFile) → shared_number (file_at id file.path) ≡ Some number → has number (shared_numbers id (files ++ file ∷ more)) ≡ true
number_there id number [] more file is = hits (shared_number (file_at id file.path)) number (shared_numbers id more) is
number_there id number (f ∷ files) more file is = has_more (shared_number (file_at id f.path)) number (shared_numbers id (files ++ file ∷ more)) (number_there id number files more file is)

different_rest : (first : Option ℕ) (numbers : List ℕ) → are_different (cons_option first numbers) ≡ true → are_different numbers ≡ true
different_rest None numbers is = is
different_rest (Some number) numbers is = (and_parts (not (has number numbers)) (are_different numbers) is).1

different_first : (first : Option ℕ) (number : ℕ) (numbers : List ℕ) → first ≡ Some number → has number numbers ≡ true → are_different (cons_option first numbers) ≡ true → ⊥
different_first None number numbers is there different = cc
different_first (Some other) number numbers is there different =
    let equal : other ≡ number = cc in
    clash (has other numbers) (are_different numbers) (subst (λ (n : ℕ). has n numbers ≡ true) (sym equal) there) different

-- ---- names

names_differ : (id : ℕ) (f file : MetaFile) (w which : BackupFile) → file_at id f.path ≡ Some w → file_at id file.path ≡ Some which → f.path ≢ file.path
    → ((number : ℕ) → shared_number (Some w) ≡ Some number → shared_number (Some which) ≡ Some number → ⊥) → store_name which ≢ store_name w
names_differ id f file (Private a) (Private b) named this apart numbers same =
    apart ((path_spells id f.path (Private a) named).1 ∙ ap (λ (name : FileName). path_of id (Private name)) (sym same) ∙ sym (path_spells id file.path (Private b) this).1)
names_differ id f file (Private a) (Shared b) named this apart numbers same =
    subst (λ (name : FileName). IsBackupFile (Private name)) (sym same) (path_spells id f.path (Private a) named).0
names_differ id f file (Shared a) (Private b) named this apart numbers same =
    subst (λ (name : FileName). IsBackupFile (Private name)) same (path_spells id file.path (Private b) this).0
names_differ id f file (Shared a) (Shared b) named this apart numbers same =
    let equal : b.number ≡ a.number = cc in numbers a.number refl (ap (λ (n : ℕ). Some n) equal)

part_name : (which : BackupFile) → IsBackupFile which → is_current (Some which) ≡ false → IsPartName (store_name which)
part_name (Private (Log number)) is other = is
part_name (Private (Table number)) is other = absurd is
part_name (Private (Manifest number)) is other = is
part_name (Private (Temp number)) is other = absurd is
part_name (Private Current) is other = cc
part_name (Shared name) is other = is.number

pub is_part : (id : ℕ) (file : MetaFile) (which : BackupFile) → file_at id file.path ≡ Some which → is_current (Some which) ≡ false → IsPartName (store_name which)
is_part id file which named other = part_name which (path_spells id file.path which named).0 other

module _ (id : ℕ) (told : Option Story) (file : MetaFile) (which : BackupFile) (more : List MetaFile) (this : file_at id file.path ≡ Some which) where
  -- one file before it
  differs : (f : MetaFile) (files : List MetaFile) (part : Part) → Ascends (f ∷ (files ++ file ∷ more)) → are_different (shared_numbers id (f ∷ (files ++ file ∷ more))) ≡ true → IsRestored id told f part → store_name which ≢ part.name
  differs f files part ascending different restored =
      subst (λ (name : FileName). store_name which ≢ name) (sym restored.name)
      (names_differ id f file restored.which which restored.named this (before_differs f.path file.path (reaches f files more file ascending))
      (λ number first second. different_first (shared_number (file_at id f.path)) number (shared_numbers id (files ++ file ∷ more)) (ap shared_number restored.named ∙ first)
      (number_there id number files more file (ap shared_number this ∙ second)) different))

  abbrev Differ : List FileName → Type 0
  Differ names = All (λ other. store_name which ≢ other) names

  by_test : (f : MetaFile) (files : List MetaFile) (test : Bool) (parts : List Part) → Ascends (f ∷ (files ++ file ∷ more)) → are_different (shared_numbers id (f ∷ (files ++ file ∷ more))) ≡ true
      → ((rest : List Part) → AreRestored id told (others id files) rest → Differ (names_of rest))
      → AreRestored id told (cond test (f ∷ others id files) (others id files)) parts → Differ (names_of parts)
  by_test f files true [] ascending different next restored = absurd restored
  by_test f files true (part ∷ parts) ascending different next restored =
      All-cons (λ other. store_name which ≢ other) part.name (names_of parts) (differs f files part ascending different restored.0) (next parts restored.1)
  by_test f files false parts ascending different next restored = next parts restored

  pub names_before : (files : List MetaFile) (parts : List Part) → Ascends (files ++ file ∷ more) → are_different (shared_numbers id (files ++ file ∷ more)) ≡ true → AreRestored id told (others id files) parts → Differ (names_of parts)
  names_before [] [] ascending different restored = All-nil (λ other. store_name which ≢ other)
  names_before [] (part ∷ parts) ascending different restored = absurd restored
  names_before (f ∷ files) parts ascending different restored =
      by_test f files (not (is_current_file id f)) parts ascending different
      (λ rest is. names_before files rest (ascends_tail f (files ++ file ∷ more) ascending) (different_rest (shared_number (file_at id f.path)) (shared_numbers id (files ++ file ∷ more)) different) is) restored
