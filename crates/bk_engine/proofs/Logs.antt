-- The copies of a log, if there is one, and of the other files.
use Rattle.std.specs.Prelude.{◌≡◌, ◌≢◌, ℕ, ◌^◌, ◌<◌, ◌≤◌, List, [], ◌∷◌, ◌++◌, length, IsTrue, Option, Some, None, option_map, IfSome}
use Rattle.std.proofs.Common.{refl, sym, ap, subst, ◌∙◌}
use Rattle.lsm_bytes.specs.Checksum.{crc32c}
use Rattle.lsm_names.specs.FileNames.{is_file_number}
use Rattle.lsm_names.specs.declared.file_names.FileName.{FileName}
use Rattle.lsm_names.specs.declared.file_names.FileName.TheVariants.{Log, Manifest, Current}
use Rattle.lsm_disk.specs.State.{State, Story, state_of}
use Rattle.lsm_disk.specs.Goes.{Went}
use Rattle.lsm_disk.specs.Viewed.{Viewed}
use Rattle.lsm_disk.proofs.Runs.{went_start, went_then}
use Rattle.bk_meta.specs.declared.backup_files.BackupFile.TheVariants.{Private}
use Rattle.bk_meta.specs.declared.metas.MetaFile.{MetaFile}
use Rattle.bk_meta.specs.BackupFiles.{file_at, path_of, IsBackupFile}
use Rattle.bk_engine.specs.Copying.{Whatever, Anything}
use Rattle.bk_engine.specs.Creating.{plain_names, own_file, own_files}
use Rattle.bk_engine.specs.Preparing.{Prepares, IsTextOf, Apart, AreNew, AreTexts, log_names, log_views, plain_views}
use Rattle.bk_engine.proofs.Frames.{went_also, no_fewer}
use Rattle.bk_engine.proofs.PlainMetas.{found}

-- the files of which these are the views were copied, and what T says of them
abbrev pub Copied : ℕ → List FileName → List Viewed → List MetaFile → (List MetaFile → List (List ℕ) → Type 0) → Type 0
Copied id names views files T = (texts : List (List ℕ)) × AreTexts views texts × (files ≡ own_files id names texts) × T files texts

module _ {F : Type 0} (f : F → Viewed) (n : F → ℕ) (o : Option F) (id : ℕ) (files : List MetaFile) (T : List MetaFile → List (List ℕ) → Type 0) where
  pub copied_none : o ≡ None → files ≡ [] → T files [] → Copied id (log_names (option_map n o)) (log_views (option_map f o)) files T
  copied_none is empty t = subst (λ (x : Option F). Copied id (log_names (option_map n x)) (log_views (option_map f x)) files T) (sym is) ([], tt, empty, t)

  pub copied_some : (file : F) (text : List ℕ) → o ≡ Some file → IsTextOf (f file) text → crc32c text < 2 ^ 32 → files ≡ own_file id (Log (n file)) text ∷ [] → T files (text ∷ [])
      → Copied id (log_names (option_map n o)) (log_views (option_map f o)) files T
  copied_some file text is same fits one t = subst (λ (x : Option F). Copied id (log_names (option_map n x)) (log_views (option_map f x)) files T) (sym is) (text ∷ [], ((same, fits), tt), one, t)

pub begun_whatever : (id first : ℕ) (story : Story) {told : Option Story} → told ≡ Some story → Went story told (Prepares id first) Anything Whatever
begun_whatever id first story tells = went_start Whatever tells tt (λ s i. record { each = λ t image. tt })

pub begun_none : (id first : ℕ) (story : Story) {told : Option Story} (files : List MetaFile) → files ≡ [] → told ≡ Some story → Went story told (Prepares id first) Anything (λ s. AreNew first s files [])
begun_none id first story {told} files empty tells =
    subst (λ (x : List MetaFile). Went story told (Prepares id first) Anything (λ s. AreNew first s x [])) (sym empty) (went_start (λ s. AreNew first s [] []) tells tt (λ s i. record { each = λ t image. tt }))

-- ---- the paths are apart

pub other_name : (id : ℕ) (a b : FileName) → IsBackupFile (Private a) → IsBackupFile (Private b) → a ≢ b → path_of id (Private a) ≢ path_of id (Private b)
other_name id a b known other ne same =
    let both : Some (Private a) ≡ Some (Private b) = sym (found id a known) ∙ ap (file_at id) same ∙ found id b other in
    ne (cc)

module _ {F : Type 0} (f : F → Viewed) (n : F → ℕ) (id : ℕ) where
  apart_from : (o : Option F) (texts : List (List ℕ)) (files : List MetaFile) (name : FileName) → IsBackupFile (Private name) → ((number : ℕ) → Log number ≢ name) → IfSome o (λ file. IsTrue (is_file_number (n file)))
      → AreTexts (log_views (option_map f o)) texts → files ≡ own_files id (log_names (option_map n o)) texts → Apart (path_of id (Private name)) files
  apart_from None [] files name known ne log same is = subst (Apart (path_of id (Private name))) (sym is) tt
  apart_from None (text ∷ texts) files name known ne log same is = absurd same
  apart_from (Some file) [] files name known ne log same is = absurd same
  apart_from (Some file) (text ∷ []) files name known ne log same is = subst (Apart (path_of id (Private name))) (sym is) (other_name id (Log (n file)) name log known (ne (n file)), tt)
  apart_from (Some file) (text ∷ other ∷ texts) files name known ne log same is = absurd same.1

  pub apart_current : (o : Option F) (texts : List (List ℕ)) (files : List MetaFile) → IfSome o (λ file. IsTrue (is_file_number (n file)))
      → AreTexts (log_views (option_map f o)) texts → files ≡ own_files id (log_names (option_map n o)) texts → Apart (path_of id (Private Current)) files
  apart_current o texts files log same is = apart_from o texts files Current tt (λ number e. cc) log same is

  pushed_apart : (path : List ℕ) (files : List MetaFile) (file : MetaFile) → Apart path files → file.path ≢ path → Apart path (files ++ file ∷ [])
  pushed_apart path [] file apart ne = (ne, tt)
  pushed_apart path (other ∷ files) file apart ne = (apart.0, pushed_apart path files file apart.1 ne)

  pub apart_manifest : (o : Option F) (number : ℕ) (texts : List (List ℕ)) (files more : List MetaFile) (text : List ℕ) → IfSome o (λ file. IsTrue (is_file_number (n file))) → IsTrue (is_file_number number)
      → AreTexts (log_views (option_map f o)) texts → files ≡ own_files id (log_names (option_map n o)) texts → more ≡ files ++ own_file id Current text ∷ [] → Apart (path_of id (Private (Manifest number))) more
  apart_manifest o number texts files more text log known same is then_is = subst (Apart (path_of id (Private (Manifest number)))) (sym then_is)
      (pushed_apart (path_of id (Private (Manifest number))) files (own_file id Current text) (apart_from o texts files (Manifest number) known (λ m e. cc) log same is) (other_name id Current (Manifest number) tt known (λ e. cc)))

  pub all_copied : (o : Option F) (current manifest : Viewed) (number : ℕ) (texts : List (List ℕ)) (x y : List ℕ) (one two three : List MetaFile)
      → AreTexts (log_views (option_map f o)) texts → one ≡ own_files id (log_names (option_map n o)) texts
      → IsTextOf current x × (crc32c x < 2 ^ 32) → two ≡ one ++ own_file id Current x ∷ [] → IsTextOf manifest y × (crc32c y < 2 ^ 32) → three ≡ two ++ own_file id (Manifest number) y ∷ []
      → AreTexts (plain_views (option_map f o) current manifest) (texts ++ x ∷ [] ++ y ∷ []) × (three ≡ own_files id (plain_names (option_map n o) number) (texts ++ x ∷ [] ++ y ∷ []))
  all_copied None current manifest number [] x y one two three same is p q r s = ((p, (r, tt)), s ∙ ap (λ (l : List MetaFile). l ++ own_file id (Manifest number) y ∷ []) (q ∙ ap (λ (l : List MetaFile). l ++ own_file id Current x ∷ []) is))
  all_copied None current manifest number (text ∷ texts) x y one two three same is p q r s = absurd same
  all_copied (Some file) current manifest number [] x y one two three same is p q r s = absurd same
  all_copied (Some file) current manifest number (text ∷ []) x y one two three same is p q r s =
      ((same.0, (p, (r, tt))), s ∙ ap (λ (l : List MetaFile). l ++ own_file id (Manifest number) y ∷ []) (q ∙ ap (λ (l : List MetaFile). l ++ own_file id Current x ∷ []) is))
  all_copied (Some file) current manifest number (text ∷ other ∷ texts) x y one two three same is p q r s = absurd same.1

-- one part of the preparation after another
pub then_prepared : {story : Story} {t1 t2 : Option Story} (id first : ℕ) (I K : State → Type 0) → first ≤ length (state_of story).files → Went story t1 (Prepares id first) Anything I
    → ((mid : Story) → t1 ≡ Some mid → first ≤ length (state_of mid).files → I (state_of mid) → Went mid t2 (Prepares id first) Anything K) → Went story t2 (Prepares id first) Anything K
then_prepared id first I K le w next = went_then (went_also (Prepares id first) Anything I (λ s. first ≤ length s.files) (λ s c is. no_fewer first s c) le w) (λ mid tells both. next mid tells both.1 both.0)
