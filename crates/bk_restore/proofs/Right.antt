-- Files that are right, and files that aren't.
use Rattle.std.specs.Prelude.{◌≡◌, ℕ, ◌==◌, ◌&&◌, Bool, true, false, cond, List, length, Option, Some, None, IfSome}
use Rattle.std.proofs.Common.{refl, sym, ap, subst, ◌∙◌}
use Rattle.lsm_bytes.specs.Checksum.{crc32c}
use Rattle.lsm_disk.specs.State.{Story, state_of}
use Rattle.lsm_disk.specs.Images.{bytes_at, tree_now}
use Rattle.lsm_disk.specs.Viewed.{Viewed}
use Rattle.bk_meta.specs.declared.backup_files.BackupFile.{BackupFile}
use Rattle.bk_meta.specs.declared.backup_files.BackupFile.TheVariants.{Private, Shared}
use Rattle.bk_meta.specs.declared.metas.MetaFile.{MetaFile}
use Rattle.bk_meta.specs.BackupFiles.{file_at}
use Rattle.bk_tree.specs.Holds.{has_its_size}
use Rattle.bk_restore.specs.declared.errors.RestoreError.{RestoreError}
use Rattle.bk_restore.specs.declared.errors.RestoreError.TheVariants.{DiskFault, DestFault, Halted, DestinationExists, Missing, Changed, WrongSize, Damaged, NoMemory}
use Rattle.bk_restore.specs.Refusals.{IsOfCopying, IsPastBegin}
use Rattle.bk_restore.specs.Causes.{CountedBy}
use Rattle.bk_restore.specs.Wrong.{or_else, wrong_size, wrong_crc, wrong_by, IsTold, IsToldOf}
use Rattle.bk_restore.specs.Sources.{IsWholeView, IsCopyOf, IsTextOf}
use Rattle.bk_restore.specs.Restored.{part_of, IsRestored}
use Rattle.bk_restore.proofs.Looking.{told_by}

-- ---- the bytes of a copy

same_text : (told : Option Story) (file : MetaFile) (v : Viewed) (crc : ℕ) (text : List ℕ)
    → IfSome told (λ story. (bytes : List ℕ) × (bytes_at (tree_now (state_of story)) file.path ≡ Some bytes) × (length bytes ≡ v.len) × (v.bytes ≡ Some bytes))
    → IsCopyOf v crc text → IfSome told (λ story. bytes_at (tree_now (state_of story)) file.path ≡ Some text)
same_text None file v crc text there copy = tt
same_text (Some story) file v crc text there copy = there.1 ∙ ap (λ (l : List ℕ). Some l) (sym (copy.same there.0 there.3 there.2))

pub text_copied : (told : Option Story) (file : MetaFile) (which : BackupFile) (v : Viewed) (crc : ℕ) (text : List ℕ) → IsWholeView told file which v → IsCopyOf v crc text → IsTextOf told file which crc text
text_copied told file which v crc text view copy = record {
  sum = copy.sum;
  size = subst (λ (n : ℕ). wrong_size file which n ≡ None) (sym copy.long) view.size;
  same = same_text told file v crc text view.same copy;
}

-- a checksum that isn't the meta's
pub crc_told : (told : Option Story) (file : MetaFile) (which : BackupFile) (crc : ℕ) (text : List ℕ) (e : RestoreError) → IsTextOf told file which crc text → wrong_crc file crc ≡ Some e → IsToldOf told file which e
crc_told None file which crc text e is wrong = tt
crc_told (Some story) file which crc text e is wrong =
    told_by (wrong_by file which (bytes_at (tree_now (state_of story)) file.path)) e
    (ap (wrong_by file which) is.same ∙ ap (λ (o : Option RestoreError). or_else o (wrong_crc file (crc32c text))) is.size ∙ ap (wrong_crc file) (sym is.sum) ∙ wrong)

-- ---- a right file

test_by : (b : Bool) (e : RestoreError) → cond b None (Some e) ≡ None → b ≡ true
test_by true e is = refl
test_by false e is = cc

both : (a b : Bool) → a ≡ true → b ≡ true → (a && b) ≡ true
both true true x y = refl
both true false x y = cc
both false b x y = cc

right_size : (file : MetaFile) (which : BackupFile) (text : List ℕ) → wrong_size file which (length text) ≡ None → has_its_size which text ≡ true
right_size file (Private name) text is = refl
right_size file (Shared name) text is = test_by (length text == name.size) (WrongSize file.path name.size (length text)) is

pub text_is_right : (id : ℕ) (told : Option Story) (file : MetaFile) (which : BackupFile) (crc : ℕ) (text : List ℕ) → file_at id file.path ≡ Some which → IsTextOf told file which crc text → wrong_crc file crc ≡ None → IsRestored id told file (part_of which text)
text_is_right id told file which crc text named is right =
    let sum : crc32c text == file.crc ≡ true = subst (λ (n : ℕ). n == file.crc ≡ true) is.sum (test_by (crc == file.crc) (Damaged file.path file.crc crc) right) in
    record {
      which = which;
      named = named;
      name = refl;
      right = both (crc32c text == file.crc) (has_its_size which text) sum (right_size file which text is.size);
      same = is.same;
    }

-- ---- answers that say nothing of the backup

pub copying_is_past : (e : RestoreError) → IsOfCopying e → IsPastBegin e
copying_is_past DiskFault is = tt
copying_is_past DestFault is = tt
copying_is_past (Halted first) is = absurd is
copying_is_past (DestinationExists dir) is = absurd is
copying_is_past (Missing name) is = absurd is
copying_is_past (Changed call path) is = tt
copying_is_past (WrongSize name kept found) is = absurd is
copying_is_past (Damaged name kept found) is = absurd is
copying_is_past NoMemory is = tt

pub copying_tells : (wrong : Option RestoreError) (e : RestoreError) → IsOfCopying e → IsTold wrong e
copying_tells wrong DiskFault is = tt
copying_tells wrong DestFault is = tt
copying_tells wrong (Halted first) is = absurd is
copying_tells wrong (DestinationExists dir) is = absurd is
copying_tells wrong (Missing name) is = absurd is
copying_tells wrong (Changed call path) is = tt
copying_tells wrong (WrongSize name kept found) is = absurd is
copying_tells wrong (Damaged name kept found) is = absurd is
copying_tells wrong NoMemory is = tt

pub copying_told : (told : Option Story) (file : MetaFile) (which : BackupFile) (e : RestoreError) → IsOfCopying e → IsToldOf told file which e
copying_told None file which e is = tt
copying_told (Some story) file which e is = copying_tells (wrong_by file which (bytes_at (tree_now (state_of story)) file.path)) e is

counted_by : (a b c d : Type 0) (test : Bool) (w e : RestoreError) → cond test None (Some w) ≡ Some e → CountedBy a b c d w → CountedBy a b c d e
counted_by a b c d true w e is counted = cc
counted_by a b c d false w e is counted = let same : w ≡ e = cc in subst (CountedBy a b c d) same counted

-- no count rises for a checksum
pub crc_counted : (a b c d : Type 0) (file : MetaFile) (crc : ℕ) (e : RestoreError) → wrong_crc file crc ≡ Some e → CountedBy a b c d e
crc_counted a b c d file crc e is = counted_by a b c d (crc == file.crc) (Damaged file.path file.crc crc) e is tt
