-- What looking at a file of the backup disk tells.
use Rattle.std.specs.Prelude.{◌≡◌, ℕ, zero, suc, ◌<◌, List, [], ◌∷◌, length, slice_get, nat_le, cond, is_some, true, Option, Some, None, IfSome}
use Rattle.std.proofs.Common.{refl, sym, ap, subst, ◌∙◌, arith}
use Rattle.std.proofs.lemmas.Bool.Decides.{nat_tests}
use Rattle.std.proofs.lemmas.List.{take_all}
use Rattle.lsm_disk.specs.Names.{id_of}
use Rattle.lsm_disk.specs.State.{State, Story, FileState, state_of, file_at, file_or, file_by, file_now, bytes_of}
use Rattle.lsm_disk.specs.Images.{contents_of, bytes_by, bytes_at, tree_now}
use Rattle.lsm_disk.specs.Tree.{IsLawful}
use Rattle.lsm_disk.specs.Refusals.{no_file, no_view, or_else, short_of}
use Rattle.lsm_disk.specs.Viewed.{Viewed, opened}
use Rattle.lsm_disk.specs.Answers.{RefusesBy}
use Rattle.lsm_disk.specs.declared.calls.DiskCall.{DiskCall}
use Rattle.lsm_disk.specs.declared.calls.DiskError.{DiskError}
use Rattle.lsm_disk.specs.declared.calls.DiskError.TheVariants.{Fault, NotThere, Exists, NoLinks, NotEmpty, Short, NoMemory}
use Rattle.lsm_disk.proofs.Tree.{lawful_made}
use Rattle.lsm_disk.proofs.Lawful.{file_found}
use Rattle.bk_meta.specs.declared.backup_files.BackupFile.{BackupFile}
use Rattle.bk_meta.specs.declared.metas.MetaFile.{MetaFile}
use Rattle.bk_restore.specs.declared.errors.RestoreError.{RestoreError}
use Rattle.bk_restore.specs.declared.errors.RestoreError.TheVariants as restore
use Rattle.bk_restore.specs.Refusals.{disk_answer}
use Rattle.lsm_bytes.specs.Checksum.{crc32c}
use Rattle.bk_restore.specs.Wrong.{or_else as first_of, wrong_crc, wrong_size, wrong_by, IsTold, IsToldOf}
use Rattle.bk_restore.specs.Sources.{HasLength, IsWholeView}

contents_there : (fs : List FileState) (id : ℕ) → id < length fs → slice_get (contents_of fs) id ≡ Some (bytes_of (file_or (slice_get fs id)))
contents_there [] id lt = absurd (omega arith)
contents_there (f ∷ fs) zero lt = refl
contents_there (f ∷ fs) (suc id) lt = contents_there fs id (omega arith)

-- a file that is there has the bytes that it has now
pub bytes_there : (s : State) (path : List ℕ) → IsLawful s → no_file path s ≡ None → bytes_at (tree_now s) path ≡ Some (bytes_of (file_now path s))
bytes_there s path lawful there =
    let found = file_found s path there in
    let id : ℕ = found.0 in
    let is : file_at s path ≡ Some id = ap id_of found.1 in
    ap (λ (o : Option ℕ). bytes_by o (tree_now s)) is ∙ contents_there s.files id ((lawful_made s lawful).made path id found.1)
    ∙ ap (λ (o : Option ℕ). Some (bytes_of (file_by o s))) (sym is)

told_itself : (e : RestoreError) → IsTold (Some e) e
told_itself restore.DiskFault = tt
told_itself restore.DestFault = tt
told_itself (restore.Halted first) = tt
told_itself (restore.DestinationExists dir) = tt
told_itself (restore.Missing name) = refl
told_itself (restore.Changed call path) = tt
told_itself (restore.WrongSize name kept found) = refl
told_itself (restore.Damaged name kept found) = refl
told_itself restore.NoMemory = tt

pub told_by : (wrong : Option RestoreError) (e : RestoreError) → wrong ≡ Some e → IsTold wrong e
told_by wrong e is = subst (λ (o : Option RestoreError). IsTold o e) (sym is) (told_itself e)

pub length_told : (told : Option Story) (path : List ℕ) (len : ℕ) → IfSome told (λ story. len ≡ length (bytes_of (file_now path (state_of story)))) → IfSome told (λ story. no_file path (state_of story) ≡ None) → HasLength told path len
length_told None path len is there = tt
length_told (Some story) path len is there = (there, is)

-- a wrong size
pub size_told : (told : Option Story) (file : MetaFile) (which : BackupFile) (len : ℕ) (e : RestoreError) → IfSome told (λ story. len ≡ length (bytes_of (file_now file.path (state_of story)))) → IfSome told (λ story. no_file file.path (state_of story) ≡ None)
    → IfSome told (λ story. IsLawful (state_of story)) → wrong_size file which len ≡ Some e → IsToldOf told file which e
size_told None file which len e is there lawful wrong = tt
size_told (Some story) file which len e is there lawful wrong =
    let s : State = state_of story in
    let bytes = bytes_of (file_now file.path s) in
    told_by (wrong_by file which (bytes_at (tree_now s) file.path)) e
    (ap (wrong_by file which) (bytes_there s file.path lawful there)
    ∙ ap (λ (o : Option RestoreError). first_of o (wrong_crc file (crc32c bytes))) (ap (wrong_size file which) (sym is) ∙ wrong))

no_bytes : (s : State) (path : List ℕ) (o : Option ℕ) → file_at s path ≡ o → cond (is_some o) None (Some NotThere) ≡ Some NotThere → bytes_at (tree_now s) path ≡ None
no_bytes s path None is refused = ap (λ (o : Option ℕ). bytes_by o (tree_now s)) is
no_bytes s path (Some id) is refused = cc

-- a file that isn't there
pub missing_told : (told : Option Story) (call : DiskCall) (file : MetaFile) (which : BackupFile) (why : DiskError) → IfSome told (λ story. RefusesBy (no_file file.path (state_of story)) why) → IsToldOf told file which (disk_answer call file.path why)
missing_told None call file which why by = tt
missing_told (Some story) call file which Fault by = tt
missing_told (Some story) call file which NotThere by = let s : State = state_of story in ap (wrong_by file which) (no_bytes s file.path (file_at s file.path) refl by)
missing_told (Some story) call file which Exists by = tt
missing_told (Some story) call file which NoLinks by = tt
missing_told (Some story) call file which NotEmpty by = tt
missing_told (Some story) call file which (Short found) by = tt
missing_told (Some story) call file which NoMemory by = tt

room_for : (path : List ℕ) (len : ℕ) (s : State) → no_file path s ≡ None → len ≡ length (bytes_of (file_now path s)) → no_view path len s ≡ None
room_for path len s there is =
    let n : ℕ = length (bytes_of (file_now path s)) in
    ap (λ (o : Option DiskError). or_else o (short_of len (bytes_of (file_now path s)))) there
    ∙ ap (λ b. cond b None (Some (Short n))) (subst (λ (k : ℕ). nat_le k n ≡ true) (sym is) (grind (arith, nat_tests)))

-- a view of a file that is so long is never refused but by a fault or for want of memory
pub view_told : (told : Option Story) (call : DiskCall) (file : MetaFile) (which : BackupFile) (len : ℕ) (why : DiskError) → HasLength told file.path len → IfSome told (λ story. RefusesBy (no_view file.path len (state_of story)) why)
    → IsToldOf told file which (disk_answer call file.path why)
view_told None call file which len why long by = tt
view_told (Some story) call file which len Fault long by = tt
view_told (Some story) call file which len NotThere long by = let none = room_for file.path len (state_of story) long.0 long.1 in let clash : None ≡ Some NotThere = sym none ∙ by in cc
view_told (Some story) call file which len Exists long by = tt
view_told (Some story) call file which len NoLinks long by = tt
view_told (Some story) call file which len NotEmpty long by = tt
view_told (Some story) call file which len (Short found) long by = tt
view_told (Some story) call file which len NoMemory long by = tt

whole_bytes : (told : Option Story) (path : List ℕ) (len : ℕ) → HasLength told path len → IfSome told (λ story. IsLawful (state_of story))
    → IfSome told (λ story. (bytes : List ℕ) × (bytes_at (tree_now (state_of story)) path ≡ Some bytes) × (length bytes ≡ len) × ((opened path len told).bytes ≡ Some bytes))
whole_bytes None path len long lawful = tt
whole_bytes (Some story) path len long lawful =
    let s : State = state_of story in
    let bytes : List ℕ = bytes_of (file_now path s) in
    let is : len ≡ length bytes = long.1 in
    (bytes, bytes_there s path lawful long.0, sym is, ap (λ (l : List ℕ). Some l) (take_all len bytes (omega (arith, is))))

-- the view of a file that is so long is of the whole file
pub whole_view : (told : Option Story) (file : MetaFile) (which : BackupFile) (len : ℕ) (v : Viewed) → wrong_size file which len ≡ None → HasLength told file.path len → IfSome told (λ story. IsLawful (state_of story))
    → v ≡ opened file.path len told → IsWholeView told file which v
whole_view told file which len v size long lawful is = subst (IsWholeView told file which) (sym is) (record { fresh = refl; size = size; same = whole_bytes told file.path len long lawful })
