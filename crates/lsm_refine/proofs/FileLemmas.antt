-- What an image has under the names that a store keeps.
use Rattle.std.specs.Prelude.{◌≡◌, ℕ, ◌≤◌, Bool, true, false, ◌&&◌, List, [], ◌∷◌, take, length, All, Option, Some, None}
use Rattle.std.proofs.Common.{refl, sym, ap, ◌∙◌}
use Rattle.std.proofs.lemmas.List.Elements.{All-head, All-tail, All-take}
use Rattle.std.specs.FinMap as finmap
use Rattle.lsm_names.specs.FileNames.{IsFileName}
use Rattle.lsm_names.specs.declared.file_names.FileName.{FileName}
use Rattle.lsm_disk.specs.Names.{NameOp, Names, named, all_named, id_of}
use Rattle.lsm_disk.specs.State.{State, names_now}
use Rattle.lsm_disk.specs.Images.{Tree, IsImage, bytes_at}
use Rattle.lsm_disk.specs.Kept.{OpSpares}
use Rattle.lsm_disk.specs.Dest.{path_in}
use Rattle.lsm_disk.proofs.Cuts.{cut_sure}
use Rattle.lsm_disk.proofs.Kept.{kept_image}
use Rattle.lsm_disk.proofs.Paths.{get_spared}
use Rattle.lsm_folder.specs.Files.{Item, bytes_in, files_in, file_at}
use Rattle.lsm_folder.proofs.FileLemmas.{files_are, file_is, file_names}
use Rattle.lsm_refine.specs.Sane.{IsWholeFile}
use Rattle.lsm_folder.proofs.TreeLemmas.{no_file}

-- a whole file has its bytes in each image
pub whole_image : (d : State) (path bytes : List ℕ) → IsWholeFile d path bytes → (t : Tree) → IsImage d t → bytes_at t path ≡ Some bytes
whole_image d path bytes whole t i =
    let has = kept_image d path whole.id (record { synced = bytes; unsynced = [] }) whole.file t i in
    has.is ∙ ap Some (cut_sure (record { synced = []; unsynced = bytes }) has.bytes has.cut)

-- operations that don't touch a name leave it
spared : (path : List ℕ) (ops : List NameOp) (names : Names) → All (OpSpares path) ops
    → finmap.get (all_named ops names) path ≡ finmap.get names path
spared path [] names each = refl
spared path (op ∷ ops) names each =
    spared path ops (named op names) (All-tail (OpSpares path) op ops each) ∙ get_spared path op names
    (All-head (OpSpares path) op ops each)

-- where no operation that may be undone touches a name, it is in each image as it is now
pub quiet_image : (d : State) (path : List ℕ) → All (OpSpares path) d.pending → (t : Tree) → IsImage d t
    → finmap.get t.names path ≡ finmap.get (names_now d) path
quiet_image d path each t i =
    ap (λ (names : Names). finmap.get names path) i.names
    ∙ spared path (take i.kept d.pending) d.durable (All-take (OpSpares path) i.kept d.pending each)
    ∙ sym (spared path d.pending d.durable each)

-- ---- in the folder

-- a file of the folder has the bytes that its path has
pub file_there : (dir : List ℕ) (t : Tree) (name : FileName) (bytes : List ℕ) → 1 ≤ length dir → IsFileName name
    → bytes_at t (path_in dir name) ≡ Some bytes → file_at (files_in dir t) name ≡ Some bytes
file_there dir t name bytes some fits is = ap bytes_in (file_is dir t name bytes some fits is)

-- where no file has the path the folder has none of the name
pub file_gone : (dir : List ℕ) (t : Tree) (name : FileName) → 1 ≤ length dir → IsFileName name
    → id_of (finmap.get t.names (path_in dir name)) ≡ None → file_at (files_in dir t) name ≡ None
file_gone dir t name some fits is = ap bytes_in (files_are dir t name some fits) ∙ no_file t.contents
    (finmap.get t.names (path_in dir name)) is

none_by : (dir : List ℕ) (t : Tree) (name : FileName) (item : Option Item) → 1 ≤ length dir → ¬ IsFileName name
    → finmap.get (files_in dir t) name ≡ item → bytes_in item ≡ None
none_by dir t name None some never is = refl
none_by dir t name (Some item) some never is = absurd (never (file_names dir t name item some is))

-- it has no file whose number isn't a file's
pub file_never : (dir : List ℕ) (t : Tree) (name : FileName) → 1 ≤ length dir → ¬ IsFileName name → file_at (files_in dir t) name ≡ None
file_never dir t name some never = none_by dir t name (finmap.get (files_in dir t) name) some never refl

both_true : (a b : Bool) → (a && b) ≡ true → a ≡ true
both_true true b is = refl
both_true false b is = cc
