-- Which files the names of a folder lead to, while changes leave its names alone.
use Rattle.std.specs.Prelude.{◌≡◌, ◌≢◌, ℕ, true, false, List, [], ◌∷◌, ◌++◌, length, Option}
use Rattle.std.proofs.Common.{refl, sym, ap, ◌∙◌}
use Rattle.std.specs.FinMap as map
use Rattle.lsm_names.specs.Paths.{is_component}
use Rattle.lsm_disk.specs.Names.{File_node, NameOp, Put, Names, id_of, is_in}
use Rattle.lsm_disk.specs.State.{State, Story, Change, Created, Named, Appended, Synced, Names_synced, Idle, after, names_now, state_of, file_at}
use Rattle.lsm_disk.specs.Images.{Tree}
use Rattle.lsm_disk.specs.Goes.{Went}
use Rattle.lsm_disk.specs.Kept.{OpSpares, SparesName, InFile}
use Rattle.lsm_disk.specs.Building.{IsWithin}
use Rattle.lsm_disk.proofs.Built.{within_spares_name}
use Rattle.lsm_disk.proofs.Images.{all_push}
use Rattle.lsm_disk.proofs.Named.{file_spares_name}
use Rattle.lsm_disk.proofs.Paths.{get_spared}
use Rattle.lsm_disk.proofs.Runs.{went_weaker, went_wider}
use Rattle.bk_engine.specs.Copying.{Whatever, Anything}
use Rattle.bk_engine.specs.Leaving.{HasNoNameOf}
use Rattle.bk_engine.proofs.StandingKept.{went_keeping, out_of, roots_apart}

-- a name that an operation leaves leads where it led
op_leaves : (s : State) (path : List ℕ) (op : NameOp) → OpSpares path op → map.get (names_now (record s { pending = s.pending ++ op ∷ [] })) path ≡ map.get (names_now s) path
op_leaves s path op spares = ap (λ (n : Names). map.get n path) (all_push s.pending op s.durable) ∙ get_spared path op (names_now s) spares

file_left : (s : State) (path : List ℕ) (c : Change) → SparesName path c → file_at (after s c) path ≡ file_at s path
file_left s path (Created other) spares = ap id_of (op_leaves s path (Put other (File_node (length s.files))) spares)
file_left s path (Named op) spares = ap id_of (op_leaves s path op spares)
file_left s path (Appended k bytes) spares = refl
file_left s path (Synced k) spares = refl
file_left s path Names_synced spares = refl
file_left s path Idle spares = refl

abbrev pub LeavesNames : List ℕ → (Change → Type 0) → Type 0
LeavesNames dir q = (path : List ℕ) (c : Change) → is_in dir path ≡ true → q c → SparesName path c

pub no_name_stays : (dir : List ℕ) (id : ℕ) (story : Story) (told : Option Story) (q : Change → Type 0) (P : State → Tree → Type 0) (I : State → Type 0) → LeavesNames dir q → HasNoNameOf dir (state_of story) id
    → Went story told q P I → Went story told q P (λ s. I s × HasNoNameOf dir s id)
no_name_stays dir id story told q P I leaves none w =
    went_wider q q (λ s t. P s t × Anything s t) P (λ c is. is) (λ s t shown. shown.0)
    (went_keeping P Anything (λ s. HasNoNameOf dir s id) q
    (λ s c is has path inside leads. has path inside (sym (file_left s path c (leaves path c inside is)) ∙ leads))
    (λ s has. record { each = λ t image. tt }) I none w)

-- of a run of which nothing else is known
pub just_no_name : (dir : List ℕ) (id : ℕ) (story : Story) (told : Option Story) (q : Change → Type 0) → LeavesNames dir q → HasNoNameOf dir (state_of story) id → Went story told q Anything Whatever → Went story told q Anything (λ s. HasNoNameOf dir s id)
just_no_name dir id story told q leaves none w =
    went_weaker (λ s. Whatever s × HasNoNameOf dir s id) (λ s. HasNoNameOf dir s id) (λ s is. is.1) (no_name_stays dir id story told q Anything Whatever leaves none w)

pub file_leaves : (dir : List ℕ) (other : ℕ) → LeavesNames dir (InFile other)
file_leaves dir other = λ path c inside is. file_spares_name path other c is

pub folder_leaves : (dir other : List ℕ) (first : ℕ) → is_component dir ≡ true → is_component other ≡ true → other ≢ dir → LeavesNames dir (IsWithin other first)
folder_leaves dir other first known fits differ =
    let apart : is_in dir other ≡ false = roots_apart dir other known fits (λ same. differ (sym same)) in
    let away : is_in other dir ≡ false = roots_apart other dir fits known differ in
    λ path c inside is. within_spares_name other path first c is (out_of dir other path apart away inside)
