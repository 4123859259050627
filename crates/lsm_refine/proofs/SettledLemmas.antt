-- A settled disk has one image: its tree now.
use Rattle.std.specs.Prelude.{◌≡◌, ℕ, Bool, List, [], ◌∷◌, map, take, All}
use Rattle.std.proofs.Common.{refl, sym, ap, subst, ◌∙◌}
use Rattle.std.proofs.lemmas.List.{append-nil}
use Rattle.std.proofs.lemmas.List.Elements.{All-nil, All-cons, All-head, All-tail}
use Rattle.lsm_disk.specs.Names.{NameOp, all_named}
use Rattle.lsm_disk.specs.State.{FileState, State, bytes_of, names_now}
use Rattle.lsm_disk.specs.Images.{Tree, IsImage, IsCut, AreCut, contents_of, tree_now}
use Rattle.lsm_disk.specs.Building.{sealed}
use Rattle.lsm_disk.proofs.Cuts.{take_none, cut_sure}
use Rattle.lsm_disk.proofs.Named.{sure_same}
use Rattle.lsm_refine.specs.Settled.{IsSettled, left_by}

abbrev IsSynced : FileState → Type 0
IsSynced f = f.unsynced ≡ []

-- ---- the image

pub cut_whole : (f : FileState) (bytes : List ℕ) → f.unsynced ≡ [] → IsCut f bytes → bytes ≡ bytes_of f
cut_whole f bytes none cut = cut_sure f bytes (subst (λ (g : FileState). IsCut g bytes) (sure_same f none) cut)

all_whole : (fs : List FileState) (held : List (List ℕ)) → All IsSynced fs → AreCut fs held → held ≡ contents_of fs
all_whole [] [] each cut = refl
all_whole [] (bytes ∷ held) each cut = absurd cut
all_whole (f ∷ fs) [] each cut = absurd cut
all_whole (f ∷ fs) (bytes ∷ held) each cut =
    ap (λ (b : List ℕ). b ∷ held) (cut_whole f bytes (All-head IsSynced f fs each) cut.0)
    ∙ ap (λ (more : List (List ℕ)). bytes_of f ∷ more) (all_whole fs held (All-tail IsSynced f fs each) cut.1)

-- the operations that are kept are all that are pending: none
pub none_pending : (d : State) → IsSettled d → (k : ℕ) → take k d.pending ≡ d.pending
none_pending d settled k = ap (λ (ops : List NameOp). take k ops) settled.names ∙ take_none k ∙ sym settled.names

pub one_image : (d : State) → IsSettled d → (t : Tree) → IsImage d t → t ≡ tree_now d
one_image d settled t image =
    let names : t.names ≡ names_now d = image.names ∙ ap (λ (ops : List NameOp). all_named ops d.durable)
    (none_pending d settled image.kept) in
    let contents : t.contents ≡ contents_of d.files = all_whole d.files t.contents settled.files image.files in
    λ i. record { names = names i; contents = contents i }

-- ---- a disk that is opened after a crash

sealed_back : (held : List (List ℕ)) → contents_of (map sealed held) ≡ held
sealed_back [] = refl
sealed_back (bytes ∷ held) =
    ap (λ (b : List ℕ). b ∷ contents_of (map sealed held)) (append-nil bytes) ∙ ap (λ (more : List (List ℕ)). bytes ∷ more)
    (sealed_back held)

pub left_tree : (links : Bool) (t : Tree) → tree_now (left_by links t) ≡ t
left_tree links t = λ i. record { names = t.names; contents = sealed_back t.contents i }

pub all_sealed : (held : List (List ℕ)) → All (λ (f : FileState). f.unsynced ≡ []) (map sealed held)
all_sealed [] = All-nil IsSynced
all_sealed (bytes ∷ held) = All-cons IsSynced (sealed bytes) (map sealed held) refl (all_sealed held)

pub left_settled : (links : Bool) (t : Tree) → IsSettled (left_by links t)
left_settled links t = record { names = refl; files = all_sealed t.contents }
