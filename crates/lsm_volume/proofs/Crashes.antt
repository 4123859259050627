-- What a crash leaves of the files.
use Rattle.std.specs.Prelude.{◌≡◌, ℕ, suc, List, [], ◌∷◌, length, take}
use Rattle.std.proofs.Common.{refl, ap, subst}
use Rattle.lsm_disk.specs.State.{FileState, State}
use Rattle.lsm_disk.specs.Names.{Names, all_named}
use Rattle.lsm_disk.specs.Images.{Tree, IsImage, AreCut}
use Rattle.lsm_changes.specs.Files.{AreLeft}
use Rattle.lsm_volume.specs.Crash.{all_synced}

pub left_length : (fs gs : List FileState) → AreLeft fs gs → length gs ≡ length fs
left_length [] [] left = refl
left_length [] (g ∷ gs) left = absurd left
left_length (f ∷ fs) [] left = absurd left
left_length (f ∷ fs) (g ∷ gs) left = ap suc (left_length fs gs left.1)

abbrev pub synced_of : List FileState → List (List ℕ)
synced_of [] = []
synced_of (g ∷ gs) = g.synced ∷ synced_of gs

left_cuts : (fs gs : List FileState) → AreLeft fs gs → AreCut fs (synced_of gs)
left_cuts [] [] left = tt
left_cuts [] (g ∷ gs) left = absurd left
left_cuts (f ∷ fs) [] left = absurd left
left_cuts (f ∷ fs) (g ∷ gs) left = (left.0.cut, left_cuts fs gs left.1)

pub left_synced : (fs gs : List FileState) → AreLeft fs gs → gs ≡ all_synced (synced_of gs)
left_synced [] [] left = refl
left_synced [] (g ∷ gs) left = absurd left
left_synced (f ∷ fs) [] left = absurd left
left_synced (f ∷ fs) (g ∷ gs) left = λ i. (record { synced = g.synced; unsynced = left.0.all i }) ∷ left_synced fs gs left.1 i

-- the names after some of the pending operations, with these files
pub left_image : (s : State) (names : Names) (kept : ℕ) (files gs : List FileState) → names ≡ all_named (take kept s.pending) s.durable → files ≡ s.files → AreLeft files gs → let t : Tree = record { names = names; contents = synced_of gs } in IsImage s t
left_image s names kept files gs is same left = record {
  kept = kept;
  names = is;
  files = subst (λ (fs : List FileState). AreCut fs (synced_of gs)) same (left_cuts files gs left);
}

pub synced_length : (gs : List FileState) → length (synced_of gs) ≡ length gs
synced_length [] = refl
synced_length (g ∷ gs) = ap suc (synced_length gs)
