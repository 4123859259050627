-- What a name has, after each change that isn't its own.
use Rattle.std.specs.Prelude.{◌≡◌, ◌≢◌, ℕ, zero, suc, ◌<◌, List, [], ◌∷◌, length, slice_get, Some, None}
use Rattle.std.proofs.Common.{arith}
use Rattle.lsm_disk.specs.Names.{NameOp}
use Rattle.lsm_disk.specs.State.{FileState, State, Change, Created, Named, Appended, Synced, Names_synced, Idle, after, where_new, names_synced}
use Rattle.lsm_disk.specs.Images.{Tree, IsImage}
use Rattle.lsm_disk.specs.Kept.{Spares, SparesName, InFile}
use Rattle.lsm_disk.proofs.Named.{name_spared, name_image, file_spares, file_spares_name}
use Rattle.lsm_disk.proofs.Kept.{kept_spared, kept_image}
use Rattle.lsm_publish.specs.Publishing.{Old, No_file, The_file, Not_known, StillHas, ShowsOld, IsOther, Writes, Switches}

-- the change leaves what the name has
abbrev pub SparesOld : List ℕ → Old → Change → Type 0
SparesOld path No_file c = SparesName path c
SparesOld path (The_file id f) c = Spares path id c
SparesOld path Not_known c = Unit {0}

pub still_spared : (path : List ℕ) (old : Old) (s : State) (c : Change) → StillHas path old s → SparesOld path old c → StillHas path old (after s c)
still_spared path No_file s c still spares = name_spared s path None still c spares
still_spared path (The_file id f) s c still spares = kept_spared s path id f still c spares
still_spared path Not_known s c still spares = tt

pub still_image : (path : List ℕ) (old : Old) (s : State) → StillHas path old s → (t : Tree) → IsImage s t → ShowsOld path old t
still_image path No_file s still t i = name_image s path None still t i
still_image path (The_file id f) s still t i = kept_image s path id f still t i
still_image path Not_known s still t i = tt

names_spare : (path : List ℕ) (old : Old) → SparesOld path old Names_synced
names_spare path No_file = tt
names_spare path (The_file id f) = tt
names_spare path Not_known = tt

pub still_names : (path : List ℕ) (old : Old) (s : State) → StillHas path old s → StillHas path old (after s (names_synced s))
still_names path old s still = of_pending s.pending where
  of_pending : (ops : List NameOp) → StillHas path old (after s (where_new ops Names_synced))
  of_pending [] = still
  of_pending (op ∷ ops) = still_spared path old s Names_synced still (names_spare path old)

pub created_spares : (path temporary : List ℕ) (old : Old) → path ≢ temporary → SparesOld path old (Created temporary)
created_spares path temporary No_file apart = apart
created_spares path temporary (The_file id f) apart = apart
created_spares path temporary Not_known apart = tt

pub in_file_spares : (path : List ℕ) (old : Old) (id : ℕ) (c : Change) → IsOther old id → InFile id c → SparesOld path old c
in_file_spares path No_file id c other is = file_spares_name path id c is
in_file_spares path (The_file k f) id c other is = file_spares path k id c other is
in_file_spares path Not_known id c other is = tt

pub within : (fs : List FileState) (id : ℕ) (f : FileState) → slice_get fs id ≡ Some f → id < length fs
within [] id f is = cc
within (g ∷ fs) zero f is = omega arith
within (g ∷ fs) (suc id) f is = omega (arith, within fs id f is)

-- a new file is another
pub other_new : (path : List ℕ) (old : Old) (s : State) → StillHas path old s → IsOther old (length s.files)
other_new path No_file s still = tt
other_new path (The_file id f) s still = λ same. let lt : id < length s.files = within s.files id f still.file in absurd (omega (arith, lt, same))
other_new path Not_known s still = tt

-- ---- the footprint

pub file_writes : (temporary : List ℕ) (id : ℕ) (c : Change) → InFile id c → Writes temporary id c
file_writes temporary id (Created p) is = absurd is
file_writes temporary id (Named op) is = absurd is
file_writes temporary id (Appended k bytes) is = is
file_writes temporary id (Synced k) is = is
file_writes temporary id Names_synced is = absurd is
file_writes temporary id Idle is = tt

pub names_write : (temporary : List ℕ) (id : ℕ) (s : State) → Writes temporary id (names_synced s)
names_write temporary id s = of_pending s.pending where
  of_pending : (ops : List NameOp) → Writes temporary id (where_new ops Names_synced)
  of_pending [] = tt
  of_pending (op ∷ ops) = tt

pub names_switch : (temporary path : List ℕ) (s : State) → Switches temporary path (names_synced s)
names_switch temporary path s = of_pending s.pending where
  of_pending : (ops : List NameOp) → Switches temporary path (where_new ops Names_synced)
  of_pending [] = tt
  of_pending (op ∷ ops) = tt
