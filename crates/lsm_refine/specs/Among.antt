-- What stays where a disk changes at a few names of the store's folder.
use Rattle.std.specs.Prelude.{◌≡◌, ◌≢◌, ◌⊎◌, ℕ, ◌≤◌, true, is_some, List, [], ◌∷◌, length, All, Contains, None}
use Rattle.std.specs.FinMap as finmap
use Rattle.lsm_names.specs.declared.file_names.FileName.{FileName}
use Rattle.lsm_names.specs.declared.file_names.FileName.TheVariants.{Manifest, Temp, Current}
use Rattle.lsm_disk.specs.Names.{Names, under}
use Rattle.lsm_disk.specs.State.{FileState, State, Change, Created, Named, Appended, Synced, Names_synced, Idle, file_at, names_now}
use Rattle.lsm_disk.specs.Kept.{IsFileNow, OpSpares}
use Rattle.lsm_disk.specs.Dest.{path_in}
use Rattle.lsm_refine.specs.Kept.{Kept}
use Rattle.lsm_refine.specs.Sane.{IsAlone}
use Rattle.lsm_refine.specs.Folders.{ChangesInside}
use Rattle.lsm_refine.specs.Beside.{cut_names, LeadToFiles, NeverFolder}

-- the path is none of these names'
abbrev pub IsElsewhere : List ℕ → List FileName → List ℕ → Type 0
IsElsewhere dir names other = All (λ (name : FileName). other ≢ path_in dir name) names

-- nor is it inside one of these
abbrev pub IsOutside : List ℕ → List FileName → List ℕ → Type 0
IsOutside dir names other = All (λ (name : FileName). (other ≢ path_in dir name) × (under (path_in dir name) other ≡ None)) names

-- a crash of the disk may leave these names, or they are those of now but for a few
abbrev pub WereAmong : List ℕ → List FileName → State → Names → Type 0
WereAmong dir names d left = ((k : ℕ) × (left ≡ cut_names d k))
    ⊎ ((other : List ℕ) → IsElsewhere dir names other → finmap.get left other ≡ finmap.get (names_now d) other)

-- From the earlier disk to the later one all that changed is what these names of the folder lead to. Every other name leads
-- where it led, now and after each crash, and to a file with the same bytes, as many of them synced; no operation that a crash
-- may undo has come that touches one. Where another file had one name, it has no second one. No folder has come anywhere.
pub record ChangesAmong (dir : List ℕ) (names : List FileName) (d later : State) : Type 0 where
  pub now : (other : List ℕ) → IsElsewhere dir names other → finmap.get (names_now later) other ≡ finmap.get (names_now d) other
  pub cuts : (k : ℕ) → WereAmong dir names d (cut_names later k)
  pub files : (other : List ℕ) (id : ℕ) (f : FileState) → IsElsewhere dir names other → IsFileNow d other id f → IsFileNow later other id f
  pub alone : (other : List ℕ) → IsElsewhere dir names other → IsAlone d other → IsAlone later other
  pub quiet : (other : List ℕ) → IsOutside dir names other → All (OpSpares other) d.pending → All (OpSpares other) later.pending
  pub fewer : length d.files ≤ length later.files
  pub no_folder : (other : List ℕ) → NeverFolder other d → NeverFolder other later

-- the names that change where CURRENT comes to name a new manifest: the manifest's, the temporary one of this number, and
-- CURRENT
abbrev pub switched_names : ℕ → ℕ → List FileName
switched_names number temporary = Manifest number ∷ Temp temporary ∷ Current ∷ []

-- the manifest has this number and this length, the next file this one, and these names are known
abbrev pub switched_kept : ℕ → ℕ → ℕ → List FileName → Kept → Kept
switched_kept number len next known kept = record kept { manifest = number; manifest_len = len; next = next; known = known }

-- ---- new files under a few names

-- The changes that make files under these names of the folder, and fill and sync files that weren't there before: those from
-- the first new number on. No name moves.
abbrev pub MakesAmong : List ℕ → List FileName → ℕ → Change → Type 0
MakesAmong dir names first (Created other) = (name : FileName) × Contains names name × (other ≡ path_in dir name)
MakesAmong dir names first (Named op) = ⊥
MakesAmong dir names first (Appended k bytes) = first ≤ k
MakesAmong dir names first (Synced k) = first ≤ k
MakesAmong dir names first Names_synced = Unit {0}
MakesAmong dir names first Idle = Unit {0}

-- From the earlier disk to the later one nothing has changed but at these names, all inside the folder. Names lead to files
-- that were made.
pub record MadeAmong (dir : List ℕ) (names : List FileName) (d later : State) : Type 0 where
  pub among : ChangesAmong dir names d later
  pub lead : LeadToFiles later
  pub inside : ChangesInside dir d later

-- the names of the files of a new manifest that CURRENT doesn't name yet: the manifest's and the temporary one
abbrev pub new_names : ℕ → List FileName
new_names number = Manifest number ∷ Temp number ∷ []

-- The later names are the earlier ones, and those of these under which a file is now.
pub record KnowsMade (d : State) (dir : List ℕ) (names old new : List FileName) : Type 0 where
  pub still : (name : FileName) → Contains old name → Contains new name
  pub there : (name : FileName) → Contains new name
      → Contains old name ⊎ (Contains names name × (is_some (file_at d (path_in dir name)) ≡ true))
  pub all : (name : FileName) → Contains names name → is_some (finmap.get (names_now d) (path_in dir name)) ≡ true
      → Contains new name
