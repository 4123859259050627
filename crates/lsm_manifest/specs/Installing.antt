-- A new manifest, and the switch of `CURRENT` to it.
use Rattle.std.specs.Prelude.{◌≡◌, ◌≢◌, ◌⊎◌, ℕ, ◌≤◌, List, [], ◌∷◌, ◌++◌, length, take, Option, Some, None, Result, Ok, Err, IfErr}
use Rattle.lsm_names.specs.FileNames.{spelled}
use Rattle.lsm_names.specs.declared.file_names.FileName.TheVariants.{Manifest, Temp, Current}
use Rattle.std.specs.FinMap as map
use Rattle.lsm_disk.specs.Names.{Moved, File_node}
use Rattle.lsm_disk.specs.State.{State, Story, Seen, Change, Created, Named, Appended, Synced, Names_synced, Idle, new_file, longer, names_now, state_of, created, names_synced}
use Rattle.lsm_disk.specs.Images.{Tree, bytes_at}
use Rattle.lsm_disk.specs.Kept.{IsFileNow, IsKeptFile, OpSpares}
use Rattle.lsm_disk.specs.Dest.{path_in}
use Rattle.lsm_disk.specs.Halts.{halt_at}
use Rattle.lsm_disk.specs.Answers.{LeftBy, Makes}
use Rattle.lsm_disk.specs.Goes.{Went}
use Rattle.lsm_disk.specs.Tree.{TellsLawful}
use Rattle.lsm_disk.specs.Refusals.{no_room, or_else}
use Rattle.lsm_disk.specs.declared.calls.Halt.{Halt}
use Rattle.lsm_disk.specs.declared.calls.DiskCall.{DiskCall}
use Rattle.lsm_disk.specs.declared.calls.DiskCall.TheVariants as call
use Rattle.lsm_disk.specs.declared.calls.DiskError.{DiskError}
use Rattle.lsm_disk.specs.declared.calls.DiskError.TheVariants.{NoMemory}
use Rattle.lsm_disk.specs.declared.calls.DiskRefusal.{DiskRefusal}
use Rattle.lsm_publish.specs.Publishing.{Old, StillHas, ShowsOld, IsMove, IsPublished, Switched, written, write_calls, switch_calls, no_publishing}
use Rattle.lsm_version.specs.declared.edits.Edit.{Edit}
use Rattle.lsm_manifest.specs.Texts.{manifest_text}
use Rattle.lsm_manifest.specs.Standing.{Stands}

-- what `CURRENT` holds for the manifest of this number: its name and a newline
abbrev pub current_text : ℕ → List ℕ
current_text number = spelled (Manifest number) ++ 10 ∷ []

-- the paths: of `CURRENT`, of the manifest of this number, and of the temporary file that becomes
-- `CURRENT`
abbrev pub current_path : List ℕ → List ℕ
current_path dir = path_in dir Current

abbrev pub manifest_path : List ℕ → ℕ → List ℕ
manifest_path dir number = path_in dir (Manifest number)

abbrev pub temporary_path : List ℕ → ℕ → List ℕ
temporary_path dir number = path_in dir (Temp number)

-- What there was before: what `CURRENT` had, and what the name of the manifest had to which it led.
pub record Before : Type 0 where
  pub current : Old
  pub path : List ℕ
  pub manifest : Old

-- both have still what they had
pub record StillBefore (dir : List ℕ) (before : Before) (s : State) : Type 0 where
  pub current : StillHas (current_path dir) before.current s
  pub manifest : StillHas before.path before.manifest s

-- the image has both
abbrev pub ShowsBefore : List ℕ → Before → Tree → Type 0
ShowsBefore dir before t = ShowsOld (current_path dir) before.current t × ShowsOld before.path before.manifest t

-- in the image `CURRENT` names the new manifest, which is whole
pub record ShowsNew (dir : List ℕ) (number : ℕ) (edit : Edit) (t : Tree) : Type 0 where
  pub current : bytes_at t (current_path dir) ≡ Some (current_text number)
  pub manifest : bytes_at t (manifest_path dir number) ≡ Some (manifest_text (edit ∷ []))

-- In the image `CURRENT` has what it had, and the manifest of before is as it was; or it names the
-- new one, which is whole.
abbrev pub NamesOldOrNew : List ℕ → ℕ → Edit → Before → State → Tree → Type 0
NamesOldOrNew dir number edit before s t = ShowsBefore dir before t ⊎ ShowsNew dir number edit t

-- the earlier manifest has another name than the files that are written, and none inside them
pub record IsApart (dir : List ℕ) (number : ℕ) (path : List ℕ) : Type 0 where
  pub new : path ≢ manifest_path dir number
  pub temporary : path ≢ temporary_path dir number
  pub moved : OpSpares path (Moved (temporary_path dir number) (current_path dir))

-- the changes: two files are made, filled and synced, the second is renamed, and names are synced
abbrev pub Installs : List ℕ → ℕ → ℕ → Change → Type 0
Installs dir number first (Created other) = (other ≡ manifest_path dir number) ⊎ (other ≡ temporary_path dir number)
Installs dir number first (Named op) = IsMove (temporary_path dir number) (current_path dir) op
Installs dir number first (Appended k bytes) = first ≤ k
Installs dir number first (Synced k) = first ≤ k
Installs dir number first Names_synced = Unit {0}
Installs dir number first Idle = Unit {0}

-- the calls of the disk in their order
abbrev pub new_calls : List ℕ → List Halt
new_calls path = halt_at call.Create path ∷ halt_at call.Append path ∷ halt_at call.Sync path ∷ []

abbrev pub install_calls : List ℕ → ℕ → List Halt
install_calls dir number = new_calls (manifest_path dir number) ++ write_calls (temporary_path dir number)
    ++ switch_calls (current_path dir)

-- The names of the manifest and of the temporary file have to be free, and a file has to be able to
-- take the name `CURRENT`.
abbrev pub no_installing : List ℕ → ℕ → State → Option DiskError
no_installing dir number s = or_else (no_room (manifest_path dir number) s)
    (no_publishing (temporary_path dir number) (current_path dir) s)

-- the name leads now to the new file
abbrev pub LeadsNow : List ℕ → ℕ → State → Type 0
LeadsNow dir number s = (id : ℕ) × IsFileNow s (current_path dir) id (written (current_text number))

-- What a refused call on `CURRENT` left of it: a rename the old file, or where it was a fault the
-- old or the new one; the sync behind it the new one, perhaps not for good.
abbrev pub CurrentLeft : List ℕ → ℕ → Old → DiskCall → DiskError → State → Type 0
CurrentLeft dir number old call.Rename why s = LeftBy (StillHas (current_path dir) old s) (LeadsNow dir number s) why
CurrentLeft dir number old call.SyncNames why s = LeadsNow dir number s
CurrentLeft dir number old other why s = ⊥

-- no other name leads to the file now
pub record IsOnly (s : State) (path : List ℕ) (id : ℕ) : Type 0 where
  pub only : (other : List ℕ) → map.get (names_now s) other ≡ Some (File_node id) → other ≡ path

-- A file has this name alone, the temporary name is free, and there is no operation on names that a crash may undo.
pub record IsSettled (temporary path : List ℕ) (id : ℕ) (s : State) : Type 0 where
  pub alone : IsOnly s path id
  pub gone : map.get (names_now s) temporary ≡ None
  pub quiet : s.pending ≡ []

-- `CURRENT` names the new manifest for good, both are whole, and the manifest's file has no other name
pub record IsInstalled (dir : List ℕ) (number : ℕ) (edit : Edit) (s : State) : Type 0 where
  pub stands : Stands s (manifest_path dir number) (edit ∷ [])
  pub id : ℕ
  pub current : IsPublished (current_path dir) id (current_text number) s
  pub settled : IsSettled (temporary_path dir number) (manifest_path dir number) stands.id s

-- What a refused call left of the making of a file: a fault may have made the change, of an append
-- a front, and any other refusal has not.
abbrev pub FillLeft : List ℕ → ℕ → List ℕ → DiskCall → DiskError → State → Type 0
FillLeft path id bytes call.Create why s = LeftBy (length s.files ≡ id) (IsFileNow s path id new_file) why
FillLeft path id bytes call.Append why s = LeftBy (IsFileNow s path id new_file)
    ((n : ℕ) × IsFileNow s path id (longer (take n bytes) new_file)) why
FillLeft path id bytes call.Sync why s = LeftBy (IsFileNow s path id (longer bytes new_file)) (IsFileNow s path id (written bytes)) why
FillLeft path id bytes other why s = ⊥

-- What a refused call on the new manifest's name left of the making of its file; at a call on the
-- temporary file's name the manifest is there, whole and synced.
pub record NewLeft (dir : List ℕ) (number first : ℕ) (edit : Edit) (r : DiskRefusal) (s : State) : Type 0 where
  pub making : r.at.path ≡ manifest_path dir number
      → FillLeft (manifest_path dir number) first (manifest_text (edit ∷ [])) r.at.call r.why s
  pub made : r.at.path ≡ temporary_path dir number
      → IsFileNow s (manifest_path dir number) first (written (manifest_text (edit ∷ [])))

-- What an installing leaves, whose first new file has this number. Ok: the new manifest. A refusal
-- of a call on `CURRENT`: the new manifest stands, and `CURRENT` as that call left it. Any other
-- refusal: `CURRENT` has what it had, and the new manifest is as far as it came. The manifest of
-- before is as it was throughout.
abbrev pub Leaves : {T : Type 0} → List ℕ → ℕ → ℕ → Edit → Before → Result T DiskRefusal → State → Type 0
Leaves dir number first edit before (Ok value) s = IsInstalled dir number edit s × StillHas before.path before.manifest s
Leaves dir number first edit before (Err r) s =
    (r.at.path ≢ current_path dir → StillHas (current_path dir) before.current s)
    × (r.at.path ≡ current_path dir → Stands s (manifest_path dir number) (edit ∷ [])
    × CurrentLeft dir number before.current r.at.call r.why s)
    × StillHas before.path before.manifest s
    × NewLeft dir number first edit r s

-- ---- of the parts

-- nothing is said of an image
abbrev pub Anything : State → Tree → Type 0
Anything s t = Unit {0}

-- A new file of these bytes, all of them synced, whose name is not yet sure; or this call was
-- refused.
abbrev pub IsFilled : {T : Type 0} → List ℕ → ℕ → List ℕ → Result T DiskRefusal → State → Type 0
IsFilled path id bytes (Ok value) s = IsFileNow s path id (written bytes)
IsFilled path id bytes (Err r) s = FillLeft path id bytes r.at.call r.why s

-- The name has in the image what it had, or the new bytes, and then the other file is whole.
abbrev pub LeadsEither : List ℕ → List ℕ → Old → List ℕ → List ℕ → State → Tree → Type 0
LeadsEither path other old bytes text s t = ShowsOld path old t ⊎ ((bytes_at t path ≡ Some bytes) × (bytes_at t other ≡ Some text))

-- The name leads to the file for good, the other file is kept under one name, and names are sure; or a call was refused,
-- before the switch or in it.
abbrev pub HasLed : {T : Type 0} → List ℕ → List ℕ → List ℕ → Old → ℕ → List ℕ → ℕ → List ℕ → Result T DiskRefusal → State → Type 0
HasLed temporary path other old id bytes k text (Ok value) s =
    IsPublished path id bytes s × IsKeptFile s other k (written text) × IsSettled temporary other k s
HasLed temporary path other old id bytes k text (Err r) s =
    ((r.at.path ≡ temporary) × StillHas path old s × IsFileNow s other k (written text))
    ⊎ (Switched temporary path old id bytes (Err r) s × IsKeptFile s other k (written text))

-- ---- want of memory

-- the name leads to a file now, or to nothing
abbrev pub HasFile : List ℕ → State → Type 0
HasFile path s = (id : ℕ) × (map.get (names_now s) path ≡ Some (File_node id))

abbrev pub IsFree : List ℕ → State → Type 0
IsFree path s = map.get (names_now s) path ≡ None

-- The changes before the switch: the two files are made, filled and synced, and names are synced. No name moves.
abbrev pub Begins : List ℕ → ℕ → ℕ → Change → Type 0
Begins dir number first (Created other) = (other ≡ manifest_path dir number) ⊎ (other ≡ temporary_path dir number)
Begins dir number first (Named op) = ⊥
Begins dir number first (Appended k bytes) = first ≤ k
Begins dir number first (Synced k) = first ≤ k
Begins dir number first Names_synced = Unit {0}
Begins dir number first Idle = Unit {0}

-- The call at which memory was wanting tells which of the two new files are there: none, the manifest's, or both.
abbrev pub BegunAt : List ℕ → ℕ → Halt → State → Type 0
BegunAt dir number at s =
    ((at ≡ halt_at call.Create (manifest_path dir number)) × IsFree (manifest_path dir number) s
    × IsFree (temporary_path dir number) s)
    ⊎ (((at ≡ halt_at call.Append (manifest_path dir number)) ⊎ (at ≡ halt_at call.Create (temporary_path dir number)))
    × HasFile (manifest_path dir number) s × IsFree (temporary_path dir number) s)
    ⊎ (((at ≡ halt_at call.Append (temporary_path dir number)) ⊎ (at ≡ halt_at call.Rename (current_path dir)))
    × HasFile (manifest_path dir number) s × HasFile (temporary_path dir number) s)

-- Where both names were free, want of memory comes before the switch, and leaves the files that were made.
abbrev pub WantsMemory : {T : Type 0} → List ℕ → ℕ → Option Story → Option Story → Result T DiskRefusal → Type 0
WantsMemory dir number old new result = IfErr result (λ r. r.why ≡ NoMemory → (story : Story) → old ≡ Some story
    → IsFree (manifest_path dir number) (state_of story) → IsFree (temporary_path dir number) (state_of story)
    → Went story new (Begins dir number (length (state_of story).files)) Anything (BegunAt dir number r.at))

-- No call was made, since memory was wanting for the texts.
abbrev pub IsUntouched : {T : Type 0} → List ℕ → Seen → Seen → Result T DiskRefusal → Type 0
IsUntouched new old now (Ok value) = ⊥
IsUntouched new old now (Err r) = (now ≡ old) × (r ≡ record { at = halt_at call.Create new; why = NoMemory })

-- the disk's names are a tree, unless no call was made
abbrev pub LawfulOrUntouched : {T : Type 0} → List ℕ → Seen → Seen → Result T DiskRefusal → Type 0
LawfulOrUntouched new old now result = TellsLawful old ⊎ IsUntouched new old now result

-- what the making of a file did where memory was wanting: nothing, or it made the empty file
abbrev pub FillWants : List ℕ → DiskRefusal → Option Story → Option Story → Type 0
FillWants path r old new = ((r.at ≡ halt_at call.Create path) × (new ≡ old))
    ⊎ ((r.at ≡ halt_at call.Append path) × Makes old (created path) new)

-- what the switch did then: names were synced
abbrev pub LeadWants : List ℕ → DiskRefusal → Option Story → Option Story → Type 0
LeadWants path r old new = (r.at ≡ halt_at call.Rename path) × Makes old names_synced new
