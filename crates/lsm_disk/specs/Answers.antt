-- What a call of a disk did, which answer it gave, and which count rose.
use Rattle.std.specs.Prelude.{◌≡◌, ◌⊎◌, ℕ, ◌≤◌, List, [], ◌∷◌, ◌++◌, take, Option, Some, None, Result, Ok, Err, option_map, IfSome, IfErr}
use Rattle.lsm_io.specs.Causes.{Rose}
use Rattle.lsm_disk.specs.State.{State, Story, Seen, Change, state_of, appended}
use Rattle.lsm_disk.specs.Refusals.{no_file}
use Rattle.lsm_disk.specs.declared.calls.DiskRefusal.{DiskRefusal}
use Rattle.lsm_disk.specs.declared.calls.DiskError.{DiskError}
use Rattle.lsm_disk.specs.declared.calls.DiskError.TheVariants.{Fault, NotThere, Exists, NoLinks, NotEmpty, Short, NoMemory}

-- ---- what a call did

abbrev pub then_change : Story → Change → Story
then_change story c = record { start = story.start; log = story.log ++ c ∷ [] }

-- the story with the change that this call names
abbrev pub pushed : (State → Change) → Story → Story
pushed c story = then_change story (c (state_of story))

-- what does not tell goes on not telling
abbrev pub Makes : Option Story → (State → Change) → Option Story → Type 0
Makes old c new = new ≡ option_map (pushed c) old

-- nothing was refused there
abbrev pub Allowed : (State → Option DiskError) → Option Story → Type 0
Allowed refusal told = IfSome told (λ story. refusal (state_of story) ≡ None)

-- A fault may have made a change, and any other refusal has not.
abbrev pub LeftBy : Type 0 → Type 0 → DiskError → Type 0
LeftBy same made Fault = same ⊎ made
LeftBy same made NotThere = same
LeftBy same made Exists = same
LeftBy same made NoLinks = same
LeftBy same made NotEmpty = same
LeftBy same made (Short found) = same
LeftBy same made NoMemory = same

abbrev pub DidBy : {T : Type 0} → (State → Change) → (State → Option DiskError) → Option Story → Option Story → Result T DiskError → Type 0
DidBy c refusal old new (Ok value) = Makes old c new
DidBy c refusal old new (Err e) = LeftBy (new ≡ old) (Allowed refusal old × Makes old c new) e

-- Ok has made the change. A fault has made it or not, and not where it would have been refused. Any other refusal has not.
abbrev pub Did : {T : Type 0} → (State → Change) → (State → Option DiskError) → Seen → Seen → Result T DiskError → Type 0
Did c refusal old new result = DidBy c refusal old.told new.told result

abbrev pub MakesFront : List ℕ → List ℕ → Option Story → Option Story → Type 0
MakesFront path bytes old new = (n : ℕ) × Makes old (appended path (take n bytes)) new

abbrev pub AppendsBy : {T : Type 0} → List ℕ → List ℕ → Option Story → Option Story → Result T DiskError → Type 0
AppendsBy path bytes old new (Ok value) = Makes old (appended path bytes) new
AppendsBy path bytes old new (Err e) = LeftBy (new ≡ old) (Allowed (no_file path) old × MakesFront path bytes old new) e

-- the same of an append, where a fault has made a front
abbrev pub Appends : {T : Type 0} → List ℕ → List ℕ → Seen → Seen → Result T DiskError → Type 0
Appends path bytes old new result = AppendsBy path bytes old.told new.told result

-- ---- which answer it is

abbrev pub RefusesBy : Option DiskError → DiskError → Type 0
RefusesBy refusal Fault = Unit {0}
RefusesBy refusal NoMemory = Unit {0}
RefusesBy refusal NotThere = refusal ≡ Some NotThere
RefusesBy refusal Exists = refusal ≡ Some Exists
RefusesBy refusal NoLinks = refusal ≡ Some NoLinks
RefusesBy refusal NotEmpty = refusal ≡ Some NotEmpty
RefusesBy refusal (Short found) = refusal ≡ Some (Short found)

abbrev pub AnswersBy : {T : Type 0} → Option DiskError → Result T DiskError → Type 0
AnswersBy refusal (Ok value) = refusal ≡ None
AnswersBy refusal (Err e) = RefusesBy refusal e

-- A fault and want of memory may come at any time. Else Ok comes exactly where nothing is refused, and each refusal exactly where it is this one.
abbrev pub Answers : {T : Type 0} → (State → Option DiskError) → Seen → Result T DiskError → Type 0
Answers refusal seen result = IfSome seen.told (λ story. AnswersBy (refusal (state_of story)) result)

abbrev pub TakesNoMemory : {T : Type 0} → Result T DiskError → Type 0
TakesNoMemory result = result ≡ Err NoMemory → ⊥

-- ---- the counts

abbrev pub Counted : Type 0 → Type 0 → DiskError → Type 0
Counted fault refused Fault = fault
Counted fault refused NotThere = refused
Counted fault refused Exists = refused
Counted fault refused NoLinks = refused
Counted fault refused NotEmpty = refused
Counted fault refused (Short found) = refused
Counted fault refused NoMemory = Unit {0}

abbrev pub HasRisen : Seen → Seen → DiskError → Type 0
HasRisen old new e = Counted (Rose old.faults new.faults) (Rose old.refusals new.refusals) e

pub record HasCause {T : Type 0} (old new : Seen) (result : Result T DiskError) : Type 0 where
  pub faults_later : old.faults ≤ new.faults
  pub refusals_later : old.refusals ≤ new.refusals
  pub counted : IfErr result (HasRisen old new)

-- the same of a call of a higher crate, which says which disk call was refused
pub record HasDiskCause {T : Type 0} (old new : Seen) (result : Result T DiskRefusal) : Type 0 where
  pub faults_later : old.faults ≤ new.faults
  pub refusals_later : old.refusals ≤ new.refusals
  pub counted : IfErr result (λ r. HasRisen old new r.why)
