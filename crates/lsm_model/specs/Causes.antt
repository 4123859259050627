-- What a store knows before it asks its disk: the refusals that it answers for that.
use Rattle.std.specs.Prelude.{ℕ, ◌+◌, ◌-◌, ◌^◌, Bool, true, false, ◌==◌, ◌||◌, not, nat_lt, nat_le, if◌then◌else◌, List, [], ◌∷◌, length, is_some, Option, Some, None}
use Rattle.std.specs.Str.{bytes_eq}
use Rattle.std.specs.Option.{option_map}
use Rattle.std.specs.List.{list_any}
use Rattle.lsm_names.specs.declared.file_names.FileName.{FileName}
use Rattle.lsm_names.specs.declared.file_names.FileName.TheVariants.{Log, Table, Manifest, Temp, Current}
use Rattle.lsm_model.specs.declared.errors.StoreError.{StoreError}
use Rattle.lsm_model.specs.declared.errors.StoreError.TheVariants as error
use Rattle.lsm_model.specs.declared.states.State.{State}
use Rattle.lsm_model.specs.declared.states.Pin.{Pin}
use Rattle.lsm_model.specs.declared.states.PinnedFile.{PinnedFile}
use Rattle.lsm_model.specs.States.{last_of, pin_of, built_by, folder_of}

-- the greatest sequence
abbrev pub last_sequence : ℕ
last_sequence = 2 ^ 56 - 1

-- what `next` is when no number is left
abbrev pub number_end : ℕ
number_end = 2 ^ 56 - 1

-- how many tables, pins and disables there may be
abbrev pub table_limit : ℕ
table_limit = 4096

abbrev pub pin_limit : ℕ
pin_limit = 64

abbrev pub disable_limit : ℕ
disable_limit = 1000000

-- a refusal where the test holds
abbrev pub refused_if : Bool → StoreError → Option StoreError
refused_if test refusal = if test then Some refusal else None

-- the first refusal of tests that are made one after another
abbrev pub first_of : List (Option StoreError) → Option StoreError
first_of [] = None
first_of (None ∷ tests) = first_of tests
first_of (Some refusal ∷ tests) = Some refusal

-- ---- pins, as the tests look at them

abbrev pub is_none : {A : Type 0} → Option A → Bool
is_none None = true
is_none (Some x) = false

-- the pin is there, and its caller's own
abbrev pub is_own : Option Pin → Bool
is_own None = false
is_own (Some pin) = is_none (built_by pin.holder)

-- the pin is there, and a checkpoint's
abbrev pub is_job : Option Pin → Bool
is_job None = false
is_job (Some pin) = is_some (built_by pin.holder)

-- the folder is this one
abbrev pub is_dir : List ℕ → Option (List ℕ) → Bool
is_dir dir None = false
is_dir dir (Some other) = bytes_eq other dir

-- some checkpoint of these pins builds the folder
abbrev pub builds : List ℕ → List Pin → Bool
builds dir pins = list_any (λ (pin : Pin). is_dir dir (built_by pin.holder)) pins

-- the pin's files
abbrev pub files_of : Option Pin → List PinnedFile
files_of None = []
files_of (Some pin) = pin.files

-- the names are the same
abbrev pub same_name : FileName → FileName → Bool
same_name (Log m) (Log n) = m == n
same_name (Table m) (Table n) = m == n
same_name (Manifest m) (Manifest n) = m == n
same_name (Temp m) (Temp n) = m == n
same_name Current Current = true
same_name a b = false

-- the bytes of the file of a name
abbrev pub file_in : FileName → List PinnedFile → Option (List ℕ)
file_in name [] = None
file_in name (file ∷ files) = if same_name file.name name then Some file.bytes else file_in name files

-- ---- the tests

-- an earlier disk call halted the store
abbrev pub halted : State → Option StoreError
halted s = option_map error.Halted s.halt

-- the sequences don't last for so many operations more
abbrev pub sequence_full : ℕ → State → Option StoreError
sequence_full count s = refused_if (nat_lt last_sequence (last_of s + count)) (error.SequenceFull (last_of s) count)

-- no file number is left
abbrev pub numbers_full : State → Option StoreError
numbers_full s = refused_if (nat_le number_end s.next) (error.NumbersFull s.next)

-- as many pins live as may
abbrev pub pins_full : State → Option StoreError
pins_full s = refused_if (nat_le pin_limit (length s.pins)) (error.PinsFull (length s.pins))

-- deletion is disabled as often as it may
abbrev pub disables_full : State → Option StoreError
disables_full s = refused_if (nat_le disable_limit s.disables) (error.DisablesFull s.disables)

-- deletion isn't disabled
abbrev pub not_disabled : State → Option StoreError
not_disabled s = refused_if (s.disables == 0) error.NotDisabled

-- no such pin lives
abbrev pub no_pin : ℕ → State → Option StoreError
no_pin pin s = refused_if (is_none (pin_of pin s.pins)) (error.NoSuchPin pin)

-- no such pin lives that is the caller's own
abbrev pub no_own_pin : ℕ → State → Option StoreError
no_own_pin pin s = refused_if (not (is_own (pin_of pin s.pins))) (error.NoSuchPin pin)

-- no such pin lives that is a checkpoint's
abbrev pub no_job : ℕ → State → Option StoreError
no_job pin s = refused_if (not (is_job (pin_of pin s.pins))) (error.NoSuchPin pin)

-- the pin doesn't list the name
abbrev pub not_in_pin : ℕ → FileName → State → Option StoreError
not_in_pin pin name s = refused_if (is_none (file_in name (files_of (pin_of pin s.pins)))) (error.NotInPin pin name)

-- a checkpoint of this open builds the folder
abbrev pub under_way : List ℕ → State → Option StoreError
under_way dir s = refused_if (builds dir s.pins) (error.UnderWay dir)

-- a name is taken exactly where it is the store's own or that of another folder
unfoldable pub is_taken : List ℕ → State → Bool
is_taken dir s = bytes_eq s.own dir || is_some (folder_of dir s.folders)
