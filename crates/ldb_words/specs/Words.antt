-- What the words of a command line ask for: options, and behind them a command.
use Rattle.std.specs.Prelude.{ℕ, Bool, true, ◌&&◌, ◌||◌, not, List, [], ◌∷◌, length, take, Option, Some, None, if◌then◌else◌, nat_lt, nat_le, codes, find}
use Rattle.std.specs.List.{list_all, list_any}
use Rattle.std.specs.Option.{option_map, unwrap_or}
use Rattle.std.specs.Str.{bytes_eq}
use Rattle.lsm_names.specs.Folders.{is_folder_name}

-- what is asked for: the roots of the two disks, the folder of the store, and the words of the command
pub record Asked : Type 0 where
  pub disk : List ℕ
  pub backups : List ℕ
  pub db : List ℕ
  pub command : List (List ℕ)

-- an option is its name and its value
abbrev pub Pair : Type 0
Pair = List ℕ × List ℕ

-- the names of options
unfoldable pub is_option : List ℕ → Bool
is_option word = bytes_eq word (codes "--disk") || (bytes_eq word (codes "--backups") || bytes_eq word (codes "--db"))

-- it begins with a hyphen
unfoldable pub is_hyphened : List ℕ → Bool
is_hyphened word = bytes_eq (take 1 word) (45 ∷ [])

-- a value has at least one byte, and doesn't begin with a hyphen
unfoldable pub is_value : List ℕ → Bool
is_value word = nat_lt 0 (length word) && not (is_hyphened word)

-- the folder of the store is named by a folder's name, a root by any value
unfoldable pub is_right : Pair → Bool
is_right option = is_value option.1 && (not (bytes_eq option.0 (codes "--db")) || is_folder_name option.1)

-- the options that words begin with
unfoldable pub options_of : List (List ℕ) → List Pair
options_of [] = []
options_of (name ∷ []) = []
options_of (name ∷ value ∷ more) = if is_option name then (name, value) ∷ options_of more else []

-- the words behind them
unfoldable pub behind_options : List (List ℕ) → List (List ℕ)
behind_options [] = []
behind_options (name ∷ []) = name ∷ []
behind_options (name ∷ value ∷ more) = if is_option name then behind_options more else name ∷ value ∷ more

-- an option of this name is among them
unfoldable pub is_given : List ℕ → List Pair → Bool
is_given name options = list_any (λ option. bytes_eq option.0 name) options

-- each is right, and none is given twice
unfoldable pub are_right : List Pair → Bool
are_right [] = true
are_right (option ∷ more) = is_right option && (not (is_given option.0 more) && are_right more)

-- the value of the option of this name
unfoldable pub value_in : List ℕ → List Pair → Option (List ℕ)
value_in name options = option_map (λ option. option.1) (find (λ option. bytes_eq option.0 name) options)

-- that, else what stands for it
abbrev pub value_of : List ℕ → List ℕ → List Pair → List ℕ
value_of name default options = unwrap_or (value_in name options) default

-- a printable byte that is no space: 0x21 to 0x7E
unfoldable pub is_printable : ℕ → Bool
is_printable byte = nat_le 33 byte && nat_le byte 126

-- a word of a command has at least one byte, and printable ones alone
unfoldable pub is_word : List ℕ → Bool
is_word word = nat_lt 0 (length word) && list_all is_printable word

-- one that doesn't begin with a hyphen
unfoldable pub is_plain_word : List ℕ → Bool
is_plain_word word = is_word word && not (is_hyphened word)

-- a command has at least one word
abbrev pub some_words : (List ℕ → Bool) → List (List ℕ) → Option (List (List ℕ))
some_words test [] = None
some_words test (word ∷ words) = if list_all test (word ∷ words) then Some (word ∷ words) else None

-- the command: none of its words begins with a hyphen, unless one word `--` stands before
unfoldable pub command_in : List (List ℕ) → Option (List (List ℕ))
command_in [] = None
command_in (word ∷ words) = if bytes_eq word (codes "--") then some_words is_word words else some_words is_plain_word (word ∷ words)

-- what options and a command ask for: a root or a folder that isn't given has its usual name
abbrev pub asked_with : List Pair → Option (List (List ℕ)) → Option Asked
asked_with options None = None
asked_with options (Some command) = Some (record {
  disk = value_of (codes "--disk") (codes "ldb_disk") options;
  backups = value_of (codes "--backups") (codes "ldb_backups") options;
  db = value_of (codes "--db") (codes "db") options;
  command = command;
})

-- What words ask for, where they are options, each given once at most, and a command; else none.
unfoldable pub asked_by : List (List ℕ) → Option Asked
asked_by words = if are_right (options_of words) then asked_with (options_of words) (command_in (behind_options words)) else None
