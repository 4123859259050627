-- How the crate takes words apart: what its functions say to each other.
use Rattle.std.specs.Prelude.{◌≡◌, ◌≤◌, ℕ, true, false, List, [], ◌∷◌, length, take, drop, Option, Some, None, codes}
use Rattle.std.specs.Borrow.{Bor}
use Rattle.std.specs.List.{list_all}
use Rattle.std.specs.String.{string_bytes}
use Rattle.std.specs.declared.string.String.{String}
use Rattle.clap.specs.Words.{first_value, found_of}
use Rattle.clap.specs.declared.parser.matches.ArgMatches.{ArgMatches}
use Rattle.ldb_words.specs.Words.{Pair, asked_by, asked_with, options_of, behind_options, are_right, is_option, value_in}
use Rattle.ldb_words.specs.Reading.{texts}

-- the first option of words, and the words behind it
abbrev pub LeadsWith : {A : Type 0} → List (String A) → Option (Bor (List ℕ) × Bor (List ℕ) × Bor (List (String A))) → Type 0
LeadsWith words None = (options_of (texts words) ≡ []) × (behind_options (texts words) ≡ texts words)
LeadsWith {A} words (Some first) = (name : String A) × (value : String A) × (words ≡ name ∷ value ∷ first.2.now)
    × (first.0.now ≡ string_bytes name) × (first.1.now ≡ string_bytes value) × (is_option (string_bytes name) ≡ true)

-- the words of options
unfoldable pub spelled : List Pair → List (List ℕ)
spelled [] = []
spelled (option ∷ more) = option.0 ∷ option.1 ∷ spelled more

-- the options are right, and end at this place; none where they are not right
abbrev pub SplitsAt : {A : Type 0} → List (String A) → Option ℕ → Type 0
SplitsAt words None = are_right (options_of (texts words)) ≡ false
SplitsAt words (Some at) = (are_right (options_of (texts words)) ≡ true) × (at ≤ length words)
    × (texts (take at words) ≡ spelled (options_of (texts words)))
    × (texts (drop at words) ≡ behind_options (texts words))

-- the words are those of options that are right
pub record AreOptions (options : List Pair) (words : List (List ℕ)) : Type 0 where
  pub right : are_right options ≡ true
  pub named : list_all (λ option. is_option option.0) options ≡ true
  pub spelled : words ≡ spelled options

-- the matches have the values of the options, and of no other
pub record AreGiven (options : List Pair) (matches : ArgMatches) : Type 0 where
  pub disk : first_value (found_of matches) (codes "disk") ≡ value_in (codes "--disk") options
  pub backups : first_value (found_of matches) (codes "backups") ≡ value_in (codes "--backups") options
  pub db : first_value (found_of matches) (codes "db") ≡ value_in (codes "--db") options

-- the words of options and of a command, by which the words ask for something
abbrev pub SplitsInto : {A : Type 0} → List (String A) → Option (Bor (List (String A)) × Bor (List (String A))) → Type 0
SplitsInto words None = asked_by (texts words) ≡ None
SplitsInto words (Some parts) = AreOptions (options_of (texts words)) (texts parts.0.now)
    × (asked_by (texts words) ≡ asked_with (options_of (texts words)) (Some (texts parts.1.now)))
