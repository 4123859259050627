-- What words ask for, by their options and by their command.
use Rattle.std.proofs.Common.{◌≡◌, ◌∙◌, ◌+◌, ◌<◌, ◌≤◌, ℕ, Bool, true, false, ◌==◌, refl, sym, ap, subst, List, [], ◌∷◌, length, take, drop, get_or, Option, Some, None, Bor, true≢false, take_all}
use Rattle.std.proofs.lemmas.List.Folds.{list_all-map, list_all_at, list_all_more}
use Rattle.std.specs.List.{list_all}
use Rattle.std.specs.Option.{option_map, unwrap_or}
use Rattle.std.specs.String.{string_bytes}
use Rattle.std.specs.declared.string.String.{String}
use Rattle.std.specs.declared.result.Result.{Result}
use Rattle.std.specs.declared.result.Result.TheVariants.{Ok, Err}
use Rattle.ldb_words.specs.Words.{Asked, are_right, asked_by, asked_with, behind_options, command_in, options_of, some_words}
use Rattle.ldb_words.specs.Parts.{AreOptions, SplitsAt}
use Rattle.ldb_words.specs.Reading.{texts}
use Rattle.ldb_words.proofs.Splitting.{are_options}
use Rattle.ldb_words.specs.declared.reading.Asked.{Asked as Answer}
use Rattle.ldb_words.specs.declared.reading.WordsError.{WordsError}
use Rattle.ldb_words.specs.declared.reading.WordsError.TheVariants.{Usage, NoMemory}

-- ---- the words of a command

-- all words up to a place, of words as the caller has them
abbrev pub AllUpTo : {A : Type 0} → (List ℕ → Bool) → List (String A) → ℕ → Type 0
AllUpTo test words i = list_all (λ w. test (string_bytes w)) (take i words) ≡ true

pub all_more : {A : Type 0} (test : List ℕ → Bool) (words : List (String A)) (i : ℕ) (word : String A) → i < length words
    → word ≡ get_or words i word → test (string_bytes word) ≡ true
    → AllUpTo test words i → AllUpTo test words (i + 1)
all_more test words i word lt is passes before =
    list_all_more (λ w. test (string_bytes w)) words i word lt
    ∙ rw (before, ap (λ w. test (string_bytes w)) (sym is) ∙ passes) refl

pub one_fails : {A : Type 0} (test : List ℕ → Bool) (words : List (String A)) (i : ℕ) (word : String A) → i < length words
    → word ≡ get_or words i word → test (string_bytes word) ≡ false
    → None ≡ some_words test (texts words)
one_fails test words i word lt is fails =
    go words (list_all-map test string_bytes words
    ∙ list_all_at (λ w. test (string_bytes w)) words i word lt (ap (λ w. test (string_bytes w)) (sym is) ∙ fails))
  where
    go : {A : Type 0} (ws : List (String A)) → list_all test (texts ws) ≡ false → None ≡ some_words test (texts ws)
    go [] e = refl
    go (w ∷ ws) e = rw e refl

pub all_pass : {A : Type 0} (test : List ℕ → Bool) (words : List (String A)) (i : ℕ) → length words ≤ i → AllUpTo test words i
    → list_all test (texts words) ≡ true
all_pass test words i past all = list_all-map test string_bytes words
    ∙ ap (list_all (λ w. test (string_bytes w))) (sym (take_all i words past)) ∙ all

pub some_are_some : {A : Type 0} (test : List ℕ → Bool) (words : List (String A)) → (length words == 0) ≡ false
    → list_all test (texts words) ≡ true
    → Some (texts words) ≡ some_words test (texts words)
some_are_some test [] some all = absurd (true≢false some)
some_are_some test (w ∷ ws) some all = rw all refl

-- ---- what is asked

pub not_right : (words : List (List ℕ)) → are_right (options_of words) ≡ false → asked_by words ≡ None
unfolding asked_by
not_right words e = rw e refl

pub no_command : (words : List (List ℕ)) → are_right (options_of words) ≡ true → command_in (behind_options words) ≡ None
    → asked_by words ≡ None
unfolding asked_by
no_command words right none = rw (right, none) refl

pub asked_is : (words command : List (List ℕ)) → are_right (options_of words) ≡ true → command_in (behind_options words) ≡ Some command
    → asked_by words ≡ asked_with (options_of words) (Some command)
unfolding asked_by
asked_is words command right is = rw (right, is) refl

pub asked_so : (d e b f h g : List ℕ) (command : List (List ℕ)) → d ≡ e → b ≡ f → h ≡ g
    → ◌≡◌ {A = Option Asked} (Some (record { disk = d; backups = b; db = h; command = command }))
    (Some (record { disk = e; backups = f; db = g; command = command }))
asked_so d e b f h g command x y z = λ i. Some (record { disk = x i; backups = y i; db = z i; command = command })

abbrev is_asked : Option Asked → Bool
is_asked None = false
is_asked (Some asked) = true

pub asked≢none : (words command : List (List ℕ)) → asked_by words ≡ asked_with (options_of words) (Some command) → asked_by words ≡ None → ⊥
asked≢none words command is none = true≢false (ap is_asked (sym is ∙ none))

abbrev is_usage : Result Answer WordsError → Bool
is_usage (Err Usage) = true
is_usage (Err NoMemory) = false
is_usage (Ok answer) = false

pub memory≢usage : ◌≡◌ {A = Result Answer WordsError} (Err NoMemory) (Err Usage) → ⊥
memory≢usage e = true≢false (ap is_usage (sym e))

pub ok≢usage : (answer : Answer) → ◌≡◌ {A = Result Answer WordsError} (Ok answer) (Err Usage) → ⊥
ok≢usage answer e = true≢false (ap is_usage (sym e))

-- a text, or what stands for it
pub or_default : (o : Option (Bor (List ℕ))) (r d : Bor (List ℕ)) (given : Option (List ℕ)) → r ≡ unwrap_or o d
    → option_map (λ s. s.now) o ≡ given → r.now ≡ unwrap_or given d.now
or_default None r d given is same = ap (λ s. s.now) is ∙ ap (λ g. unwrap_or g d.now) same
or_default (Some s) r d given is same = ap (λ s. s.now) is ∙ ap (λ g. unwrap_or g d.now) same

-- the words of options, and those behind them, as they were split
pub record Parts {A : Type 0} (words options rest : List (String A)) : Type 0 where
  pub right : are_right (options_of (texts words)) ≡ true
  pub given : AreOptions (options_of (texts words)) (texts options)
  pub behind : texts rest ≡ behind_options (texts words)

pub parts_of : {A : Type 0} (words options rest : List (String A)) (at : ℕ) (found : Option ℕ) → SplitsAt words found
    → found ≡ Some at → options ≡ take at words → rest ≡ drop at words
    → Parts words options rest
parts_of words options rest at found splits is front back =
    let split = subst (SplitsAt words) is splits in record {
      right = split.0;
      given = are_options (texts words) (texts options) split.0 (ap texts front ∙ split.2);
      behind = ap texts back ∙ split.3;
    }

-- the command behind the options, where its words were read
pub command_is : {A : Type 0} (words options rest : List (String A)) (found read : Option (Bor (List (String A))))
    → Parts words options rest
    → option_map (λ (w : Bor (List (String A))). texts w.now) found ≡ command_in (texts rest) → found ≡ read
    → command_in (behind_options (texts words)) ≡ option_map (λ (w : Bor (List (String A))). texts w.now) read
command_is words options rest found read parts reads is =
    ap command_in (sym parts.behind) ∙ sym reads ∙ ap (option_map (λ w. texts w.now)) is
