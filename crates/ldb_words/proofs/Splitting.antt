-- Words split behind their options.
use Rattle.std.proofs.Common.{◌≡◌, ◌∙◌, ◌+◌, ℕ, Bool, true, false, cond, ◌&&◌, ◌||◌, not, refl, sym, ap, arith, List, [], ◌∷◌, ◌++◌, length, take, drop, Some, None, codes, append-nil, append_assoc, true≢false}
use Rattle.std.proofs.lemmas.Bool.{and_parts}
use Rattle.std.proofs.lemmas.List.{drop_at, length-append, map-append, take_at}
use Rattle.std.specs.List.{find, list_all}
use Rattle.std.specs.Option.{option_map, unwrap_or}
use Rattle.std.specs.Str.{bytes_eq}
use Rattle.std.specs.String.{string_bytes}
use Rattle.std.specs.declared.string.String.{String}
use Rattle.lsm_names.specs.Folders.{is_folder_byte, is_folder_name, is_small_letter_or_digit}
use Rattle.ldb_words.specs.Words.{Pair, are_right, behind_options, is_given, is_option, is_right, options_of, value_in, value_of}
use Rattle.ldb_words.specs.Parts.{AreOptions, LeadsWith, SplitsAt, spelled}
use Rattle.ldb_words.specs.Reading.{texts}

-- no words, and one word, begin with no option
pub none_in_none : {A : Type 0} (words : List (String A)) → length words ≡ 0 → LeadsWith words None
unfolding options_of behind_options
none_in_none [] e = (refl, refl)
none_in_none (word ∷ words) e = absurd (omega arith)

pub none_in_one : {A : Type 0} (words rest : List (String A)) (name : String A) → words ≡ name ∷ rest → length rest ≡ 0
    → LeadsWith words None
unfolding options_of behind_options
none_in_one words [] name e none = rw e (refl, refl)
none_in_one words (word ∷ rest) name e none = absurd (omega arith)

-- nor do two words of which the first names none
pub none_in_more : {A : Type 0} (words more : List (String A)) (name value : String A) → words ≡ name ∷ value ∷ more
    → is_option (string_bytes name) ≡ false
    → LeadsWith words None
unfolding options_of behind_options
none_in_more words more name value e none = rw (e, none) (refl, refl)

-- the options and the words behind them, where the first option is there
pub options_more : {A : Type 0} (words more : List (String A)) (name value : String A) → words ≡ name ∷ value ∷ more
    → is_option (string_bytes name) ≡ true
    → options_of (texts words) ≡ (string_bytes name, string_bytes value) ∷ options_of (texts more)
unfolding options_of
options_more words more name value e is = rw (e, is) refl

pub behind_more : {A : Type 0} (words more : List (String A)) (name value : String A) → words ≡ name ∷ value ∷ more
    → is_option (string_bytes name) ≡ true
    → behind_options (texts words) ≡ behind_options (texts more)
unfolding behind_options
behind_more words more name value e is = rw (e, is) refl

-- what a walk over the options of words has passed, and what is left
pub record Passed {A : Type 0} (words rest : List (String A)) : Type 0 where
  pub done : List (String A)
  pub split : words ≡ done ++ rest
  pub right : are_right (options_of (texts rest)) ≡ are_right (options_of (texts words))
  pub behind : behind_options (texts rest) ≡ behind_options (texts words)
  pub spelled : texts done ++ spelled (options_of (texts rest)) ≡ spelled (options_of (texts words))

pub passed_none : {A : Type 0} (words : List (String A)) → Passed words words
passed_none words = record { done = []; split = refl; right = refl; behind = refl; spelled = refl }

right_more : (o : Pair) (os : List Pair) → is_right o ≡ true → is_given o.0 os ≡ false → are_right (o ∷ os) ≡ are_right os
unfolding are_right
right_more o os right new = rw (right, new) refl

pub passed_more : {A : Type 0} (words rest more : List (String A)) (name value : String A) → Passed words rest
    → rest ≡ name ∷ value ∷ more → is_option (string_bytes name) ≡ true
    → is_right (string_bytes name, string_bytes value) ≡ true → is_given (string_bytes name) (options_of (texts more)) ≡ false
    → Passed words more
unfolding spelled
passed_more words rest more name value passed is named right new =
    let options = options_more rest more name value is named in record {
      done = passed.done ++ name ∷ value ∷ [];
      split = passed.split ∙ ap (λ r. passed.done ++ r) is ∙ sym (append_assoc passed.done (name ∷ value ∷ []) more);
      right = sym (right_more (string_bytes name, string_bytes value) (options_of (texts more)) right new)
          ∙ ap are_right (sym options) ∙ passed.right;
      behind = sym (behind_more rest more name value is named) ∙ passed.behind;
      spelled = ap (λ t. t ++ spelled (options_of (texts more))) (map-append string_bytes passed.done (name ∷ value ∷ []))
          ∙ append_assoc (texts passed.done) (string_bytes name ∷ string_bytes value ∷ []) (spelled (options_of (texts more)))
          ∙ ap (λ os. texts passed.done ++ spelled os) (sym options) ∙ passed.spelled;
    }

-- an option that is wrong, or is given again
pub wrong_more : {A : Type 0} (words rest more : List (String A)) (name value : String A) → Passed words rest
    → rest ≡ name ∷ value ∷ more → is_option (string_bytes name) ≡ true
    → (is_right (string_bytes name, string_bytes value) && not (is_given (string_bytes name) (options_of (texts more)))) ≡ false
    → are_right (options_of (texts words)) ≡ false
unfolding are_right
wrong_more words rest more name value passed is named wrong =
    sym passed.right ∙ ap are_right (options_more rest more name value is named)
    ∙ go (is_right (string_bytes name, string_bytes value)) (is_given (string_bytes name) (options_of (texts more))) wrong
  where
    go : (a b : Bool) → (a && not b) ≡ false → (a && (not b && are_right (options_of (texts more)))) ≡ false
    go false b e = refl
    go true true e = refl
    go true false e = absurd (true≢false e)

-- all options are passed
pub all_passed : {A : Type 0} (words rest : List (String A)) (n : ℕ) → Passed words rest → LeadsWith rest None
    → n + length rest ≡ length words → SplitsAt words (Some n)
unfolding spelled are_right
all_passed words rest n passed none count =
    let len : length passed.done ≡ n = omega (arith, ap length passed.split, length-append passed.done rest) in
    let front : take n words ≡ passed.done = ap (take n) passed.split ∙ take_at passed.done rest n len in
    let back : drop n words ≡ rest = ap (drop n) passed.split ∙ drop_at passed.done rest n len in (
      sym passed.right ∙ ap are_right none.0,
      omega (arith, count),
      ap texts front ∙ sym (append-nil (texts passed.done)) ∙ ap (λ os. texts passed.done ++ spelled os) (sym none.0) ∙ passed.spelled,
      ap texts back ∙ sym none.1 ∙ passed.behind,
    )

-- each option that words begin with is named so
all_named : (words : List (List ℕ)) → list_all (λ (o : Pair). is_option o.0) (options_of words) ≡ true
unfolding options_of
all_named [] = refl
all_named (name ∷ []) = refl
all_named (name ∷ value ∷ more) = go (is_option name) refl (all_named more)
  where
    go : (b : Bool) → is_option name ≡ b → list_all (λ (o : Pair). is_option o.0) (options_of more) ≡ true
        → list_all (λ (o : Pair). is_option o.0) (cond b ((name, value) ∷ options_of more) []) ≡ true
    go true e rest = rw (e, rest) refl
    go false e rest = refl

pub are_options : (words part : List (List ℕ)) → are_right (options_of words) ≡ true → part ≡ spelled (options_of words)
    → AreOptions (options_of words) part
are_options words part right is = record { right = right; named = all_named words; spelled = is }

-- the folder that right options name is a folder's name
db_is_a_name : is_folder_name (codes "db") ≡ true
unfolding is_folder_name is_folder_byte is_small_letter_or_digit
db_is_a_name = refl

pub folder_is_right : (os : List Pair) → are_right os ≡ true → is_folder_name (value_of (codes "--db") (codes "db") os) ≡ true
unfolding are_right is_right value_in
folder_is_right [] right = db_is_a_name
folder_is_right (o ∷ os) right =
    let parts = and_parts (is_right o) _ right in
    let rest = and_parts (not (is_given o.0 os)) (are_right os) parts.1 in
    go (bytes_eq o.0 (codes "--db")) (and_parts _ _ parts.0).1 (folder_is_right os rest.1)
  where
    go : (b : Bool) → (not b || is_folder_name o.1) ≡ true → is_folder_name (value_of (codes "--db") (codes "db") os) ≡ true
        → is_folder_name (unwrap_or (option_map (λ p. p.1) (cond b (Some o) (find (λ p. bytes_eq p.0 (codes "--db")) os))) (codes "db")) ≡ true
    go true folder rest = folder
    go false folder rest = rest

-- an option is wrong, or given again
pub wrong_value : (a b : Bool) → a ≡ false → (a && not b) ≡ false
wrong_value true b e = absurd (true≢false e)
wrong_value false b e = refl

pub given_again : (a b : Bool) → b ≡ true → (a && not b) ≡ false
given_again false b e = refl
given_again true true e = refl
given_again true false e = absurd (true≢false (sym e))

-- the first option has this name, or another one
pub given_here : {A : Type 0} (words more : List (String A)) (n v : String A) → words ≡ n ∷ v ∷ more → is_option (string_bytes n) ≡ true
    → (first name : List ℕ) → first ≡ string_bytes n → bytes_eq first name ≡ true → true ≡ is_given name (options_of (texts words))
unfolding is_given
given_here words more n v split named first name is hit =
    let same : bytes_eq (string_bytes n) name ≡ true = ap (λ t. bytes_eq t name) (sym is) ∙ hit in
    sym (ap (is_given name) (options_more words more n v split named) ∙ ap (λ t. t || is_given name (options_of (texts more))) same)

pub given_later : {A : Type 0} (words more : List (String A)) (n v : String A) → words ≡ n ∷ v ∷ more → is_option (string_bytes n) ≡ true
    → (first name : List ℕ) → first ≡ string_bytes n → bytes_eq first name ≡ false
    → is_given name (options_of (texts more)) ≡ is_given name (options_of (texts words))
unfolding is_given
given_later words more n v split named first name is miss =
    let other : bytes_eq (string_bytes n) name ≡ false = ap (λ t. bytes_eq t name) (sym is) ∙ miss in
    sym (ap (is_given name) (options_more words more n v split named) ∙ ap (λ t. t || is_given name (options_of (texts more))) other)

pub given_none : (name : List ℕ) (os : List Pair) → os ≡ [] → false ≡ is_given name os
unfolding is_given
given_none name os none = rw none refl
