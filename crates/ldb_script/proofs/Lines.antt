-- How a line's parts tell what it asks for.
use Rattle.std.specs.Prelude.{◌≡◌, ℕ, ◌≤◌, Bool, true, false, cond, ◌&&◌, ◌==◌, List, [], ◌∷◌, length, map, Some, None}
use Rattle.std.proofs.Common.{sym, ap, ◌∙◌, arith, Bor}
use Rattle.std.specs.List.{slice_split, list_all}
use Rattle.ldb_script.specs.Words.{is_word, is_hexadecimal}
use Rattle.ldb_script.specs.Script.{is_blank, line_of_words, line_of}
use Rattle.ldb_script.specs.declared.line.Line.TheVariants.{Blank}
use Rattle.std.proofs.lemmas.List.Folds.{list_all-map}

-- a word that begins with `x:` has two bytes at least
pub hexadecimal_long : (word : List ℕ) → is_hexadecimal word ≡ true → 2 ≤ length word
unfolding is_hexadecimal
hexadecimal_long [] e = absurd (cc)
hexadecimal_long (b ∷ []) e = elim (b == 120) as (λ t. (t && false) ≡ true → 2 ≤ length (b ∷ [])) [ true ↦ λ f. absurd (cc) | false ↦ λ f. absurd (cc) ] e
hexadecimal_long (b ∷ c ∷ word) e = omega arith

chosen : (line : List ℕ) (parts : List (List ℕ)) → is_blank line ≡ false → slice_split (λ b. b == 32) line ≡ parts → (b : Bool) → list_all is_word parts ≡ b → line_of line ≡ cond b (line_of_words parts) None
unfolding line_of
chosen line parts some split b all =
    ap (λ t. cond t (Some Blank) (cond (list_all is_word (slice_split (λ b. b == 32) line)) (line_of_words (slice_split (λ b. b == 32) line)) None)) some
    ∙ ap (λ (ps : List (List ℕ)). cond (list_all is_word ps) (line_of_words ps) None) split
    ∙ ap (λ t. cond t (line_of_words parts) None) all

module _ (line : List ℕ) (words : List (Bor (List ℕ))) (some : is_blank line ≡ false) (split : map (λ (w : Bor (List ℕ)). w.now) words ≡ slice_split (λ b. b == 32) line) where
  -- each part is a word
  pub line_of_all : list_all (λ (w : Bor (List ℕ)). is_word w.now) words ≡ true → line_of_words (map (λ (w : Bor (List ℕ)). w.now) words) ≡ line_of line
  line_of_all all = sym (chosen line _ some (sym split) true (list_all-map is_word (λ (w : Bor (List ℕ)). w.now) words ∙ all))

  -- some part is none
  pub line_of_none : list_all (λ (w : Bor (List ℕ)). is_word w.now) words ≡ false → None ≡ line_of line
  line_of_none none = sym (chosen line _ some (sym split) false (list_all-map is_word (λ (w : Bor (List ℕ)). w.now) words ∙ none))
