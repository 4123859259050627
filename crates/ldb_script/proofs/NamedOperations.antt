-- How the operations of a line are read one by one.
use Rattle.std.specs.Prelude.{◌≡◌, ℕ, ◌+◌, ◌≤◌, Bool, true, false, List, [], ◌∷◌, ◌++◌, length, drop, Option, Some, None, codes, if◌then◌else◌}
use Rattle.std.specs.Str.{bytes_eq}
use Rattle.std.proofs.Common.{refl, sym, ap, ◌∙◌, arith, append_assoc, append-nil}
use Rattle.std.proofs.lemmas.List.{drop_all, drop-drop}
use Rattle.lsm_rows.specs.declared.operations.Op.{Op}
use Rattle.lsm_rows.specs.declared.operations.Op.TheVariants as ops
use Rattle.ldb_script.specs.Words.{bytes_of_word}
use Rattle.ldb_script.specs.Script.{a_put, a_delete, and_more, operations, first_operation, words_in}

-- operations before those that may follow
abbrev pub then_more : List Op → Option (List Op) → Option (List Op)
then_more done None = None
then_more done (Some more) = Some (done ++ more)

deleted : (key : Option (List ℕ)) (op : Op) → a_delete key ≡ Some op → words_in op ≡ 2
deleted None op is = absurd (cc)
deleted (Some key) (ops.Delete k) is = refl
deleted (Some key) (ops.Put k v) is = absurd (cc)

putted : (key value : Option (List ℕ)) (op : Op) → a_put key value ≡ Some op → words_in op ≡ 3
putted None value op is = absurd (cc)
putted (Some key) None op is = absurd (cc)
putted (Some key) (Some value) (ops.Put k v) is = refl
putted (Some key) (Some value) (ops.Delete k) is = absurd (cc)

-- the words that name an operation are there
module _ (verb key : List ℕ) (op : Op) where
  two : (b : Bool) → (if b then a_delete (bytes_of_word key) else None) ≡ Some op → words_in op ≡ 2
  two true is = deleted (bytes_of_word key) op is
  two false is = absurd (cc)

  three : (value : List ℕ) (b c : Bool) → (if b then a_delete (bytes_of_word key) else (if c then a_put (bytes_of_word key) (bytes_of_word value) else None)) ≡ Some op → words_in op ≤ 3
  three value true c is = omega (arith, deleted (bytes_of_word key) op is)
  three value false true is = omega (arith, putted (bytes_of_word key) (bytes_of_word value) op is)
  three value false false is = absurd (cc)

pub named_within : (words : List (List ℕ)) (op : Op) → first_operation words ≡ Some op → words_in op ≤ length words
named_within [] op is = absurd (cc)
named_within (verb ∷ []) op is = absurd (cc)
named_within (verb ∷ key ∷ []) op is = omega (arith, two verb key op (bytes_eq verb (codes "del")) is)
named_within (verb ∷ key ∷ value ∷ more) op is = omega (arith, three verb key op value (bytes_eq verb (codes "del")) (bytes_eq verb (codes "put")) is)

-- an operation takes some words
pub words_some : (op : Op) → 2 ≤ words_in op
words_some (ops.Put k v) = omega arith
words_some (ops.Delete k) = omega arith

-- reading goes on behind the first operation
module _ (verb key : List ℕ) (op : Op) where
  two_more : (b : Bool) → (if b then a_delete (bytes_of_word key) else None) ≡ Some op → (if b then and_more (a_delete (bytes_of_word key)) (Some []) else None) ≡ and_more (Some op) (operations (drop (words_in op) (verb ∷ key ∷ [])))
  unfolding operations
  two_more true is = ap (λ (o : Option Op). and_more o (Some [])) is ∙ sym (ap (λ (n : ℕ). and_more (Some op) (operations (drop n (verb ∷ key ∷ [])))) (deleted (bytes_of_word key) op is))
  two_more false is = absurd (cc)

  three_more : (value : List ℕ) (more : List (List ℕ)) (b c : Bool) → (if b then a_delete (bytes_of_word key) else (if c then a_put (bytes_of_word key) (bytes_of_word value) else None)) ≡ Some op
      → (if b then and_more (a_delete (bytes_of_word key)) (operations (value ∷ more)) else (if c then and_more (a_put (bytes_of_word key) (bytes_of_word value)) (operations more) else None))
      ≡ and_more (Some op) (operations (drop (words_in op) (verb ∷ key ∷ value ∷ more)))
  three_more value more true c is =
      ap (λ (o : Option Op). and_more o (operations (value ∷ more))) is ∙ sym (ap (λ (n : ℕ). and_more (Some op) (operations (drop n (verb ∷ key ∷ value ∷ more)))) (deleted (bytes_of_word key) op is))
  three_more value more false true is =
      ap (λ (o : Option Op). and_more o (operations more)) is ∙ sym (ap (λ (n : ℕ). and_more (Some op) (operations (drop n (verb ∷ key ∷ value ∷ more)))) (putted (bytes_of_word key) (bytes_of_word value) op is))
  three_more value more false false is = absurd (cc)

pub operations_step : (words : List (List ℕ)) (op : Op) → first_operation words ≡ Some op → operations words ≡ and_more (Some op) (operations (drop (words_in op) words))
unfolding operations
operations_step [] op is = absurd (cc)
operations_step (verb ∷ []) op is = absurd (cc)
operations_step (verb ∷ key ∷ []) op is = two_more verb key op (bytes_eq verb (codes "del")) is
operations_step (verb ∷ key ∷ value ∷ more) op is = three_more verb key op value more (bytes_eq verb (codes "del")) (bytes_eq verb (codes "put")) is

-- and stops where none stands
module _ (verb key : List ℕ) where
  two_none : (b : Bool) → (if b then a_delete (bytes_of_word key) else None) ≡ None → (if b then and_more (a_delete (bytes_of_word key)) (Some []) else None) ≡ None
  two_none true is = ap (λ (o : Option Op). and_more o (Some [])) is
  two_none false is = refl

  three_none : (value : List ℕ) (more : List (List ℕ)) (b c : Bool) → (if b then a_delete (bytes_of_word key) else (if c then a_put (bytes_of_word key) (bytes_of_word value) else None)) ≡ None
      → (if b then and_more (a_delete (bytes_of_word key)) (operations (value ∷ more)) else (if c then and_more (a_put (bytes_of_word key) (bytes_of_word value)) (operations more) else None)) ≡ None
  three_none value more true c is = ap (λ (o : Option Op). and_more o (operations (value ∷ more))) is
  three_none value more false true is = ap (λ (o : Option Op). and_more o (operations more)) is
  three_none value more false false is = refl

pub operations_stop : (words : List (List ℕ)) → 1 ≤ length words → first_operation words ≡ None → operations words ≡ None
unfolding operations
operations_stop [] some is = absurd (omega (arith, some))
operations_stop (verb ∷ []) some is = refl
operations_stop (verb ∷ key ∷ []) some is = two_none verb key (bytes_eq verb (codes "del")) is
operations_stop (verb ∷ key ∷ value ∷ more) some is = three_none verb key value more (bytes_eq verb (codes "del")) (bytes_eq verb (codes "put")) is

pub then_one : (done : List Op) (op : Op) (more : Option (List Op)) → then_more (done ++ op ∷ []) more ≡ then_more done (and_more (Some op) more)
then_one done op None = refl
then_one done op (Some more) = ap (λ (l : List Op). Some l) (append_assoc done (op ∷ []) more)

-- reading goes on, or stops, behind the operations that were read
module _ (words : List (List ℕ)) (done : List Op) (at : ℕ) (are : then_more done (operations (drop at words)) ≡ operations words) where
  pub reading_stops : 1 ≤ length (drop at words) → first_operation (drop at words) ≡ None → None ≡ operations words
  reading_stops some is = ap (then_more done) (sym (operations_stop (drop at words) some is)) ∙ are

  pub reading_over : length words ≤ at → Some done ≡ operations words
  unfolding operations
  reading_over over = ap (λ (l : List Op). Some l) (sym (append-nil done)) ∙ ap (λ (ws : List (List ℕ)). then_more done (operations ws)) (sym (drop_all at words over)) ∙ are

  pub reading_on : (op : Op) → first_operation (drop at words) ≡ Some op → then_more (done ++ op ∷ []) (operations (drop (at + words_in op) words)) ≡ operations words
  reading_on op is =
      then_one done op (operations (drop (at + words_in op) words))
      ∙ ap (λ (ws : List (List ℕ)). then_more done (and_more (Some op) (operations ws))) (sym (drop-drop (words_in op) at words))
      ∙ ap (then_more done) (sym (operations_step (drop at words) op is))
      ∙ are
