-- What is kept of shared files, line after line.
use Rattle.std.specs.Prelude.{◌≡◌, ℕ, ◌+◌, ◌-◌, ◌^◌, min, Bool, true, false, ◌==◌, cond, List, [], ◌∷◌, ◌++◌, Option, Some, None, option_map, Result, Ok, Err}
use Rattle.std.proofs.Common.{refl, sym, ap, subst, ◌∙◌, arith, get_or}
use Rattle.std.specs.BTreeMap.{BTreeMap, get, Updates}
use Rattle.std.specs.List.{find, count_by}
use Rattle.std.specs.Option.{option_or}
use Rattle.std.proofs.lemmas.Bool.{eqb-true, eqb-false}
use Rattle.std.proofs.lemmas.List.{append-nil}
use Rattle.std.proofs.lemmas.List.Elements.{All-append, All-cons, All-nil}
use Rattle.std.proofs.lemmas.List.Folds.{find-append}
use Rattle.std.proofs.lemmas.List.Sums.{sum_by-append, sum_by-cons}
use Rattle.lsm_names.specs.declared.shared_names.SharedName.{SharedName}
use Rattle.bk_shared.specs.declared.counting.SharedFile.{SharedFile}
use Rattle.bk_shared.specs.declared.errors.SharedError.{SharedError}
use Rattle.bk_shared.specs.declared.errors.SharedError.TheVariants.{SharedClash}
use Rattle.bk_shared.specs.declared.keys.Key.{Key}
use Rattle.bk_shared.specs.SharedLines.{SharedLine, is_name, is_of, crc_in, Agree, TellsClash}
use Rattle.bk_shared.specs.Keeping.{key_of, key_cmp, with_count, with_line, one_more, KeepsLines}
use Rattle.bk_shared.proofs.Names.{name_itself, names_equal, keys_equal}

-- ---- checksums and counts of lines behind others

first_or : (line next : Option SharedLine)
    → option_map (λ l. l.crc) (option_or line next) ≡ option_or (option_map (λ l. l.crc) line)
    (option_map (λ l. l.crc) next)
first_or None next = refl
first_or (Some line) next = refl

pub crc_joined : (name : SharedName) (lines more : List SharedLine)
    → crc_in name (lines ++ more) ≡ option_or (crc_in name lines) (crc_in name more)
crc_joined name lines more =
    ap (option_map (λ (l : SharedLine). l.crc)) (find-append (is_of name) lines more)
    ∙ first_or (find (is_of name) lines) (find (is_of name) more)

-- the first checksum stays the first
pub crc_stays : (name : SharedName) (lines more : List SharedLine) (crc : ℕ) → crc_in name lines ≡ Some crc
    → crc_in name (lines ++ more) ≡ Some crc
crc_stays name lines more crc there = crc_joined name lines more
    ∙ ap (λ (o : Option ℕ). option_or o (crc_in name more)) there

pub crc_begins : (name : SharedName) (lines more : List SharedLine) → crc_in name lines ≡ None
    → crc_in name (lines ++ more) ≡ crc_in name more
crc_begins name lines more none = crc_joined name lines more ∙ ap (λ (o : Option ℕ). option_or o (crc_in name more)) none

or_nothing : (crc : Option ℕ) → option_or crc None ≡ crc
or_nothing None = refl
or_nothing (Some crc) = refl

pub crc_alone : (name : SharedName) (line : SharedLine) (is : Bool) → is_of name line ≡ is
    → crc_in name (line ∷ []) ≡ cond is (Some line.crc) None
crc_alone name line true is = rw is refl
crc_alone name line false is = rw is refl

crc_other : (name : SharedName) (lines : List SharedLine) (line : SharedLine) → is_of name line ≡ false
    → crc_in name (lines ++ line ∷ []) ≡ crc_in name lines
crc_other name lines line other =
    crc_joined name lines (line ∷ []) ∙ ap (option_or (crc_in name lines)) (crc_alone name line false other)
    ∙ or_nothing (crc_in name lines)

count_pushed : (name : SharedName) (lines : List SharedLine) (line : SharedLine) (is : Bool) → is_of name line ≡ is →
    count_by (is_of name) (lines ++ line ∷ []) ≡ count_by (is_of name) lines + cond is 1 0
count_pushed name lines line is same =
    let parts : count_by (is_of name) (lines ++ line ∷ [])
    ≡ count_by (is_of name) lines + (0 + cond (is_of name line) 1 0) =
    sum_by-append (λ (l : SharedLine). cond (is_of name l) 1 0) lines (line ∷ []) in
    parts ∙ by is (is_of name line) same (count_by (is_of name) lines) where
      by : (is test : Bool) → test ≡ is → (n : ℕ) → n + (0 + cond test 1 0) ≡ n + cond is 1 0
      by is test same n = rw same (omega arith)

-- a file without a checksum has no lines
pub none_counted : (name : SharedName) (lines : List SharedLine) → crc_in name lines ≡ None
    → count_by (is_of name) lines ≡ 0
none_counted name [] none = refl
none_counted name (line ∷ lines) none =
    sum_by-cons (λ (l : SharedLine). cond (is_of name l) 1 0) line lines
    ∙ by (is_of name line) (find (is_of name) lines) (count_by (is_of name) lines) none
    (λ rest. none_counted name lines rest) where
      by : (is : Bool) (found : Option SharedLine) (count : ℕ) → option_map (λ l. l.crc) (cond is (Some line) found) ≡ None
          → (option_map (λ l. l.crc) found ≡ None → count ≡ 0) → cond is 1 0 + count ≡ 0
      by true found count none rest = absurd (cc)
      by false found count none rest = omega (arith, rest none)

-- ---- one line more

abbrev pub and_line : List SharedLine → SharedName → ℕ → List SharedLine
and_line lines name crc = lines ++ record { name = name; crc = crc } ∷ []

abbrev pub kept_of : SharedName → List SharedLine → Option SharedFile
kept_of name lines = with_count (min (count_by (is_of name) lines) (2 ^ 32 - 1)) (crc_in name lines)

-- what is kept of the line's file, by the checksum that it had
kept_more : (name : SharedName) (lines : List SharedLine) (crc : ℕ) (file : SharedFile) (first : Option ℕ)
    → crc_in name lines ≡ first
    → with_line (with_count (min (count_by (is_of name) lines) (2 ^ 32 - 1)) first) name crc ≡ Ok file
    → (kept_of name (and_line lines name crc) ≡ Some file) × (crc_in name (and_line lines name crc) ≡ Some crc)
kept_more name lines crc file None none is =
    let line : SharedLine = record { name = name; crc = crc } in
    let sum : crc_in name (and_line lines name crc) ≡ Some crc = crc_begins name lines (line ∷ []) none
    ∙ crc_alone name line true (name_itself name) in
    let count : count_by (is_of name) (and_line lines name crc) ≡ 1 =
    count_pushed name lines line true (name_itself name) ∙ ap (λ (n : ℕ). n + 1) (none_counted name lines none) in
    ((λ i. with_count (min (count i) (2 ^ 32 - 1)) (sum i)) ∙ ok_is (record { crc = crc; count = 1 }) file is, sum) where
      ok_is : (x y : SharedFile) → ◌≡◌ {A = Result SharedFile SharedError} (Ok x) (Ok y) → Some x ≡ Some y
      ok_is x y same = cc
kept_more name lines crc file (Some old) there is =
    by (old == crc) refl is where
      count : count_by (is_of name) (and_line lines name crc) ≡ count_by (is_of name) lines + 1
      count = count_pushed name lines (record { name = name; crc = crc }) true (name_itself name)

      capped : (n : ℕ) → min (n + 1) (2 ^ 32 - 1) ≡ one_more (min n (2 ^ 32 - 1))
      capped n = omega arith

      sum : crc_in name (and_line lines name crc) ≡ Some old
      sum = crc_stays name lines (record { name = name; crc = crc } ∷ []) old there

      by : (same : Bool) → (old == crc) ≡ same
          → cond {A = Result SharedFile SharedError} same
          (Ok (record { crc = crc; count = one_more (min (count_by (is_of name) lines) (2 ^ 32 - 1)) }))
          (Err (SharedClash name old crc)) ≡ Ok file
          → (kept_of name (and_line lines name crc) ≡ Some file) × (crc_in name (and_line lines name crc) ≡ Some crc)
      by true same is =
          let is_old : old ≡ crc = eqb-true old crc same in (
            (λ i. with_count (min (count i) (2 ^ 32 - 1)) (sum i))
                ∙ (λ i. Some (record { crc = is_old i; count = capped (count_by (is_of name) lines) i }))
                ∙ ok_is (record { crc = crc; count = one_more (min (count_by (is_of name) lines) (2 ^ 32 - 1)) }) file is,
            sum ∙ ap (λ (n : ℕ). Some n) is_old,
          ) where
            ok_is : (x y : SharedFile) → ◌≡◌ {A = Result SharedFile SharedError} (Ok x) (Ok y) → Some x ≡ Some y
            ok_is x y same = cc
      by false same is = absurd (cc)

-- the other files stay as they are
kept_other : (name other : SharedName) (lines : List SharedLine) (crc : ℕ) → is_name name other ≡ false
    → kept_of other (and_line lines name crc) ≡ kept_of other lines
kept_other name other lines crc apart =
    let line : SharedLine = record { name = name; crc = crc } in
    let count : count_by (is_of other) (and_line lines name crc)
    ≡ count_by (is_of other) lines = count_pushed other lines line false apart ∙ plus_none (count_by (is_of other) lines) in
    λ i. with_count (min (count i) (2 ^ 32 - 1)) (crc_other other lines line apart i) where
      plus_none : (n : ℕ) → n + 0 ≡ n
      plus_none n = omega arith

module _ (lines : List SharedLine) (files : BTreeMap Key SharedFile) (name : SharedName) (crc : ℕ)
    (holds : KeepsLines lines files) where
  -- with one line more, whose checksum is its file's
  pub line_held : (new : BTreeMap Key SharedFile) (file : SharedFile)
      → with_line (get key_cmp files (key_of name)) name crc ≡ Ok file
      → Updates key_cmp files new (key_of name) (Some file) → KeepsLines (and_line lines name crc) new
  unfolding Agree
  line_held new file is updates = record {
    kept = λ other. updates.0 (key_of other)
        ∙ ap (λ (b : Bool). cond b (Some file) (get key_cmp files (key_of other))) (keys_equal name other)
        ∙ by other (is_name name other) refl;
    agree = All-append given lines (record { name = name; crc = crc } ∷ [])
        (λ k d within. crc_stays (get_or lines k d).name lines (record { name = name; crc = crc } ∷ [])
        (get_or lines k d).crc (holds.agree k d within))
        (All-cons given (record { name = name; crc = crc }) [] added.1 (All-nil given));
  } where
    given : SharedLine → Type 0
    given line = crc_in line.name (and_line lines name crc) ≡ Some line.crc

    added : (kept_of name (and_line lines name crc) ≡ Some file) × (crc_in name (and_line lines name crc) ≡ Some crc)
    added = kept_more name lines crc file (crc_in name lines) refl
        (ap (λ (o : Option SharedFile). with_line o name crc) (sym (holds.kept name)) ∙ is)

    by : (other : SharedName) (same : Bool) → is_name name other ≡ same
        → cond same (Some file) (get key_cmp files (key_of other)) ≡ kept_of other (and_line lines name crc)
    by other true same = sym added.0
        ∙ ap (λ (n : SharedName). kept_of n (and_line lines name crc)) (names_equal name other same)
    by other false apart = holds.kept other ∙ sym (kept_other name other lines crc apart)

  -- the line gives its file another checksum
  pub line_clashes : (error : SharedError) → with_line (get key_cmp files (key_of name)) name crc ≡ Err error
      → TellsClash (and_line lines name crc) error
  line_clashes error is =
      by_first (crc_in name lines) refl
      (ap (λ (o : Option SharedFile). with_line o name crc) (sym (holds.kept name)) ∙ is) where
        told : (old : ℕ) → crc_in name lines ≡ Some old → (same : Bool) → (old == crc) ≡ same
            → cond {A = Result SharedFile SharedError} same
            (Ok (record { crc = crc; count = one_more (min (count_by (is_of name) lines) (2 ^ 32 - 1)) }))
            (Err (SharedClash name old crc)) ≡ Err error
            → TellsClash (and_line lines name crc) error
        told old there true same is = absurd (cc)
        told old there false apart is =
            subst (TellsClash (and_line lines name crc)) (err_is (SharedClash name old crc) error is)
            (record {
              before = lines;
              behind = [];
              stands = refl;
              agreed = holds.agree;
              first = there;
              differs =
                  eqb-false old crc apart;
            }) where
              err_is : (x y : SharedError) → ◌≡◌ {A = Result SharedFile SharedError} (Err x) (Err y) → x ≡ y
              err_is x y same = cc

        by_first : (first : Option ℕ) → crc_in name lines ≡ first
            → with_line (with_count (min (count_by (is_of name) lines) (2 ^ 32 - 1)) first) name crc ≡ Err error
            → TellsClash (and_line lines name crc) error
        by_first None none is = absurd (cc)
        by_first (Some old) there is = told old there (old == crc) refl is

-- no line more
pub nothing_held : (lines : List SharedLine) (files : BTreeMap Key SharedFile) → KeepsLines lines files
    → KeepsLines (lines ++ []) files
nothing_held lines files holds = subst (λ (l : List SharedLine). KeepsLines l files) (sym (append-nil lines)) holds
