-- A text is the spelling of at most one name, and `name_of` finds it.
use Rattle.std.specs.Prelude.{◌≡◌, ℕ, Bool, true, false, cond, ◌&&◌, List, [], ◌∷◌, ◌++◌, Some, None, codes}
use Rattle.std.proofs.Common.{refl, sym, ap, subst, ◌∙◌}
use Rattle.std.specs.List.{filter, find, list_all}
use Rattle.std.specs.Char.{is_ascii_digit}
use Rattle.std.specs.Str.{bytes_eq}
use Rattle.std.specs.Str.Parse.{digits_value}
use Rattle.std.proofs.lemmas.List.{append-nil, append_assoc}
use Rattle.std.proofs.lemmas.List.Elements.{filter-append}
use Rattle.std.proofs.lemmas.Slice.Eq.{bytes_eq-Decides}
use Rattle.lsm_names.specs.declared.file_names.FileName.{FileName}
use Rattle.lsm_names.specs.declared.file_names.FileName.TheVariants.{Log, Table, Manifest, Temp, Current}
use Rattle.lsm_names.specs.FileNames.{spelled, IsFileName, six_digits, is_file_number}
use Rattle.lsm_names.proofs.NumberLemmas.{padded_value}
use Rattle.lsm_names.proofs.FileNameLemmas.{file_number_fits, six_are_digits, spelled_injective}
use Rattle.lsm_folder.specs.Names.{digits_in, names_of, is_spelling, name_of, current_text, manifest_in}
use Rattle.std.proofs.lemmas.Option.{same_Some}
use Rattle.std.proofs.lemmas.Bool.{and_parts}

-- ---- the digits of a text

filter_all : {X : Type 0} (test : X → Bool) (xs : List X) → list_all test xs ≡ true → filter test xs ≡ xs
filter_all test [] h = refl
filter_all test (x ∷ xs) h =
    let parts = and_parts (test x) (list_all test xs) h in
    ap (λ (b : Bool). cond b (x ∷ filter test xs) (filter test xs)) parts.0
    ∙ ap (λ (l : List _). x ∷ l) (filter_all test xs parts.1)

-- digits between two texts that have none
digits_between : (before behind : List ℕ) (number : ℕ) → filter is_ascii_digit before ≡ [] → filter is_ascii_digit behind ≡ []
    → is_file_number number ≡ true
    → digits_in (before ++ (six_digits number ++ behind)) ≡ number
unfolding digits_in
digits_between before behind number none no_more fits =
    let six = six_digits number in
    ap (digits_value 10) (
    filter-append is_ascii_digit before (six ++ behind)
    ∙ ap (λ (l : List ℕ). l ++ filter is_ascii_digit (six ++ behind)) none
    ∙ filter-append is_ascii_digit six behind
    ∙ ap (λ (l : List ℕ). filter is_ascii_digit six ++ l) no_more
    ∙ append-nil (filter is_ascii_digit six)
    ∙ filter_all is_ascii_digit six (six_are_digits number fits)
    )
    ∙ padded_value 6 number (file_number_fits number fits)

-- ---- one text, one name

pub same_text : (text : List ℕ) → bytes_eq text text ≡ true
same_text text = (bytes_eq-Decides text text).1 refl

pub equal_texts : (left right : List ℕ) → bytes_eq left right ≡ true → left ≡ right
equal_texts left right = (bytes_eq-Decides left right).0

pub and_true : (a b : Bool) → a ≡ true → b ≡ true → (a && b) ≡ true
and_true a b p q = cc

-- a file's name, of which this is the spelling
pub record Spells (text : List ℕ) (name : FileName) : Type 0 where
  pub fits : IsFileName name
  pub is : text ≡ spelled name

numbered : (text : List ℕ) (number : ℕ) (name : FileName) → (is_file_number number && bytes_eq text (spelled name)) ≡ true
    → (is_file_number number ≡ true) × (text ≡ spelled name)
numbered text number name h =
    let parts = and_parts (is_file_number number) (bytes_eq text (spelled name)) h in
    (parts.0, equal_texts text (spelled name) parts.1)

spells : (text : List ℕ) (name : FileName) → is_spelling text name ≡ true → Spells text name
spells text (Log n) h = let is = numbered text n (Log n) h in record { fits = is.0; is = is.1 }
spells text (Table n) h = let is = numbered text n (Table n) h in record { fits = is.0; is = is.1 }
spells text (Manifest n) h = let is = numbered text n (Manifest n) h in record { fits = is.0; is = is.1 }
spells text (Temp n) h = let is = numbered text n (Temp n) h in record { fits = is.0; is = is.1 }
spells text Current h = record { fits = tt; is = equal_texts text (spelled Current) h }

spelled_is : (name : FileName) → IsFileName name → is_spelling (spelled name) name ≡ true
spelled_is (Log n) h = and_true (is_file_number n) _ h (same_text (spelled (Log n)))
spelled_is (Table n) h = and_true (is_file_number n) _ h (same_text (spelled (Table n)))
spelled_is (Manifest n) h = and_true (is_file_number n) _ h (same_text (spelled (Manifest n)))
spelled_is (Temp n) h = and_true (is_file_number n) _ h (same_text (spelled (Temp n)))
spelled_is Current h = same_text (spelled Current)

no_other : (name : FileName) → IsFileName name → (other : FileName) → is_spelling (spelled name) other ≡ true → other ≡ name
no_other name fits other h =
    let is = spells (spelled name) other h in
    spelled_injective other name is.fits fits (sym is.is)

-- ---- a search with one answer

module _ {X : Type 0} (test : X → Bool) where
  found_is : (xs : List X) (x : X) → find test xs ≡ Some x → test x ≡ true
  found_is [] x h = cc
  found_is (y ∷ xs) x h = elim (test y) as (λ b. test y ≡ b → cond b (Some y) (find test xs) ≡ Some x → test x ≡ true) [
    | true ↦ λ is e. subst (λ (z : X). test z ≡ true) (same_Some y x e) is
    | false ↦ λ is e. found_is xs x e
  ] refl h

  found_one : (x : X) → ((y : X) → test y ≡ true → y ≡ x) → test x ≡ true → (front back : List X)
      → find test (front ++ x ∷ back) ≡ Some x
  found_one x only is [] back = ap (λ (b : Bool). cond b (Some x) (find test back)) is
  found_one x only is (y ∷ front) back =
      elim (test y) as (λ b. test y ≡ b → cond b (Some y) (find test (front ++ x ∷ back)) ≡ Some x) [
        | true ↦ λ yes. ap Some (only y yes)
        | false ↦ λ other. found_one x only is front back
      ] refl

-- ---- names

found_name : (name : FileName) → IsFileName name → (front back : List FileName)
    → names_of (digits_in (spelled name)) ≡ front ++ name ∷ back → name_of (spelled name) ≡ Some name
unfolding name_of
found_name name fits front back is =
    ap (find (is_spelling (spelled name))) is
    ∙ found_one (is_spelling (spelled name)) name (no_other name fits) (spelled_is name fits) front back

-- a name's spelling gives the name
pub name_again : (name : FileName) → IsFileName name → name_of (spelled name) ≡ Some name
unfolding spelled
name_again (Log n) h =
    found_name (Log n) h [] (Table n ∷ Manifest n ∷ Temp n ∷ Current ∷ [])
    (ap names_of (digits_between [] (codes ".log") n refl refl h))
name_again (Table n) h =
    found_name (Table n) h (Log n ∷ []) (Manifest n ∷ Temp n ∷ Current ∷ [])
    (ap names_of (digits_between [] (codes ".sst") n refl refl h))
name_again (Manifest n) h = found_name (Manifest n) h (Log n ∷ Table n ∷ []) (Temp n ∷ Current ∷ [])
    (ap names_of (ap (λ (l : List ℕ). digits_in (codes "MANIFEST-" ++ l)) (sym (append-nil (six_digits n))) ∙ digits_between (codes "MANIFEST-") [] n refl refl h))
name_again (Temp n) h =
    found_name (Temp n) h (Log n ∷ Table n ∷ Manifest n ∷ []) (Current ∷ [])
    (ap names_of (digits_between [] (codes ".dbtmp") n refl refl h))
name_again Current h =
    let n = digits_in (spelled Current) in
    found_name Current h (Log n ∷ Table n ∷ Manifest n ∷ Temp n ∷ []) [] refl

-- only a name's spelling gives it
pub name_only : (text : List ℕ) (name : FileName) → name_of text ≡ Some name → Spells text name
unfolding name_of
name_only text name h = spells text name (found_is (is_spelling text) (names_of (digits_in text)) name h)

-- ---- what CURRENT holds

-- CURRENT's text for a manifest gives its number
pub manifest_again : (number : ℕ) → is_file_number number ≡ true → manifest_in (current_text number) ≡ Some number
unfolding manifest_in current_text spelled
manifest_again number fits =
    let text = current_text number in
    let is : digits_in text ≡ number =
    ap digits_in (append_assoc (codes "MANIFEST-") (six_digits number) (10 ∷ []))
    ∙ digits_between (codes "MANIFEST-") (10 ∷ []) number refl refl fits in
    ap (λ (n : ℕ). cond (is_file_number n && bytes_eq text (current_text n)) (Some n) None) is
    ∙ ap (λ (b : Bool). cond b (Some number) None) (and_true (is_file_number number) _ fits (same_text text))

-- only such a text gives a number
pub record NamesManifest (text : List ℕ) (number : ℕ) : Type 0 where
  pub fits : is_file_number number ≡ true
  pub is : text ≡ current_text number

pub manifest_only : (text : List ℕ) (number : ℕ) → manifest_in text ≡ Some number → NamesManifest text number
unfolding manifest_in
manifest_only text number h =
    let n = digits_in text in
    elim (is_file_number n && bytes_eq text (current_text n)) as (λ b. (is_file_number n && bytes_eq text (current_text n)) ≡ b → cond b (Some n) None ≡ Some number → NamesManifest text number) [
      | true ↦ λ is e.
          let parts = and_parts (is_file_number n) (bytes_eq text (current_text n)) is in
          subst (NamesManifest text) (same_Some n number e)
          (record { fits = parts.0; is = equal_texts text (current_text n) parts.1 })
      | false ↦ λ is e. cc
    ] refl h
