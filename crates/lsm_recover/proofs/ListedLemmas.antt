-- The least number among entries, one entry after another.
use Rattle.std.specs.Prelude.{◌≡◌, ◌≢◌, ℕ, ◌+◌, ◌<◌, ◌≤◌, true, false, nat_le, min, List, [], ◌∷◌, ◌++◌, length, drop, get_or, Option, Some, None, IfSome}
use Rattle.std.proofs.Common.{refl, sym, ap, subst, ◌∙◌, arith, append_assoc, append-nil}
use Rattle.std.proofs.lemmas.Bool.Decides.{nat_tests}
use Rattle.lsm_disk.specs.declared.listing.Entry.{Entry}
use Rattle.std.proofs.lemmas.List.{length-append}
use Rattle.lsm_names.specs.declared.file_names.FileName.{FileName}
use Rattle.lsm_names.specs.declared.file_names.FileName.TheVariants.{Manifest}
use Rattle.lsm_names.specs.FileNames.{spelled, IsFileName, is_file_number}
use Rattle.lsm_names.proofs.FileNameLemmas.{spelled_is_short}
use Rattle.lsm_folder.specs.Names.{name_of, current_text, manifest_in}
use Rattle.lsm_folder.proofs.NameLemmas.{name_again, name_only}
use Rattle.lsm_folder.proofs.CurrentLemmas.{no_manifest}
use Rattle.std.specs.List.{cons_option}
use Rattle.lsm_recover.specs.Listed.{log_in, lesser, next_log, names_in}
use Rattle.lsm_rows.proofs.Lists.{drop_here, drop_end}

min_both : (a b c : ℕ) → min (min a b) c ≡ min a (min b c)
min_both a b c = omega arith

lesser_both : (o p q : Option ℕ) → lesser (lesser o p) q ≡ lesser o (lesser p q)
lesser_both None p q = refl
lesser_both (Some a) None q = refl
lesser_both (Some a) (Some b) None = refl
lesser_both (Some a) (Some b) (Some c) = ap Some (min_both a b c)

lesser_none : (o : Option ℕ) → lesser o None ≡ o
lesser_none None = refl
lesser_none (Some a) = refl

-- what was found among the first entries, and what is still to come
abbrev pub found_with : ℕ → List Entry → Option ℕ → ℕ → Option ℕ
found_with least entries found i = lesser found (next_log least (drop i entries))

module _ (least : ℕ) (entries : List Entry) (i : ℕ) (found : Option ℕ) (before : found_with least entries found i ≡ next_log least entries) where
  pub found_more : (entry : Entry) (here next : Option ℕ) → i < length entries → entry ≡ get_or entries i entry → here ≡ log_in least entry → next ≡ lesser found here → found_with least entries next (i + 1) ≡ next_log least entries
  found_more entry here next there is log made =
      ap (λ (o : Option ℕ). lesser o (next_log least (drop (i + 1) entries))) (made ∙ ap (lesser found) log)
      ∙ lesser_both found (log_in least entry) (next_log least (drop (i + 1) entries))
      ∙ ap (λ (l : List Entry). lesser found (next_log least l)) (sym (drop_here entries i entry there is))
      ∙ before

  pub found_all : length entries ≤ i → found ≡ next_log least entries
  found_all all = sym (lesser_none found) ∙ ap (λ (l : List Entry). lesser found (next_log least l)) (sym (drop_end entries i all)) ∙ before

-- ---- the name that a text is

pub no_name : (text : List ℕ) → ((name : FileName) → IsFileName name → text ≢ spelled name) → name_of text ≡ None
no_name text none = by_name (name_of text) refl where
  by_name : (o : Option FileName) → name_of text ≡ o → name_of text ≡ None
  by_name None is = is
  by_name (Some name) is = let names = name_only text name is in absurd (none name names.fits names.is)

pub is_name : (text : List ℕ) (name : FileName) → IsFileName name → text ≡ spelled name → name_of text ≡ Some name
is_name text name fits is = ap name_of is ∙ name_again name fits

-- a text that is longer than any that CURRENT has names no manifest
pub too_long : (text : List ℕ) → 30 < length text → manifest_in text ≡ None
unfolding current_text
too_long text long = sym (no_manifest text (λ number fits is. short number fits (omega (arith, long, ap length is, length-append (spelled (Manifest number)) (10 ∷ []), spelled_is_short (Manifest number) fits)))) where
  short : (number : ℕ) → is_file_number number ≡ true → ⊥ → ⊥
  short number fits h = h

one_has : (P : ℕ → Type 0) (a b : ℕ) → P a → P b → P (min a b)
one_has P a b x y = elim (nat_le a b) as (λ t. nat_le a b ≡ t → P (min a b)) [
  | true ↦ λ le.
      let low : a ≤ b = grind (arith, nat_tests) in
      let same : a ≡ min a b = omega (arith, low) in
      subst P same x
  | false ↦ λ gt.
      let high : b ≤ a = grind (arith, nat_tests) in
      let same : b ≡ min a b = omega (arith, high) in
      subst P same y
] refl

both_have : (P : ℕ → Type 0) (o p : Option ℕ) → IfSome o P → IfSome p P → IfSome (lesser o p) P
both_have P None p x y = y
both_have P (Some a) None x y = x
both_have P (Some a) (Some b) x y = one_has P a b x y

-- what both have has the lesser
pub lesser_has : (P : ℕ → Type 0) (o p next : Option ℕ) → IfSome o P → IfSome p P → next ≡ lesser o p → IfSome next P
lesser_has P o p next has too is = subst (λ (x : Option ℕ). IfSome x P) (sym is) (both_have P o p has too)

-- ---- the names of files

one_name : (o : Option FileName) (names : List FileName) → cons_option o names ≡ cons_option o [] ++ names
one_name None names = refl
one_name (Some name) names = refl

-- the names of the entries from a place on, behind those that were found
abbrev pub names_with : List Entry → List FileName → ℕ → List FileName
names_with entries names i = names ++ names_in (drop i entries)

pub names_more : (entries : List Entry) (i : ℕ) (names next : List FileName) (entry : Entry) → names_with entries names i ≡ names_in entries → i < length entries → entry ≡ get_or entries i entry → next ≡ names ++ names_in (entry ∷ [])
    → names_with entries next (i + 1) ≡ names_in entries
names_more entries i names next entry before there is made =
    ap (λ (l : List FileName). l ++ names_in (drop (i + 1) entries)) made
    ∙ append_assoc names (names_in (entry ∷ [])) (names_in (drop (i + 1) entries))
    ∙ ap (λ (l : List FileName). names ++ l) (sym (one_name (name_of entry.name) (names_in (drop (i + 1) entries))))
    ∙ ap (λ (l : List Entry). names ++ names_in l) (sym (drop_here entries i entry there is))
    ∙ before

pub names_all : (entries : List Entry) (i : ℕ) (names : List FileName) → names_with entries names i ≡ names_in entries → length entries ≤ i → names ≡ names_in entries
names_all entries i names before all = sym (append-nil names) ∙ ap (λ (l : List Entry). names ++ names_in l) (sym (drop_end entries i all)) ∙ before
