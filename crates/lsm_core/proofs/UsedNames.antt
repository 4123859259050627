-- Which names are used: needed, held by a pin, or being written.
use Rattle.std.specs.Prelude.{◌≡◌, ◌≢◌, ◌⊎◌, ◌↔◌, ℕ, ◌==◌, nat_le, ◌+◌, ◌<◌, ◌≤◌, Bool, true, false, cond, ◌||◌, is_some, List, [], ◌∷◌, ◌++◌, map, length, Contains, Option, Some, None}
use Rattle.std.specs.List.{list_any, flat_map}
use Rattle.std.specs.FinMap as finmap
use Rattle.std.proofs.Common.{zero, suc, inl, inr, ⊎_elim, refl, sym, ap, subst, ◌∙◌, arith}
use Rattle.std.proofs.lemmas.Bool.Decides.{nat_tests}
use Rattle.std.proofs.lemmas.List.Elements.{Contains-append_left, Contains-append_right, Contains-append_cases}
use Rattle.lsm_names.specs.declared.file_names.FileName.{FileName}
use Rattle.lsm_names.specs.declared.file_names.FileName.TheVariants as name
use Rattle.lsm_model.specs.Causes.{same_name}
use Rattle.lsm_model.specs.Pins.{listed}
use Rattle.lsm_model.specs.declared.cuts.CutFile.{CutFile}
use Rattle.lsm_refine.specs.Calls.{lists_name}
use Rattle.lsm_refine.specs.Kept.{KeptPin, Unfinished, Kept}
use Rattle.lsm_refine.specs.Sane.{IsNeeded, IsHeld, names_held}
use Rattle.lsm_refine.specs.Obsolete.{unfinished_names}
use Rattle.lsm_core.specs.Obsolete.{written_table, deleting, are_holding, is_writing, is_needed, is_used}

-- ---- lists

either : (b rest : Bool) → (b || rest) ≡ cond b true rest
either true rest = refl
either false rest = refl

pub are_listed : (n : FileName) (files : List CutFile)
    → list_any (λ (file : CutFile). same_name file.name n) files ≡ lists_name n (map listed files)
are_listed n [] = refl
are_listed n (file ∷ files) =
    ap (λ (rest : Bool). same_name file.name n || rest) (are_listed n files)
    ∙ either (same_name file.name n) (lists_name n (map listed files))

pub cons_cases : {A : Type 0} (first : A) (more : List A) (x : A) → Contains (first ∷ more) x → (first ≡ x) ⊎ Contains more x
cons_cases first more x among = ⊎_elim (λ here. inl (alone here)) (λ later. inr later) (Contains-append_cases (first ∷ []) more x among)
  where
    alone : Contains (first ∷ []) x → first ≡ x
    alone (zero, within, is) = is
    alone (suc k, within, is) = absurd (omega arith)

pub first_among : {A : Type 0} (x : A) (more : List A) → Contains (x ∷ more) x
first_among x more = (0, omega arith, refl)

pub later_among : {A : Type 0} (first : A) (more : List A) (x : A) → Contains more x → Contains (first ∷ more) x
later_among first more x among = Contains-append_right (first ∷ []) more x among

pub nothing_among : {A : Type 0} (x : A) → ¬ Contains [] x
nothing_among x (k, within, is) = omega arith

-- ---- names

same_number : (m n : ℕ) → (m == n) ≡ true → m ≡ n
same_number m n test = grind (arith, nat_tests)

number_itself : (n : ℕ) → (n == n) ≡ true
number_itself n = grind (arith, nat_tests)

pub is_same_name : (a b : FileName) → same_name a b ≡ true → a ≡ b
is_same_name (name.Log m) (name.Log n) test = ap name.Log (same_number m n test)
is_same_name (name.Table m) (name.Table n) test = ap name.Table (same_number m n test)
is_same_name (name.Manifest m) (name.Manifest n) test = ap name.Manifest (same_number m n test)
is_same_name (name.Temp m) (name.Temp n) test = ap name.Temp (same_number m n test)
is_same_name name.Current name.Current test = refl
is_same_name a b test = absurd (cc)

pub name_itself : (a : FileName) → same_name a a ≡ true
name_itself (name.Log n) = number_itself n
name_itself (name.Table n) = number_itself n
name_itself (name.Manifest n) = number_itself n
name_itself (name.Temp n) = number_itself n
name_itself name.Current = refl

-- ---- pins

module _ (n : FileName) where
  in_pin : (files : List (FileName × ℕ)) → lists_name n files ≡ true → Contains (map (λ (file : FileName × ℕ). file.0) files) n
  in_pin [] lists = absurd (cc)
  in_pin (file ∷ files) lists =
      elim (same_name file.0 n) as (λ b. same_name file.0 n ≡ b → cond b true (lists_name n files) ≡ true
      → Contains (map (λ (f : FileName × ℕ). f.0) (file ∷ files)) n) [
        | true ↦ λ same here. (0, omega arith, is_same_name file.0 n same)
        | false ↦ λ other later. later_among file.0 (map (λ (f : FileName × ℕ). f.0) files) n (in_pin files later)
      ] refl lists

  pin_lists : (files : List (FileName × ℕ)) → Contains (map (λ (file : FileName × ℕ). file.0) files) n → lists_name n files ≡ true
  pin_lists [] among = absurd (nothing_among n among)
  pin_lists (file ∷ files) among =
      ⊎_elim (λ here. ap (λ (b : Bool). cond b true (lists_name n files)) (subst (λ (a : FileName). same_name a n ≡ true) (sym here) (name_itself n)))
      (λ later. by (same_name file.0 n) (pin_lists files later))
      (cons_cases file.0 (map (λ (f : FileName × ℕ). f.0) files) n among)
    where
      by : (b : Bool) → lists_name n files ≡ true → cond b true (lists_name n files) ≡ true
      by true lists = refl
      by false lists = lists

  pub pins_hold : (pins : List KeptPin) → are_holding pins n ≡ true → Contains (flat_map names_held pins) n
  unfolding are_holding
  pins_hold [] holds = absurd (cc)
  pins_hold (pin ∷ pins) holds =
      elim (lists_name n pin.files) as (λ b. lists_name n pin.files ≡ b → (b || list_any (λ (p : KeptPin). lists_name n p.files) pins) ≡ true
      → Contains (names_held pin ++ flat_map names_held pins) n) [
        | true ↦ λ lists here. Contains-append_left (names_held pin) (flat_map names_held pins) n (in_pin pin.files lists)
        | false ↦ λ other later. Contains-append_right (names_held pin) (flat_map names_held pins) n (pins_hold pins later)
      ] refl holds

  pub held_by_pins : (pins : List KeptPin) → Contains (flat_map names_held pins) n → are_holding pins n ≡ true
  unfolding are_holding
  held_by_pins [] among = absurd (nothing_among n among)
  held_by_pins (pin ∷ pins) among =
      ⊎_elim (λ here. ap (λ (b : Bool). b || list_any (λ (p : KeptPin). lists_name n p.files) pins) (pin_lists pin.files here))
      (λ later. by (lists_name n pin.files) (held_by_pins pins later))
      (Contains-append_cases (names_held pin) (flat_map names_held pins) n among)
    where
      by : (b : Bool) → list_any (λ (p : KeptPin). lists_name n p.files) pins ≡ true
          → (b || list_any (λ (p : KeptPin). lists_name n p.files) pins) ≡ true
      by true rest = refl
      by false rest = rest

-- ---- used names

either_true : (a b : Bool) → (a || b) ≡ true → (a ≡ true) ⊎ (b ≡ true)
either_true true b is = inl refl
either_true false b is = inr is

neither : (a b : Bool) → (a || b) ≡ false → (a ≡ false) × (b ≡ false)
neither true b is = absurd (cc)
neither false b is = (refl, is)

not_both : {b : Bool} → b ≡ true → b ≡ false → ⊥
not_both is other = cc

at_most : (a b : ℕ) → nat_le a b ≡ true → a ≤ b
at_most a b test = grind (arith, nat_tests)

at_most_so : (a b : ℕ) → a ≤ b → nat_le a b ≡ true
at_most_so a b le = grind (arith, nat_tests)

module _ (known : List FileName) (kept : Kept) (manifest : ℕ) (writing : Option ℕ) where
  abbrev asked : Kept
  asked = deleting known manifest writing kept

  -- what an unfinished table is
  written_name : (w : Option ℕ) (n : FileName) → Contains (map (λ (table : Unfinished). name.Table table.number) (written_table w)) n
      → (number : ℕ) × (n ≡ name.Table number) × (is_writing w number ≡ true)
  written_name None n among = absurd (nothing_among n among)
  written_name (Some number) n among =
      ⊎_elim (λ here. (number, sym here, number_itself number)) (λ later. absurd (nothing_among n later))
      (cons_cases (name.Table number) [] n among)

  is_written : (w : Option ℕ) (number : ℕ) → is_writing w number ≡ true
      → Contains (map (λ (table : Unfinished). name.Table table.number) (written_table w)) (name.Table number)
  is_written None number writes = absurd (cc)
  is_written (Some own) number writes =
      (0, omega arith, ap name.Table (same_number own number writes))

  needed_means : (n : FileName) → is_needed kept manifest writing n ≡ true
      → IsNeeded (deleting known manifest writing kept) n ⊎ Contains (unfinished_names (deleting known manifest writing kept)) n
  needed_means (name.Log number) test = inl (at_most kept.log number test)
  needed_means (name.Table number) test =
      ⊎_elim (λ live. inl live) (λ writes. inr (is_written writing number writes))
      (either_true (is_some (finmap.get kept.version number)) (is_writing writing number) test)
  needed_means (name.Manifest number) test = inl (same_number number manifest test)
  needed_means (name.Temp number) test = absurd (cc)
  needed_means name.Current test = inl tt

  needed_so : (n : FileName) → IsNeeded (deleting known manifest writing kept) n → is_needed kept manifest writing n ≡ true
  needed_so (name.Log number) need = at_most_so kept.log number need
  needed_so (name.Table number) need = ap (λ (b : Bool). b || is_writing writing number) need
  needed_so (name.Manifest number) need = subst (λ (m : ℕ). (number == m) ≡ true) need (number_itself number)
  needed_so (name.Temp number) need = absurd need
  needed_so name.Current need = refl

  unfinished_so : (n : FileName) → Contains (unfinished_names (deleting known manifest writing kept)) n → is_needed kept manifest writing n ≡ true
  unfinished_so n among =
      let it = written_name writing n among in
      subst (λ (x : FileName). is_needed kept manifest writing x ≡ true) (sym it.1)
      (by (is_some (finmap.get kept.version it.0)) it.2)
    where
      by : {w : Bool} (b : Bool) → w ≡ true → (b || w) ≡ true
      by true is = refl
      by false is = is

  -- what is used is held or being written
  pub used_means : (n : FileName) → is_used kept manifest writing n ≡ true
      → IsHeld (deleting known manifest writing kept) n ⊎ Contains (unfinished_names (deleting known manifest writing kept)) n
  used_means n used =
      ⊎_elim (λ needed. ⊎_elim (λ need. inl (inl need)) (λ writes. inr writes) (needed_means n needed))
      (λ holds. inl (inr (pins_hold n kept.pins holds)))
      (either_true (is_needed kept manifest writing n) (are_holding kept.pins n) used)

  -- what isn't used is neither
  pub unused_means : (n : FileName) → is_used kept manifest writing n ≡ false
      → ¬ IsHeld (deleting known manifest writing kept) n × ¬ Contains (unfinished_names (deleting known manifest writing kept)) n
  unused_means n free =
      let both = neither (is_needed kept manifest writing n) (are_holding kept.pins n) free in (
        (λ held. ⊎_elim (λ need. not_both (needed_so n need) both.0) (λ pinned. not_both (held_by_pins n kept.pins pinned) both.1) held),
        (λ among. not_both (unfinished_so n among) both.0),
      )
