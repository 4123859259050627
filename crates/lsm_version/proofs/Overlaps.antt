-- The first pair of tables that overlap, and edits' drops and adds one by one.
use Rattle.std.specs.Prelude.{◌≡◌, ℕ, ◌+◌, ◌<◌, Bool, true, false, ◌==◌, ◌&&◌, nat_lt, List, [], ◌∷◌, ◌++◌, take, drop, length, Option, Some, None, Err, get_or}
use Rattle.std.proofs.Common.{refl, sym, ap, ◌∙◌, add-one, drop-cons, take-append-drop}
use Rattle.std.specs.List.{flat_map, fold}
use Rattle.std.proofs.lemmas.List.Sums.{fold-append}
use Rattle.lsm_version.specs.declared.tables.Placed.{Placed}
use Rattle.lsm_version.specs.declared.refusals.ApplyError.TheVariants.{BadLevels}
use Rattle.lsm_version.specs.Levels.{Tables, Overlap, clash, overlap, overlaps_with, overlaps}
use Rattle.lsm_version.specs.Versions.{first_of, refused_by}

never : (a b : Bool) → (a && (false && b)) ≡ false
never true b = refl
never false b = refl

-- a table of another level
no_clash : (level : ℕ) (a b : ℕ × Placed) → (a.1.level == level) ≡ false → clash level a b ≡ false
unfolding clash
no_clash level a b other = rw other (never (nat_lt a.0 b.0) (b.1.level == level && overlap a.1.info b.1.info))

apart : (level : ℕ) (all : List (ℕ × Placed)) (a : ℕ × Placed) → (a.1.level == level) ≡ false → overlaps_with level all a ≡ []
apart level [] a other = refl
apart level (b ∷ all) a other = rw (no_clash level a b other) (apart level all a other)

no_first : {A : Type 0} (xs : List A) → first_of xs ≡ None → xs ≡ []
no_first [] is = refl
no_first (x ∷ xs) is = cc

first_stays : {A : Type 0} (x : A) (xs ys : List A) → first_of xs ≡ Some x → first_of (xs ++ ys) ≡ Some x
first_stays x [] ys is = cc
first_stays x (y ∷ xs) ys is = is

module _ (level : ℕ) (all rest : List (ℕ × Placed)) (a : ℕ × Placed) where
  pub past_other : (a.1.level == level) ≡ false → first_of (flat_map (overlaps_with level all) (a ∷ rest)) ≡ first_of (flat_map (overlaps_with level all) rest)
  past_other other = ap (λ (os : List Overlap). first_of (os ++ flat_map (overlaps_with level all) rest)) (apart level all a other)

  pub past_none : first_of (overlaps_with level all a) ≡ None → first_of (flat_map (overlaps_with level all) (a ∷ rest)) ≡ first_of (flat_map (overlaps_with level all) rest)
  past_none none = ap (λ (os : List Overlap). first_of (os ++ flat_map (overlaps_with level all) rest)) (no_first (overlaps_with level all a) none)

  pub at_some : (o : Overlap) → first_of (overlaps_with level all a) ≡ Some o → first_of (flat_map (overlaps_with level all) (a ∷ rest)) ≡ Some o
  at_some o is = first_stays o (overlaps_with level all a) (flat_map (overlaps_with level all) rest) is

pub none_overlap : (tables : Tables) → first_of (overlaps tables) ≡ None → overlaps tables ≡ []
none_overlap tables is = no_first (overlaps tables) is

first_refused : (tables : Tables) (os : List Overlap) (o : Overlap) → first_of os ≡ Some o → refused_by tables os ≡ Err (BadLevels o.level o.left o.right)
first_refused tables [] o is = cc
first_refused tables (p ∷ os) o is = let same : p ≡ o = cc in ap (λ (x : Overlap). Err (BadLevels x.level x.left x.right)) same

pub some_overlap : (tables : Tables) (o : Overlap) → first_of (overlaps tables) ≡ Some o → refused_by tables (overlaps tables) ≡ Err (BadLevels o.level o.left o.right)
some_overlap tables o is = first_refused tables (overlaps tables) o is

-- ---- steps of which one is refused

pub fold_none : {A B : Type 0} (f : Option B → A → Option B) → ((x : A) → f None x ≡ None) → (xs : List A) → fold f None xs ≡ None
fold_none f none [] = refl
fold_none f none (x ∷ xs) = ap (λ o. fold f o xs) (none x) ∙ fold_none f none xs

pub fold_stops : {A B : Type 0} (f : Option B → A → Option B) → ((x : A) → f None x ≡ None) → (xs : List A) (i : ℕ) (d : A) (from now : Option B) → i < length xs
    → fold f from (take i xs) ≡ now → f now (get_or xs i d) ≡ None → fold f from xs ≡ None
fold_stops {A = A} f none xs i d from now below so_far stops =
    let x : A = get_or xs i d in
    let split : drop i xs ≡ x ∷ drop (i + 1) xs = rw (add-one, drop-cons xs i d) in
    ap (fold f from) (sym (take-append-drop i xs)) ∙ fold-append f from (take i xs) (drop i xs)
    ∙ (λ j. fold f (so_far j) (split j)) ∙ ap (λ o. fold f o (drop (i + 1) xs)) stops ∙ fold_none f none (drop (i + 1) xs)
