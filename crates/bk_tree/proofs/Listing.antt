-- The list of the identifiers is that of the listed ones.
use Rattle.std.specs.Prelude.{◌≡◌, ℕ, ◌^◌, ◌<◌, ◌&&◌, ◌||◌, Bool, true, false, if◌then◌else◌, List, [], ◌∷◌, is_some, Option, Some, None}
use Rattle.std.proofs.Common.{refl, sym, ap, subst, ◌∙◌, arith}
use Rattle.std.proofs.lemmas.Bool.Decides.{nat_tests}
use Rattle.std.proofs.lemmas.Fmt.{decimal_is_IsNumeral}
use Rattle.std.proofs.lemmas.List.Elements.{All-from_recursion, All-contains, Contains-get_or, Contains-append_right}
use Rattle.std.proofs.lemmas.Slice.Eq.{bytes_eq-Decides}
use Rattle.std.specs.FinMap as map
use Rattle.std.specs.List.{AllByRecursion, Contains, filter_map, cons_option, list_any}
use Rattle.std.specs.Ordering.{eq_by_cmp}
use Rattle.std.specs.Str.{bytes_eq}
use Rattle.lsm_disk.specs.Names.{Node, id_of, path_cmp}
use Rattle.lsm_disk.specs.Images.{Tree, bytes_by}
use Rattle.lsm_disk.proofs.Paths.{same_path}
use Rattle.bk_tree.specs.Places.{is_identifier, meta_path}
use Rattle.bk_tree.specs.Listed.{is_file, is_listed, number_behind, identifier_at, listed}
use Rattle.std.proofs.lemmas.Bool.{and_parts}

-- ---- what a filter gives

module _ {X Y : Type 0} (h : X → Option Y) where
  each_given : (P : Y → Type 0) → ((x : X) (y : Y) → h x ≡ Some y → P y) → (xs : List X) → AllByRecursion P (filter_map h xs)
  each_given P gives [] = tt
  each_given P gives (x ∷ xs) = of_first (h x) refl (each_given P gives xs) where
    of_first : (o : Option Y) → h x ≡ o → AllByRecursion P (filter_map h xs) → AllByRecursion P (cons_option o (filter_map h xs))
    of_first None is rest = rest
    of_first (Some y) is rest = (gives x y is, rest)

  behind_first : (o : Option Y) (ys : List Y) (y : Y) → Contains ys y → Contains (cons_option o ys) y
  behind_first None ys y has = has
  behind_first (Some first) ys y has = Contains-append_right (first ∷ []) ys y has

  first_given : (o : Option Y) (ys : List Y) (y : Y) → o ≡ Some y → Contains (cons_option o ys) y
  first_given o ys y is = subst (λ (x : Option Y). Contains (cons_option x ys) y) (sym is) (Contains-get_or (y ∷ ys) 0 y (omega arith))

  given : (tied : X → X → Bool) → ((x y : X) → tied x y ≡ true → x ≡ y) → (x : X) (y : Y) → h x ≡ Some y → (xs : List X) → list_any (tied x) xs ≡ true → Contains (filter_map h xs) y
  given tied same x y is [] found = cc
  given tied same x y is (z ∷ zs) found = by_first (tied x z) refl found (given tied same x y is zs) where
    by_first : (b : Bool) → tied x z ≡ b → (b || list_any (tied x) zs) ≡ true → (list_any (tied x) zs ≡ true → Contains (filter_map h zs) y) → Contains (cons_option (h z) (filter_map h zs)) y
    by_first true e f rest = first_given (h z) (filter_map h zs) y (ap h (sym (same x z e)) ∙ is)
    by_first false e f rest = behind_first (h z) (filter_map h zs) y (rest f)

-- ---- the identifiers

number_of_meta : (id : ℕ) → is_identifier id ≡ true → number_behind (meta_path id) ≡ id
unfolding meta_path
number_of_meta id small = let low : id < 2 ^ 64 = grind (arith, nat_tests) in (decimal_is_IsNumeral id low).1

identified : (t : Tree) (path : List ℕ) (id : ℕ) → identifier_at t path ≡ Some id → is_listed t id ≡ true
identified t path id is = by_test (is_listed t (number_behind path)) refl is where
  by_test : (b : Bool) → is_listed t (number_behind path) ≡ b → (if b && bytes_eq path (meta_path (number_behind path)) then Some (number_behind path) else None) ≡ Some id → is_listed t id ≡ true
  by_test false e h = cc
  by_test true e h = by_spelling (bytes_eq path (meta_path (number_behind path))) h where
    by_spelling : (b : Bool) → (if b then Some (number_behind path) else None) ≡ Some id → is_listed t id ≡ true
    by_spelling false h = cc
    by_spelling true h = let same : number_behind path ≡ id = cc in ap (is_listed t) (sym same) ∙ e

found_again : (t : Tree) (id : ℕ) → is_listed t id ≡ true → identifier_at t (meta_path id) ≡ Some id
found_again t id is =
    let number = number_of_meta id (and_parts (is_identifier id) (is_file t (meta_path id)) is).0 in
    ap (λ (n : ℕ). if is_listed t n && bytes_eq (meta_path id) (meta_path n) then Some n else None) number
    ∙ ap (λ b. if b && bytes_eq (meta_path id) (meta_path id) then Some id else None) is
    ∙ ap (λ b. if b then Some id else None) ((bytes_eq-Decides (meta_path id) (meta_path id)).1 refl)

-- a file's name is one of the names
named : (t : Tree) (path : List ℕ) → is_file t path ≡ true → is_some (map.get t.names path) ≡ true
named t path is = by_node (map.get t.names path) is where
  by_node : (o : Option Node) → is_some (bytes_by (id_of o) t) ≡ true → is_some o ≡ true
  by_node None h = h
  by_node (Some node) h = refl

pub each_is_listed : (t : Tree) (id : ℕ) → Contains (listed t) id → is_listed t id ≡ true
unfolding listed
each_is_listed t id has =
    All-contains (λ (n : ℕ). is_listed t n ≡ true) _ id
    (All-from_recursion (λ (n : ℕ). is_listed t n ≡ true) _ (each_given (identifier_at t) (λ (n : ℕ). is_listed t n ≡ true) (identified t) (map.keys t.names))) has

pub all_are_listed : (t : Tree) (id : ℕ) → is_listed t id ≡ true → Contains (listed t) id
unfolding listed
all_are_listed t id is =
    given (identifier_at t) (eq_by_cmp path_cmp) same_path (meta_path id) id (found_again t id is) (map.keys t.names)
    (sym (map.contains_key-keys t.names (meta_path id)) ∙ named t (meta_path id) (and_parts (is_identifier id) (is_file t (meta_path id)) is).1)
