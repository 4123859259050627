-- What the test for a path says, and the paths that two paths make.
use Rattle.std.proofs.Common.{◌≡◌, ℕ, ◌+◌, ◌<◌, ◌≤◌, List, [], ◌∷◌, ◌++◌, length, Bool, true, false, refl, ap, sym, ◌∙◌, subst, arith, take, drop, get_or}
use Rattle.std.specs.Prelude.{◌&&◌, slice_index, Some, None}
use Rattle.std.specs.List.{list_all, onto_first, join_with_byte}
use Rattle.std.specs.Char.{is_ascii_alphanumeric}
use Rattle.std.proofs.lemmas.Bool.Decides.{nat_tests}
use Rattle.std.specs.Str.{IsAscii}
use Rattle.std.proofs.lemmas.Str.{IsAscii-append}
use Rattle.std.proofs.lemmas.Str.Ascii.{IsAscii-nil, IsAscii-cons}
use Rattle.std.proofs.lemmas.List.{length-append, take-append-drop, drop_more}
use Rattle.std.proofs.lemmas.List.Splits.{slice_split-cons_yes, slice_split-cons_no, length-slice_split, join_with_byte-slice_split}
use Rattle.lsm_names.specs.Paths.{is_component_byte, is_dots, is_component, is_slash, components, is_path, put_before, cut_last, or_root, parent_of}
use Rattle.std.proofs.lemmas.Bool.{and_parts}

-- ---- tests of lists

pub list_all-append : {X : Type 0} (test : X → Bool) (xs ys : List X) → list_all test xs ≡ true → list_all test ys ≡ true → list_all test (xs ++ ys) ≡ true
list_all-append test [] ys front back = back
list_all-append test (x ∷ xs) ys front back =
    let parts = and_parts (test x) (list_all test xs) front in
    let rest = list_all-append test xs ys parts.1 back in
    cc

-- a weaker test
pub list_all-weaker : {X : Type 0} (test weaker : X → Bool) → ((x : X) → test x ≡ true → weaker x ≡ true) → (xs : List X) → list_all test xs ≡ true → list_all weaker xs ≡ true
list_all-weaker test weaker gives [] h = refl
list_all-weaker test weaker gives (x ∷ xs) h =
    let parts = and_parts (test x) (list_all test xs) h in
    let first = gives x parts.0 in
    let rest = list_all-weaker test weaker gives xs parts.1 in
    cc

-- ---- the parts between slashes

onto_first-append : (byte : ℕ) (parts more : List (List ℕ)) → 0 < length parts → onto_first byte (parts ++ more) ≡ onto_first byte parts ++ more
onto_first-append byte [] more h = absurd (omega arith)
onto_first-append byte (part ∷ parts) more h = refl

joined_step : (byte : ℕ) (xs ys : List ℕ) (slash : Bool) → is_slash byte ≡ slash → components (xs ++ 47 ∷ ys) ≡ components xs ++ components ys →
    components (byte ∷ (xs ++ 47 ∷ ys)) ≡ components (byte ∷ xs) ++ components ys
joined_step byte xs ys true e rest =
    slice_split-cons_yes is_slash byte (xs ++ 47 ∷ ys) e
    ∙ ap (λ (parts : List (List ℕ)). [] ∷ parts) rest
    ∙ ap (λ (parts : List (List ℕ)). parts ++ components ys) (sym (slice_split-cons_yes is_slash byte xs e))
joined_step byte xs ys false e rest =
    slice_split-cons_no is_slash byte (xs ++ 47 ∷ ys) e
    ∙ ap (λ (parts : List (List ℕ)). onto_first byte parts) rest
    ∙ onto_first-append byte (components xs) (components ys) (omega (arith, length-slice_split is_slash xs))
    ∙ ap (λ (parts : List (List ℕ)). parts ++ components ys) (sym (slice_split-cons_no is_slash byte xs e))

-- the parts of two texts with a slash between them are those of the one and those of the other
pub components-joined : (xs ys : List ℕ) → components (xs ++ 47 ∷ ys) ≡ components xs ++ components ys
components-joined [] ys = refl
components-joined (byte ∷ xs) ys = joined_step byte xs ys (is_slash byte) refl (components-joined xs ys)

-- ---- what the tests say

pub path_is_short : (path : List ℕ) → is_path path ≡ true → length path ≤ 160
unfolding is_path
path_is_short path h = grind (arith, nat_tests)

pub parts_of_path : (path : List ℕ) → is_path path ≡ true → list_all is_component (components path) ≡ true
unfolding is_path
parts_of_path path h = grind (arith, nat_tests)

pub path_of_parts : (path : List ℕ) → length path ≤ 160 → list_all is_component (components path) ≡ true → is_path path ≡ true
unfolding is_path
path_of_parts path short parts = grind (arith, nat_tests)

pub component_is_short : (part : List ℕ) → is_component part ≡ true → length part ≤ 100
unfolding is_component
component_is_short part h = grind (arith, nat_tests)

pub component_has_bytes : (part : List ℕ) → is_component part ≡ true → 1 ≤ length part
unfolding is_component
component_has_bytes part h = grind (arith, nat_tests)

pub bytes_of_component : (part : List ℕ) → is_component part ≡ true → list_all is_component_byte part ≡ true
unfolding is_component
bytes_of_component part h = grind (arith, nat_tests)

-- what begins with a letter or a digit is no dots
pub not_dots : (part : List ℕ) → is_ascii_alphanumeric (slice_index part 0) ≡ true → is_dots part ≡ false
unfolding is_dots
not_dots [] h = refl
not_dots (a ∷ []) h = grind (arith, nat_tests)
not_dots (a ∷ b ∷ []) h = grind (arith, nat_tests)
not_dots (a ∷ b ∷ c ∷ part) h = grind (arith, nat_tests)

pub component_of_parts : (part : List ℕ) → 1 ≤ length part → length part ≤ 100 → list_all is_component_byte part ≡ true → is_dots part ≡ false → is_component part ≡ true
unfolding is_component
component_of_parts part long short bytes named = grind (arith, nat_tests)

pub no_slash_byte : (byte : ℕ) → is_component_byte byte ≡ true → is_slash byte ≡ false
unfolding is_component_byte
no_slash_byte byte h = grind (arith, nat_tests)

-- a text of such bytes is one part
pub one_part : (part : List ℕ) → list_all is_component_byte part ≡ true → components part ≡ part ∷ []
one_part [] h = refl
one_part (byte ∷ part) h =
    let parts = and_parts (is_component_byte byte) (list_all is_component_byte part) h in
    slice_split-cons_no is_slash byte part (no_slash_byte byte parts.0) ∙ ap (onto_first byte) (one_part part parts.1)

-- ---- a path is ASCII text

component_byte_is_ascii : (byte : ℕ) → is_component_byte byte ≡ true → byte < 128
unfolding is_component_byte
component_byte_is_ascii byte h = grind (arith, nat_tests)

pub part_is_ascii : (part : List ℕ) → list_all is_component_byte part ≡ true → IsAscii part
part_is_ascii [] h = IsAscii-nil
part_is_ascii (byte ∷ part) h =
    let parts = and_parts (is_component_byte byte) (list_all is_component_byte part) h in
    IsAscii-cons byte part (component_byte_is_ascii byte parts.0) (part_is_ascii part parts.1)

joined_is_ascii : (parts : List (List ℕ)) → list_all is_component parts ≡ true → IsAscii (join_with_byte 47 parts)
joined_is_ascii [] h = IsAscii-nil
joined_is_ascii (part ∷ []) h = part_is_ascii part (bytes_of_component part (and_parts (is_component part) true h).0)
joined_is_ascii (part ∷ next ∷ parts) h =
    let cut = and_parts (is_component part) (list_all is_component (next ∷ parts)) h in
    let rest = join_with_byte 47 (next ∷ parts) in
    IsAscii-append part (47 ∷ rest) (part_is_ascii part (bytes_of_component part cut.0)) (IsAscii-cons 47 rest (omega arith) (joined_is_ascii (next ∷ parts) cut.1))

pub path_is_ascii : (path : List ℕ) → is_path path ≡ true → IsAscii path
path_is_ascii path h = subst IsAscii (join_with_byte-slice_split 47 path) (joined_is_ascii (components path) (parts_of_path path h))

-- ---- what stands before the last slash

cut_last-joined : (front back : List ℕ) → cut_last back ≡ None → cut_last (front ++ 47 ∷ back) ≡ Some front
cut_last-joined [] back none = ap (put_before 47) none
cut_last-joined (byte ∷ front) back none = ap (put_before byte) (cut_last-joined front back none)

-- a slash behind which there is none
pub parent_at_slash : (path : List ℕ) (at : ℕ) → at < length path → get_or path at 0 ≡ 47 → cut_last (drop (at + 1) path) ≡ None → parent_of path ≡ take at path
parent_at_slash path at within slash none =
    let cut = sym (take-append-drop at path) ∙ ap (λ (xs : List ℕ). take at path ++ xs) (drop_more path at 0 within) in
    ap parent_of (cut ∙ ap (λ (byte : ℕ). take at path ++ byte ∷ drop (at + 1) path) slash)
    ∙ ap or_root (cut_last-joined (take at path) (drop (at + 1) path) none)

-- ---- the paths that they make

pub component_is_path : (part : List ℕ) → is_component part ≡ true → is_path part ≡ true
component_is_path part h = path_of_parts part (omega (arith, component_is_short part h)) (rw (one_part part (bytes_of_component part h)) (rw h))

pub joined_is_path : (front part : List ℕ) → is_path front ≡ true → is_path part ≡ true → length front + 1 + length part ≤ 160 → is_path (front ++ 47 ∷ part) ≡ true
joined_is_path front part p q short =
    path_of_parts (front ++ 47 ∷ part) (omega (arith, length-append front (47 ∷ part)))
    (rw components-joined (list_all-append is_component (components front) (components part) (parts_of_path front p) (parts_of_path part q)))

-- the empty text has one part, which is no component
pub path_has_bytes : (path : List ℕ) → is_path path ≡ true → 1 ≤ length path
path_has_bytes [] h = component_has_bytes [] (and_parts (is_component []) true (parts_of_path [] h)).0
path_has_bytes (byte ∷ path) h = omega arith

-- ---- the folders that they stand in

pub no_slash : (part : List ℕ) → list_all is_component_byte part ≡ true → cut_last part ≡ None
no_slash [] h = refl
no_slash (byte ∷ part) h =
    let cut = and_parts (is_component_byte byte) (list_all is_component_byte part) h in
    ap (put_before byte) (no_slash part cut.1) ∙ rw (no_slash_byte byte cut.0)

pub parent_of_component : (part : List ℕ) → is_component part ≡ true → parent_of part ≡ []
parent_of_component part h = ap or_root (no_slash part (bytes_of_component part h))

pub parent_of_joined : (front part : List ℕ) → is_component part ≡ true → parent_of (front ++ 47 ∷ part) ≡ front
parent_of_joined front part h = ap or_root (cut_last-joined front part (no_slash part (bytes_of_component part h)))
