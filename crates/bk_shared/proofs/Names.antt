-- Two shared names, and the keys that they are kept by.
use Rattle.std.specs.Prelude.{◌≡◌, ℕ, Bool, true, false, ◌==◌, ◌&&◌, nat_lt, cond}
use Rattle.std.proofs.Common.{refl, sym, ◌∙◌, arith}
use Rattle.std.specs.Cmp.Lexicographic.{slice_cmp}
use Rattle.std.specs.Ordering.{is_eq, nat_cmp, ordering_then}
use Rattle.std.specs.Str.{bytes_eq}
use Rattle.std.specs.declared.cmp.Ordering.{Ordering}
use Rattle.std.specs.declared.cmp.Ordering.TheVariants.{Less, Equal, Greater}
use Rattle.std.proofs.lemmas.Bool.{and_parts, and_from, and_left, eq-eqb, eqb-true}
use Rattle.std.proofs.lemmas.Bool.Decides.{nat_tests}
use Rattle.std.proofs.lemmas.Map.Text.{is_eq-slice_cmp}
use Rattle.std.proofs.lemmas.Slice.Eq.{bytes_eq-Decides}
use Rattle.lsm_names.specs.declared.shared_names.SharedName.{SharedName}
use Rattle.lsm_names.proofs.SharedNameLemmas.{same_name}
use Rattle.bk_shared.specs.SharedLines.{is_name}
use Rattle.bk_shared.specs.Keeping.{key_of, key_cmp}

pub name_itself : (name : SharedName) → is_name name name ≡ true
unfolding is_name
name_itself name =
    and_from (name.number == name.number && bytes_eq name.session name.session) (name.size == name.size)
    (and_from (name.number == name.number) (bytes_eq name.session name.session) (eq-eqb name.number name.number refl)
    ((bytes_eq-Decides name.session name.session).1 refl))
    (eq-eqb name.size name.size refl)

-- the test tells equal names
pub names_equal : (name other : SharedName) → is_name name other ≡ true → name ≡ other
unfolding is_name
names_equal name other is =
    let outer = and_parts (name.number == other.number && bytes_eq name.session other.session)
    (name.size == other.size) is in
    let inner = and_parts (name.number == other.number) (bytes_eq name.session other.session) outer.0 in
    same_name name.number name.size name.session other (eqb-true name.number other.number inner.0)
    ((bytes_eq-Decides name.session other.session).0 inner.1) (eqb-true name.size other.size outer.1)

-- names of two numbers are two names
pub numbers_differ : (name other : SharedName) → (name.number == other.number) ≡ false → is_name name other ≡ false
unfolding is_name
numbers_differ name other differ =
    and_left (name.number == other.number && bytes_eq name.session other.session) (name.size == other.size)
    (and_left (name.number == other.number) (bytes_eq name.session other.session) differ)

both_equal : (first next : Ordering) → is_eq (ordering_then first next) ≡ (is_eq first && is_eq next)
both_equal Less next = refl
both_equal Equal next = refl
both_equal Greater next = refl

numbers_equal : (number other : ℕ) → is_eq (nat_cmp number other) ≡ (number == other)
numbers_equal number other = by (nat_lt number other) (number == other) (λ below. grind (arith, nat_tests)) where
  by : (below same : Bool) → (below ≡ true → same ≡ false) → is_eq (cond below Less (cond same Equal Greater)) ≡ same
  by true true apart = sym (apart refl)
  by true false apart = refl
  by false true apart = refl
  by false false apart = refl

all_three : (a b c : Bool) → (a && (b && c)) ≡ (a && b && c)
all_three true b c = refl
all_three false b c = refl

-- keys compare as equal exactly where their names are equal
pub keys_equal : (name other : SharedName) → is_eq (key_cmp (key_of name) (key_of other)) ≡ is_name name other
unfolding is_name
keys_equal name other =
    both_equal (nat_cmp name.number other.number)
    (ordering_then (slice_cmp nat_cmp name.session other.session) (nat_cmp name.size other.size))
    ∙ (λ i. numbers_equal name.number other.number i && both_equal (slice_cmp nat_cmp name.session other.session)
    (nat_cmp name.size other.size) i)
    ∙ (λ i. name.number == other.number &&
    (is_eq-slice_cmp name.session other.session i && numbers_equal name.size other.size i))
    ∙ all_three (name.number == other.number) (bytes_eq name.session other.session) (name.size == other.size)
