-- The order of user keys, and ranges that have a key in common.
use Rattle.std.specs.Prelude.{◌≡◌, ℕ, Bool, true, false, ◌&&◌, List}
use Rattle.std.proofs.Common.{refl, sym, ap, subst, ◌∙◌}
use Rattle.std.specs.Ordering.{is_le, ordering_reverse}
use Rattle.std.specs.declared.cmp.Ordering.{Ordering}
use Rattle.std.specs.declared.cmp.Ordering.TheVariants.{Less, Equal, Greater}
use Rattle.std.proofs.lemmas.Cmp.{nat_list_cmp_total, tied_itself}
use Rattle.std.specs.FinMap as finite
use Rattle.lsm_rows.specs.InternalKeys.{user_key}
use Rattle.lsm_rows.specs.Replay.{key_cmp}
use Rattle.lsm_version.specs.declared.tables.TableInfo.{TableInfo}
use Rattle.lsm_version.specs.Levels.{overlap}
use Rattle.lsm_compact.specs.Orderly.{in_range}
pub use Rattle.lsm_compact.proofs.Members.{untrue}

pub both_true : (a b : Bool) → a ≡ true → b ≡ true → (a && b) ≡ true
both_true true b p q = q
both_true false b p q = p

pub first_true : (a b : Bool) → (a && b) ≡ true → a ≡ true
first_true true b p = refl
first_true false b p = p

pub later_true : (a b : Bool) → (a && b) ≡ true → b ≡ true
later_true true b p = p
later_true false b p = absurd (untrue p)

pub not_so : (t : Bool) → (t ≡ true → ⊥) → t ≡ false
not_so true never = absurd (never refl)
not_so false never = refl

-- one key is at most another
abbrev pub AtMost : List ℕ → List ℕ → Type 0
AtMost k l = is_le (key_cmp k l) ≡ true

same_key : (k l : List ℕ) → key_cmp k l ≡ Equal → k ≡ l
same_key k l e = finite.slice_cmp-IsAntisymmetric finite.nat_cmp-IsAntisymmetric k l e

pub most_itself : (k : List ℕ) → AtMost k k
most_itself k = ap is_le (tied_itself nat_list_cmp_total k)

pub below_most : (k l : List ℕ) → key_cmp k l ≡ Less → AtMost k l
below_most k l e = ap is_le e

pub most_trans : (a b c : List ℕ) → AtMost a b → AtMost b c → AtMost a c
most_trans a b c p q = by_left (key_cmp a b) refl
  where
    by_right : (o : Ordering) → key_cmp b c ≡ o → key_cmp a b ≡ Less → AtMost a c
    by_right Less f e = ap is_le (nat_list_cmp_total.trans a b c e f)
    by_right Equal f e = subst (λ k. AtMost a k) (same_key b c f) (ap is_le e)
    by_right Greater f e = absurd (untrue (sym (ap is_le f) ∙ q))

    by_left : (o : Ordering) → key_cmp a b ≡ o → AtMost a c
    by_left Less e = by_right (key_cmp b c) refl e
    by_left Equal e = subst (λ k. AtMost k c) (sym (same_key a b e)) q
    by_left Greater e = absurd (untrue (sym (ap is_le e) ∙ p))

-- a key that isn't at most another is greater
pub not_most : (k l : List ℕ) → is_le (key_cmp k l) ≡ false → key_cmp l k ≡ Less
not_most k l not = by_order (key_cmp k l) refl
  where
    by_order : (o : Ordering) → key_cmp k l ≡ o → key_cmp l k ≡ Less
    by_order Less e = absurd (untrue (sym not ∙ ap is_le e))
    by_order Equal e = absurd (untrue (sym not ∙ ap is_le e))
    by_order Greater e = nat_list_cmp_total.antisymm l k ∙ ap ordering_reverse e

pub not_below : (k l : List ℕ) → AtMost k l → key_cmp l k ≡ Less → ⊥
not_below k l most less = untrue (sym (ap is_le (nat_list_cmp_total.antisymm k l ∙ ap ordering_reverse less)) ∙ most)

-- ---- ranges

-- a key in the range is at least the least and at most the greatest
pub from_least : (key : List ℕ) (info : TableInfo) → in_range key info ≡ true → AtMost (user_key info.smallest) key
from_least key info within = first_true (is_le (key_cmp (user_key info.smallest) key))
    (is_le (key_cmp key (user_key info.largest))) within

pub to_greatest : (key : List ℕ) (info : TableInfo) → in_range key info ≡ true → AtMost key (user_key info.largest)
to_greatest key info within = later_true (is_le (key_cmp (user_key info.smallest) key))
    (is_le (key_cmp key (user_key info.largest))) within

pub least_to_greatest : (key : List ℕ) (info : TableInfo) → in_range key info ≡ true → AtMost (user_key info.smallest)
    (user_key info.largest)
least_to_greatest key info within =
    most_trans (user_key info.smallest) key (user_key info.largest) (from_least key info within) (to_greatest key info within)

-- tables that have one key in both ranges overlap
pub shared : (key : List ℕ) (a b : TableInfo) → in_range key a ≡ true → in_range key b ≡ true → overlap a b ≡ true
unfolding overlap
shared key a b in_a in_b =
    both_true (is_le (key_cmp (user_key a.smallest) (user_key b.largest)))
    (is_le (key_cmp (user_key b.smallest) (user_key a.largest)))
    (most_trans (user_key a.smallest) key (user_key b.largest) (from_least key a in_a) (to_greatest key b in_b))
    (most_trans (user_key b.smallest) key (user_key a.largest) (from_least key b in_b) (to_greatest key a in_a))
