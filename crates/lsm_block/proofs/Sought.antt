-- A binary search finds the first entry at or past a key.
use Rattle.std.proofs.Common.{◌≡◌, ℕ, ◌+◌, ◌<◌, ◌≤◌, ◌==◌, ◌⊎◌, inl, inr, Bool, true, false, cond, List, [], ◌∷◌, length, get_or, refl, sym, ap, ◌∙◌, subst, arith, zero, suc}
use Rattle.std.specs.Prelude.{Some, not}
use Rattle.std.specs.List.{find, slice_get}
use Rattle.std.specs.Ordering.{is_lt, ordering_index}
use Rattle.std.specs.declared.cmp.Ordering.{Ordering}
use Rattle.std.specs.declared.cmp.Ordering.TheVariants.{Less, Equal, Greater}
use Rattle.std.proofs.lemmas.Bool.{cases_lt}
use Rattle.std.proofs.lemmas.Map.Keys.{Less-from_sorted}
use Rattle.std.proofs.lemmas.Option.{slice_get-get_or}
use Rattle.std.proofs.lemmas.List.Elements.{All-get_or}
use Rattle.lsm_rows.specs.InternalKeys.{internal_cmp, internal_total, user_key, trailer}
use Rattle.lsm_rows.specs.Replay.{key_cmp}
use Rattle.std.specs.Ordering.{nat_cmp, ordering_then}
use Rattle.std.specs.Cmp.Lexicographic.{nat_list_cmp_total}
use Rattle.lsm_block.specs.declared.entries.Entry.{Entry}
use Rattle.lsm_block.specs.Blocks.{IsKey, keys_of, AreEntries}
use Rattle.lsm_block.proofs.Keys.{key_long}
use Rattle.lsm_block.specs.Seek.{first_from, first_of_user}

-- the entry is before the key, and before the rows of the user key
abbrev pub is_before : List ℕ → Entry → Bool
is_before key e = is_lt (internal_cmp e.key key)

abbrev pub is_before_user : List ℕ → Entry → Bool
is_before_user key e = is_lt (key_cmp (user_key e.key) key)

-- a test that holds of each entry before one of which it holds
abbrev pub Falls : (Entry → Bool) → Type 0
Falls p = (d e : Entry) → internal_cmp d.key e.key ≡ Less → p e ≡ true → p d ≡ true

-- the test holds of the entries below a place, and not of those from another on
pub record IsBetween (es : List Entry) (p : Entry → Bool) (low high : ℕ) : Type 0 where
  pub ordered : low ≤ high
  pub within : high ≤ length es
  pub below : (j : ℕ) (e : Entry) → j < low → slice_get es j ≡ Some e → p e ≡ true
  pub above : (j : ℕ) (e : Entry) → high ≤ j → slice_get es j ≡ Some e → p e ≡ false

pub between_start : (es : List Entry) (p : Entry → Bool) → IsBetween es p 0 (length es)
between_start es p = record {
  ordered = omega arith;
  within = omega arith;
  below = λ j e less is. absurd (omega arith);
  above = λ j e past is. absurd (outside es j e past is);
}
  where
    outside : (es : List Entry) (j : ℕ) (e : Entry) → length es ≤ j → slice_get es j ≡ Some e → ⊥
    outside [] j e past is = cc
    outside (d ∷ es) zero e past is = absurd (omega arith)
    outside (d ∷ es) (suc j) e past is = outside es j e (omega arith) is

-- the key at a place
key_at : (es : List Entry) (j : ℕ) (e : Entry) (d : List ℕ) → slice_get es j ≡ Some e → (j < length (keys_of es)) × (get_or (keys_of es) j d ≡ e.key)
key_at [] j e d is = cc
key_at (f ∷ es) zero e d is = (omega arith, ap (λ (x : Entry). x.key) (let same : f ≡ e = cc in same))
key_at (f ∷ es) (suc j) e d is = let rest = key_at es j e d is in (omega (arith, rest.0), rest.1)

ordered_keys : (es : List Entry) (i j : ℕ) (d e : Entry) → AreEntries es → i < j → slice_get es i ≡ Some d → slice_get es j ≡ Some e → internal_cmp d.key e.key ≡ Less
ordered_keys es i j d e are less first second =
    let a = key_at es i d [] first in
    let b = key_at es j e [] second in
    (λ k. internal_cmp (sym a.1 k) (sym b.1 k)) ∙ Less-from_sorted internal_cmp (keys_of es) i j [] are.ascend less b.0

pub is_less : (o : Ordering) → is_lt o ≡ true → o ≡ Less
is_less Less is = refl
is_less Equal is = cc
is_less Greater is = cc

pub less_is : (o : Ordering) → o ≡ Less → is_lt o ≡ true
less_is o is = ap is_lt is

-- both tests fall
pub before_falls : (key : List ℕ) → Falls (is_before key)
before_falls key d e less is = less_is (internal_cmp d.key key) (internal_total.trans d.key e.key key less (is_less (internal_cmp e.key key) is))

pub users : (o p : Ordering) → ordering_then o p ≡ Less → (o ≡ Less) ⊎ (o ≡ Equal)
users Less p is = inl refl
users Equal p is = inr refl
users Greater p is = cc

pub internal_users : (a b : List ℕ) → internal_cmp a b ≡ Less → (key_cmp (user_key a) (user_key b) ≡ Less) ⊎ (key_cmp (user_key a) (user_key b) ≡ Equal)
unfolding internal_cmp
internal_users a b less = users (key_cmp (user_key a) (user_key b)) (nat_cmp (trailer b) (trailer a)) less

pub before_user_falls : (key : List ℕ) → Falls (is_before_user key)
before_user_falls key d e less is = by_users (internal_users d.key e.key less)
  where
    by_users : (key_cmp (user_key d.key) (user_key e.key) ≡ Less) ⊎ (key_cmp (user_key d.key) (user_key e.key) ≡ Equal) → is_before_user key d ≡ true
    by_users (inl under) =
        less_is (key_cmp (user_key d.key) key) (nat_list_cmp_total.trans (user_key d.key) (user_key e.key) key under (is_less (key_cmp (user_key e.key) key) is))
    by_users (inr same) = ap is_lt (nat_list_cmp_total.congr (user_key d.key) (user_key e.key) key same) ∙ is

same_entry : (es : List Entry) (i j : ℕ) (d e : Entry) → i ≡ j → slice_get es i ≡ Some d → slice_get es j ≡ Some e → d ≡ e
same_entry es i j d e same first second = let both : Some d ≡ Some e = sym first ∙ ap (slice_get es) same ∙ second in cc

-- the test holds of the entry in the middle
pub between_up : (es : List Entry) (p : Entry → Bool) (low high middle : ℕ) (d : Entry) → Falls p → AreEntries es → IsBetween es p low high → low ≤ middle → middle < high → slice_get es middle ≡ Some d
    → p d ≡ true → IsBetween es p (middle + 1) high
between_up es p low high middle d falls are is up down at holds = record {
  ordered = omega arith;
  within = is.within;
  below = λ j e under there. by_place j e there (cases_lt j middle) under;
  above = is.above;
}
  where
    by_place : (j : ℕ) (e : Entry) → slice_get es j ≡ Some e → (j < middle) ⊎ (middle ≤ j) → j < middle + 1 → p e ≡ true
    by_place j e there (inl below) under = falls e d (ordered_keys es j middle e d are below there at) holds
    by_place j e there (inr from) under = ap p (sym (same_entry es middle j d e (omega arith) at there)) ∙ holds

-- it doesn't
pub between_down : (es : List Entry) (p : Entry → Bool) (low high middle : ℕ) (d : Entry) → Falls p → AreEntries es → IsBetween es p low high → low ≤ middle → middle < high → slice_get es middle ≡ Some d
    → p d ≡ false → IsBetween es p low middle
between_down es p low high middle d falls are is up down at fails = record {
  ordered = up;
  within = omega (arith, is.within);
  below = is.below;
  above = λ j e past there. by_test j e past there (p e) refl;
}
  where
    at_middle : p d ≡ true → ⊥
    at_middle holds = let clash : true ≡ false = sym holds ∙ fails in cc

    by_place : (j : ℕ) (e : Entry) → slice_get es j ≡ Some e → (middle < j) ⊎ (j ≤ middle) → middle ≤ j → p e ≡ true → ⊥
    by_place j e there (inl above) past holds = at_middle (falls d e (ordered_keys es middle j d e are above at there) holds)
    by_place j e there (inr to) past holds = at_middle (ap p (same_entry es middle j d e (omega arith) at there) ∙ holds)

    by_test : (j : ℕ) (e : Entry) → middle ≤ j → slice_get es j ≡ Some e → (t : Bool) → p e ≡ t → p e ≡ false
    by_test j e past there true is = absurd (by_place j e there (cases_lt middle j) past is)
    by_test j e past there false is = is

find_at : (p : Entry → Bool) (es : List Entry) (i : ℕ) → ((j : ℕ) (e : Entry) → j < i → slice_get es j ≡ Some e → p e ≡ false) → ((e : Entry) → slice_get es i ≡ Some e → p e ≡ true)
    → slice_get es i ≡ find p es
find_at p [] i below here = refl
find_at p (d ∷ es) zero below here = ap (λ t. cond t (Some d) (find p es)) (sym (here d refl))
find_at p (d ∷ es) (suc i) below here =
    find_at p es i (λ j e less is. below (suc j) e (omega arith) is) here ∙ ap (λ t. cond t (Some d) (find p es)) (sym (below 0 d (omega arith) refl))

-- nothing is left between
found_at : (es : List Entry) (p : Entry → Bool) (low high : ℕ) → high ≤ low → IsBetween es p low high → slice_get es low ≡ find (λ e. not (p e)) es
found_at es p low high met is = find_at (λ e. not (p e)) es low (λ j e less there. ap not (is.below j e less there)) (λ e there. ap not (is.above low e met there))

pub found : (es : List Entry) (key : List ℕ) (low high : ℕ) → high ≤ low → IsBetween es (is_before key) low high → slice_get es low ≡ first_from key es
unfolding first_from
found es key low high met is = found_at es (is_before key) low high met is

pub found_user : (es : List Entry) (key : List ℕ) (low high : ℕ) → high ≤ low → IsBetween es (is_before_user key) low high → slice_get es low ≡ first_of_user key es
unfolding first_of_user
found_user es key low high met is = found_at es (is_before_user key) low high met is

-- what a comparison's answer tells of the test
pub index_is : (o : Ordering) → (ordering_index o == 0) ≡ is_lt o
index_is Less = refl
index_is Equal = refl
index_is Greater = refl

pub test_is : (b t : Bool) (o p : Ordering) → b ≡ (ordering_index o == 0) → o ≡ p → b ≡ t → is_lt p ≡ t
test_is b t o p test same is = ap is_lt (sym same) ∙ sym (index_is o) ∙ sym test ∙ is

-- what stands at an index
pub at_index : (es : List Entry) (i : ℕ) (d : Entry) → i < length es → d ≡ get_or es i d → slice_get es i ≡ Some d
at_index es i d inside is = slice_get-get_or es i d inside ∙ ap Some (sym is)

pub long_at : (es : List Entry) (i : ℕ) (d : Entry) → AreEntries es → slice_get es i ≡ Some d → 8 ≤ length d.key
long_at es i d are there =
    let k = key_at es i d [] there in
    key_long d.key (subst IsKey k.1 (All-get_or IsKey (keys_of es) i [] k.0 are.keys))
