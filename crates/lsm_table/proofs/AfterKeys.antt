-- Of entries in order those up to a key stand before those after it.
use Rattle.std.proofs.Common.{◌≡◌, ℕ, ◌<◌, ◌≤◌, Bool, true, false, cond, List, [], ◌∷◌, ◌++◌, length, take, drop, refl, sym, ap, ◌∙◌, arith, zero, suc, take-append-drop, min}
use Rattle.std.specs.Prelude.{Option, Some, None, not, All, filter}
use Rattle.std.specs.List.{slice_get}
use Rattle.std.specs.List.Sorted.{IsStrictlySortedBy}
use Rattle.std.specs.Ordering.{is_lt}
use Rattle.std.specs.declared.cmp.Ordering.TheVariants.{Less}
use Rattle.std.proofs.lemmas.List.{take_min}
use Rattle.std.proofs.lemmas.List.Elements.{All-nil, All-cons, All-head, All-tail, filter-append}
use Rattle.lsm_rows.specs.InternalKeys.{internal_cmp, internal_total}
use Rattle.lsm_block.specs.declared.entries.Entry.{Entry}
use Rattle.lsm_block.specs.Blocks.{keys_of, IsBlock}
use Rattle.lsm_block.specs.Parts.{last_from, last_key}
use Rattle.lsm_block.specs.Runs.{comes_after}
use Rattle.lsm_block.proofs.Keys.{sorted-above, sorted-rest}
use Rattle.lsm_block.proofs.Sought.{Falls, IsBetween, is_less}
use Rattle.lsm_table.specs.Rows.{entries_after, IsCutAfter}

-- the entry doesn't come after the key
abbrev pub is_up_to : List ℕ → Entry → Bool
is_up_to key e = not (is_lt (internal_cmp key e.key))

-- what comes before a key that doesn't come after another doesn't either
pub not_after : (after : Option (List ℕ)) (a b : List ℕ) → internal_cmp a b ≡ Less → comes_after after b ≡ false → comes_after after a ≡ false
not_after None a b less is = cc
not_after (Some key) a b less is = by_test (is_lt (internal_cmp key a)) refl
  where
    by_test : (t : Bool) → is_lt (internal_cmp key a) ≡ t → is_lt (internal_cmp key a) ≡ false
    by_test true past = absurd (let clash : true ≡ false = sym (ap is_lt (internal_total.trans key a b (is_less (internal_cmp key a) past) less)) ∙ is in cc)
    by_test false up_to = up_to

not_true : (t : Bool) → not t ≡ true → t ≡ false
not_true true is = cc
not_true false is = refl

not_false : (t : Bool) → not t ≡ false → t ≡ true
not_false true is = refl
not_false false is = cc

pub up_to_falls : (key : List ℕ) → Falls (is_up_to key)
up_to_falls key d e less is = ap not (not_after (Some key) d.key e.key less (not_true (is_lt (internal_cmp key e.key)) is))

-- what is known of each index below a place, and of each from it on
all_below : (P : Entry → Type 0) (es : List Entry) (n : ℕ) → ((j : ℕ) (e : Entry) → j < n → slice_get es j ≡ Some e → P e) → All P (take n es)
all_below P [] zero known = All-nil P
all_below P [] (suc n) known = All-nil P
all_below P (e ∷ es) zero known = All-nil P
all_below P (e ∷ es) (suc n) known = All-cons P e (take n es) (known 0 e (omega arith) refl) (all_below P es n (λ j d less is. known (suc j) d (omega arith) is))

all_from : (P : Entry → Type 0) (es : List Entry) (n : ℕ) → ((j : ℕ) (e : Entry) → n ≤ j → slice_get es j ≡ Some e → P e) → All P (drop n es)
all_from P [] zero known = All-nil P
all_from P [] (suc n) known = All-nil P
all_from P (e ∷ es) zero known = All-cons P e es (known 0 e (omega arith) refl) (all_from P es 0 (λ j d less is. known (suc j) d (omega arith) is))
all_from P (e ∷ es) (suc n) known = all_from P es n (λ j d less is. known (suc j) d (omega arith) is)

-- where a search by halves has ended
pub cut_found : (es : List Entry) (key : List ℕ) (low high : ℕ) → high ≤ low → IsBetween es (is_up_to key) low high → IsCutAfter (Some key) es low
cut_found es key low high met is = record {
  within = omega (arith, is.ordered, is.within);
  up_to = all_below (λ e. comes_after (Some key) e.key ≡ false) es low (λ j e less there. not_true (comes_after (Some key) e.key) (is.below j e less there));
  past =
      all_from (λ e. comes_after (Some key) e.key ≡ true) es low (λ j e from there. not_false (comes_after (Some key) e.key) (is.above j e (omega (arith, is.ordered)) there));
}

-- without a key each entry comes after
pub cut_none : (es : List Entry) → IsCutAfter None es 0
cut_none es = record {
  within = omega arith;
  up_to = all_below (λ e. comes_after None e.key ≡ false) es 0 (λ j e less there. absurd (omega arith));
  past = all_from (λ e. comes_after None e.key ≡ true) es 0 (λ j e from there. refl);
}

filter_none : (p : Entry → Bool) (es : List Entry) → All (λ e. p e ≡ false) es → filter p es ≡ []
filter_none p [] all = refl
filter_none p (e ∷ es) all =
    ap (λ t. cond t (e ∷ filter p es) (filter p es)) (All-head (λ d. p d ≡ false) e es all) ∙ filter_none p es (All-tail (λ d. p d ≡ false) e es all)

filter_all : (p : Entry → Bool) (es : List Entry) → All (λ e. p e ≡ true) es → filter p es ≡ es
filter_all p [] all = refl
filter_all p (e ∷ es) all =
    ap (λ t. cond t (e ∷ filter p es) (filter p es)) (All-head (λ d. p d ≡ true) e es all) ∙ ap (λ l. e ∷ l) (filter_all p es (All-tail (λ d. p d ≡ true) e es all))

-- the entries behind a cut are those after its key
pub after_cut : (after : Option (List ℕ)) (es : List Entry) (n : ℕ) → IsCutAfter after es n → entries_after after es ≡ drop n es
unfolding entries_after
after_cut after es n is =
    let p : Entry → Bool = λ e. comes_after after e.key in
    ap (filter p) (sym (take-append-drop n es)) ∙ filter-append p (take n es) (drop n es) ∙ (λ i. filter_none p (take n es) is.up_to i ++ filter_all p (drop n es) is.past i)

pub first_cut : (after : Option (List ℕ)) (es past result : List Entry) (n most len : ℕ) → IsCutAfter after es n → past ≡ drop n es → len ≡ length past → result ≡ take (min most len) past
    → result ≡ take most (entries_after after es)
first_cut after es past result n most len is rest size got =
    got ∙ ap (λ (m : ℕ). take (min most m) past) size ∙ take_min most past ∙ ap (take most) (rest ∙ sym (after_cut after es n is))

-- a block whose last key doesn't come after a key has no entry that does
none_from : (after : Option (List ℕ)) (k : List ℕ) (es : List Entry) → IsStrictlySortedBy internal_cmp (k ∷ keys_of es) → comes_after after (last_from k es) ≡ false
    → (comes_after after k ≡ false) × All (λ e. comes_after after e.key ≡ false) es
none_from after k [] up last = (last, All-nil (λ e. comes_after after e.key ≡ false))
none_from after k (e ∷ es) up last =
    let rest = none_from after e.key es (sorted-rest internal_cmp k (keys_of (e ∷ es)) up) last in
    let less : internal_cmp k e.key ≡ Less = All-head (λ y. internal_cmp k y ≡ Less) e.key (keys_of es) (sorted-above internal_cmp k (keys_of (e ∷ es)) up) in
    (not_after after k e.key less rest.0, All-cons (λ d. comes_after after d.key ≡ false) e es rest.0 rest.1)

pub none_after : (after : Option (List ℕ)) (es : List Entry) → IsBlock es → comes_after after (last_key es) ≡ false → entries_after after es ≡ []
unfolding entries_after last_key
none_after after [] is last = refl
none_after after (e ∷ es) is last =
    let rest = none_from after e.key es is.entries.ascend last in
    filter_none (λ d. comes_after after d.key) (e ∷ es) (All-cons (λ d. comes_after after d.key ≡ false) e es rest.0 rest.1)

-- entries one behind another
pub after_append : (after : Option (List ℕ)) (a b : List Entry) → entries_after after (a ++ b) ≡ entries_after after a ++ entries_after after b
unfolding entries_after
after_append after a b = filter-append (λ e. comes_after after e.key) a b

pub after_nil : (after : Option (List ℕ)) → entries_after after [] ≡ []
unfolding entries_after
after_nil after = refl
