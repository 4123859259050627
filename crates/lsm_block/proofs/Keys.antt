-- Keys of entries that ascend.
use Rattle.std.proofs.Common.{◌≡◌, ℕ, ◌+◌, ◌-◌, ◌*◌, ◌<◌, ◌≤◌, ◌^◌, ◌==◌, Bool, true, false, List, [], ◌∷◌, ◌++◌, length, refl, sym, ap, ◌∙◌, subst, arith, append_assoc, length-append, suc}
use Rattle.std.specs.Prelude.{All, Some, None}
use Rattle.std.specs.List.{slice_get}
use Rattle.std.specs.List.Sorted.{IsStrictlySortedBy}
use Rattle.std.specs.declared.cmp.Ordering.{Ordering}
use Rattle.std.specs.declared.cmp.Ordering.TheVariants.{Less, Equal, Greater}
use Rattle.std.specs.Ordering.{ordering_index}
use Rattle.std.proofs.lemmas.Bool.Decides.{nat_tests}
use Rattle.lsm_rows.specs.declared.internal_keys.Kind.{Kind}
use Rattle.std.proofs.lemmas.List.{map-append}
use Rattle.std.proofs.lemmas.List.Elements.{All-nil, All-cons, All-head, All-tail, All-push, recursion_from_All, All-from_recursion}
use Rattle.std.proofs.lemmas.Map.Views.{All-before_last}
use Rattle.lsm_rows.specs.InternalKeys.{IsInternalKey, internal_key, kind_byte, internal_cmp, internal_total}
use Rattle.std.specs.Int.{w64, to_le_bytes}
use Rattle.lsm_rows.proofs.InternalOrder.{too_short}
use Rattle.std.proofs.lemmas.Bool.{cases_lt}
use Rattle.std.proofs.Common.{⊎_elim}
use Rattle.lsm_block.specs.declared.entries.Entry.{Entry}
use Rattle.lsm_block.specs.BlockText.{entries_from, entries_text}
use Rattle.lsm_block.specs.Blocks.{IsKey, keys_of, AreEntries}
use Rattle.lsm_block.specs.Parts.{last_from, last_key, IsPast}
use Rattle.lsm_block.proofs.EntryLists.{entries-nil, entries-append}

pub key_long : (bytes : List ℕ) → IsKey bytes → 8 ≤ length bytes
key_long bytes is = ⊎_elim (λ (short : length bytes < 8). absurd (too_short bytes is.user is.sequence is.kind short is.is)) (λ (long : 8 ≤ length bytes). long) (cases_lt (length bytes) 8)

pub keys_of-append : (a b : List Entry) → keys_of (a ++ b) ≡ keys_of a ++ keys_of b
keys_of-append a b = map-append (λ (e : Entry). e.key) a b

-- by cases on sorted keys
module _ {K : Type 0} (R : K → K → Ordering) where
  pub sorted-nil : IsStrictlySortedBy R []
  unfolding IsStrictlySortedBy
  sorted-nil = tt

  pub sorted-cons : (k : K) (ks : List K) → All (λ y. R k y ≡ Less) ks → IsStrictlySortedBy R ks → IsStrictlySortedBy R (k ∷ ks)
  unfolding IsStrictlySortedBy
  sorted-cons k ks above rest = (recursion_from_All (λ y. R k y ≡ Less) ks above, rest)

  pub sorted-above : (k : K) (ks : List K) → IsStrictlySortedBy R (k ∷ ks) → All (λ y. R k y ≡ Less) ks
  unfolding IsStrictlySortedBy
  sorted-above k ks h = All-from_recursion (λ y. R k y ≡ Less) ks h.0

  pub sorted-rest : (k : K) (ks : List K) → IsStrictlySortedBy R (k ∷ ks) → IsStrictlySortedBy R ks
  unfolding IsStrictlySortedBy
  sorted-rest k ks h = h.1

  -- a key past all of them
  pub sorted-push : (ks : List K) (y : K) → IsStrictlySortedBy R ks → All (λ x. R x y ≡ Less) ks → IsStrictlySortedBy R (ks ++ y ∷ [])
  sorted-push [] y up past = sorted-cons y [] (All-nil (λ z. R y z ≡ Less)) sorted-nil
  sorted-push (k ∷ ks) y up past =
      sorted-cons k (ks ++ y ∷ []) (All-push (λ z. R k z ≡ Less) ks y (sorted-above k ks up) (All-head (λ x. R x y ≡ Less) k ks past))
      (sorted-push ks y (sorted-rest k ks up) (All-tail (λ x. R x y ≡ Less) k ks past))

  all-front : (P : K → Type 0) (ks js : List K) → All P (ks ++ js) → All P ks
  all-front P [] js all = All-nil P
  all-front P (k ∷ ks) js all = All-cons P k ks (All-head P k (ks ++ js) all) (all-front P ks js (All-tail P k (ks ++ js) all))

  pub all-last : (P : K → Type 0) (ks : List K) (y : K) → All P (ks ++ y ∷ []) → P y
  all-last P [] y all = All-head P y [] all
  all-last P (k ∷ ks) y all = all-last P ks y (All-tail P k (ks ++ y ∷ []) all)

  pub sorted-front : (ks js : List K) → IsStrictlySortedBy R (ks ++ js) → IsStrictlySortedBy R ks
  sorted-front [] js up = sorted-nil
  sorted-front (k ∷ ks) js up = sorted-cons k ks (all-front (λ y. R k y ≡ Less) ks js (sorted-above k (ks ++ js) up)) (sorted-front ks js (sorted-rest k (ks ++ js) up))

-- entries and one more
pub AreEntries-push : (es : List Entry) (e : Entry) → AreEntries es → IsKey e.key → IsPast es e.key → length (entries_text (es ++ e ∷ [])) < 2 ^ 32 → AreEntries (es ++ e ∷ [])
AreEntries-push es e are key past small = record {
  keys = subst (All IsKey) (sym (keys_of-append es (e ∷ []))) (All-push IsKey (keys_of es) e.key are.keys key);
  ascend = subst (IsStrictlySortedBy internal_cmp) (sym (keys_of-append es (e ∷ []))) (sorted-push internal_cmp (keys_of es) e.key are.ascend past);
  small = small;
}

pub key-pushed : (es : List Entry) (e : Entry) → AreEntries (es ++ e ∷ []) → IsKey e.key
key-pushed es e are = all-last internal_cmp IsKey (keys_of es) e.key (subst (All IsKey) (keys_of-append es (e ∷ [])) are.keys)

pub past-pushed : (es : List Entry) (e : Entry) → AreEntries (es ++ e ∷ []) → IsPast es e.key
past-pushed es e are = All-before_last internal_cmp (keys_of es) e.key (subst (IsStrictlySortedBy internal_cmp) (keys_of-append es (e ∷ [])) are.ascend)

pub AreEntries-front : (a b : List Entry) → AreEntries (a ++ b) → AreEntries a
AreEntries-front a b are = record {
  keys = all-front internal_cmp IsKey (keys_of a) (keys_of b) (subst (All IsKey) (keys_of-append a b) are.keys);
  ascend = sorted-front internal_cmp (keys_of a) (keys_of b) (subst (IsStrictlySortedBy internal_cmp) (keys_of-append a b) are.ascend);
  small = omega (arith, are.small, ap (length {A = ℕ}) (entries-append 0 [] a b), length-append (entries_text a) (entries_from (0 + length a) (last_from [] a) b));
}

pub AreEntries-shorter : (a : List Entry) (e : Entry) (more : List Entry) → AreEntries (a ++ e ∷ more) → AreEntries (a ++ e ∷ [])
AreEntries-shorter a e more are = AreEntries-front (a ++ e ∷ []) more (subst AreEntries (sym (append_assoc a (e ∷ []) more)) are)

-- a key past the last is past all, and the other way round
past_keys : (k : List ℕ) (es : List Entry) (key : List ℕ) → IsStrictlySortedBy internal_cmp (k ∷ keys_of es) → internal_cmp (last_from k es) key ≡ Less → All (λ b. internal_cmp b key ≡ Less) (k ∷ keys_of es)
past_keys k [] key up less = All-cons (λ b. internal_cmp b key ≡ Less) k [] less (All-nil (λ b. internal_cmp b key ≡ Less))
past_keys k (e ∷ es) key up less =
    let rest = past_keys e.key es key (sorted-rest internal_cmp k (keys_of (e ∷ es)) up) less in
    All-cons (λ b. internal_cmp b key ≡ Less) k (keys_of (e ∷ es))
    (internal_total.trans k e.key key (All-head (λ y. internal_cmp k y ≡ Less) e.key (keys_of es) (sorted-above internal_cmp k (keys_of (e ∷ es)) up)) (All-head (λ b. internal_cmp b key ≡ Less) e.key (keys_of es) rest))
    rest

pub past_last : (es : List Entry) (key : List ℕ) → AreEntries es → 1 ≤ length es → internal_cmp (last_key es) key ≡ Less → IsPast es key
unfolding last_key
past_last [] key are some less = absurd (omega (arith, some))
past_last (e ∷ es) key are some less = past_keys e.key es key are.ascend less

last_of_all : (P : List ℕ → Type 0) (k : List ℕ) (es : List Entry) → All P (k ∷ keys_of es) → P (last_from k es)
last_of_all P k [] all = All-head P k [] all
last_of_all P k (e ∷ es) all = last_of_all P e.key es (All-tail P k (keys_of (e ∷ es)) all)

pub last_all : (P : List ℕ → Type 0) (es : List Entry) → 1 ≤ length es → All P (keys_of es) → P (last_key es)
unfolding last_key
last_all P [] some all = absurd (omega (arith, some))
last_all P (e ∷ es) some all = last_of_all P e.key es all

pub past_none : (key : List ℕ) (es : List Entry) → es ≡ [] → IsPast es key
past_none key es none = subst (λ l. IsPast l key) (sym none) (All-nil (λ b. internal_cmp b key ≡ Less))

-- the last entry, as a slice gives it
next_get : (d : Entry) (es : List Entry) (n m : ℕ) → n ≡ suc m → slice_get (d ∷ es) n ≡ slice_get es m
next_get d es n m is = ap (slice_get (d ∷ es)) is

last_from-get : (k : List ℕ) (es : List Entry) (e : Entry) → slice_get es (length es - 1) ≡ Some e → last_from k es ≡ e.key
last_from-get k [] e is = cc
last_from-get k (d ∷ []) e is = ap (λ (x : Entry). x.key) (let same : d ≡ e = cc in same)
last_from-get k (d ∷ f ∷ es) e is = last_from-get d.key (f ∷ es) e (sym (next_get d (f ∷ es) (length (d ∷ f ∷ es) - 1) (length (f ∷ es) - 1) (omega arith)) ∙ is)

pub last_key-get : (es : List Entry) (e : Entry) → slice_get es (length es - 1) ≡ Some e → last_key es ≡ e.key
unfolding last_key
last_key-get es e is = last_from-get [] es e is

pub last_key-none : (es : List Entry) → slice_get es (length es - 1) ≡ None → last_key es ≡ []
unfolding last_key
last_key-none [] is = refl
last_key-none (d ∷ es) is = absurd (inside d es is)
  where
    inside : (d : Entry) (es : List Entry) → slice_get (d ∷ es) (length (d ∷ es) - 1) ≡ None → ⊥
    inside d [] is = cc
    inside d (f ∷ es) is = inside f es (sym (next_get d (f ∷ es) (length (d ∷ f ∷ es) - 1) (length (f ∷ es) - 1) (omega arith)) ∙ is)

-- no entries yet
pub AreEntries-nil : AreEntries []
AreEntries-nil = record { keys = All-nil IsKey; ascend = sorted-nil internal_cmp; small = omega (arith, ap (length {A = ℕ}) (entries-nil 0 [])) }

-- what a comparison of keys tells
index_less : (o : Ordering) → (ordering_index o == 0) ≡ true → o ≡ Less
index_less Less is = refl
index_less Equal is = cc
index_less Greater is = cc

pub less_tested : (b : Bool) (o p : Ordering) → b ≡ (ordering_index o == 0) → o ≡ p → b ≡ true → p ≡ Less
less_tested b o p test same is = sym same ∙ index_less o (sym test ∙ is)

pub not_less_tested : (b : Bool) (o p : Ordering) → b ≡ (ordering_index o == 0) → o ≡ p → b ≡ false → p ≡ Less → ⊥
not_less_tested b o p test same is less = let clash : true ≡ false = sym (ap (λ q. ordering_index q == 0) (same ∙ less)) ∙ sym test ∙ is in cc

pub may_follow_is : (b : Bool) (o : Ordering) (before : List ℕ) (es : List Entry) (key : List ℕ) → AreEntries es → 1 ≤ length es → IsKey key → before ≡ last_key es
    → b ≡ (ordering_index o == 0) → o ≡ internal_cmp before key → (b ≡ true → IsKey key × IsPast es key) × (IsKey key × IsPast es key → b ≡ true)
may_follow_is b o before es key are some good last test compared = (
  (λ is. (good, past_last es key are some (less_tested b o (internal_cmp (last_key es) key) test (compared ∙ ap (λ k. internal_cmp k key) last) is))),
  (λ may. test ∙ ap (λ q. ordering_index q == 0) (compared ∙ ap (λ k. internal_cmp k key) last ∙ last_all (λ k. internal_cmp k key ≡ Less) es some may.1)),
)

pub some_from_test : (n : ℕ) (b : Bool) → b ≡ (n == 0) → b ≡ false → 1 ≤ n
some_from_test n b test is = let no : (n == 0) ≡ false = sym test ∙ is in grind (arith, nat_tests)

pub none_from_test : (n : ℕ) (b : Bool) → b ≡ (n == 0) → b ≡ true → 1 ≤ n → ⊥
none_from_test n b test is some = let yes : (n == 0) ≡ true = sym test ∙ is in grind (arith, nat_tests)

pub last_long : (es : List Entry) (before : List ℕ) → AreEntries es → 1 ≤ length es → before ≡ last_key es → 8 ≤ length before
last_long es before are some last = rw last (key_long (last_key es) (last_all IsKey es some are.keys))

pub key_of_parts : (bytes user : List ℕ) (sequence : ℕ) (kind : Kind) → IsInternalKey bytes user sequence kind → IsKey bytes
key_of_parts bytes user sequence kind is = record { user = user; sequence = sequence; kind = kind; is = is }

-- how long an internal key is
pub internal_len : (bytes user : List ℕ) (sequence : ℕ) (kind : Kind) → IsInternalKey bytes user sequence kind → length bytes ≡ length user + 8
unfolding internal_key
internal_len bytes user sequence kind is = ap (length {A = ℕ}) is.is ∙ length-append user (to_le_bytes w64 (sequence * 256 + kind_byte kind))
