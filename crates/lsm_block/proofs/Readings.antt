-- Reading a block: each entry in turn, and what it says where none follows.
use Rattle.std.proofs.Common.{◌≡◌, ℕ, ◌+◌, ◌/◌, ◌^◌, ◌<◌, ◌≤◌, ◌⊎◌, inl, inr, Bool, true, false, eqb, List, [], ◌∷◌, ◌++◌, length, take, drop, refl, sym, ap, ◌∙◌, subst, arith, append_assoc, length-append, length-drop}
use Rattle.std.specs.Prelude.{Option, Some, None, ◌&&◌, not}
use Rattle.std.specs.Cmp.Lexicographic.{pointwise, same_text}
use Rattle.std.proofs.lemmas.Bool.{eq-eqb}
use Rattle.std.specs.Int.{w32, to_le_bytes}
use Rattle.std.proofs.lemmas.List.{drop_at, length-take-le}
use Rattle.lsm_block.specs.declared.entries.Entry.{Entry}
use Rattle.lsm_block.specs.declared.errors.BlockError.{BlockError}
use Rattle.lsm_block.specs.declared.errors.BlockError.TheVariants.{Malformed, NoMemory}
use Rattle.lsm_block.specs.BlockText.{shared_len, parts_text, entry_text, entries_text, restarts_text}
use Rattle.lsm_block.specs.Blocks.{IsKey, AreEntries, IsBlockText, AreLongest, IsMalformed, IsBad}
use Rattle.lsm_block.specs.Parts.{last_from, last_key, IsPast, ArePartsAt, next_text, IsNext, restarts_bytes, restart_bytes}
use Rattle.lsm_block.proofs.Prefixes.{shared_le, key_joined}
use Rattle.lsm_block.proofs.EntryParts.{parts_once}
use Rattle.lsm_block.proofs.EntryLists.{entries-nil, entries-push, entries_many, entry_some, last_key-is, GoesOn, runs}
use Rattle.lsm_block.proofs.Keys.{key-pushed, past-pushed, AreEntries-push, AreEntries-shorter}
use Rattle.lsm_block.proofs.Restarts.{block_text-is, restarts_begin, no_entry, restarts_bytes-push, restarts_bytes-nil, restarts_text-is}

-- behind a whole block no entry goes on
no_longer : (a : List Entry) (b : List Entry) → 1 ≤ length a → AreEntries b → GoesOn 0 [] a b (restarts_text a) → ⊥
no_longer a b some are g =
    let z = restarts_begin a some in
    no_entry (0 + length a) (last_from [] a) g.e g.rest z.0 (key-pushed a g.e (AreEntries-shorter a g.e g.more (subst AreEntries g.is are))) (sym g.text ∙ z.1)

pub block_once : (t : List ℕ) (a b : List Entry) → IsBlockText t a → IsBlockText t b → a ≡ b
block_once t a b one other =
    by_runs (runs 0 [] a b (restarts_text a) (restarts_text b) (sym (block_text-is a) ∙ sym one.is ∙ other.is ∙ block_text-is b))
  where
    by_runs : ((a ≡ b) × (restarts_text a ≡ restarts_text b)) ⊎ (GoesOn 0 [] a b (restarts_text a) ⊎ GoesOn 0 [] b a (restarts_text b)) → a ≡ b
    by_runs (inl same) = same.0
    by_runs (inr (inl g)) = absurd (no_longer a b one.block.some other.block.entries g)
    by_runs (inr (inr g)) = absurd (no_longer b a other.block.some one.block.entries g)

-- behind the longest entries none goes on
no_next : (t : List ℕ) (a : List Entry) (place : ℕ) (b : List Entry) → (long : AreLongest t a place) → AreEntries b → GoesOn 0 [] a b long.more → ⊥
no_next t a place b long are g =
    long.last g.e g.rest (AreEntries-shorter a g.e g.more (subst AreEntries g.is are))
    (long.text ∙ ap (λ s. entries_text a ++ s) (g.text ∙ (λ i. entry_text (number i) (sym (last_key-is a) i) g.e ++ g.rest))
    ∙ sym (append_assoc (entries_text a) (next_text a g.e) g.rest) ∙ ap (λ s. s ++ g.rest) (sym (entries-push a g.e)))
  where
    number : 0 + length a ≡ length a
    number = omega arith

place_once : (t : List ℕ) (a b : List Entry) (p q : ℕ) → AreLongest t a p → AreLongest t b q → p ≡ q
place_once t a b p q one other = by_runs (runs 0 [] a b one.more other.more (sym one.text ∙ other.text))
  where
    by_runs : ((a ≡ b) × (one.more ≡ other.more)) ⊎ (GoesOn 0 [] a b one.more ⊎ GoesOn 0 [] b a other.more) → p ≡ q
    by_runs (inl same) = one.ends ∙ ap (λ l. length (entries_text l)) same.0 ∙ sym other.ends
    by_runs (inr (inl g)) = absurd (no_next t a p b one other.entries g)
    by_runs (inr (inr g)) = absurd (no_next t b q a other one.entries g)

pub refusal_once : (t : List ℕ) (p q : ℕ) → IsMalformed t p → IsMalformed t q → p ≡ q
refusal_once t p q one other = place_once t one.before other.before p q one.longest other.longest

rest-is : (t : List ℕ) (a : List Entry) (place : ℕ) → (long : AreLongest t a place) → drop place t ≡ long.more
rest-is t a place long = ap (drop place) long.text ∙ drop_at (entries_text a) long.more place (sym long.ends)

-- the longest entries with other bytes behind, or no entries, are no block's
pub malformed : (t : List ℕ) (a : List Entry) (place : ℕ) → AreLongest t a place → (1 ≤ length a → drop place t ≡ restarts_text a → ⊥) → IsMalformed t place
malformed t a place long other = record { none = never; before = a; longest = long }
  where
    never : (b : List Entry) → IsBlockText t b → ⊥
    never b is = by_runs (runs 0 [] a b long.more (restarts_text b) (sym long.text ∙ is.is ∙ block_text-is b))
      where
        by_runs : ((a ≡ b) × (long.more ≡ restarts_text b)) ⊎ (GoesOn 0 [] a b long.more ⊎ GoesOn 0 [] b a (restarts_text b)) → ⊥
        by_runs (inl same) =
            other (subst (λ (l : List Entry). 1 ≤ length l) (sym same.0) is.block.some) (rest-is t a place long ∙ same.1 ∙ ap restarts_text (sym same.0))
        by_runs (inr (inl g)) = no_next t a place b long is.block.entries g
        by_runs (inr (inr g)) = no_longer b a is.block.some long.entries g

-- with the restarts behind they are the block's
pub whole_block : (t : List ℕ) (a : List Entry) (place : ℕ) → AreLongest t a place → 1 ≤ length a → drop place t ≡ restarts_text a → IsBlockText t a
whole_block t a place long some rest = record {
  is = long.text ∙ ap (λ s. entries_text a ++ s) (sym (rest-is t a place long) ∙ rest) ∙ sym (block_text-is a);
  block = record { some = some; entries = long.entries };
}

pub bad_malformed : (t : List ℕ) (place : ℕ) → IsMalformed t place → IsBad t (Malformed place)
unfolding IsBad
bad_malformed t place is = is

pub bad_no_memory : (t : List ℕ) (e : BlockError) → e ≡ NoMemory → IsBad t e
unfolding IsBad
bad_no_memory t (Malformed place) is = cc
bad_no_memory t NoMemory is = tt

-- entries that were read up to a place, and their restarts
pub record AreRead (t : List ℕ) (es : List Entry) (place : ℕ) (noted : List ℕ) : Type 0 where
  pub entries : AreEntries es
  pub ends : place ≡ length (entries_text es)
  pub within : place ≤ length t
  pub text : t ≡ entries_text es ++ drop place t
  pub restarts : noted ≡ restarts_bytes es

pub read_none : (t : List ℕ) → AreEntries [] → AreRead t [] 0 []
read_none t none = record {
  entries = none;
  ends = ap (length {A = ℕ}) (sym (entries-nil 0 []));
  within = omega arith;
  text = ap (λ s. s ++ t) (sym (entries-nil 0 []));
  restarts = sym restarts_bytes-nil;
}

pub next_ends : (t : List ℕ) (es : List Entry) (e : Entry) (at next : ℕ) → at ≡ length (entries_text es) → at ≤ length t → next ≤ length t → drop at t ≡ next_text es e ++ drop next t
    → next ≡ length (entries_text (es ++ e ∷ []))
next_ends t es e at next ends inside within text =
    let size = ap (length {A = ℕ}) text ∙ length-append (next_text es e) (drop next t) in
    omega (arith, ends, inside, within, size, length-drop at t, length-drop next t, ap (length {A = ℕ}) (entries-push es e), length-append (entries_text es) (next_text es e))

pub read_more : (t : List ℕ) (es : List Entry) (place : ℕ) (noted more : List ℕ) (e : Entry) (next : ℕ) → AreRead t es place noted → IsNext t place es (Some (e, next))
    → more ≡ noted ++ restart_bytes (length es) place → AreRead t (es ++ e ∷ []) next more
unfolding IsNext
read_more t es place noted more e next read is noting = record {
  entries = is.0;
  ends = next_ends t es e place next read.ends read.within is.1 is.2;
  within = is.1;
  text =
      read.text ∙ ap (λ s. entries_text es ++ s) is.2 ∙ sym (append_assoc (entries_text es) (next_text es e) (drop next t)) ∙ ap (λ s. s ++ drop next t) (sym (entries-push es e));
  restarts = noting ∙ (λ i. read.restarts i ++ restart_bytes (length es) (read.ends i)) ∙ sym (restarts_bytes-push es e);
}

pub read_all : (t : List ℕ) (es : List Entry) (place : ℕ) (noted : List ℕ) → AreRead t es place noted → IsNext t place es None → AreLongest t es place
unfolding IsNext
read_all t es place noted read none = record {
  entries = read.entries;
  ends = read.ends;
  more = drop place t;
  text = read.text;
  last = λ e rest are whole. none e rest are
      (ap (drop place) (whole ∙ ap (λ s. s ++ rest) (entries-push es e) ∙ append_assoc (entries_text es) (next_text es e) rest) ∙ drop_at (entries_text es) (next_text es e ++ rest) place (sym read.ends));
}

pub restarts_ended : (es : List Entry) (noted more : List ℕ) → noted ≡ restarts_bytes es → more ≡ noted ++ to_le_bytes w32 ((length es + 15) / 16) → more ≡ restarts_text es
restarts_ended es noted more was is = is ∙ ap (λ s. s ++ to_le_bytes w32 ((length es + 15) / 16)) was ∙ sym (restarts_text-is es)

entry_text-is : (number : ℕ) (before : List ℕ) (e : Entry) → entry_text number before e ≡ parts_text (shared_len number before e.key) (drop (shared_len number before e.key) e.key) e.value
unfolding entry_text
entry_text-is number before e = refl

-- the parts that stand at a place are those of the entry that does
pub record AreOf (t : List ℕ) (at : ℕ) (es : List Entry) (s : ℕ) (r v : List ℕ) (next : ℕ) (e : Entry) : Type 0 where
  pub shared : s ≡ shared_len (length es) (last_key es) e.key
  pub key : take s (last_key es) ++ r ≡ e.key
  pub ends : next ≡ at + length (next_text es e)

parts_of : (t : List ℕ) (at : ℕ) (es : List Entry) (s : ℕ) (r v : List ℕ) (next : ℕ) (e : Entry) (more : List ℕ) → at ≤ length t → ArePartsAt t at s r v next → drop at t ≡ next_text es e ++ more
    → AreOf t at es s r v next e
parts_of t at es s r v next e more inside is text =
    let k : ℕ = shared_len (length es) (last_key es) e.key in
    let p = parts_once s k r (drop k e.key) v e.value (drop next t) more (sym is.text ∙ text ∙ ap (λ u. u ++ more) (entry_text-is (length es) (last_key es) e)) in
    record {
      shared = p.same_shared;
      key = (λ i. take (p.same_shared i) (last_key es) ++ p.same_rest i) ∙ key_joined (length es) (last_key es) e.key;
      ends = omega (arith, inside, is.within, length-drop at t, length-drop next t, ap (length {A = ℕ}) text, length-append (next_text es e) more, ap (length {A = ℕ}) p.same_more);
    }

module _ (t : List ℕ) (at : ℕ) (es : List Entry) (inside : at ≤ length t) where
  -- no parts stand there
  pub no_parts : length (last_key es) < 2 ^ 64 → ((s : ℕ) (r v more : List ℕ) → s < 2 ^ 64 → drop at t ≡ parts_text s r v ++ more → ⊥) → IsNext t at es None
  unfolding IsNext
  no_parts small none e more are text =
      let k : ℕ = shared_len (length es) (last_key es) e.key in
      none k (drop k e.key) e.value more (omega (arith, small, (shared_le (length es) (last_key es) e.key).0)) (text ∙ ap (λ u. u ++ more) (entry_text-is (length es) (last_key es) e))

  module _ (s : ℕ) (r v : List ℕ) (next : ℕ) (parts : ArePartsAt t at s r v next) where
    -- they share more than there is
    pub no_shared : length (last_key es) < s → IsNext t at es None
    unfolding IsNext
    no_shared past e more are text =
        let of = parts_of t at es s r v next e more inside parts text in
        absurd (omega (arith, past, of.shared, (shared_le (length es) (last_key es) e.key).0))

    -- they end where no restart can be
    pub no_place : at ≡ length (entries_text es) → 2 ^ 32 ≤ next → IsNext t at es None
    unfolding IsNext
    no_place ends past e more are text =
        let of = parts_of t at es s r v next e more inside parts text in
        absurd (omega (arith, past, of.ends, ends, are.small, ap (length {A = ℕ}) (entries-push es e), length-append (entries_text es) (next_text es e)))

    -- they share another part than the longest
    pub no_longest : (key : List ℕ) → key ≡ take s (last_key es) ++ r → (shared_len (length es) (last_key es) key ≡ s → ⊥) → IsNext t at es None
    unfolding IsNext
    no_longest key is other e more are text =
        let of = parts_of t at es s r v next e more inside parts text in
        other (ap (shared_len (length es) (last_key es)) (is ∙ of.key) ∙ sym of.shared)

    -- their key may not follow
    pub no_follower : (key : List ℕ) → key ≡ take s (last_key es) ++ r → (IsKey key × IsPast es key → ⊥) → IsNext t at es None
    unfolding IsNext
    no_follower key is other e more are text =
        let of = parts_of t at es s r v next e more inside parts text in
        let same : e.key ≡ key = sym (is ∙ of.key) in
        other (subst IsKey same (key-pushed es e are), subst (IsPast es) same (past-pushed es e are))

    -- they are an entry's
    pub next_entry : at ≡ length (entries_text es) → AreEntries es → (key : List ℕ) → key ≡ take s (last_key es) ++ r → s ≤ length (last_key es) → shared_len (length es) (last_key es) key ≡ s
        → IsKey key → IsPast es key → next < 2 ^ 32 → IsNext t at es (Some (record { key = key; value = v }, next))
    unfolding IsNext
    next_entry ends are key is fits shared good past small =
        let e : Entry = record { key = key; value = v } in
        let rest : drop s key ≡ r = ap (drop s) is ∙ drop_at (take s (last_key es)) r s (length-take-le s (last_key es) fits) in
        let text : drop at t ≡ next_text es e ++ drop next t =
        parts.text ∙ (λ i. parts_text (sym shared i) (sym rest i) v ++ drop next t) ∙ ap (λ k. parts_text (shared_len (length es) (last_key es) key) (drop k key) v ++ drop next t) (sym shared)
        ∙ ap (λ u. u ++ drop next t) (sym (entry_text-is (length es) (last_key es) e)) in
        let size = next_ends t es e at next ends inside parts.within text in
        (AreEntries-push es e are good past (omega (arith, size, small)), parts.within, text)

-- a key put together of what it shares and its rest
pub key_built : (key front shared before last rest : List ℕ) (s : ℕ) → key ≡ front ++ rest → front ≡ shared → shared ≡ take s before → before ≡ last → key ≡ take s last ++ rest
key_built key front shared before last rest s is a b known = is ∙ ap (λ t. t ++ rest) (a ∙ b ∙ ap (take s) known)

pub next_some : (t : List ℕ) (place : ℕ) (xs es : List Entry) (o : Option (Entry × ℕ)) (e : Entry) (next : ℕ) → xs ≡ es → o ≡ Some (e, next) → IsNext t place xs o → IsNext t place es (Some (e, next))
next_some t place xs es o e next same is it = subst (λ l. IsNext t place l (Some (e, next))) same (subst (IsNext t place xs) is it)

pub next_none : (t : List ℕ) (place : ℕ) (xs es : List Entry) (o : Option (Entry × ℕ)) → xs ≡ es → o ≡ None → IsNext t place xs o → IsNext t place es None
next_none t place xs es o same is it = subst (λ l. IsNext t place l None) same (subst (IsNext t place xs) is it)

-- each entry takes some bytes
pub read_further : (t : List ℕ) (es : List Entry) (place : ℕ) (noted : List ℕ) (e : Entry) (next : ℕ) → AreRead t es place noted → IsNext t place es (Some (e, next)) → (place < next) × (next ≤ length t)
unfolding IsNext
read_further t es place noted e next read is =
    let size = next_ends t es e place next read.ends read.within is.1 is.2 in
    (omega (arith, size, read.ends, ap (length {A = ℕ}) (entries-push es e), length-append (entries_text es) (next_text es e), entry_some (length es) (last_key es) e), is.1)

pub few_entries : (es : List Entry) → AreEntries es → length es < 2 ^ 32
few_entries es are = omega (arith, are.small, entries_many 0 [] es)

-- a list is found the same as itself
tested_same : (a : List ℕ) → pointwise eqb a a ≡ true
tested_same [] = refl
tested_same (x ∷ a) = ap (λ t. t && pointwise eqb a a) (eq-eqb x x refl) ∙ tested_same a

pub malformed_end : (given t : List ℕ) (a : List Entry) (place : ℕ) (rest noted : List ℕ) (differ : Bool) → AreLongest t a place → given ≡ t → rest ≡ drop place t → noted ≡ restarts_text a
    → differ ≡ not (pointwise eqb rest noted) → differ ≡ true → IsBad given (Malformed place)
malformed_end given t a place rest noted differ long same behind restarts test is =
    subst (λ b. IsBad b (Malformed place)) (sym same) (bad_malformed t place (malformed t a place long (λ some other.
    let alike : rest ≡ noted = behind ∙ other ∙ sym restarts in
    let no : differ ≡ false = test ∙ ap (λ r. not (pointwise eqb r noted)) alike ∙ ap not (tested_same noted) in
    let clash : true ≡ false = sym is ∙ no in cc)))

pub malformed_none : (given t : List ℕ) (a : List Entry) (place : ℕ) → AreLongest t a place → given ≡ t → (1 ≤ length a → ⊥) → IsBad given (Malformed place)
malformed_none given t a place long same none = subst (λ b. IsBad b (Malformed place)) (sym same) (bad_malformed t place (malformed t a place long (λ some other. none some)))

pub parsed : (given t : List ℕ) (a : List Entry) (place : ℕ) (rest noted : List ℕ) (differ : Bool) → AreLongest t a place → given ≡ t → 1 ≤ length a → rest ≡ drop place t → noted ≡ restarts_text a
    → differ ≡ not (pointwise eqb rest noted) → differ ≡ false → IsBlockText given a
parsed given t a place rest noted differ long same some behind restarts test is =
    subst (λ b. IsBlockText b a) (sym same) (whole_block t a place long some (sym behind ∙ same_text rest noted (sym (yes (pointwise eqb rest noted) (sym test ∙ is))) ∙ restarts))
  where
    yes : (t : Bool) → not t ≡ false → t ≡ true
    yes true is = refl
    yes false is = cc
