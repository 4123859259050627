-- What is kept after a use and after a block was put, and of which table it is.
use Rattle.std.proofs.Common.{◌≡◌, ◌≢◌, ℕ, Bool, true, false, cond, not, ◌==◌, ◌&&◌, ◌⊎◌, List, [], ◌∷◌, filter, Contains, Some, None, refl, sym, ap, subst, ◌∙◌, inl, inr}
use Rattle.std.proofs.lemmas.Bool.{eqb-true, eq-eqb, and_parts}
use Rattle.std.specs.Map.{lookup, lookup_entry}
use Rattle.lru.specs.LruCache.{lru_cache}
use Rattle.lru.proofs.CallerLemmas.{Contains-lookup, Contains-promoted, Contains-put_entries}
use Rattle.lru.proofs.Splits.{Contains-head, Contains-tail, Contains-cons, Contains-nil}
use Rattle.lsm_frame.specs.Reader.{Stays}
use Rattle.lsm_block.specs.declared.entries.Entry.{Entry}
use Rattle.lsm_table.specs.DataBlocks.{IsDataBlock}
use Rattle.lsm_table.specs.Tables.{Opened}
use Rattle.lsm_cache.specs.declared.blocks.BlockPlace.{BlockPlace}
use Rattle.lsm_cache.specs.Kept.{Kept, is_at, no_blocks, used, with_block, without_table}
use Rattle.lsm_cache.specs.Getting.{IsBlockOf, AreBlocksOf}
use Rattle.lsm_frame.proofs.Agreeing.{tells_before}

-- a place that passes the test has these two numbers
same_place : (number place : ℕ) (at : BlockPlace) → is_at number place at ≡ true → (at.number ≡ number) × (at.place ≡ place)
same_place number place at passes =
    let both = and_parts (number == at.number) (place == at.place) passes in
    (sym (eqb-true number at.number both.0), sym (eqb-true place at.place both.1))

module _ {K V : Type 0} (test : K → Bool) where
  no_entry : (es : List (K × V)) → lookup test es ≡ None → lookup_entry test es ≡ None
  no_entry [] none = refl
  no_entry (e ∷ es) none = by_test (test e.0) none (no_entry es)
    where
      by_test : (t : Bool) → cond t (Some e.1) (lookup test es) ≡ None → (lookup test es ≡ None → lookup_entry test es ≡ None) → cond t (Some e) (lookup_entry test es) ≡ None
      by_test true is rest = cc
      by_test false is rest = rest is

-- where no block is kept for a place its use changes nothing
pub used_none : (number place : ℕ) (kept : Kept) → lookup (is_at number place) kept.entries ≡ None → used number place kept ≡ kept
used_none number place kept none = ap (λ es. lru_cache es kept.cap) (rw (no_entry (is_at number place) kept.entries none) refl)

-- what is kept of other tables was kept before
pub used_others : (number place : ℕ) (kept : Kept) (e : BlockPlace × List Entry) → Contains (used number place kept).entries e → Contains kept.entries e
used_others number place kept e among = Contains-promoted (is_at number place) kept.entries e among

-- a block that is kept after one was put was kept before, or is the one that was put
pub put_either : (number place : ℕ) (block : List Entry) (kept : Kept) (e : BlockPlace × List Entry) → Contains (with_block number place block kept).entries e → Contains kept.entries e ⊎ ((e.0.number ≡ number) × (e.0.place ≡ place) × (e.1 ≡ block))
put_either number place block kept e among = elim (Contains-put_entries (λ at. is_at at.number at.place) kept (record { number = number; place = place }) block e among) [
  | inl before ↦ inl before
  | inr (is, inl same) ↦ inr (ap (λ (a : BlockPlace). a.number) same, ap (λ (a : BlockPlace). a.place) same, is)
  | inr (is, inr other) ↦ let two = same_place number place e.0 other.2 in inr (two.0, two.1, is)
]

pub put_others : (number place : ℕ) (block : List Entry) (kept : Kept) (e : BlockPlace × List Entry) → Contains (with_block number place block kept).entries e → e.0.number ≢ number → Contains kept.entries e
put_others number place block kept e among other = elim (put_either number place block kept e among) [
  | inl before ↦ before
  | inr two ↦ absurd (other two.0)
]

-- a block that is kept for a table is the table's
pub kept_is : (table : Opened) (kept : Kept) (number place : ℕ) (block : List Entry) → number ≡ table.properties.number → lookup (is_at number place) kept.entries ≡ Some block → AreBlocksOf table kept → IsBlockOf table place block
unfolding AreBlocksOf
kept_is table kept number place block same found are =
    let among = Contains-lookup (is_at number place) kept.entries block found in
    let two = same_place number place among.0 among.2 in
    subst (λ p. IsBlockOf table p block) two.1 (are among.0 block among.1 (two.0 ∙ same))

pub used_are : (table : Opened) (number place : ℕ) (kept : Kept) → AreBlocksOf table kept → AreBlocksOf table (used number place kept)
unfolding AreBlocksOf
used_are table number place kept are = λ at block among own. are at block (used_others number place kept (at, block) among) own

pub put_are : (table : Opened) (number place : ℕ) (block : List Entry) (kept : Kept) → IsBlockOf table place block → AreBlocksOf table kept → AreBlocksOf table (with_block number place block kept)
unfolding AreBlocksOf
put_are table number place block kept is are = λ at other among own. elim (put_either number place block kept (at, other) among) [
  | inl before ↦ are at other before own
  | inr three ↦ λ text told. subst (λ p. IsDataBlock text table.index p other) (sym three.1) (subst (λ b. IsDataBlock text table.index place b) (sym three.2) (is text told))
]

-- a table that was read keeps its blocks
pub stays_are : (before now : Opened) (kept : Kept) → Stays before.viewed now.viewed → now.index ≡ before.index → now.properties ≡ before.properties → AreBlocksOf before kept → AreBlocksOf now kept
unfolding AreBlocksOf
stays_are before now kept stays index properties are = λ at block among own text told.
    subst (λ es. IsDataBlock text es at.place block) (sym index)
    (are at block among (own ∙ ap (λ p. p.number) properties) text (tells_before before.viewed now.viewed text stays told))

-- ---- the laws

pub none_are : (table : Opened) (room : ℕ) → AreBlocksOf table (no_blocks room)
unfolding AreBlocksOf
none_are table room = λ at block among own. absurd (Contains-nil (at, block) among)

pub put_for_table : (table : Opened) (kept : Kept) (place : ℕ) (block : List Entry) → IsBlockOf table place block → AreBlocksOf table kept → AreBlocksOf table (with_block table.properties.number place block kept)
put_for_table table kept place block is are = put_are table table.properties.number place block kept is are

pub put_for_other : (table : Opened) (kept : Kept) (number place : ℕ) (block : List Entry) → number ≢ table.properties.number → AreBlocksOf table kept → AreBlocksOf table (with_block number place block kept)
unfolding AreBlocksOf
put_for_other table kept number place block other are = λ at found among own. are at found (put_others number place block kept (at, found) among (λ same. other (sym same ∙ own))) own

-- what a filter leaves was there, and passed
left_was : (number : ℕ) (es : List (BlockPlace × List Entry)) (e : BlockPlace × List Entry) → Contains (filter (λ e. not (number == e.0.number)) es) e → Contains es e × (number ≢ e.0.number)
left_was number [] e among = absurd (Contains-nil e among)
left_was number (d ∷ es) e among = by_number (number == d.0.number) refl among (left_was number es e)
  where
    by_number : (t : Bool) → (number == d.0.number) ≡ t → Contains (cond (not t) (d ∷ filter (λ e. not (number == e.0.number)) es) (filter (λ e. not (number == e.0.number)) es)) e
        → (Contains (filter (λ e. not (number == e.0.number)) es) e → Contains es e × (number ≢ e.0.number)) → Contains (d ∷ es) e × (number ≢ e.0.number)
    by_number true test inside rest = let later = rest inside in (Contains-tail d es e later.0, later.1)
    by_number false test inside rest = elim (Contains-cons d (filter (λ e. not (number == e.0.number)) es) e inside) [
      | inl same ↦ (subst (Contains (d ∷ es)) same (Contains-head d es), λ own. let clash : true ≡ false = sym (eq-eqb number d.0.number (own ∙ ap (λ (x : BlockPlace × List Entry). x.0.number) (sym same))) ∙ test in cc)
      | inr later ↦ let was = rest later in (Contains-tail d es e was.0, was.1)
    ]

pub left_are : (table : Opened) (kept : Kept) (number : ℕ) → AreBlocksOf table kept → AreBlocksOf table (without_table number kept)
unfolding AreBlocksOf
left_are table kept number are = λ at block among own. are at block (left_was number kept.entries (at, block) among).0 own

pub forgotten_are : (table : Opened) (kept : Kept) → AreBlocksOf table (without_table table.properties.number kept)
unfolding AreBlocksOf
forgotten_are table kept = λ at block among own. absurd ((left_was table.properties.number kept.entries (at, block) among).1 (sym own))

pub others_are : (other : Opened) (before now : Kept) (number : ℕ) → ((e : BlockPlace × List Entry) → Contains now.entries e → e.0.number ≢ number → Contains before.entries e) → other.properties.number ≢ number
    → AreBlocksOf other before → AreBlocksOf other now
unfolding AreBlocksOf
others_are other before now number was apart are = λ at block among own. are at block (was (at, block) among (λ same. apart (sym own ∙ same))) own
