-- A loop that adds the newest rows of the keys to a table.
use Rattle.std.proofs.Common.{◌≡◌, ℕ, ◌+◌, ◌^◌, ◌<◌, ◌≤◌, List, [], ◌∷◌, length, drop, get_or, sym, ap, ◌∙◌, subst, arith}
use Rattle.std.specs.Prelude.{Some, None, Vec, slice_get}
use Rattle.std.specs.declared.ops.Bound.TheVariants.{Included, Unbounded}
use Rattle.std.specs.BTreeMap.Range.{entries_between}
use Rattle.lsm_rows.specs.declared.rows.Row.{Row}
use Rattle.lsm_block.specs.TableText.{AreTableRows}
use Rattle.lsm_memtable.specs.declared.progress.Progress.{Progress}
use Rattle.lsm_memtable.specs.Sizes.{room_of}
use Rattle.lsm_memtable.specs.Newest.{newest_each}
use Rattle.lsm_memtable.specs.Order.{AreInOrder}
use Rattle.lsm_memtable.specs.Kept.{rows_in, heads, AreKept}
use Rattle.lsm_memtable.specs.Flushing.{IsProgress, IsKeyAt, IsReady}
use Rattle.lsm_memtable.proofs.KeptRows.{Each, each_head, each_tail}
use Rattle.lsm_memtable.proofs.KeyRanges.{keys_cmp, from_none}
use Rattle.lsm_memtable.proofs.Heads.{heads-cons, heads_newest, heads_from, drop_first, drop_none}
use Rattle.lsm_memtable.proofs.NewestRows.{newest_table}
use Rattle.lsm_memtable.proofs.Feeding.{newest_room}

-- the keys that are left are those from a place on, and the rows before it are built
pub record IsFed {Z : Type 0} (began p : Progress) (rows : List Row) (left : List (Vec ℕ Z × List Row)) (place until : ℕ) : Type 0 where
  pub progress : IsProgress p rows
  pub heads_are : heads left ≡ drop place rows
  pub each : Each left
  pub built : place ≤ p.built
  pub within : p.built ≤ until
  pub taken : p.taken ≡ began.taken
  pub number : p.builder.number ≡ began.builder.number
  pub session : p.builder.session ≡ began.builder.session

-- what the next key has
pub next_key : {Z : Type 0} (began p : Progress) (rows : List Row) (left rest : List (Vec ℕ Z × List Row)) (e : Vec ℕ Z × List Row) (place until : ℕ) → IsFed began p rows left place until → left ≡ e ∷ rest
    → (v : Row) × (slice_get e.1 0 ≡ Some v) × (v.key ≡ e.0.items) × (place < length rows) × ((d : Row) → get_or rows place d ≡ v) × (heads rest ≡ drop (place + 1) rows)
next_key began p rows left rest e place until fed is =
    let h = heads-cons e rest (each_head e rest (subst Each is fed.each)) in
    let d = drop_first place rows (heads rest) h.0 (sym h.1 ∙ ap heads (sym is) ∙ fed.heads_are) in
    (h.0, h.2, h.3, d.0, d.1, d.2)

pub key_at : {Z : Type 0} (began p : Progress) (rows : List Row) (left rest : List (Vec ℕ Z × List Row)) (e : Vec ℕ Z × List Row) (place until : ℕ) (key : List ℕ) → IsFed began p rows left place until → left ≡ e ∷ rest → place ≡ until
    → key ≡ e.0.items → (p.built ≡ until) × IsKeyAt rows until key
key_at began p rows left rest e place until key fed is at_end key_is =
    let n = next_key began p rows left rest e place until fed is in
    (omega (arith, fed.built, fed.within, at_end), subst (λ m. IsKeyAt rows m key) at_end (record { within = n.3; is = λ d. ap (λ (r : Row). r.key) (n.4 d) ∙ n.2 ∙ sym key_is }))

same_some : (a b : Row) → Some a ≡ Some b → a ≡ b
same_some a b is = cc

pub ready : {Z : Type 0} (began p : Progress) (rows all : List Row) (left rest : List (Vec ℕ Z × List Row)) (e : Vec ℕ Z × List Row) (place until : ℕ) → IsFed began p rows left place until → left ≡ e ∷ rest → rows ≡ newest_each all → AreInOrder all
    → room_of all + 4 < 2 ^ 29 → IsReady p rows place e.1
ready began p rows all left rest e place until fed is rows_are order room =
    let n = next_key began p rows left rest e place until fed is in
    record {
      progress = fed.progress;
      are_rows = subst AreTableRows (sym rows_are) (newest_table all order (let h : place < length rows = n.3 in omega (arith, h, ap (length {A = Row}) rows_are)));
      room = subst (λ l. room_of l + 4 < 2 ^ 29) (sym rows_are) (newest_room all room);
      built = fed.built;
      row_at = λ row first. record { within = n.3; is = sym (same_some n.0 row (sym n.1 ∙ first)) ∙ sym (n.4 row) };
      some = (each_head e rest (subst Each is fed.each)).some;
    }

-- one key more
pub fed_more : {Z : Type 0} (began p q : Progress) (rows : List Row) (left rest : List (Vec ℕ Z × List Row)) (e : Vec ℕ Z × List Row) (place until : ℕ) → IsFed began p rows left place until → left ≡ e ∷ rest → IsProgress q rows → place < q.built → q.built ≤ until
    → q.taken ≡ p.taken → q.builder.number ≡ p.builder.number → q.builder.session ≡ p.builder.session → IsFed began q rows rest (place + 1) until
fed_more began p q rows left rest e place until fed is progress past within taken number session = record {
  progress = progress;
  heads_are = (next_key began p rows left rest e place until fed is).5;
  each = each_tail e rest (subst Each is fed.each);
  built = omega (arith, past);
  within = within;
  taken = taken ∙ fed.taken;
  number = number ∙ fed.number;
  session = session ∙ fed.session;
}

-- no key is left
pub fed_all : {Z : Type 0} (began p : Progress) (rows : List Row) (left : List (Vec ℕ Z × List Row)) (place until : ℕ) → IsFed began p rows left place until → left ≡ [] → (p.built ≡ length rows) × (length rows ≤ until)
fed_all began p rows left place until fed none =
    let few : length rows ≤ place = drop_none place rows (ap heads (sym none) ∙ fed.heads_are) in
    (omega (arith, few, fed.built, fed.progress.built_within), omega (arith, few, fed.built, fed.within))

no_row : Row
no_row = record { key = []; sequence = 0; value = None }

-- all keys, from the first on
pub feed_all : {Z : Type 0} (es : List (Vec ℕ Z × List Row)) → AreKept es → heads (entries_between keys_cmp Unbounded Unbounded es) ≡ newest_each (rows_in es)
feed_all es kept = ap heads (from_none es) ∙ sym (heads_newest es kept)

-- the keys from that of the row at a place on
pub feed_start : {Z : Type 0} (es : List (Vec ℕ Z × List Row)) (rows : List Row) (place : ℕ) (key : Vec ℕ Z) → AreKept es → rows_in es ≡ rows → ((d : Row) → place < length (newest_each rows) → (get_or (newest_each rows) place d).key ≡ key.items)
    → place < length (newest_each rows) → heads (entries_between keys_cmp (Included key) Unbounded es) ≡ drop place (newest_each (rows_in es))
feed_start es rows place key kept rows_are start less =
    let are : newest_each rows ≡ heads es = ap newest_each (sym rows_are) ∙ heads_newest es kept in
    heads_from place es key no_row kept.ascend kept.each (omega (arith, less, ap (length {A = Row}) are)) (ap (λ (l : List Row). (get_or l place no_row).key) (sym are) ∙ start no_row less) ∙ ap (drop place) (sym (heads_newest es kept))
