-- A row that comes behind others in the order of their keys may be added behind them.
use Rattle.std.proofs.Common.{◌≡◌, ℕ, ◌+◌, ◌*◌, ◌<◌, ◌≤◌, ⊎_elim, List, [], ◌∷◌, ◌++◌, length, refl, sym, ap, ◌∙◌, subst, arith, append_assoc, length-append}
use Rattle.std.specs.Prelude.{map, All}
use Rattle.std.specs.List.{flat_map, fold}
use Rattle.std.specs.List.Sorted.{IsStrictlySortedBy}
use Rattle.std.specs.Ordering.{nat_cmp, ordering_then}
use Rattle.std.specs.declared.cmp.Ordering.{Ordering}
use Rattle.std.specs.declared.cmp.Ordering.TheVariants.{Less}
use Rattle.std.proofs.lemmas.Bool.{cases_lt}
use Rattle.std.proofs.lemmas.List.{append-nil, map-append}
use Rattle.std.proofs.lemmas.List.Elements.{All-nil, All-cons, All-head, All-tail, All-push}
use Rattle.std.proofs.lemmas.Map.Views.{All-before_last}
use Rattle.lsm_rows.specs.declared.rows.Row.{Row}
use Rattle.lsm_rows.specs.InternalKeys.{internal_cmp, internal_key, user_key, trailer, kind_byte}
use Rattle.lsm_rows.specs.Replay.{key_cmp}
use Rattle.lsm_rows.proofs.InternalOrder.{user_key_of}
use Rattle.lsm_block.specs.declared.entries.Entry.{Entry}
use Rattle.lsm_block.specs.BlockText.{block_text}
use Rattle.lsm_block.specs.Blocks.{keys_of}
use Rattle.lsm_block.specs.Parts.{last_key}
use Rattle.lsm_block.specs.TableText.{kind_of, row_entry, Blocks, blocks_more, blocks_of, index_from, stored, AreTableRows}
use Rattle.lsm_block.proofs.Keys.{last_all}
use Rattle.lsm_table.specs.Building.{Built, IsBuilt, IsBehind}
use Rattle.lsm_table.proofs.BuiltRows.{more_open, more_full, blocks-none, index_from-nil}

-- one block behind another
abbrev pub joined : List (List Entry) → List Entry
joined blocks = flat_map (λ es. es) blocks

joined-cons : (es : List Entry) (blocks : List (List Entry)) → joined (es ∷ blocks) ≡ es ++ joined blocks
joined-cons es blocks = refl

joined-nil : joined [] ≡ []
joined-nil = refl

joined-push : (blocks : List (List Entry)) (es : List Entry) → joined (blocks ++ es ∷ []) ≡ joined blocks ++ es
joined-push [] es = joined-cons es [] ∙ ap (λ l. es ++ l) joined-nil ∙ append-nil es ∙ ap (λ l. l ++ es) (sym joined-nil)
joined-push (d ∷ blocks) es =
    joined-cons d (blocks ++ es ∷ []) ∙ ap (λ l. d ++ l) (joined-push blocks es) ∙ sym (append_assoc d (joined blocks) es) ∙ ap (λ l. l ++ es) (sym (joined-cons d blocks))

-- blocks are their entries, and each ended one has some
pub record AreBlocks (b : Blocks) (es : List Entry) : Type 0 where
  pub all : joined b.ended ++ b.begun ≡ es
  pub some : All (λ d. 1 ≤ length d) b.ended

none_are : AreBlocks (record { ended = []; begun = [] }) []
none_are = record { all = ap (λ l. l ++ []) joined-nil; some = All-nil (λ d. 1 ≤ length d) }

more_are : (b : Blocks) (es : List Entry) (e : Entry) → AreBlocks b es → AreBlocks (blocks_more b e) (es ++ e ∷ [])
more_are b es e are =
    ⊎_elim
    (λ (less : length (block_text (b.begun ++ e ∷ [])) < 4096). subst (λ d. AreBlocks d (es ++ e ∷ [])) (sym (more_open b e less))
    (record { all = sym (append_assoc (joined b.ended) b.begun (e ∷ [])) ∙ ap (λ l. l ++ e ∷ []) are.all; some = are.some }))
    (λ (full : 4096 ≤ length (block_text (b.begun ++ e ∷ []))). subst (λ d. AreBlocks d (es ++ e ∷ [])) (sym (more_full b e full))
    (record {
      all =
          append-nil (joined (b.ended ++ (b.begun ++ e ∷ []) ∷ [])) ∙ joined-push b.ended (b.begun ++ e ∷ []) ∙ sym (append_assoc (joined b.ended) b.begun (e ∷ [])) ∙ ap (λ l. l ++ e ∷ []) are.all;
      some = All-push (λ d. 1 ≤ length d) b.ended (b.begun ++ e ∷ []) are.some (omega (arith, length-append b.begun (e ∷ [])));
    }))
    (cases_lt (length (block_text (b.begun ++ e ∷ []))) 4096)

folded_are : (b : Blocks) (es more : List Entry) → AreBlocks b es → AreBlocks (fold blocks_more b more) (es ++ more)
folded_are b es [] are = subst (AreBlocks b) (sym (append-nil es)) are
folded_are b es (e ∷ more) are = subst (AreBlocks (fold blocks_more (blocks_more b e) more)) (append_assoc es (e ∷ []) more) (folded_are (blocks_more b e) (es ++ e ∷ []) more (more_are b es e are))

pub blocks_are : (es : List Entry) → AreBlocks (blocks_of es) es
unfolding blocks_of
blocks_are es = folded_are (record { ended = []; begun = [] }) [] es none_are

-- what holds of each entry's key holds of the index's
pub split_all : (P : List ℕ → Type 0) (a b : List Entry) → All P (keys_of (a ++ b)) → All P (keys_of a) × All P (keys_of b)
split_all P [] b all = (All-nil P, all)
split_all P (e ∷ a) b all =
    let rest = split_all P a b (All-tail P e.key (keys_of (a ++ b)) all) in
    (All-cons P e.key (keys_of a) (All-head P e.key (keys_of (a ++ b)) all) rest.0, rest.1)

pub index_all : (P : List ℕ → Type 0) (place : ℕ) (blocks : List (List Entry)) → All (λ d. 1 ≤ length d) blocks → All P (keys_of (joined blocks)) → All P (keys_of (index_from place blocks))
unfolding index_from
index_all P place [] some all = All-nil P
index_all P place (es ∷ blocks) some all =
    let parts = split_all P es (joined blocks) (subst (λ l. All P (keys_of l)) (joined-cons es blocks) all) in
    All-cons P (last_key es) (keys_of (index_from (place + length (stored (block_text es))) blocks)) (last_all P es (All-head (λ d. 1 ≤ length d) es blocks some) parts.0)
    (index_all P (place + length (stored (block_text es))) blocks (All-tail (λ d. 1 ≤ length d) es blocks some) parts.1)

-- internal keys of ascending user keys
key-is : (row : Row) → (row_entry row).key ≡ internal_key row.key row.sequence (kind_byte (kind_of row.value))
key-is row = refl

pub user-is : (row : Row) → user_key (row_entry row).key ≡ row.key
unfolding internal_key
user-is row = user_key_of row.key (row.sequence * 256 + kind_byte (kind_of row.value))

pub then_less : (o p : Ordering) → o ≡ Less → ordering_then o p ≡ Less
then_less o p is = ap (λ q. ordering_then q p) is

row_less : (a b : Row) → key_cmp a.key b.key ≡ Less → internal_cmp (row_entry a).key (row_entry b).key ≡ Less
unfolding internal_cmp
row_less a b less =
    then_less (key_cmp (user_key (row_entry a).key) (user_key (row_entry b).key)) (nat_cmp (trailer (row_entry b).key) (trailer (row_entry a).key)) ((λ i. key_cmp (user-is a i) (user-is b i)) ∙ less)

rows_less : (rows : List Row) (row : Row) → All (λ k. key_cmp k row.key ≡ Less) (map (λ (r : Row). r.key) rows) → All (λ k. internal_cmp k (row_entry row).key ≡ Less) (keys_of (map row_entry rows))
rows_less [] row all = All-nil (λ k. internal_cmp k (row_entry row).key ≡ Less)
rows_less (r ∷ rows) row all =
    All-cons (λ k. internal_cmp k (row_entry row).key ≡ Less) (row_entry r).key (keys_of (map row_entry rows)) (row_less r row (All-head (λ k. key_cmp k row.key ≡ Less) r.key (map (λ (d : Row). d.key) rows) all))
    (rows_less rows row (All-tail (λ k. key_cmp k row.key ≡ Less) r.key (map (λ (d : Row). d.key) rows) all))

pub behind : (v : Built) (rows : List Row) (row : Row) (handed : List ℕ) → IsBuilt v rows handed → AreTableRows (rows ++ row ∷ []) → IsBehind v row
behind v rows row handed built are =
    let P : List ℕ → Type 0 = λ k. internal_cmp k (row_entry row).key ≡ Less in
    let es : List Entry = map row_entry rows in
    let b : Blocks = blocks_of es in
    let all : All P (keys_of es) =
    rows_less rows row (All-before_last key_cmp (map (λ (r : Row). r.key) rows) row.key (subst (λ l. IsStrictlySortedBy key_cmp l) (map-append (λ (r : Row). r.key) rows (row ∷ [])) are.ascend)) in
    let blocks = blocks_are es in
    let parts = split_all P (joined b.ended) b.begun (subst (λ l. All P (keys_of l)) (sym blocks.all) all) in
    record {
      begun = subst (λ l. All P (keys_of l)) (sym built.blocks_are.begun_is) parts.1;
      index = subst (λ l. All P (keys_of l)) (sym built.blocks_are.index_is) (index_all P 0 b.ended blocks.some parts.0);
    }

-- any row may come first
pub first_behind : (v : Built) (row : Row) → IsBuilt v [] [] → IsBehind v row
first_behind v row built =
    let P : List ℕ → Type 0 = λ k. internal_cmp k (row_entry row).key ≡ Less in
    let begun : v.blocks.begun ≡ [] = built.blocks_are.begun_is ∙ ap (λ (b : Blocks). b.begun) blocks-none in
    let index : v.blocks.index ≡ [] = built.blocks_are.index_is ∙ ap (λ (b : Blocks). index_from 0 b.ended) blocks-none ∙ index_from-nil in
    record { begun = subst (λ l. All P (keys_of l)) (sym begun) (All-nil P); index = subst (λ l. All P (keys_of l)) (sym index) (All-nil P) }
