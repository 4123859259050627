-- A table that is built row by row.
use Rattle.std.specs.Prelude.{◌≡◌, ℕ, zero, suc, ◌+◌, ◌^◌, ◌<◌, ◌≤◌, true, false, cond, nat_lt, nat_le, List, [], ◌∷◌, ◌++◌, length, map, take, drop, get_or, MatchOption, unwrap_or, Option, Some, None, Result, Ok, Err, IfOk, OnErr}
use Rattle.std.proofs.Common.{refl, sym, ap, subst, ◌∙◌, arith, length-append, append-nil, take-append-drop}
use Rattle.std.proofs.lemmas.List.{take_at, length-take-le, take_more}
use Rattle.std.proofs.lemmas.List.Elements.{All-weaker, All-take, All-nil, All-contains, Contains-push}
use Rattle.std.proofs.lemmas.Bool.Decides.{nat_tests}
use Rattle.std.specs.List.{fold}
use Rattle.std.specs.List.Sorted.{IsStrictlySortedBy}
use Rattle.lsm_rows.specs.declared.rows.Row.{Row}
use Rattle.lsm_bytes.specs.declared.no_memory.NoMemory.{NoMemory}
use Rattle.lsm_table.specs.declared.building.Finished.{Finished}
use Rattle.lsm_block.specs.declared.entries.Entry.{Entry}
use Rattle.lsm_block.specs.BlockText.{block_text}
use Rattle.lsm_block.specs.TableText.{Blocks, AreTableRows, row_entry, blocks_more, blocks_of, blocks_text, table_text}
use Rattle.lsm_table.specs.Building.{Built, IsBuilt, IsBehind, IsFinished, row_len}
use Rattle.lsm_table.specs.Cuts.{size_of}
use Rattle.lsm_table.proofs.BehindRows.{behind}
use Rattle.lsm_table.proofs.BuiltRows.{blocks-none}
use Rattle.lsm_table.proofs.Cutting.{size-is, block_none}
use Rattle.lsm_compact.specs.Building.{Table, AreRows, IsBuiltOf, IsPushed, IsTable, IsEnd}
use Rattle.lsm_compact.specs.Calls.{IsRowOfStore}
use Rattle.lsm_compact.specs.Outputs.{ended_text, ended_len, is_full}
use Rattle.lsm_compact.proofs.Ascending.{Ascend, front_ascends}

-- ---- rows

pub table_rows : (rows : List Row) → 1 ≤ length rows → AreRows rows → AreTableRows rows
table_rows rows some are = record {
  some = some;
  ascend = are.ascend;
  sequences = All-weaker IsRowOfStore (λ (row : Row). row.sequence < 2 ^ 56) (λ row r. r.sequence) rows are.each;
}

pushed_some : (rows : List Row) (row : Row) → 1 ≤ length (rows ++ row ∷ [])
pushed_some rows row = let n = length-append rows (row ∷ []) in omega (arith, n)

pub may_follow : (b : Built) (rows : List Row) (row : Row) (handed : List ℕ) → IsBuilt b rows handed → AreRows
    (rows ++ row ∷ []) → IsBehind b row
may_follow b rows row handed built are = behind b rows row handed built
    (table_rows (rows ++ row ∷ []) (pushed_some rows row) are)

-- ---- room

below_from : (n : ℕ) → nat_lt n 4096 ≡ true → n < 4096
below_from n is = grind (arith, nat_tests)

one_more : (c : Blocks) (x : Entry) → length (block_text (blocks_more c x).begun) < 4096
unfolding blocks_more
one_more c x =
    elim (nat_lt (length (block_text (c.begun ++ x ∷ []))) 4096) as
    (λ t. nat_lt (length (block_text (c.begun ++ x ∷ []))) 4096 ≡ t
    → length (block_text (cond {A = Blocks} t (record { ended = c.ended; begun = c.begun ++ x ∷ [] })
    (record { ended = c.ended ++ (c.begun ++ x ∷ []) ∷ []; begun = [] })).begun) < 4096) [
      | true ↦ λ is. below_from (length (block_text (c.begun ++ x ∷ []))) is
      | false ↦ λ _. let n = block_none in omega (arith, n)
    ] refl

begun_small : (es : List Entry) (b : Blocks) → length (block_text b.begun) < 4096 → length
    (block_text (fold blocks_more b es).begun) < 4096
begun_small [] b small = small
begun_small (e ∷ es) b small = begun_small es (blocks_more b e) (one_more b e)

-- the open block of any rows has fewer bytes
open_small : (rows : List Row) → length (block_text (blocks_of (map row_entry rows)).begun) < 4096
unfolding blocks_of
open_small rows = begun_small (map row_entry rows) (record { ended = []; begun = [] })
    (let n = block_none in omega (arith, n))

not_full : (n : ℕ) → nat_le 2097152 n ≡ false → n < 2097152
not_full n is = grind (arith, nat_tests)

ended_small : (rows : List Row) → is_full rows ≡ false → ended_len rows < 2097152
unfolding is_full
ended_small rows is = not_full (ended_len rows) is

ended-is : (rows : List Row) → ended_text rows ≡ blocks_text (blocks_of (map row_entry rows)).ended
unfolding ended_text
ended-is rows = refl

-- where a table isn't full there is room for a row
pub has_room : (b : Built) (rows : List Row) (row : Row) (handed : List ℕ) → IsBuilt b rows handed → AreRows
    (rows ++ row ∷ []) → size_of b.blocks + row_len row + 108 < 2 ^ 29
has_room b rows row handed built are =
    let count = length-append rows (row ∷ []) in
    let open_now : is_full rows ≡ false = ap is_full (sym (take_at rows (row ∷ []) (length rows) refl)) ∙ are.before
    (length rows) (omega (arith, count)) in
    let ended = ended_small rows open_now in
    let place : b.blocks.place ≡ ended_len rows = built.blocks_are.place_is ∙ ap (length {A = ℕ}) (sym (ended-is rows)) in
    let begun : length (block_text b.blocks.begun) < 4096 = subst (λ (es : List Entry). length (block_text es) < 4096)
    (sym built.blocks_are.begun_is) (open_small rows) in
    let size = size-is b.blocks in
    let r : IsRowOfStore row = All-contains IsRowOfStore (rows ++ row ∷ []) row are.each (Contains-push rows row) in
    let key = r.key in
    let value = r.value in
    omega (arith, ended, place, begun, size, key, value)

-- ---- pieces

-- what was handed out and the next piece are the ended blocks
pub pieces : (mid new : Built) (rows : List Row) (handed : List ℕ) (o : Option (List ℕ)) → IsBuilt mid rows handed
    → MatchOption o (IsBuilt new rows handed) (λ piece. IsBuilt new rows (handed ++ piece)) → MatchOption o
    (mid.blocks.pending ≡ []) (λ piece. piece ≡ mid.blocks.pending)
    → (handed ++ unwrap_or o [] ≡ ended_text rows) × IsBuilt new rows (ended_text rows)
pieces mid new rows handed None built after none =
    let all : handed ++ [] ≡ ended_text rows = ap (λ (p : List ℕ). handed ++ p) (sym none) ∙ built.blocks_are.text_is ∙ sym
    (ended-is rows) in
    (all, subst (IsBuilt new rows) (sym (append-nil handed) ∙ all) after)
pieces mid new rows handed (Some piece) built after is =
    let all : handed ++ piece ≡ ended_text rows = ap (λ (p : List ℕ). handed ++ p) is ∙ built.blocks_are.text_is ∙ sym
    (ended-is rows) in
    (all, subst (IsBuilt new rows) all after)

-- a row was added, and what was ended with it was handed out
pub pushed : (mid new : Built) (rows all : List Row) (row : Row) (o : Option (List ℕ)) → IsBuilt mid (rows ++ row ∷ [])
    (ended_text rows) → all ≡ rows ++ row ∷ []
    → MatchOption o (IsBuilt new (rows ++ row ∷ []) (ended_text rows))
    (λ piece. IsBuilt new (rows ++ row ∷ []) (ended_text rows ++ piece))
    → MatchOption o (mid.blocks.pending ≡ []) (λ piece. piece ≡ mid.blocks.pending) → IsPushed new rows row all o
pushed mid new rows all row o built is after none =
    let p = pieces mid new (rows ++ row ∷ []) (ended_text rows) o built after none in
    record {
      rows = is;
      built_is = subst (λ (rs : List Row). IsBuilt new rs (ended_text rs)) (sym is) p.1;
      piece_is = p.0 ∙ ap ended_text (sym is);
    }

-- ---- fronts of rows

take_front : {A : Type 0} (count n : ℕ) (xs : List A) → count ≤ n → take count (take n xs) ≡ take count xs
take_front zero n xs less = refl
take_front (suc count) zero xs less = absurd (omega (arith, less))
take_front (suc count) (suc n) [] less = refl
take_front (suc count) (suc n) (x ∷ xs) less = ap (λ l. x ∷ l) (take_front count n xs (omega (arith, less)))

pub front_rows : (n : ℕ) (rows : List Row) → n ≤ length rows → AreRows rows → AreRows (take n rows)
front_rows n rows within are = record {
  ascend = front_ascends (take n rows) (drop n rows) (subst Ascend (sym (take-append-drop n rows)) are.ascend);
  each = All-take IsRowOfStore n rows are.each;
  before = λ count below.
      let len = length-take-le n rows within in
      ap is_full (take_front count n rows (omega (arith, below, len))) ∙ are.before count (omega (arith, below, len, within));
}

no_blocks : blocks_text [] ≡ []
unfolding blocks_text
no_blocks = refl

pub no_ended : ended_text [] ≡ []
unfolding ended_text
no_ended = ap (λ (b : Blocks). blocks_text b.ended) blocks-none ∙ no_blocks

pub no_rows : AreRows []
unfolding IsStrictlySortedBy
no_rows = record {
  ascend = tt;
  each = All-nil IsRowOfStore;
  before = λ count below. absurd (omega (arith, below));
}

-- one row more of a front
pub next_front : (rows : List Row) (i : ℕ) (row : Row) → i < length rows → row ≡ get_or rows i row → take
    (i + 1) rows ≡ take i rows ++ row ∷ []
next_front rows i row within is = take_more rows i row within ∙ ap (λ (r : Row). take i rows ++ r ∷ []) (sym is)

pub at_row : (rows : List Row) (i : ℕ) (row : Row) → i < length rows → row ≡ get_or rows i row → AreRows rows → AreRows
    (take i rows ++ row ∷ [])
at_row rows i row within is are = subst AreRows (next_front rows i row within is)
    (front_rows (i + 1) rows (omega (arith, within)) are)

-- ---- a table and its builder

some_is : (a b : Built) → Some a ≡ Some b → a ≡ b
some_is a b is = cc

pub with_builder : (t : Table) (b : Built) → AreRows t.rows → IsBuiltOf b t.number t.session t.rows → IsTable t (Some b)
with_builder t b rows built = record
    { rows = rows; built = λ c is. subst (λ (x : Built). IsBuiltOf x t.number t.session t.rows) (some_is b c is) built }

pub new_table : (t : Table) (b : Built) → t.rows ≡ [] → IsBuilt b [] [] → b.number ≡ t.number → b.session ≡ t.session
    → IsTable t (Some b)
new_table t b none built number session =
    with_builder t b (subst AreRows (sym none) no_rows) (record {
      number_is = number;
      session_is = session;
      built_is = subst (λ (rs : List Row). IsBuilt b rs (ended_text rs)) (sym none)
          (subst (IsBuilt b []) (sym no_ended) built);
    })

no_builder : (b : Built) → None ≡ Some b → ⊥
no_builder b is = cc

pub without_builder : (t : Table) → AreRows t.rows → IsTable t None
without_builder t rows = record { rows = rows; built = λ b is. absurd (no_builder b is) }

-- a row was pushed, or refused
pub after_push : (t : Table) (b new : Built) (old : List Row) (row : Row) (result : Result (Option (List ℕ)) Row)
    → AreRows old → AreRows (old ++ row ∷ [])
    → IsBuiltOf b t.number t.session old → IfOk result (λ piece. IsPushed new old row t.rows piece) → OnErr result
    (IsBuilt new t.rows (ended_text t.rows))
    → OnErr result (t.rows ≡ old) → new.number ≡ b.number → new.session ≡ b.session → IsTable t (Some new)
after_push t b new old row (Ok piece) were are built pushed refused same number session =
    with_builder t new (subst AreRows (sym pushed.rows) are) (record {
      number_is = number ∙ built.number_is;
      session_is = session ∙ built.session_is;
      built_is = pushed.built_is;
    })
after_push t b new old row (Err back) were are built pushed refused same number session =
    with_builder t new (subst AreRows (sym same) were) (record {
      number_is = number ∙ built.number_is;
      session_is = session ∙ built.session_is;
      built_is = refused;
    })

-- a builder's end is that of its table
pub ends : (t : Table) (b : Built) (number : ℕ) (session : List ℕ) (rows : List Row) (result : Result Finished NoMemory)
    → record { number = number; session = session; rows = rows; whole = t.whole } ≡ t
    → IsBuiltOf b number session rows → IfOk result
    (λ f. IsFinished b rows (ended_text rows) f.tail f.size f.smallest f.largest)
    → IfOk result (λ f. IsEnd t f.tail f.size f.smallest f.largest)
ends t b number session rows (Err e) same built finished = finished
ends t b number session rows (Ok f) same built finished =
    subst (λ (x : Table). IsEnd x f.tail f.size f.smallest f.largest) same (record {
      text = finished.text ∙ (λ i. table_text rows (built.number_is i) (built.session_is i));
      size_is = finished.size_is ∙ (λ i. length (table_text rows (built.number_is i) (built.session_is i)));
      smallest_is = finished.smallest_is;
      largest_is = finished.largest_is;
    })
