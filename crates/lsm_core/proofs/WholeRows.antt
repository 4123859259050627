-- The rows of a whole table, and those of all live tables.
use Rattle.std.specs.Prelude.{◌≡◌, ◌≢◌, ℕ, ◌^◌, ◌<◌, ◌≤◌, List, [], ◌∷◌, ◌++◌, take, length, filter, All, Contains, Option, Some, None, Result, Ok, Err, MatchResult, is_ok, if◌then◌else◌}
use Rattle.std.proofs.Common.{refl, sym, ap, subst, ◌∙◌, append_assoc, append-nil, arith}
use Rattle.std.specs.List.{flat_map}
use Rattle.std.proofs.lemmas.List.{take_all}
use Rattle.std.proofs.lemmas.List.Elements.{All-head, All-tail, All-weaker}
use Rattle.std.specs.Map.{lookup}
use Rattle.std.specs.Ordering.{nat_cmp, is_eq}
use Rattle.std.specs.FinMap as finmap
use Rattle.lsm_disk.specs.Viewed.{Viewed}
use Rattle.lsm_frame.specs.Reader.{Tells, Stays}
use Rattle.lsm_rows.specs.declared.rows.Row.{Row}
use Rattle.lsm_block.specs.declared.entries.Entry.{Entry}
use Rattle.lsm_block.specs.Runs.{rows_after}
use Rattle.lsm_block.specs.TableText.{data_blocks}
use Rattle.lsm_table.specs.declared.faults.TableFault.{TableFault}
use Rattle.lsm_table.specs.Opening.{IsOutside}
use Rattle.lsm_table.specs.Tables.{Opened}
use Rattle.lsm_table.specs.WholeTables.{IsTable}
use Rattle.lsm_table.proofs.OrderedBlocks.{rows_len}
use Rattle.lsm_table.proofs.WholeTables.{parts_are}
use Rattle.lsm_cache.specs.declared.blocks.BlockPlace.{BlockPlace}
use Rattle.lsm_cache.specs.Kept.{Kept as Blocks}
use Rattle.lsm_cache.specs.Getting.{AreBlocksOf}
use Rattle.lsm_cache.proofs.Keeping.{stays_are}
use Rattle.lsm_version.specs.declared.tables.Placed.{Placed}
use Rattle.lsm_version.specs.Levels.{Tables}
use Rattle.lsm_version.proofs.TableMaps.{value_at, entries_tables, InOrder}
use Rattle.lsm_folder.specs.Parts.{rows_of_tables}

-- ---- one table

-- behind no key come all rows
none_before : (rows : List Row) → rows_after None rows ≡ rows
unfolding rows_after
none_before [] = refl
none_before (row ∷ rows) = ap (λ (l : List Row). row ∷ l) (none_before rows)

-- a whole table has so few rows that one run has them all
whole_run : (text : List ℕ) (rows : List Row) (number : ℕ) (session : List ℕ) → IsTable text rows number session
    → take 4294967295 (rows_after None rows) ≡ rows
whole_run text rows number session is =
    let parts = parts_are text rows number session is in
    let few : length rows ≤ 4294967295 = omega (arith, rows_len rows, parts.len, is.small) in
    ap (take 4294967295) (none_before rows) ∙ take_all 4294967295 rows few

pub all_rows : (viewed : Viewed) (r : Result (List Row) TableFault)
    → ((text : List ℕ) (rows : List Row) (number : ℕ) (session : List ℕ) → Tells viewed text → IsTable text rows number session
    → MatchResult r (λ run. run ≡ take 4294967295 (rows_after None rows)) IsOutside)
    → (text : List ℕ) (rows : List Row) (number : ℕ) (session : List ℕ) → Tells viewed text → IsTable text rows number session
    → MatchResult r (λ all. all ≡ rows) IsOutside
all_rows viewed r whole text rows number session tells is = by r (whole text rows number session tells is)
  where
    by : (r : Result (List Row) TableFault) → MatchResult r (λ run. run ≡ take 4294967295 (rows_after None rows)) IsOutside
        → MatchResult r (λ all. all ≡ rows) IsOutside
    by (Ok run) run_is = run_is ∙ whole_run text rows number session is
    by (Err e) outside = outside

-- a table that was read keeps its blocks, and the others keep theirs
pub blocks_stay : (was now : Opened) (blocks : Blocks) → Stays was.viewed now.viewed → now.index ≡ was.index
    → now.properties ≡ was.properties → AreBlocksOf was blocks → AreBlocksOf now blocks
blocks_stay was now blocks stays index properties are = stays_are was now blocks stays index properties are

pub others_stay : (was : Opened) (blocks : Blocks) (e : BlockPlace × List Entry) → Contains blocks.entries e
    → e.0.number ≢ was.properties.number → Contains blocks.entries e
others_stay was blocks e has apart = has

-- ---- all tables

abbrev pub AreLive : Tables → List (ℕ × Placed) → Type 0
AreLive tables left = All (λ (table : ℕ × Placed). finmap.get tables table.0 ≡ Some table.1) left

-- the rows of these tables, one behind another
abbrev pub rows_in : (ℕ → List Row) → List (ℕ × Placed) → List Row
rows_in rows left = flat_map (λ (table : ℕ × Placed). rows table.0) left

module _ (tables : Tables) (es : List (ℕ × Placed)) (is : finmap.from_entries es ≡ tables) where
  -- a version's entries are live
  pub live_entries : All (λ (e : ℕ × Placed). lookup (λ (k : ℕ). is_eq (nat_cmp e.0 k)) es ≡ Some e.1) es → AreLive tables es
  live_entries each = All-weaker (λ (e : ℕ × Placed). lookup (λ (k : ℕ). is_eq (nat_cmp e.0 k)) es ≡ Some e.1)
      (λ (table : ℕ × Placed). finmap.get tables table.0 ≡ Some table.1)
      (λ e found. ap (λ (t : Tables). finmap.get t e.0) (sym is) ∙ sym (value_at es e.0) ∙ found) es each

  -- and in their order, so that all rows are theirs
  pub all_to_read : InOrder es → (left : List (ℕ × Placed)) → left ≡ es → (rows : ℕ → List Row)
      → rows_of_tables tables rows ≡ rows_in rows left
  all_to_read ordered left same rows =
      ap (rows_in rows) (sym (same ∙ sym (entries_tables es ordered) ∙ ap (λ (t : Tables). finmap.entries t) is))

module _ (tables : Tables) (left rest : List (ℕ × Placed)) (number : ℕ) (placed : Placed)
    (step : left ≡ (number, placed) ∷ rest) where
  pub live_first : AreLive tables left → finmap.get tables number ≡ Some placed
  live_first each = All-head (λ (table : ℕ × Placed). finmap.get tables table.0 ≡ Some table.1) (number, placed) rest
      (subst (AreLive tables) step each)

  pub live_rest : AreLive tables left → AreLive tables rest
  live_rest each = All-tail (λ (table : ℕ × Placed). finmap.get tables table.0 ≡ Some table.1) (number, placed) rest
      (subst (AreLive tables) step each)

  -- one table more was read
  pub read_more : (rows : ℕ → List Row) (whole old new : List Row) → whole ≡ old ++ rows_in rows left → new ≡ old ++ rows number
      → whole ≡ new ++ rows_in rows rest
  read_more rows whole old new so_far added =
      so_far ∙ ap (λ (l : List (ℕ × Placed)). old ++ rows_in rows l) step
      ∙ sym (append_assoc old (rows number) (rows_in rows rest)) ∙ ap (λ (l : List Row). l ++ rows_in rows rest) (sym added)

-- all were read
pub all_read : (rows : ℕ → List Row) (whole all : List Row) (left : List (ℕ × Placed)) → left ≡ [] → whole ≡ all ++ rows_in rows left
    → all ≡ whole
all_read rows whole all left none so_far =
    sym (so_far ∙ ap (λ (l : List (ℕ × Placed)). all ++ rows_in rows l) none ∙ append-nil all)

-- rows were added behind others
pub added : {E : Type 0} (old new more rows all : List Row) (r : Result (Unit {0}) E) → r ≡ Ok tt
    → new ≡ (if is_ok r then old ++ more else old) → more ≡ rows → rows ≡ all → new ≡ old ++ all
added old new more rows all r is appended same found =
    appended ∙ ap (λ x. if is_ok x then old ++ more else old) is ∙ ap (λ (l : List Row). old ++ l) (same ∙ found)
