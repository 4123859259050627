-- The table of rows, from the first piece of its flush to its file.
use Rattle.std.specs.Prelude.{◌≡◌, ℕ, ◌^◌, ◌<◌, ◌≤◌, true, List, [], ◌∷◌, map, length, All, Option, Some, None}
use Rattle.std.proofs.Common.{refl, sym, ap, subst, ◌∙◌, arith}
use Rattle.std.proofs.lemmas.List.Elements.{All-nil, All-cons, All-head, All-tail, All-filter}
use Rattle.std.proofs.lemmas.List.Sorted.{length_permutation}
use Rattle.lsm_names.specs.Sessions.{is_session}
use Rattle.lsm_names.specs.declared.file_names.FileName.TheVariants.{Table}
use Rattle.lsm_rows.specs.declared.rows.Row.{Row}
use Rattle.lsm_disk.specs.State.{State, Seen, Story, state_of}
use Rattle.lsm_disk.specs.Dest.{path_in}
use Rattle.lsm_disk.proofs.Runs.{went_weaker}
use Rattle.lsm_block.specs.Parts.{last_key}
use Rattle.lsm_block.specs.Blocks.{keys_of}
use Rattle.lsm_block.specs.TableText.{kind_of, row_entry, table_text}
use Rattle.lsm_block.proofs.Keys.{last_all}
use Rattle.lsm_table.specs.WholeTables.{IsTable}
use Rattle.lsm_table.specs.declared.building.Finished.{Finished}
use Rattle.lsm_version.specs.declared.tables.TableInfo.{TableInfo}
use Rattle.lsm_version.specs.Edits as version
use Rattle.lsm_version.specs.Edits.{IsKey}
use Rattle.lsm_memtable.specs.Flushes.{Flushing, bytes_of, IsNextPiece, IsLastPiece}
use Rattle.lsm_memtable.specs.FlushPieces.{IsStep}
use Rattle.lsm_memtable.specs.declared.flush.FlushPiece.TheVariants.{Piece, Last}
use Rattle.lsm_memtable.specs.Joining.{AreJoined}
use Rattle.lsm_memtable.specs.Newest.{is_newest, newest_each}
use Rattle.lsm_memtable.proofs.Progresses.{bytes_none}
use Rattle.lsm_memtable.specs.RowLimits.{RowInLimits, RowsInLimits}
use Rattle.lsm_refine.specs.FoundFolder.{IsTableFile}
use Rattle.lsm_opening.specs.RowFiles.{WritesFile, HasSoFar, IsSealedAs}
use Rattle.lsm_opening.specs.RowTables.{IsEndOf, IsStepped, IsSameFlush, HasRowTable, flushed_text, newest_table}

-- ---- the pieces

-- the file has the pieces of the rows that were taken, and some rows are left
pub record WritesOn (path : List ℕ) (old now : Seen) (first f : Flushing) : Type 0 where
  pub same : IsSameFlush first f
  pub left : f.taken < length (newest_each f.rows)
  pub went : (start : Story) → WritesFile path start old.told (HasSoFar path start [])
      → WritesFile path start now.told (HasSoFar path start (bytes_of (newest_each f.rows) f.taken))
  pub faults : old.faults ≤ now.faults
  pub refusals : old.refusals ≤ now.refusals

pub piece_of : (f : Flushing) (bytes : List ℕ) (taken : ℕ) → IsStep f (Piece bytes) taken → IsNextPiece f bytes taken
unfolding IsStep
piece_of f bytes taken is = is

pub last_of : (f : Flushing) (last : Finished) (taken : ℕ) → IsStep f (Last last) taken
    → IsLastPiece f last.tail last.size last.smallest last.largest taken
unfolding IsStep
last_of f last taken is = is

pub end_of : (f : Flushing) (last : Finished) (taken : ℕ) → IsStep f (Last last) taken → IsEndOf f last
end_of f last taken is = let piece = last_of f last taken is in
    record { size = piece.size_is; smallest = piece.smallest_is; largest = piece.largest_is; table = piece.table }

pub writes_begun : (path : List ℕ) (seen : Seen) (f : Flushing) → f.taken ≡ 0 → f.taken < length (newest_each f.rows)
    → WritesOn path seen seen f f
writes_begun path seen f none left = record {
  same = record { rows = refl; number = refl; session = refl };
  left = left;
  went = λ start was.
      let no_bytes : bytes_of (newest_each f.rows) f.taken ≡ [] = ap (bytes_of (newest_each f.rows)) none
      ∙ bytes_none (newest_each f.rows) in
      subst (λ (bytes : List ℕ). WritesFile path start seen.told (HasSoFar path start bytes)) (sym no_bytes) was;
  faults = omega arith;
  refusals = omega arith;
}

same_both : (first f now : Flushing) → IsSameFlush first f → IsSameFlush f now → IsSameFlush first now
same_both first f now one two = record {
  rows = two.rows ∙ one.rows;
  number = two.number ∙ one.number;
  session = two.session ∙ one.session;
}

pub writes_more : (path : List ℕ) (old mid now : Seen) (first f next : Flushing) → WritesOn path old mid first f
    → IsSameFlush f next → IsStepped f next None
    → ((start : Story) → WritesFile path start mid.told (HasSoFar path start (bytes_of (newest_each f.rows) f.taken))
    → WritesFile path start now.told (HasSoFar path start (bytes_of (newest_each f.rows) next.taken)))
    → mid.faults ≤ now.faults → mid.refusals ≤ now.refusals → WritesOn path old now first next
writes_more path old mid now first f next was same stepped went faults refusals = record {
  same = same_both first f next was.same same;
  left = subst (λ (rows : List Row). next.taken < length (newest_each rows)) (sym same.rows) stepped.1;
  went = λ start begun.
      subst (λ (rows : List Row). WritesFile path start now.told
      (HasSoFar path start (bytes_of (newest_each rows) next.taken)))
      (sym same.rows) (went start (was.went start begun));
  faults = omega (arith, was.faults, faults);
  refusals = omega (arith, was.refusals, refusals);
}

pub same_text : (first f : Flushing) → IsSameFlush first f → flushed_text f ≡ flushed_text first
same_text first f same = λ i. table_text (newest_each (same.rows i)) (same.number i) (same.session i)

pub same_end : (first f : Flushing) (last : Finished) → IsSameFlush first f → IsEndOf f last → IsEndOf first last
same_end first f last same end = record {
  size = end.size ∙ ap (λ (bytes : List ℕ). length bytes) (same_text first f same);
  table = subst (λ (text : List ℕ). IsTable text (newest_each first.rows) first.number first.session) (same_text first f same)
      (subst (λ (session : List ℕ). IsTable (flushed_text f) (newest_each first.rows) first.number session) same.session
      (subst (λ (number : ℕ). IsTable (flushed_text f) (newest_each first.rows) number f.session) same.number
      (subst (λ (rows : List Row). IsTable (flushed_text f) (newest_each rows) f.number f.session) same.rows end.table)));
  smallest = λ row more is. end.smallest row more (ap newest_each same.rows ∙ is);
  largest = end.largest ∙ ap (λ (rows : List Row). last_key (map row_entry (newest_each rows))) same.rows;
}

-- ---- what is said of the table

-- a row that may come into a table
pub record MayBeRow (row : Row) : Type 0 where
  pub limits : RowInLimits row
  pub below : row.sequence < 2 ^ 56

key_of_row : (row : Row) → MayBeRow row → IsKey (row_entry row).key
key_of_row row may = record {
  key = row.key;
  sequence = row.sequence;
  kind = kind_of row.value;
  parts = record { is = refl; below = may.below };
  fits = may.limits.key;
}

may_be : (rows : List Row) → RowsInLimits rows → All (λ (row : Row). row.sequence < 2 ^ 56) rows → All MayBeRow rows
may_be [] limits below = All-nil MayBeRow
may_be (row ∷ rows) limits below =
    All-cons MayBeRow row rows
    (record {
      limits = All-head RowInLimits row rows limits;
      below = All-head
          (λ (r : Row). r.sequence < 2 ^ 56) row rows below;
    })
    (may_be rows (All-tail RowInLimits row rows limits) (All-tail (λ (r : Row). r.sequence < 2 ^ 56) row rows below))

newest_may : (rows : List Row) → All MayBeRow rows → All MayBeRow (newest_each rows)
unfolding newest_each
newest_may rows all = All-filter (is_newest rows) MayBeRow rows all

keys_may : (rows : List Row) → All MayBeRow rows → All IsKey (keys_of (map row_entry rows))
keys_may [] all = All-nil IsKey
keys_may (row ∷ rows) all =
    All-cons IsKey (row_entry row).key (keys_of (map row_entry rows)) (key_of_row row (All-head MayBeRow row rows all))
    (keys_may rows (All-tail MayBeRow row rows all))

first_key : (rows : List Row) → 1 ≤ length rows → All MayBeRow rows → (key : List ℕ)
    → ((row : Row) (more : List Row) → rows ≡ row ∷ more → key ≡ (row_entry row).key) → IsKey key
first_key [] some all key is = absurd (omega (arith, some))
first_key (row ∷ rows) some all key is = subst IsKey (sym (is row rows refl))
    (key_of_row row (All-head MayBeRow row rows all))

length_entries : (rows : List Row) → length (map row_entry rows) ≡ length rows
length_entries [] = refl
length_entries (row ∷ rows) = omega (arith, length_entries rows)

module _ (rows frozen : List Row) (joined : AreJoined [] rows frozen) (limits : RowsInLimits frozen) (number : ℕ)
    (session : List ℕ) (spelled : is_session session ≡ true) (last : Finished)
    (end : IsEndOf (record { rows = frozen; number = number; session = session; taken = 0 }) last) where
  abbrev info : TableInfo
  info = record { number = number; session = session; size = last.size; smallest = last.smallest; largest = last.largest }

  some_rows : 1 ≤ length (newest_each frozen)
  some_rows = end.table.is.are_rows.some

  all_may : All MayBeRow (newest_each frozen)
  all_may = newest_may frozen (may_be frozen limits joined.order.below)

  said : version.IsTable info
  said = record {
    session = spelled;
    size = omega (arith, end.table.small, end.size);
    smallest = first_key (newest_each frozen) some_rows all_may last.smallest end.smallest;
    largest = subst IsKey (sym end.largest)
        (last_all IsKey (map row_entry (newest_each frozen)) (omega (arith, some_rows, length_entries (newest_each frozen)))
        (keys_may (newest_each frozen) all_may));
  }

  -- the table of the rows is there
  pub row_table : (dir : List ℕ) (old new : Option Story) (path : List ℕ) → path ≡ path_in dir (Table number)
      → ((start : Story) → old ≡ Some start → WritesFile path start new
      (IsSealedAs path start (flushed_text (record { rows = frozen; number = number; session = session; taken = 0 }))))
      → HasRowTable dir rows number old new
      (record { number = number; session = session; size = last.size; smallest = last.smallest; largest = last.largest })
  row_table dir old new path path_is went = record {
    frozen = frozen;
    joined = joined;
    keys = record { smallest = end.smallest; largest = end.largest };
    said = said;
    number_is = refl;
    there = λ start is. went_weaker
        (IsSealedAs (path_in dir (Table number)) start (table_text (newest_each frozen) number session))
        (λ (x : State). IsTableFile x dir (newest_table info frozen) × (x.pending ≡ []))
        (λ x sealed. (
          record {
            bytes = table_text (newest_each frozen) number session;
            file = record { id = length (state_of start).files; file = sealed.file };
            table = end.table;
            size = sym end.size;
          },
          sealed.settled,
        ))
        (subst (λ (p : List ℕ). WritesFile p start new
        (IsSealedAs p start (table_text (newest_each frozen) number session))) path_is
        (went start is));
  }

-- rows that were joined by some are some
pub some_joined : (rows frozen : List Row) → AreJoined [] rows frozen → 1 ≤ length rows → 1 ≤ length frozen
some_joined rows frozen joined some = omega (arith, some, length_permutation rows frozen joined.same)
