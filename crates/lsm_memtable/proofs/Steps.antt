-- What a step of a flush gives.
use Rattle.std.proofs.Common.{◌≡◌, ℕ, ◌+◌, ◌<◌, ◌≤◌, List, [], ◌∷◌, ◌++◌, length, sym, ap, ◌∙◌, subst, arith}
use Rattle.lsm_rows.specs.declared.rows.Row.{Row}
use Rattle.lsm_block.specs.TableText.{table_text}
use Rattle.lsm_table.specs.WholeTables.{IsTable}
use Rattle.lsm_table.specs.declared.building.Finished.{Finished}
use Rattle.lsm_table.specs.Building.{IsFinished}
use Rattle.lsm_memtable.specs.declared.progress.Progress.{Progress}
use Rattle.lsm_memtable.specs.declared.flush.FlushPiece.{FlushPiece}
use Rattle.lsm_memtable.specs.declared.flush.FlushPiece.TheVariants.{Piece, Last}
use Rattle.lsm_memtable.specs.Newest.{newest_each}
use Rattle.lsm_memtable.specs.Flushes.{Flushing, bytes_of}
use Rattle.lsm_memtable.specs.Flushing.{IsKeyAt}
use Rattle.lsm_memtable.specs.FlushPieces.{IsStep}

-- a piece: rows are built up to 1,024 behind those that were taken
pub piece_step : (f : Flushing) (p : Progress) (piece key : List ℕ) (taken : ℕ) → f.taken ≡ p.taken → p.built ≡ f.taken + 1024 → IsKeyAt (newest_each f.rows) (f.taken + 1024) key → taken ≡ p.built
    → bytes_of (newest_each f.rows) p.taken ++ piece ≡ bytes_of (newest_each f.rows) taken → IsStep f (Piece piece) taken
unfolding IsStep
piece_step f p piece key taken is built key_at taken_is text = record {
  left = key_at.within;
  all = taken_is ∙ built;
  text = subst (λ n. bytes_of (newest_each f.rows) n ++ piece ≡ bytes_of (newest_each f.rows) taken) (sym is) text;
}

-- the last piece: all rows are built
pub last_step : (f : Flushing) (p : Progress) (last : Finished) (taken : ℕ) → f.taken ≡ p.taken → f.number ≡ p.builder.number → f.session ≡ p.builder.session → p.built ≡ length (newest_each f.rows)
    → length (newest_each f.rows) ≤ f.taken + 1024 → taken ≡ p.built → IsFinished p.builder (newest_each f.rows) (bytes_of (newest_each f.rows) p.taken) last.tail last.size last.smallest last.largest
    → IsTable (bytes_of (newest_each f.rows) p.taken ++ last.tail) (newest_each f.rows) p.builder.number p.builder.session → IsStep f (Last last) taken
unfolding IsStep
last_step f p last taken is number session built few taken_is finished table = record {
  few = few;
  all = taken_is ∙ built;
  text = (λ i. bytes_of (newest_each f.rows) (is i) ++ last.tail) ∙ finished.text ∙ (λ i. table_text (newest_each f.rows) (sym number i) (sym session i));
  size_is = finished.size_is ∙ (λ i. length (table_text (newest_each f.rows) (sym number i) (sym session i)));
  smallest_is = finished.smallest_is;
  largest_is = finished.largest_is;
  table =
      let rows : List Row = newest_each f.rows in
      let at : IsTable (table_text rows p.builder.number p.builder.session) rows p.builder.number p.builder.session =
      subst (λ (text : List ℕ). IsTable text rows p.builder.number p.builder.session) finished.text table in
      let numbered : IsTable (table_text rows f.number p.builder.session) rows f.number p.builder.session =
      subst (λ (n : ℕ). IsTable (table_text rows n p.builder.session) rows n p.builder.session) (sym number) at in
      subst (λ (name : List ℕ). IsTable (table_text rows f.number name) rows f.number name) (sym session) numbered;
}

-- where a row is left, there are rows
pub some_left : (rows : List Row) (n : ℕ) → n < length (newest_each rows) → 1 ≤ length rows
unfolding newest_each
some_left [] n left = absurd (omega (arith, left))
some_left (row ∷ rows) n left = omega arith

next_left : (f g : Flushing) (bytes : List ℕ) → IsStep f (Piece bytes) g.taken → g.rows ≡ f.rows → g.taken < length (newest_each g.rows)
unfolding IsStep
next_left f g bytes next rows = omega (arith, next.left, next.all, ap (λ l. length (newest_each l)) rows)

-- after a piece rows are left
pub left_after : (f g : Flushing) (piece : FlushPiece) (bytes : List ℕ) → IsStep f piece g.taken → piece ≡ Piece bytes → g.rows ≡ f.rows → g.taken < length (newest_each g.rows)
left_after f g piece bytes step is rows = next_left f g bytes (subst (λ p. IsStep f p g.taken) is step) rows
