-- What a step of a flush gives.
use Rattle.std.specs.Prelude.{ℕ}
use Rattle.lsm_memtable.specs.declared.flush.FlushPiece.{FlushPiece}
use Rattle.lsm_memtable.specs.declared.flush.FlushPiece.TheVariants.{Piece, Last}
use Rattle.lsm_memtable.specs.Flushes.{Flushing, IsNextPiece, IsLastPiece}

-- a step that leaves so many rows taken gives the next piece where more rows are left, and else the last one
unfoldable pub IsStep : Flushing → FlushPiece → ℕ → Type 0
IsStep f (Piece bytes) taken = IsNextPiece f bytes taken
IsStep f (Last last) taken = IsLastPiece f last.tail last.size last.smallest last.largest taken
