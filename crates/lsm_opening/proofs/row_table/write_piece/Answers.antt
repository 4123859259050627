use Rattle.std.specs.Prelude.{ℕ, ◌++◌, List}
use Rattle.std.proofs.Common.{ap, subst, ◌∙◌, arith}
use Rattle.lsm_memtable.specs.Flushes.{bytes_of, IsNextPiece, IsLastPiece}
use Rattle.lsm_memtable.specs.FlushPieces.{IsStep}
use Rattle.lsm_memtable.specs.Newest.{newest_each}
use Rattle.lsm_memtable.specs.declared.flush.FlushPiece.{FlushPiece}
use Rattle.lsm_opening.specs.RowFiles.{WritesFile, HasSoFar}
use Rattle.lsm_opening.proofs.RowFiles.{nothing_known}
use Rattle.lsm_opening.proofs.RowTables.{piece_of, last_of, end_of}
use Rattle.lsm_opening.proofs.row_table.write_piece.Goals as goal

pub returns-in-Ok-clause-went : goal.returns-in-Ok-clause-went
returns-in-Ok-clause-went g c start was =
    let f = c.args.flush.now in
    let taken = c.step.new.self.taken in
    let path = c.args.path.now in
    let before = bytes_of (newest_each f.rows) f.taken in
    let told = (g.D.Disk.seen c.append.new.disk).told in
    let piece : IsNextPiece f c.in-Ok-Piece.piece taken = piece_of f c.in-Ok-Piece.piece taken
    (subst (λ (p : FlushPiece). IsStep f p taken) c.in-Ok-Piece.field-0-is c.in-Ok-Piece.ensures.ok) in
    subst (λ (bytes : List ℕ). WritesFile path start told (HasSoFar path start bytes))
    (ap (λ (bytes : List ℕ). before ++ bytes) c.as_slice.ensures ∙ piece.text)
    (c.in-Ok.ensures.went start before was)

pub returns-in-Ok-clause-stepped : goal.returns-in-Ok-clause-stepped
returns-in-Ok-clause-stepped g c =
    let f = c.args.flush.now in
    let taken = c.step.new.self.taken in
    let piece : IsNextPiece f c.in-Ok-Piece.piece taken = piece_of f c.in-Ok-Piece.piece taken
    (subst (λ (p : FlushPiece). IsStep f p taken) c.in-Ok-Piece.field-0-is c.in-Ok-Piece.ensures.ok) in
    (omega (arith, piece.all), omega (arith, piece.all, piece.left))

pub returns-in-Ok-Piece-clause-went : goal.returns-in-Ok-Piece-clause-went
returns-in-Ok-Piece-clause-went g c start was =
    c.in-Err-append.ensures.went start (bytes_of (newest_each c.args.flush.now.rows) c.args.flush.now.taken) was

pub returns-in-Ok-append-clause-went : goal.returns-in-Ok-append-clause-went
returns-in-Ok-append-clause-went g c start was =
    let f = c.args.flush.now in
    let taken = c.step.new.self.taken in
    let path = c.args.path.now in
    let before = bytes_of (newest_each f.rows) f.taken in
    let told = (g.D.Disk.seen c.append-in-Ok-Last.new.disk).told in
    let last = c.in-Ok-Last.last in
    let piece : IsLastPiece f last.tail last.size last.smallest last.largest taken = last_of f last taken
    (subst (λ (p : FlushPiece). IsStep f p taken) c.in-Ok-Last.field-0-is c.in-Ok-Last.ensures.ok) in
    subst (λ (bytes : List ℕ). WritesFile path start told (HasSoFar path start bytes))
    (ap (λ (bytes : List ℕ). before ++ bytes) c.as_slice-in-Ok-Last.ensures ∙ piece.text)
    (c.in-Ok-append.ensures.went start before was)

pub returns-in-Ok-append-clause-stepped : goal.returns-in-Ok-append-clause-stepped
returns-in-Ok-append-clause-stepped g c =
    let f = c.args.flush.now in
    let taken = c.step.new.self.taken in
    end_of f c.in-Ok-Last.last taken
    (subst (λ (p : FlushPiece). IsStep f p taken) c.in-Ok-Last.field-0-is c.in-Ok-Last.ensures.ok)

pub returns-in-Ok-Last-clause-went : goal.returns-in-Ok-Last-clause-went
returns-in-Ok-Last-clause-went g c start was =
    c.in-Err-append-2.ensures.went start (bytes_of (newest_each c.args.flush.now.rows) c.args.flush.now.taken) was

pub returns-clause-went : goal.returns-clause-went
returns-clause-went g c start was =
    nothing_known c.args.path.now start
    (HasSoFar c.args.path.now start (bytes_of (newest_each c.args.flush.now.rows) c.args.flush.now.taken)) was
