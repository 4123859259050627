use Rattle.std.proofs.Common.{◌+◌, Global, sym, ◌∙◌, subst}
use Rattle.std.specs.Prelude.{◌<◌, length, Some, None}
use Rattle.lsm_block.specs.TableText.{AreTableRows}
use Rattle.lsm_memtable.proofs.NewestRows.{newest_rows_are_a_table}
use Rattle.lsm_memtable.specs.declared.flush.FlushPiece.TheVariants.{Piece, Last}
use Rattle.lsm_memtable.specs.Newest.{newest_each}
use Rattle.lsm_memtable.specs.Flushes.{Flushing}
use Rattle.lsm_memtable.specs.Flushing.{IsProgress, IsBuiltTo}
use Rattle.lsm_memtable.specs.FlushPieces.{IsStep}
use Rattle.lsm_memtable.proofs.Steps.{piece_step, last_step, some_left}
use Rattle.lsm_memtable.proofs.flush.Flush.step.Goals as goal

pub returns-in-Some-clause-ok : goal.returns-in-Some-clause-ok
returns-in-Some-clause-ok c =
    let f : Flushing = record { rows = c.self.inside.rows; number = c.self.inside.number; session = c.self.inside.session; taken = c.self.inside.table.taken } in
    let progress : IsProgress c.feed.new.table (newest_each f.rows) = subst (λ l. IsProgress c.feed.new.table (newest_each l)) c.row_map.ensures.rows c.in_ok-next.ensures.progress in
    let built : IsBuiltTo (newest_each f.rows) (f.taken + 1024) c.feed.new.table.built c.in_ok-next.next =
    subst (λ l. IsBuiltTo (newest_each l) (f.taken + 1024) c.feed.new.table.built c.in_ok-next.next) c.row_map.ensures.rows c.in_ok-next.ensures.ok in
    let at : IsBuiltTo (newest_each f.rows) (f.taken + 1024) c.feed.new.table.built (Some c.in-Some.key) = subst (λ o. IsBuiltTo (newest_each f.rows) (f.taken + 1024) c.feed.new.table.built o) c.in-Some.is built in
    subst (λ (g : Flushing). IsStep g (Piece c.hand_out-piece.result) c.hand_out-piece.new.self.taken) c.self.view_is
    (piece_step f c.feed.new.table c.hand_out-piece.result c.in-Some.key.items c.hand_out-piece.new.self.taken (sym c.in_ok-next.ensures.taken) at.0 at.1 c.hand_out-piece.ensures.taken (c.hand_out-piece.ensures.bytes (newest_each f.rows) progress))

pub returns-in_ok-last-in-None-clause-ok : goal.returns-in_ok-last-in-None-clause-ok
returns-in_ok-last-in-None-clause-ok c =
    let f : Flushing = record { rows = c.self.inside.rows; number = c.self.inside.number; session = c.self.inside.session; taken = c.self.inside.table.taken } in
    let progress : IsProgress c.feed.new.table (newest_each f.rows) = subst (λ l. IsProgress c.feed.new.table (newest_each l)) c.row_map.ensures.rows c.in_ok-next.ensures.progress in
    let built : IsBuiltTo (newest_each f.rows) (f.taken + 1024) c.feed.new.table.built c.in_ok-next.next =
    subst (λ l. IsBuiltTo (newest_each l) (f.taken + 1024) c.feed.new.table.built c.in_ok-next.next) c.row_map.ensures.rows c.in_ok-next.ensures.ok in
    let left : f.taken < length (newest_each f.rows) = subst (λ (g : Flushing). g.taken < length (newest_each g.rows)) (sym c.self.view_is) c.requires in
    let are : AreTableRows (newest_each f.rows) =
    newest_rows_are_a_table f.rows c.row_map.ensures.order (some_left f.rows f.taken left) in
    let at : IsBuiltTo {Z = Global} (newest_each f.rows) (f.taken + 1024) c.feed.new.table.built None = subst (λ o. IsBuiltTo {Z = Global} (newest_each f.rows) (f.taken + 1024) c.feed.new.table.built o) c.in-None.is built in
    subst (λ (g : Flushing). IsStep g (Last c.in_ok-last-in-None.last) c.finish.new.self.taken) c.self.view_is
    (last_step f c.feed.new.table c.in_ok-last-in-None.last c.finish.new.self.taken (sym c.in_ok-next.ensures.taken) (sym (c.in_ok-next.ensures.number ∙ c.self.invariant.number_is)) (sym (c.in_ok-next.ensures.session ∙ c.self.invariant.session_is))
    at.0 at.1 c.in_ok-last-in-None.ensures.all (c.in_ok-last-in-None.ensures.ok (newest_each f.rows) progress at.0)
    (c.in_ok-last-in-None.ensures.whole (newest_each f.rows) progress at.0 are))
