use Rattle.std.proofs.Common.{ℕ, ◌<◌, List, length, sym, subst}
use Rattle.std.specs.Prelude.{IfOk, IfErr}
use Rattle.lsm_frame.specs.Reader.{Tells}
use Rattle.lsm_table.specs.DataBlocks.{IsNthBlock, IsNthFault}
use Rattle.lsm_table.specs.Tables.{Opened}
use Rattle.lsm_table.proofs.DataBlocks.{parts_stay}
use Rattle.lsm_table.proofs.Walks.{nth_at, nth_ok, nth_err, whole_nth}
use Rattle.lsm_table.proofs.table.Table.nth_block.Goals as goal

pub invariant_of-self : goal.invariant_of-self
invariant_of-self g c = parts_stay (g.V.View.viewed c.self.inside.view) (g.V.View.viewed c.read_told.new.view) c.self.inside.properties c.self.inside.index c.read_told.ensures.view c.self.invariant

pub returns-clause-ok : goal.returns-clause-ok
returns-clause-ok g c =
    let e = c.index-entries-nth.result in
    let less = subst (λ (o : Opened). c.args.nth < length o.index) (sym c.self.view_is) c.requires in
    subst (λ (o : Opened). IfOk c.read_told.result (λ block. (text : List ℕ) → Tells o.viewed text → IsNthBlock text o.index c.args.nth block)) c.self.view_is
    (nth_ok (g.V.View.viewed c.self.inside.view) c.self.inside.index c.args.nth e c.read_told.result (nth_at c.entries.result.now c.self.inside.index c.args.nth e c.entries.ensures.entries less c.index-entries-nth.is) c.read_told.ensures.ok)

pub returns-clause-err : goal.returns-clause-err
returns-clause-err g c =
    let e = c.index-entries-nth.result in
    let less = subst (λ (o : Opened). c.args.nth < length o.index) (sym c.self.view_is) c.requires in
    subst (λ (o : Opened). IfErr c.read_told.result (λ fault. (text : List ℕ) → Tells o.viewed text → IsNthFault text o.index c.args.nth fault)) c.self.view_is
    (nth_err (g.V.View.viewed c.self.inside.view) c.self.inside.index c.args.nth e c.read_told.result (nth_at c.entries.result.now c.self.inside.index c.args.nth e c.entries.ensures.entries less c.index-entries-nth.is) c.read_told.ensures.err)

pub returns-clause-whole : goal.returns-clause-whole
returns-clause-whole g c = λ text rows number session told is.
    let v = g.V.View.viewed c.self.inside.view in
    let e = c.index-entries-nth.result in
    let less = subst (λ (o : Opened). c.args.nth < length o.index) (sym c.self.view_is) c.requires in
    let at = nth_at c.entries.result.now c.self.inside.index c.args.nth e c.entries.ensures.entries less c.index-entries-nth.is in
    whole_nth v c.self.inside.properties c.self.inside.index c.args.nth c.read_told.result c.self.invariant.shows (nth_ok v c.self.inside.index c.args.nth e c.read_told.result at c.read_told.ensures.ok)
    (nth_err v c.self.inside.index c.args.nth e c.read_told.result at c.read_told.ensures.err) text rows number session (subst (λ (o : Opened). Tells o.viewed text) (sym c.self.view_is) told) is
