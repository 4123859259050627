use Rattle.std.proofs.Common.{ℕ, List}
use Rattle.lsm_frame.specs.Reader.{Tells}
use Rattle.lsm_table.specs.Opening.{IsRefused}
use Rattle.lsm_table.proofs.Openings.{by_fault, index_refused, properties_refused}
use Rattle.lsm_table.proofs.opening.read_ends.Goals as goal
use Rattle.lsm_frame.proofs.Going.{tells_still}

pub returns-in_err-index-clause-err : goal.returns-in_err-index-clause-err
returns-in_err-index-clause-err g c =
    let v = g.V.View.viewed c.args.view.now in
    by_fault (λ e. (text : List ℕ) → Tells v text → IsRefused text e) c.from_residual-in_err-index.result c.in_err-index.field-0.0 c.from_residual-in_err-index.ensures.1
    (λ text told. index_refused text c.in_ok-places.places c.in_err-index.field-0.0 (c.in_ok-places.ensures.ok text told)
    (c.in_err-index.ensures.err text (tells_still v (g.V.View.viewed c.read_footer.new.view) text c.in_ok-places.ensures.view told)))

pub returns-in_err-properties-clause-err : goal.returns-in_err-properties-clause-err
returns-in_err-properties-clause-err g c =
    let v = g.V.View.viewed c.args.view.now in
    let w = g.V.View.viewed c.read_footer.new.view in
    let u = g.V.View.viewed c.read_index.new.view in
    by_fault (λ e. (text : List ℕ) → Tells v text → IsRefused text e) c.from_residual-in_err-properties.result c.in_err-properties.field-0.0 c.from_residual-in_err-properties.ensures.1
    (λ text told. properties_refused text c.in_ok-places.places c.in_ok-index.index c.in_err-properties.field-0.0 (c.in_ok-places.ensures.ok text told)
    (c.in_ok-index.ensures.ok text (tells_still v w text c.in_ok-places.ensures.view told))
    (c.in_err-properties.ensures.err text (tells_still w u text c.in_ok-index.ensures.view (tells_still v w text c.in_ok-places.ensures.view told))))
