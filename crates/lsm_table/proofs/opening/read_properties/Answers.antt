use Rattle.std.proofs.Common.{ℕ, List, ap, sym, ◌∙◌}
use Rattle.lsm_frame.specs.Reader.{Tells}
use Rattle.lsm_table.specs.Opening.{properties_in, properties_at, IsFaultOf}
use Rattle.lsm_table.proofs.Openings.{by_fault, err_all, no_cause, told_ok, told_fault}
use Rattle.lsm_table.proofs.opening.read_properties.Goals as goal

pub returns-in_err-contents-clause-err : goal.returns-in_err-contents-clause-err
returns-in_err-contents-clause-err g c =
    by_fault (λ e. (text : List ℕ) → Tells (g.V.View.viewed c.args.view.now) text → IsFaultOf (properties_at c.args.place text) e) c.from_residual.result c.in_err-contents.field-0.0 c.from_residual.ensures.1
    (λ text told. told_fault c.args.place text c.in_err-contents.field-0.0 (c.in_err-contents.ensures.err text told))

pub returns-clause-err : goal.returns-clause-err
returns-clause-err g c =
    err_all (g.V.View.viewed c.args.view.now) c.properties_in.result (properties_at c.args.place)
    (λ text told. told_ok c.args.place text c.in_ok-contents.contents (c.in_ok-contents.ensures.ok text told) ∙ ap (λ (l : List ℕ). properties_in c.args.place l) (sym c.as_slice.ensures) ∙ sym c.properties_in.ensures.told)

pub returns-clause-cause : goal.returns-clause-cause
returns-clause-cause g c = no_cause _ c.properties_in.result c.properties_in.ensures.inside
