use Rattle.std.proofs.Common.{ℕ, List, ap, sym, ◌∙◌}
use Rattle.lsm_frame.specs.Reader.{Tells}
use Rattle.lsm_table.specs.Opening.{contents_at, contents_in, IsFaultOf}
use Rattle.lsm_table.proofs.Openings.{by_fault, outside_fault, fault_told, outside_error}
use Rattle.lsm_table.proofs.DataBlocks.{within_text}
use Rattle.lsm_table.proofs.opening.read_contents.Goals as goal

pub returns-in_err-part-clause-err : goal.returns-in_err-part-clause-err
returns-in_err-part-clause-err g c =
    by_fault (λ e. (text : List ℕ) → Tells (g.V.View.viewed c.args.view.now) text → IsFaultOf (contents_at c.args.place c.args.len text) e) c.from_residual.result c.in_err-part.field-0.0 c.from_residual.ensures.1
    (λ text told. outside_fault (contents_at c.args.place c.args.len text) c.in_err-part.field-0.0 c.in_err-part.ensures.outside)

pub returns-in_err-contents_in-clause-err : goal.returns-in_err-contents_in-clause-err
returns-in_err-contents_in-clause-err g c =
    by_fault (λ e. (text : List ℕ) → Tells (g.V.View.viewed c.args.view.now) text → IsFaultOf (contents_at c.args.place c.args.len text) e) c.from_residual-in_err-contents_in.result c.in_err-contents_in.field-0.0 c.from_residual-in_err-contents_in.ensures.1
    (λ text told. fault_told (contents_at c.args.place c.args.len text) c.in_err-contents_in.field-0.0
    (ap (λ (l : List ℕ). contents_in c.args.place l) (sym (c.as_slice.ensures ∙ c.in_ok-part.ensures.part text told)) ∙ c.in_err-contents_in.ensures.err))

pub returns-in_err-contents_in-clause-cause : goal.returns-in_err-contents_in-clause-cause
returns-in_err-contents_in-clause-cause g c = outside_error _ c.from_residual-in_err-contents_in.result c.in_err-contents_in.field-0.0 c.from_residual-in_err-contents_in.ensures.1 c.in_err-contents_in.ensures.inside

pub returns-in_err-part-clause-there : goal.returns-in_err-part-clause-there
returns-in_err-part-clause-there g c = λ text told. within_text (g.V.View.viewed c.args.view.now) text c.args.place c.args.len c.requires.there told

pub returns-in_err-contents_in-clause-there : goal.returns-in_err-contents_in-clause-there
returns-in_err-contents_in-clause-there g c = λ text told. within_text (g.V.View.viewed c.args.view.now) text c.args.place c.args.len c.requires.there told

pub returns-clause-there : goal.returns-clause-there
returns-clause-there g c = λ text told. within_text (g.V.View.viewed c.args.view.now) text c.args.place c.args.len c.requires.there told
