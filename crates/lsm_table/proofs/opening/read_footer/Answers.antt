use Rattle.std.proofs.Common.{ℕ, ◌-◌, List, ap, sym, ◌∙◌, arith}
use Rattle.lsm_frame.specs.Reader.{Tells}
use Rattle.lsm_table.specs.Opening.{footer_of, IsFaultOf}
use Rattle.lsm_table.proofs.Openings.{by_fault, outside_fault, ok_all, err_all, no_cause, footer_short, footer_read}
use Rattle.lsm_table.proofs.opening.read_footer.Goals as goal

pub returns-then-len-clause-err : goal.returns-then-len-clause-err
returns-then-len-clause-err g c = λ text told. footer_short (g.V.View.viewed c.args.view.now) text told (omega (arith, c.len-len.ensures, c.if-len.true))

pub returns-in_err-footer-clause-err : goal.returns-in_err-footer-clause-err
returns-in_err-footer-clause-err g c =
    by_fault (λ e. (text : List ℕ) → Tells (g.V.View.viewed c.args.view.now) text → IsFaultOf (footer_of text) e) c.from_residual.result c.in_err-footer.field-0.0 c.from_residual.ensures.1
    (λ text told. outside_fault (footer_of text) c.in_err-footer.field-0.0 c.in_err-footer.ensures.outside)

pub returns-clause-ok : goal.returns-clause-ok
returns-clause-ok g c =
    let v = g.V.View.viewed c.args.view.now in
    ok_all v c.footer_in.result footer_of
    (λ text told. footer_read v text c.as_slice.result.now (c.len-len.result - 36) told (omega (arith, c.len-len.ensures, c.if-len.false)) (ap (λ (n : ℕ). n - 36) c.len-len.ensures) (c.as_slice.ensures ∙ c.in_ok-footer.ensures.part text told) ∙ sym c.footer_in.ensures.told)

pub returns-clause-err : goal.returns-clause-err
returns-clause-err g c =
    let v = g.V.View.viewed c.args.view.now in
    err_all v c.footer_in.result footer_of
    (λ text told. footer_read v text c.as_slice.result.now (c.len-len.result - 36) told (omega (arith, c.len-len.ensures, c.if-len.false)) (ap (λ (n : ℕ). n - 36) c.len-len.ensures) (c.as_slice.ensures ∙ c.in_ok-footer.ensures.part text told) ∙ sym c.footer_in.ensures.told)

pub returns-clause-cause : goal.returns-clause-cause
returns-clause-cause g c = no_cause _ c.footer_in.result c.footer_in.ensures.inside
