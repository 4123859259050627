use Rattle.std.proofs.Common.{ap, subst, ◌∙◌}
use Rattle.lsm_flush.specs.Writing.{Written, whole, IsWholeTable}
use Rattle.lsm_flush.proofs.Writes.{whole_is}
use Rattle.lsm_flush.proofs.writing.Writing.whole.Goals as goal

pub returns-in-Whole-clause-is : goal.returns-in-Whole-clause-is
returns-in-Whole-clause-is c info same =
    subst (λ (w : Written). IsWholeTable w.rows w.number w.session info) c.self.view_is
    (whole_is c.self.inside.flush c.self.inside.number c.self.inside.session c.self.inside.ahead c.self.invariant info
    (ap whole c.self.view_is ∙ same))
