use Rattle.lsm_compact.proofs.Inputs.{read_end, read_nothing}
use Rattle.std.proofs.Common.{ap, ◌∙◌, Some, List, ℕ}
use Rattle.lsm_compact.proofs.input.Reading.keep_end.Goals as goal

pub returns-in-Ok-clause-after : goal.returns-in-Ok-clause-after
returns-in-Ok-clause-after c =
    ap (λ (key : List ℕ). Some key) c.in-Ok.ensures
    ∙ read_end c.args.self.now.after c.as_slice.result.now c.args.run c.in-Some.row.now c.as_slice.ensures
    c.in-Some.ensures.item.3.0
    c.in-Some.ensures.item.1

pub returns-in-None-clause-after : goal.returns-in-None-clause-after
returns-in-None-clause-after c =
    read_nothing c.args.self.now.after c.as_slice.result.now c.args.run c.as_slice.ensures c.in-None.ensures.item.3
