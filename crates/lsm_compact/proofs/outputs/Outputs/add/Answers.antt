use Rattle.std.proofs.Common.{ap, arith, ◌∙◌, ◌++◌, List, ℕ, unwrap_or}
use Rattle.lsm_compact.specs.Outputs.{ended_text}
use Rattle.lsm_compact.proofs.Stages.{add_small}
use Rattle.lsm_compact.proofs.Writes.{row_added}
use Rattle.lsm_compact.proofs.outputs.Outputs.add.Goals as goal

pub overflow_add-ended : goal.overflow_add-ended
overflow_add-ended c =
    let small = add_small c.args.row c.in-Open.table c.in-Open.piece c.in-Open.ended c.args.self.now.stage c.in-Open.is
    c.requires in
    let len = c.len.ensures.small in
    omega (arith, small, len)

pub returns-in-Ok-clause-writing : goal.returns-in-Ok-clause-writing
returns-in-Ok-clause-writing c = λ files written w.
    row_added c.args.self.now c.args.row c.in-Open.table c.in-Open.piece c.in-Open.ended c.in-Open.is c.requires
    c.add.new.self
    c.unwrap_or-bytes.result c.len.result c.in-Ok.ensures.ok
    (ap (λ (b : List ℕ). ended_text c.in-Open.table.rows ++ b)
    (c.unwrap_or-bytes.ensures ∙ ap (λ (none : List ℕ). unwrap_or c.in-Ok.bytes none) c.new.ensures) ∙ c.in-Ok.ensures.piece)
    c.len.ensures.len files written w
