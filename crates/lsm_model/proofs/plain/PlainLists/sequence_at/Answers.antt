use Rattle.std.proofs.Common.{ap, ◌∙◌, ◌-◌, drop}
use Rattle.std.specs.Prelude.{sum_by, length}
use Rattle.lsm_model.proofs.LookupLemmas.{sequence_front}
use Rattle.lsm_model.proofs.plain.PlainLists.sequence_at.Goals as goal

pub returns : goal.returns
returns c =
    c.less_operations.ensures
    ∙ (λ i. c.requires.sequence i - sum_by length ((c.behind.ensures ∙ ap (drop c.args.batches) c.as_slice.ensures.value) i))
    ∙ sequence_front c.args.batches c.args.self.now.accepted.items
