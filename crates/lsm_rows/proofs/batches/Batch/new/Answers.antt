use Rattle.std.proofs.Common.{[], sym, arith}
use Rattle.lsm_rows.proofs.BatchSizes.{text_len-nil}
use Rattle.lsm_rows.specs.Limits.{InLimits, OpInLimits}
use Rattle.std.proofs.lemmas.List.Elements.{All-nil}
use Rattle.lsm_rows.proofs.batches.Batch.new.Goals as goal

none_in_limits : InLimits []
none_in_limits = record { each = All-nil OpInLimits; count = omega arith; bytes = omega (arith, text_len-nil) }

pub invariant_of-result : goal.invariant_of-result
invariant_of-result c = rw c.new.ensures.items (none_in_limits, sym text_len-nil)
