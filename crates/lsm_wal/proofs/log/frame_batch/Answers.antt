use Rattle.std.proofs.Common.{ℕ, List, ◌<◌, length, sym, subst, ◌∙◌}
use Rattle.lsm_wal.proofs.Texts.{text_some}
use Rattle.lsm_wal.proofs.log.frame_batch.Goals as goal

pub add-requires : goal.add-requires
add-requires c = subst (λ (t : List ℕ). 0 < length t) (sym (c.as_slice.ensures ∙ c.in_ok-text.ensures)) (text_some c.args.first c.args.batch.now)
