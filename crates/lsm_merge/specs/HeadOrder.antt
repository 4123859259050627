-- The order of held rows in their heap, of which the greatest is the first row.
use Rattle.std.specs.Cmp.{IsTotalOrder}
use Rattle.std.proofs.lemmas.Cmp.{on_total, back_total}
use Rattle.lsm_merge.specs.declared.heads.Head.{Head}
use Rattle.lsm_merge.specs.Order.{row_cmp, row_total}

pub head_total : IsTotalOrder (λ (a b : Head). row_cmp b.row a.row)
head_total = back_total (on_total (λ (head : Head). head.row) row_total)
