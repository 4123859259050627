use Rattle.std.proofs.Common.{◌≡◌, length, ap, ◌∙◌, arith}
use Rattle.std.specs.List.{sum_by}
use Rattle.lsm_rows.specs.declared.rows.Row.{Row}
use Rattle.lsm_memtable.specs.Sizes.{row_bytes}
use Rattle.lsm_memtable.proofs.Totals.{joined, joined_values, length-joined, length-le-bytes}
use Rattle.lsm_memtable.proofs.row_map.RowMap.sizes.Goals as goal

pub loop-versions-init : goal.loop-versions-init
loop-versions-init c =
    let is : joined c.into_iter-versions-iterator.result ≡ c.args.self.now =
    ap joined (c.into_iter-versions-iterator.ensures.into_iter_gives ∙ c.values-versions-items.ensures.rest) ∙ joined_values c.self.inside.keys.entries ∙ c.self.view_is in
    (omega (arith, ap (length {A = Row}) is), omega (arith, ap (sum_by row_bytes) is))

pub overflow_add-rows : goal.overflow_add-rows
overflow_add-rows c =
    omega (
      arith,
      c.loop-versions.invariant.0,
      ap (λ ls. length (joined ls)) c.in-Some.ensures.steps,
      length-joined c.in-Some.versions.now c.next.new.self,
      c.sizes-sizes.ensures.rows,
      length-le-bytes c.args.self.now,
      c.requires,
    )
