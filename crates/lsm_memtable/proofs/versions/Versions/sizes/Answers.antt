use Rattle.std.proofs.Common.{get_or, ap, ◌∙◌, arith}
use Rattle.std.specs.List.{sum_by}
use Rattle.std.proofs.lemmas.List.{take_all}
use Rattle.lsm_memtable.specs.Sizes.{row_bytes}
use Rattle.lsm_memtable.proofs.VersionRows.{sum_is, sum_to}
use Rattle.lsm_memtable.proofs.versions.Versions.sizes.Goals as goal

pub row_bytes-bytes-requires : goal.row_bytes-bytes-requires
row_bytes-bytes-requires c =
    let all = sum_is c.self.inside.rows.items c.args.self.now c.self.view_is in
    let some =
    sum_to c.self.inside.rows.items c.loop-row.row-index c.row-item.result (omega arith) (c.row-item.is ∙ ap (λ l. get_or l c.loop-row.row-index c.row-item.result) c.deref-row-items.ensures.value) in
    omega (arith, all, some, c.requires)

pub overflow_add-bytes : goal.overflow_add-bytes
overflow_add-bytes c =
    let all = sum_is c.self.inside.rows.items c.args.self.now c.self.view_is in
    let some =
    sum_to c.self.inside.rows.items c.loop-row.row-index c.row-item.result (omega arith) (c.row-item.is ∙ ap (λ l. get_or l c.loop-row.row-index c.row-item.result) c.deref-row-items.ensures.value) in
    omega (arith, all, some, c.requires, c.loop-row.invariant, c.row_bytes-bytes.ensures)

pub returns-clause-bytes : goal.returns-clause-bytes
returns-clause-bytes c =
    c.loop-row.invariant ∙ ap (sum_by row_bytes) (take_all c.loop-row.row-index c.self.inside.rows.items (omega arith)) ∙ sum_is c.self.inside.rows.items c.args.self.now c.self.view_is
