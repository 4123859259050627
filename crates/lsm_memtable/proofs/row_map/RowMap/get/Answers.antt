use Rattle.std.proofs.Common.{List, sym, ap, ◌∙◌}
use Rattle.lsm_rows.specs.declared.rows.Row.{Row}
use Rattle.lsm_rows.specs.Contents.{newest}
use Rattle.lsm_memtable.proofs.KeptRows.{first_of, rows_newest}
use Rattle.lsm_memtable.proofs.row_map.RowMap.get.Goals as goal

pub returns-in-Some : goal.returns-in-Some
returns-in-Some c =
    c.newest.ensures ∙ ap first_of c.in-Some.ensures.value ∙ sym (rows_newest c.args.key.now c.self.inside.keys.entries c.self.invariant.ascend c.self.invariant.each)
    ∙ ap (λ (rows : List Row). newest c.args.key.now rows) c.self.view_is

pub returns-in-None : goal.returns-in-None
returns-in-None c =
    ap first_of c.in-None.ensures.value ∙ sym (rows_newest c.args.key.now c.self.inside.keys.entries c.self.invariant.ascend c.self.invariant.each)
    ∙ ap (λ (rows : List Row). newest c.args.key.now rows) c.self.view_is
