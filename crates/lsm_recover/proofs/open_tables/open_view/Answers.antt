use Rattle.std.proofs.Common.{sym, ◌∙◌}
use Rattle.lsm_recover.proofs.OpenedLemmas.{opens_short, open_refuses}
use Rattle.lsm_recover.proofs.open_tables.open_view.Goals as goal

pub returns-then-found-info-clause-refused : goal.returns-then-found-info-clause-refused
returns-then-found-info-clause-refused g c = λ text tells. opens_short c.args.number c.args.info.now text c.len-found.result (tells.whole ∙ sym c.len-found.ensures) c.if-found-info.true

pub returns-in-Err-clause-refused : goal.returns-in-Err-clause-refused
returns-in-Err-clause-refused g c = λ text tells.
    open_refuses c.args.number c.args.info.now text (tells.whole ∙ sym c.len-found.ensures ∙ c.if-found-info.false) c.in-Err.error.why c.table_error.result c.table_error.ensures (c.in-Err.ensures.refused text tells)
