use Rattle.std.proofs.Common.{sym, ◌∙◌}
use Rattle.lsm_recover.proofs.WalkedLemmas.{short_refused, opening_refuses}
use Rattle.lsm_recover.proofs.tables.read_whole.Goals as goal

pub returns-then-found-info-clause-answer : goal.returns-then-found-info-clause-answer
returns-then-found-info-clause-answer g c = λ text tells. short_refused c.args.number c.args.info.now text c.len-found.result (tells.whole ∙ sym c.len-found.ensures) c.if-found-info.true

pub returns-in-Err-clause-answer : goal.returns-in-Err-clause-answer
returns-in-Err-clause-answer g c = λ text tells.
    opening_refuses c.args.number c.args.info.now text (tells.whole ∙ sym c.len-found.ensures ∙ c.if-found-info.false) c.in-Err.error.why c.table_error.result c.table_error.ensures (c.in-Err.ensures.refused text tells)
