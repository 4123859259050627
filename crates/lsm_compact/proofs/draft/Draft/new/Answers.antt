use Rattle.std.proofs.Common.{true}
use Rattle.lsm_compact.proofs.Drafts.{new_table}
use Rattle.lsm_compact.proofs.draft.Draft.new.Goals as goal

pub invariant_of-result : goal.invariant_of-result
invariant_of-result c =
    new_table (record { number = c.args.number; session = c.args.session; rows = c.new.result.items; whole = true })
    c.new-2.result c.new.ensures.items
    c.new-2.ensures.built c.new-2.ensures.number c.new-2.ensures.session
