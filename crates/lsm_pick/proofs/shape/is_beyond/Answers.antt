use Rattle.std.proofs.Common.{rules, ◌∙◌, ap, length}
use Rattle.lsm_pick.proofs.Chosen.{beyond_by_count, beyond_by_bytes}
use Rattle.lsm_pick.proofs.shape.is_beyond.Goals as goal

pub returns-in-0 : goal.returns-in-0
returns-in-0 c = beyond_by_count c.args.version.now c.args.level c.len.result c.in-0.is (c.len.ensures.len ∙ ap length c.in_ok-places.ensures)

pub returns : goal.returns
returns c =
    beyond_by_bytes c.args.version.now c.args.level c.level_bytes.result c.target.result c.as_slice.result.now (search rules) c.target.ensures (search rules)
    (c.as_slice.ensures ∙ c.in_ok-places.ensures) c.level_bytes.ensures
