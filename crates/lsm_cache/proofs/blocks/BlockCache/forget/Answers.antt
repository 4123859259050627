use Rattle.std.proofs.Common.{sym, ◌∙◌}
use Rattle.lsm_cache.proofs.Forgetting.{forgets_one, forgets_less, forgets_all}
use Rattle.lsm_cache.proofs.blocks.BlockCache.forget.Goals as goal

pub loop-at-smaller-in-Some : goal.loop-at-smaller-in-Some
loop-at-smaller-in-Some c = rw c.pop.ensures.entries (forgets_less c.args.number c.loop-at.self-inside.kept c.in-Some.at (sym c.in-Some.ensures))

pub loop-at-preserved-in-Some : goal.loop-at-preserved-in-Some
loop-at-preserved-in-Some c = rw c.pop.ensures.entries (forgets_one c.args.number c.loop-at.self-inside.kept c.in-Some.at (sym c.in-Some.ensures) ∙ c.loop-at.invariant)

pub loop-at-smaller : goal.loop-at-smaller
loop-at-smaller c = rw c.pop.ensures.entries (forgets_less c.args.number c.loop-at.self-inside.kept c.in-Some.at (sym c.in-Some.ensures))

pub loop-at-preserved : goal.loop-at-preserved
loop-at-preserved c = rw c.pop.ensures.entries (forgets_one c.args.number c.loop-at.self-inside.kept c.in-Some.at (sym c.in-Some.ensures) ∙ c.loop-at.invariant)

pub returns : goal.returns
returns c = forgets_all c.args.number c.loop-at.self-inside.kept (sym c.in_default.ensures) ∙ c.loop-at.invariant
