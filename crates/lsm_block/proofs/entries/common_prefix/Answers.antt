use Rattle.std.proofs.Common.{◌≡◌, ℕ, List, length, drop, arith, ◌≤◌, ⊎_elim, ◌⊎◌, inl, inr, ◌<◌}
use Rattle.std.proofs.lemmas.Bool.{cases_lt}
use Rattle.lsm_block.specs.BlockText.{common}
use Rattle.lsm_block.proofs.Prefixes.{common_step, common_stop, common_end, common_end_too}
use Rattle.lsm_block.proofs.entries.common_prefix.Goals as goal

pub returns-then-a-at-clause-common : goal.returns-then-a-at-clause-common
returns-then-a-at-clause-common c =
    let stop = common_stop c.args.a.now c.args.b.now c.loop-at.at (omega arith) (omega arith) c.if-a-at.true in
    omega (arith, c.loop-at.invariant, stop)

pub loop-at-preserved : goal.loop-at-preserved
loop-at-preserved c =
    let step = common_step c.args.a.now c.args.b.now c.loop-at.at (omega arith) (omega arith) c.if-a-at.false in
    omega (arith, c.loop-at.invariant, step)

end_of : (a b : List ℕ) (at : ℕ) → (length a ≤ at) ⊎ (length b ≤ at) → common (drop at a) (drop at b) ≡ 0
end_of a b at past = ⊎_elim (common_end a b at) (common_end_too a b at) past

pub returns-clause-common : goal.returns-clause-common
returns-clause-common c =
    let done = end_of c.args.a.now c.args.b.now c.loop-at.at (⊎_elim (λ (h : length c.args.a.now < length c.args.b.now). inl (omega (arith, h))) (λ (h : length c.args.b.now ≤ length c.args.a.now). inr (omega (arith, h))) (cases_lt (length c.args.a.now) (length c.args.b.now))) in
    omega (arith, c.loop-at.invariant, done)
