use Rattle.std.proofs.Common.{◌≤◌, ◌-◌, ◌+◌, ℕ, set, length, drop, arith, ap, ◌∙◌}
use Rattle.std.proofs.lemmas.Slice.{between_to_end}
use Rattle.lsm_names.proofs.NumberLemmas.{begun, one_more, ended, has_place}
use Rattle.lsm_names.proofs.numbers.padded_decimal.Goals as goal

pub loop-rest-init : goal.loop-rest-init
loop-rest-init c = begun c.args.number (omega arith)

pub overflow_sub-start : goal.overflow_sub-start
overflow_sub-start c = has_place c.loop-rest.rest c.loop-rest.start (omega arith) c.loop-rest.invariant.room

pub loop-rest-preserved : goal.loop-rest-preserved
loop-rest-preserved c = one_more c.args.number c.loop-rest.rest c.loop-rest.start c.loop-rest.digits (omega arith) (omega arith) c.loop-rest.invariant

pub overflow_sub-start-2 : goal.overflow_sub-start-2
overflow_sub-start-2 c = has_place c.loop-rest.rest c.loop-rest.start (omega arith) c.loop-rest.invariant.room

pub returns : goal.returns
returns c =
    let places = set c.loop-rest.digits (c.loop-rest.start - 1) (48 + c.loop-rest.rest) in
    let count : length places ≤ 20 = omega (arith, c.min.array_long) in
    c.from_slice.ensures
    ∙ between_to_end places c.min.result 20 count
    ∙ ap (λ (from : ℕ). drop from places) c.min.ensures
    ∙ ended c.args.least c.args.number c.loop-rest.rest c.loop-rest.start c.loop-rest.digits c.requires (omega arith) c.loop-rest.invariant
