use Rattle.std.proofs.Common.{rules, sym, ap, ◌∙◌, option_map, None}
use Rattle.lsm_pick.specs.Standing.{widened}
use Rattle.lsm_pick.specs.Views.{range_in}
use Rattle.lsm_pick.proofs.Steps.{widened_by, gathers, keeps, range_found}
use Rattle.lsm_pick.proofs.going.range_of_all.Goals as goal
use Rattle.lsm_pick.proofs.going.range_of_all.Goals.{in-Some, in_default}

pub loop-place-preserved : goal.loop-place-preserved
loop-place-preserved c =
    elim c.match-get.branch [
      | in-Some w ↦ gathers widened_by None c.args.version.now c.args.places.now c.loop-place.place-index _ c.loop-place-test.true
          (option_map range_in c.loop-place.range) c.loop-place.invariant w.in-Some.placed.now (option_map range_in c.match-get.range)
          (sym c.get.ensures ∙ ap (option_map (λ p. p.now)) w.in-Some.is)
          (ap (option_map range_in) w.range-is ∙ w.widened.ensures ∙ ap (widened (option_map range_in c.loop-place.range)) w.keys_of.ensures)
      | in_default w ↦ keeps widened_by None c.args.version.now c.args.places.now c.loop-place.place-index _ c.loop-place-test.true
          (option_map range_in c.loop-place.range) c.loop-place.invariant (option_map range_in c.match-get.range)
          (sym c.get.ensures ∙ ap (option_map (λ p. p.now)) w.in_default.is) (ap (option_map range_in) w.range-is)
    ]

pub returns : goal.returns
returns c = range_found c.args.version.now c.args.places.now c.loop-place.place-index (option_map range_in c.loop-place.range) (search rules) c.loop-place.invariant
