use Rattle.std.proofs.Common.{rules, sym, ap, ◌∙◌, option_map, None}
use Rattle.lsm_pick.specs.Standing.{with_lesser}
use Rattle.lsm_pick.specs.Views.{table_in}
use Rattle.lsm_pick.proofs.Steps.{gathers, keeps, least_found}
use Rattle.lsm_pick.proofs.going.least_of.Goals as goal
use Rattle.lsm_pick.proofs.going.least_of.Goals.{in-Some, in_default}

pub loop-place-preserved : goal.loop-place-preserved
loop-place-preserved c =
    elim c.match-get.branch [
      | in-Some w ↦ gathers with_lesser None c.args.version.now c.args.places.now c.loop-place.place-index _ c.loop-place-test.true
          (option_map table_in c.loop-place.least) c.loop-place.invariant w.in-Some.placed.now (option_map table_in c.match-get.least)
          (sym c.get.ensures ∙ ap (option_map (λ p. p.now)) w.in-Some.is) (ap (option_map table_in) w.least-is ∙ w.lesser.ensures)
      | in_default w ↦ keeps with_lesser None c.args.version.now c.args.places.now c.loop-place.place-index _ c.loop-place-test.true
          (option_map table_in c.loop-place.least) c.loop-place.invariant (option_map table_in c.match-get.least)
          (sym c.get.ensures ∙ ap (option_map (λ p. p.now)) w.in_default.is) (ap (option_map table_in) w.least-is)
    ]

pub returns : goal.returns
returns c = least_found c.args.version.now c.args.places.now c.loop-place.place-index (option_map table_in c.loop-place.least) (search rules) c.loop-place.invariant
