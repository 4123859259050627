use Rattle.std.proofs.Common.{rules, sym, ap, ◌∙◌, option_map}
use Rattle.lsm_pick.proofs.Steps.{saturated, gathers, keeps, saturated_all}
use Rattle.lsm_pick.proofs.shape.level_bytes.Goals as goal
use Rattle.lsm_pick.proofs.shape.level_bytes.Goals.{in-Some, in_default}

pub loop-place-preserved : goal.loop-place-preserved
loop-place-preserved c =
    elim c.match-get.branch [
      | in-Some w ↦ gathers saturated 0 c.args.version.now c.args.places.now c.loop-place.place-index _ c.loop-place-test.true
          c.loop-place.bytes c.loop-place.invariant w.in-Some.placed.now c.match-get.bytes (sym c.get.ensures ∙ ap (option_map (λ p. p.now)) w.in-Some.is) (search rules)
      | in_default w ↦ keeps saturated 0 c.args.version.now c.args.places.now c.loop-place.place-index _ c.loop-place-test.true
          c.loop-place.bytes c.loop-place.invariant c.match-get.bytes (sym c.get.ensures ∙ ap (option_map (λ p. p.now)) w.in_default.is) w.bytes-is
    ]

pub returns : goal.returns
returns c = saturated_all c.args.version.now c.args.places.now c.loop-place.place-index c.loop-place.bytes (search rules) c.loop-place.invariant
