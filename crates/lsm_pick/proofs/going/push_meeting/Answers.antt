use Rattle.std.proofs.Common.{sym, ap, ◌∙◌, option_map}
use Rattle.lsm_pick.specs.Views.{range_in}
use Rattle.lsm_pick.proofs.Steps.{pushed, left_out, no_table}
use Rattle.lsm_pick.proofs.going.push_meeting.Goals as goal
use Rattle.lsm_pick.proofs.going.push_meeting.Goals.{in-Some+then-meets+in_ok-push, in-Some+else-meets, in_default}

pub loop-place-preserved : goal.loop-place-preserved
loop-place-preserved c =
    elim c.match-get.branch [
      | in-Some+then-meets+in_ok-push w ↦ pushed (range_in c.args.range) c.args.version.now c.args.places.now c.loop-place.place-index _
          c.loop-place-test.true c.args.out.now c.loop-place.out c.loop-place.invariant w.in-Some.placed.now c.match-get.out
          (sym c.get.ensures ∙ ap (option_map (λ p. p.now)) w.in-Some.is) (sym w.meets.ensures ∙ w.if-meets.true) (w.out-is ∙ w.in_ok-push.ensures.ok)
      | in-Some+else-meets w ↦ w.out-is ∙ left_out (range_in c.args.range) c.args.version.now c.args.places.now c.loop-place.place-index _
          c.loop-place-test.true c.args.out.now c.loop-place.out c.loop-place.invariant w.in-Some.placed.now
          (sym c.get.ensures ∙ ap (option_map (λ p. p.now)) w.in-Some.is) (sym w.meets.ensures ∙ w.if-meets.false)
      | in_default w ↦ w.out-is ∙ no_table (range_in c.args.range) c.args.version.now c.args.places.now c.loop-place.place-index _
          c.loop-place-test.true c.args.out.now c.loop-place.out c.loop-place.invariant (sym c.get.ensures ∙ ap (option_map (λ p. p.now)) w.in_default.is)
    ]
