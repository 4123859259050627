use Rattle.std.proofs.Common.{ap, ◌∙◌, option_map}
use Rattle.lsm_pick.specs.Views.{range_in}
use Rattle.lsm_pick.proofs.Chosen.{met_of}
use Rattle.lsm_pick.proofs.going.with_meeting.Goals as goal

pub returns-in_ok-push_meeting-in-Some : goal.returns-in_ok-push_meeting-in-Some
returns-in_ok-push_meeting-in-Some c =
    c.in_ok-push_meeting-in-Some.ensures ∙ met_of c.args.version.now c.args.level c.args.going (range_in c.in-Some.range) _ c.as_slice.result.now
    (ap (option_map range_in) c.in-Some.is) (c.as_slice.ensures ∙ c.in_ok-places-in-Some.ensures)
