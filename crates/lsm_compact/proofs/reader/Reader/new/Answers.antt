use Rattle.std.proofs.Common.{ap, arith, sym, ◌∙◌}
use Rattle.std.proofs.lemmas.List.{take_all}
use Rattle.lsm_compact.proofs.Given.{new_gives, started}
use Rattle.lsm_compact.proofs.Readers.{new_sound}
use Rattle.lsm_compact.proofs.reader.Reader.new.Goals as goal

pub returns-clause-sound : goal.returns-clause-sound
returns-clause-sound c =
    let count = c.loop-place.invariant.count in
    let sources = c.loop-place.invariant.sources in
    let end = c.loop-place.auto.place-index-end in
    new_sound c.loop-place.readings.items c.new-2.result c.loop-place.sources.items c.new-2.ensures
    (omega (arith, sources, end))
    (count ∙ sym sources) c.loop-place.invariant.fresh

pub returns-clause-contents : goal.returns-clause-contents
returns-clause-contents c = λ rows order.
    let sources = c.loop-place.invariant.sources in
    let end = c.loop-place.auto.place-index-end in
    let test = c.loop-place-test.false in
    new_gives rows c.args.places.now c.loop-place.sources.items _
    (c.loop-place.invariant.readings ∙ ap started (take_all c.loop-place.place-index c.args.places.now test))
    c.new-2.ensures (omega (arith, sources, end, test)) c.loop-place.invariant.fresh order
