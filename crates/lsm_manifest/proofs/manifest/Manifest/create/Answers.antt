-- Each exit, by what the manifest's writing left.
use Rattle.lsm_manifest.proofs.manifest.Manifest.create.Goals as goal

pub returns-in-Ok-clause-went : goal.returns-in-Ok-clause-went
returns-in-Ok-clause-went g c story before tells still apart =
    c.in-Ok.ensures.went story c.args.dir.now before tells c.places_in-places.ensures.manifest c.places_in-places.ensures.temporary c.places_in-places.ensures.current still apart

pub returns-in-Err-clause-went : goal.returns-in-Err-clause-went
returns-in-Err-clause-went g c story before tells still apart =
    c.in-Err.ensures.went story c.args.dir.now before tells c.places_in-places.ensures.manifest c.places_in-places.ensures.temporary c.places_in-places.ensures.current still apart

pub returns-in-Ok-clause-answer : goal.returns-in-Ok-clause-answer
returns-in-Ok-clause-answer g c = c.in-Ok.ensures.answer c.args.dir.now c.places_in-places.ensures.manifest c.places_in-places.ensures.temporary c.places_in-places.ensures.current

pub returns-in-Err-clause-answer : goal.returns-in-Err-clause-answer
returns-in-Err-clause-answer g c = c.in-Err.ensures.answer c.args.dir.now c.places_in-places.ensures.manifest c.places_in-places.ensures.temporary c.places_in-places.ensures.current
