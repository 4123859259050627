-- Each exit, by what the call left.
use Rattle.lsm_disk.specs.State.{state_of}
use Rattle.lsm_disk.specs.Refusals.{no_room}
use Rattle.lsm_disk.proofs.Runs.{went_weaker}
use Rattle.bk_engine.specs.Copying.{Whatever}
use Rattle.bk_engine.specs.Opening.{HasFolder}
use Rattle.bk_engine.proofs.Openings.{nothing_made, folder_is_made, folder_not_made, stands_already}
use Rattle.bk_engine.proofs.opening.make_missing.Goals as goal

pub returns-then-not-missing-clause-made : goal.returns-then-not-missing-clause-made
returns-then-not-missing-clause-made g c story tells is =
    let path = c.args.path.now in
    nothing_made path story tells (HasFolder path) (stands_already path c.args.missing (state_of story) c.if-not-missing.true is)

pub returns-then-not-missing-clause-went : goal.returns-then-not-missing-clause-went
returns-then-not-missing-clause-went g c story tells = nothing_made c.args.path.now story tells Whatever tt

pub returns-in-Ok-clause-made : goal.returns-in-Ok-clause-made
returns-in-Ok-clause-made g c story tells is = folder_is_made c.args.path.now story tells c.in-Ok.ensures.did

pub returns-in-Ok-clause-went : goal.returns-in-Ok-clause-went
returns-in-Ok-clause-went g c story tells = went_weaker (HasFolder c.args.path.now) Whatever (λ s i. tt) (folder_is_made c.args.path.now story tells c.in-Ok.ensures.did)

pub returns-in-Err-clause-went : goal.returns-in-Err-clause-went
returns-in-Err-clause-went g c story tells = folder_not_made c.args.path.now story tells (no_room c.args.path.now) c.in-Err.why c.in-Err.ensures.did
