use Rattle.std.specs.Prelude.{◌≡◌, Some}
use Rattle.lsm_disk.specs.State.{Story, state_of}
use Rattle.lsm_refine.specs.Sane.{AreFiles}
use Rattle.lsm_opening.specs.declared.installing.Recovered.{Recovered}
use Rattle.lsm_opening.specs.Finding.{HasFound}
use Rattle.lsm_opening.specs.Recovering.{IsReady, HasRecoveredFrom}
use Rattle.lsm_opening.proofs.Founds.{ok_weaker}
use Rattle.lsm_opening.proofs.KeptExits.{found_images, unread_images}
use Rattle.lsm_opening.proofs.recovering.recover.Goals as goal

pub returns-in-Ok-draw-clause-recovered : goal.returns-in-Ok-draw-clause-recovered
returns-in-Ok-draw-clause-recovered g c =
    let dir = c.args.dir.now in
    let old = (g.D.Disk.seen c.args.disk.now).told in
    let mid = (g.D.Disk.seen c.read_found.new.disk).told in
    let new = (g.D.Disk.seen c.write_found.new.disk).told in
    ok_weaker c.write_found.result
    (λ (x : Recovered). (start : Story) → HasFound dir start mid c.in-Ok.found → AreFiles (state_of start) dir
    → HasRecoveredFrom dir start new x)
    (λ (x : Recovered). (start : Story) → old ≡ Some start → IsReady dir start → HasRecoveredFrom dir start new x)
    (λ x from start is ready. from start (c.in-Ok.ensures.found start is) ready.files)
    c.write_found.ensures.recovered

-- the images, exit by exit

pub returns-in-Ok-draw-clause-images : goal.returns-in-Ok-draw-clause-images
returns-in-Ok-draw-clause-images g c mid is ready =
    c.write_found.ensures.images mid (c.in-Ok.ensures.found mid is) ready

pub returns-in-Err-draw-clause-images : goal.returns-in-Err-draw-clause-images
returns-in-Err-draw-clause-images g c mid is ready =
    found_images c.args.dir.now c.as_bytes-name.ensures.folder mid ready (g.D.Disk.seen c.read_found.new.disk).told
    c.in-Ok.found (c.in-Ok.ensures.found mid is)

pub returns-in-Err-clause-images : goal.returns-in-Err-clause-images
returns-in-Err-clause-images g c mid is ready =
    unread_images c.args.dir.now c.as_bytes-name.ensures.folder mid ready (g.D.Disk.seen c.read_found.new.disk).told
    (c.in-Err.ensures.synced mid is)
