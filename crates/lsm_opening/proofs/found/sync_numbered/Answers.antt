use Rattle.lsm_names.specs.declared.file_names.FileName.TheVariants.{Manifest}
use Rattle.lsm_opening.proofs.Founds.{sync_cause}
use Rattle.lsm_opening.proofs.found.sync_numbered.Goals as goal

pub returns-in-Err-clause-cause : goal.returns-in-Err-clause-cause
returns-in-Err-clause-cause g c =
    let seen = g.D.Disk.seen in
    let cause = c.in-Err.ensures.cause in
    sync_cause c.args.dir.now (seen c.args.disk.now) (seen c.sync.new.self) (Manifest c.args.number) c.file-path.result
    c.in-Err.why c.sync_error.result c.sync_error.ensures cause.faults_later cause.refusals_later cause.counted
