-- The lemmas of `NewFiles`.
use Rattle.lsm_model.specs.declared.errors.StoreError.TheVariants.{NoMemory}
use Rattle.lsm_store.specs.NewStores.{file_calls}
use Rattle.lsm_store.proofs.NewFiles.{nothing_gone, stopped_so, made_so, refused_for}
use Rattle.lsm_store.proofs.opening_new.make_beside.Goals as goal

pub returns-in_default-clause-went : goal.returns-in_default-clause-went
returns-in_default-clause-went g c story same vacant =
    nothing_gone c.args.home.now c.args.number c.args.names.now story vacant NoMemory
    (g.D.Disk.seen c.args.disk.now).told same

pub returns-in-Ok-make_files-clause-went : goal.returns-in-Ok-make_files-clause-went
returns-in-Ok-make_files-clause-went g c story same vacant =
    made_so c.args.home.now c.args.number c.args.names.now story (g.D.Disk.seen c.make_files.new.disk).told
    c.in-Ok-make_files.files _ (c.in-Ok-make_files.ensures.went story c.args.names.now same vacant)

pub returns-in-Err-clause-went : goal.returns-in-Err-clause-went
returns-in-Err-clause-went g c story same vacant =
    stopped_so c.args.home.now c.args.number c.args.names.now story (g.D.Disk.seen c.make_files.new.disk).told
    c.in-Err.refused c.error_of.result (c.in-Err.ensures.went story c.args.names.now same vacant)

pub returns-in-Err-clause-cause : goal.returns-in-Err-clause-cause
returns-in-Err-clause-cause g c =
    let seen = g.D.Disk.seen in
    let cause = c.in-Err.ensures.cause in
    record {
      faults = cause.faults_later;
      refusals = cause.refusals_later;
      answer = refused_for (file_calls c.args.home.now c.args.number) c.args.number (seen c.args.disk.now)
          (seen c.make_files.new.disk) c.in-Err.refused c.error_of.result c.error_of.ensures c.in-Err.ensures.at cause.counted;
    }
