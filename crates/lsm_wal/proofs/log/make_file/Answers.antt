-- Each exit, by what the calls before it left.
use Rattle.lsm_wal.proofs.Made.{after_refused_create, after_refused_names, after_names}
use Rattle.lsm_wal.proofs.log.make_file.Goals as goal

pub returns-in-Err-clause-went : goal.returns-in-Err-clause-went
returns-in-Err-clause-went g c story tells = after_refused_create c.args.path.now story tells (Unit {0}) c.refusal.result c.in-Err.why c.in-Err.ensures.did

pub returns-in-Err-sync_names-clause-went : goal.returns-in-Err-sync_names-clause-went
returns-in-Err-sync_names-clause-went g c story tells =
    after_refused_names c.args.path.now story tells (Unit {0}) c.refusal-in-Err-sync_names.result c.in-Err-sync_names.why c.in_default.ensures.did c.in-Err-sync_names.ensures.did

pub returns-clause-went : goal.returns-clause-went
returns-clause-went g c story tells = after_names c.args.path.now story tells (tt {0}) c.in_default.ensures.did c.in_default-sync_names.ensures.did
