use Rattle.std.proofs.Common.{sym, subst}
use Rattle.lsm_refine.specs.Kept.{Shown}
use Rattle.lsm_refine.specs.Openings.{HasOpened}
use Rattle.lsm_store.proofs.OpenBegins.{nothing_lost}
use Rattle.lsm_store.proofs.store.Store.open.Goals as goal

pub returns-in_default-clause-moments : goal.returns-in_default-clause-moments
returns-in_default-clause-moments g c before told =
    let seen = g.D.Disk.seen in
    nothing_lost c.args.dir.now c.as_bytes-name.ensures.folder before (seen c.args.disk).told told (seen c.args.disk).told told

pub returns-in-Ok-begin-clause-opened : goal.returns-in-Ok-begin-clause-opened
returns-in-Ok-begin-clause-opened g c before told =
    subst (λ (v : Shown). HasOpened before c.args.dir.now v) (sym c.store_of.ensures) (c.in-Ok-begin.ensures.opened before told)
