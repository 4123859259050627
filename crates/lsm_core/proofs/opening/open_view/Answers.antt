use Rattle.lsm_core.specs.Reading.{HasFile}
use Rattle.lsm_core.proofs.AskLemmas.{asks_then}
use Rattle.lsm_core.proofs.opening.open_view.Goals as goal

pub returns-in-Ok-clause-asks : goal.returns-in-Ok-clause-asks
returns-in-Ok-clause-asks g c =
    asks_then c.args.name (g.D.Disk.seen c.args.disk.now) (g.D.Disk.seen c.test_size.new.disk) (g.D.Disk.seen
    c.open_front.new.disk)
    (HasFile c.args.path.now c.args.len) (HasFile c.args.path.now c.args.len) (HasFile c.args.path.now c.args.len)
    c.in-Ok.field-0 c.open_front.result
    c.in-Ok.ensures c.open_front.ensures.asks (λ story tells holds. holds)
