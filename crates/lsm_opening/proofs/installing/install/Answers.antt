use Rattle.std.proofs.Common.{◌+◌, arith}
use Rattle.lsm_opening.proofs.WholeEdits.{whole_taken}
use Rattle.lsm_opening.proofs.installing.install.Goals as goal

pub write_manifest-requires-clause-taken : goal.write_manifest-requires-clause-taken
write_manifest-requires-clause-taken g c κs within =
    whole_taken c.args.version c.requires.range c.args.numbers.log (c.args.numbers.log + 1) c.args.sequence
    (omega (arith, c.requires.log)) c.requires.most (omega arith) c.requires.most c.requires.last c.in-Ok.prepared.edit
    c.in-Ok.ensures.edit
