use Rattle.std.proofs.Common.{arith}
use Rattle.lsm_io.proofs.Digits.{digits_go_on}
use Rattle.lsm_io.proofs.host.write_digits.Goals as goal

pub loop-place-preserved : goal.loop-place-preserved
loop-place-preserved c = digits_go_on c.loop-place.into c.args.number c.loop-place.place-index c.loop-place.rest c.character.result (omega arith) c.character.ensures c.loop-place.invariant
