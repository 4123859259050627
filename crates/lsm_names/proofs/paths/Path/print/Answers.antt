use Rattle.std.proofs.Common.{length, ap, arith}
use Rattle.lsm_names.proofs.paths.Path.print.Goals as goal

pub push_str-requires : goal.push_str-requires
push_str-requires c = (omega arith, omega (arith, c.as_str.ensures.within, ap length c.as_str.ensures.text, ap length c.new-printed.ensures))
