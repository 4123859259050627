use Rattle.std.proofs.Common.{arith}
use Rattle.tests_backup.proofs.metas.printed_again.Goals as goal

pub print_meta-requires : goal.print_meta-requires
print_meta-requires c = c.read_meta_is_printed.ensures.meta 1 _ c.in_ok-meta.meta (omega arith) (omega arith) c.in_ok-meta.ensures.ok
