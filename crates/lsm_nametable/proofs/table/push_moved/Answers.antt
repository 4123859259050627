use Rattle.std.proofs.Common.{rules}
use Rattle.lsm_nametable.proofs.Tables.{shown_push}
use Rattle.lsm_nametable.proofs.table.push_moved.Goals as goal

pub returns-in_ok-push : goal.returns-in_ok-push
returns-in_ok-push c = search (rules, shown_push)
