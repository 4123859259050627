use Rattle.std.proofs.Common.{◌≡◌, take}
use Rattle.lsm_recover.specs.Gathered.{with_rows}
use Rattle.lsm_recover.proofs.newest.NewestRows.add_all.Given as goal

abbrev pub invariant-loop-row : goal.invariant-loop-row
invariant-loop-row l = l.self ≡ with_rows l.fn.self (take l.row-index l.rows)
