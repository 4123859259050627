use Rattle.std.proofs.Common.{◌≡◌, take}
use Rattle.std.specs.List.{fold}
use Rattle.lsm_rows.specs.Replay.{applied}
use Rattle.lsm_rows.proofs.pairs.Pairs.apply_all.Given as goal

abbrev pub invariant-loop-op : goal.invariant-loop-op
invariant-loop-op l = l.self ≡ fold applied l.fn.self (take l.op-index l.ops)
