use Rattle.std.proofs.Common.{◌≡◌, [], take}
use Rattle.lsm_table.specs.Building.{IsBuilt}
use Rattle.lsm_compact.proofs.draft.build.Given as goal

abbrev pub invariant-loop-row : goal.invariant-loop-row
invariant-loop-row l = IsBuilt l.builder (take l.row-index l.rows) [] × (l.builder.number ≡ l.fn.number) ×
    (l.builder.session ≡ l.fn.session)
