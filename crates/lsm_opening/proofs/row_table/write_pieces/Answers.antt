use Rattle.std.specs.Prelude.{ℕ, List, Option}
use Rattle.std.proofs.Common.{subst}
use Rattle.lsm_table.specs.declared.building.Finished.{Finished}
use Rattle.lsm_opening.specs.RowFiles.{WritesFile, HasSoFar}
use Rattle.lsm_opening.specs.RowTables.{IsStepped, bytes_with}
use Rattle.lsm_opening.proofs.RowTables.{writes_begun, writes_more, same_text, same_end}
use Rattle.lsm_opening.proofs.row_table.write_pieces.Goals as goal

pub loop-last-init : goal.loop-last-init
loop-last-init g c = writes_begun c.args.path.now
    (g.D.Disk.seen c.args.disk.now) c.args.flush.now c.requires.new c.requires.left

pub loop-last-preserved : goal.loop-last-preserved
loop-last-preserved g c =
    let path = c.args.path.now in
    let seen = g.D.Disk.seen in
    let f = c.loop-last.flush in
    let next = c.write_piece.new.flush in
    let told = (seen c.write_piece.new.disk).told in
    writes_more path (seen c.args.disk.now) (seen c.loop-last.disk) (seen c.write_piece.new.disk) c.args.flush.now f next
    c.loop-last.invariant c.in-Ok-None.ensures.same
    (subst (λ (o : Option Finished). IsStepped f next o) c.in-Ok-None.field-0-is c.in-Ok-None.ensures.stepped)
    (λ start was. subst (λ (o : Option Finished). WritesFile path start told (HasSoFar path start (bytes_with f next o)))
    c.in-Ok-None.field-0-is (c.in-Ok-None.ensures.went start was))
    c.in-Ok-None.ensures.cause.faults_later c.in-Ok-None.ensures.cause.refusals_later

pub returns-in-Ok-Some-clause-went : goal.returns-in-Ok-Some-clause-went
returns-in-Ok-Some-clause-went g c start begun =
    let path = c.args.path.now in
    let seen = g.D.Disk.seen in
    let f = c.loop-last.flush in
    let next = c.write_piece.new.flush in
    let told = (seen c.write_piece.new.disk).told in
    subst (λ (bytes : List ℕ). WritesFile path start told (HasSoFar path start bytes))
    (same_text c.args.flush.now f c.loop-last.invariant.same)
    (subst (λ (o : Option Finished). WritesFile path start told (HasSoFar path start (bytes_with f next o)))
    c.in-Ok-Some.field-0-is (c.in-Ok-Some.ensures.went start (c.loop-last.invariant.went start begun)))

pub returns-in-Ok-Some-clause-last : goal.returns-in-Ok-Some-clause-last
returns-in-Ok-Some-clause-last g c =
    same_end c.args.flush.now c.loop-last.flush c.in-Ok-Some.last c.loop-last.invariant.same
    (subst (λ (o : Option Finished). IsStepped c.loop-last.flush c.write_piece.new.flush o) c.in-Ok-Some.field-0-is
    c.in-Ok-Some.ensures.stepped)

pub returns-in-Err-clause-went : goal.returns-in-Err-clause-went
returns-in-Err-clause-went g c start begun = c.in-Err.ensures.went start (c.loop-last.invariant.went start begun)
