-- Each exit, by what the calls before it left.
use Rattle.std.proofs.Common.{Bool, refl, sym, subst, ap}
use Rattle.std.specs.Prelude.{◌++◌, ◌∷◌, [], Ok, Err}
use Rattle.lsm_disk.specs.State.{state_of}
use Rattle.lsm_disk.specs.Goes.{Went}
use Rattle.lsm_disk.specs.Kept.{InFile}
use Rattle.lsm_wal.specs.Standing.{HoldsFront, IsLeft}
use Rattle.lsm_wal.proofs.Refused.{refused_sync}
use Rattle.lsm_wal.proofs.Steps.{after_refused_append, after_refused_sync, after_unsynced, after_sync}
use Rattle.lsm_wal.proofs.log.write_record.Goals as goal
use Rattle.lsm_wal.proofs.log.write_record.Goals.{then-sync+in_default-sync, else-sync}

pub returns-in-Err-clause-went : goal.returns-in-Err-clause-went
returns-in-Err-clause-went g c story batches next durable tells is logged wal =
    after_refused_append c.args.path.now batches next durable c.args.bytes.now is (state_of story) wal story tells refl (Unit {0}) c.args.sync c.refusal.result c.in-Err.why c.refusal.ensures.call c.in-Err.ensures.did

pub returns-in-Err-sync-clause-went : goal.returns-in-Err-sync-clause-went
returns-in-Err-sync-clause-went g c story batches next durable tells is logged wal =
    after_refused_sync c.args.path.now batches next durable c.args.bytes.now is (state_of story) wal story tells refl (Unit {0}) c.args.sync c.refusal-in-Err-sync.result c.in-Err-sync.why logged c.in_default.ensures.did c.in-Err-sync.ensures.did

pub returns-in-Err-sync-clause-answer : goal.returns-in-Err-sync-clause-answer
returns-in-Err-sync-clause-answer g c =
    let seen = g.D.Disk.seen in
    refused_sync (Unit {0}) c.args.path.now c.args.bytes.now (seen c.args.disk.now).told (seen c.append.new.self).told c.refusal-in-Err-sync.result c.in-Err-sync.why c.refusal-in-Err-sync.ensures.why c.in_default.ensures.did c.in_default.ensures.answer c.in-Err-sync.ensures.answer
    (λ is. c.in-Err-sync.ensures.memory (ap Err is))

pub returns-clause-went : goal.returns-clause-went
returns-clause-went g c story batches next durable tells is logged wal =
    let path = c.args.path.now in
    let Reached = λ (d : g.row.D.Denot) (sync : Bool). Went story (g.D.Disk.seen d).told (InFile wal.id) (HoldsFront path (batches ++ next ∷ []) durable) (IsLeft path batches next durable sync (Ok (tt {0}))) in
    elim c.if-sync.branch [
      | then-sync+in_default-sync w ↦ subst (λ d. Reached d c.args.sync) (sym w.disk-is) (subst (Reached w.sync.new.self) (sym w.if-sync.true)
          (after_sync path batches next durable c.args.bytes.now is (state_of story) wal story tells refl (tt {0}) logged c.in_default.ensures.did w.in_default-sync.ensures.did))
      | else-sync w ↦ subst (λ d. Reached d c.args.sync) (sym w.disk-is) (subst (Reached c.append.new.self) (sym w.if-sync.false)
          (after_unsynced path batches next durable c.args.bytes.now is (state_of story) wal story tells refl (tt {0}) logged c.in_default.ensures.did))
    ]
