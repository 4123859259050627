-- Each exit, by what the calls before it left.
use Rattle.std.proofs.Common.{refl, ap}
use Rattle.std.specs.Prelude.{Err}
use Rattle.lsm_disk.specs.State.{state_of}
use Rattle.lsm_wal.proofs.Refused.{refused_sync}
use Rattle.lsm_manifest.proofs.Steps.{after_refused_append, after_refused_sync, after_sync}
use Rattle.lsm_manifest.proofs.writing.write_record.Goals as goal

pub returns-in-Err-clause-went : goal.returns-in-Err-clause-went
returns-in-Err-clause-went g c story edits next tells is taken stands =
    after_refused_append c.args.path.now edits next c.args.bytes.now is (state_of story) stands story tells refl (Unit {0}) c.refusal.result c.in-Err.why c.refusal.ensures.call c.in-Err.ensures.did

pub returns-in-Err-sync-clause-went : goal.returns-in-Err-sync-clause-went
returns-in-Err-sync-clause-went g c story edits next tells is taken stands =
    after_refused_sync c.args.path.now edits next c.args.bytes.now is (state_of story) stands story tells refl (Unit {0}) c.refusal-in-Err-sync.result c.in-Err-sync.why c.in_default.ensures.did c.in-Err-sync.ensures.did

pub returns-in-Err-sync-clause-answer : goal.returns-in-Err-sync-clause-answer
returns-in-Err-sync-clause-answer g c =
    let seen = g.D.Disk.seen in
    refused_sync (Unit {0}) c.args.path.now c.args.bytes.now (seen c.args.disk.now).told (seen c.append.new.self).told c.refusal-in-Err-sync.result c.in-Err-sync.why c.refusal-in-Err-sync.ensures.why c.in_default.ensures.did c.in_default.ensures.answer c.in-Err-sync.ensures.answer
    (λ is. c.in-Err-sync.ensures.memory (ap Err is))

pub returns-clause-went : goal.returns-clause-went
returns-clause-went g c story edits next tells is taken stands =
    after_sync c.args.path.now edits next c.args.bytes.now is (state_of story) stands story tells refl (tt {0}) taken c.in_default.ensures.did c.in_default-sync.ensures.did
