use Rattle.std.proofs.Common.{length}
use Rattle.lsm_disk.specs.State.{state_of}
use Rattle.lsm_disk.specs.Refusals.{no_file}
use Rattle.bk_engine.specs.Copying.{Whatever, IsFilled, IsSealed}
use Rattle.bk_engine.proofs.Copies.{forgets, create_refused, syncs, sync_refused, copy_after, sealed_lawful}
use Rattle.bk_engine.proofs.copying.copy_file.Goals as goal

pub returns-in-Err-clause-went : goal.returns-in-Err-clause-went
returns-in-Err-clause-went g c story tells = create_refused c.args.path.now story tells c.in-Err.why c.in-Err.ensures.did

pub returns-in_err-crc-clause-went : goal.returns-in_err-crc-clause-went
returns-in_err-crc-clause-went g c story tells =
    copy_after c.args.path.now story tells Whatever c.in_default.ensures.did (λ mid told new. c.copy_bytes.ensures.went mid (length (state_of story).files) told new)

pub returns-in-Err-sync-clause-went : goal.returns-in-Err-sync-clause-went
returns-in-Err-sync-clause-went g c story tells =
    let path = c.args.path.now in
    let id = length (state_of story).files in
    let copied = c.in_ok-crc.ensures.copied in
    sync_refused path id copied.0 (no_file path) c.in-Err-sync.why c.in-Err-sync.ensures.did
    (copy_after path story tells (IsFilled path id copied.0) c.in_default.ensures.did (λ mid told new. copied.2 mid id told new))

pub returns-clause-copied : goal.returns-clause-copied
returns-clause-copied g c =
    let path = c.args.path.now in
    let copied = c.in_ok-crc.ensures.copied in (
      copied.0,
      copied.1,
      λ story tells.
          syncs path (length (state_of story).files) copied.0 c.in_default-sync.ensures.did
          (copy_after path story tells (IsFilled path (length (state_of story).files) copied.0) c.in_default.ensures.did (λ mid told new. copied.2 mid (length (state_of story).files) told new)),
    )

pub returns-clause-went : goal.returns-clause-went
returns-clause-went g c story tells =
    let path = c.args.path.now in
    let id = length (state_of story).files in
    let copied = c.in_ok-crc.ensures.copied in
    forgets path id (IsSealed path id copied.0) (syncs path id copied.0 c.in_default-sync.ensures.did
    (copy_after path story tells (IsFilled path id copied.0) c.in_default.ensures.did (λ mid told new. copied.2 mid id told new)))

pub returns-clause-lawful : goal.returns-clause-lawful
returns-clause-lawful g c = sealed_lawful c.args.path.now (g.B.Disk.seen c.copy_bytes.new.disk).told (g.B.Disk.seen c.sync.new.self).told c.sync.ensures.lawful c.in_default-sync.ensures.did
