use Rattle.std.proofs.Common.{◌<◌, length, rules}
use Rattle.lsm_disk.specs.State.{longer}
use Rattle.lsm_changes.proofs.Files.{set_in, on_ok}
use Rattle.lsm_changes.proofs.file.append_at.Goals as goal

pub returns-clause-ok : goal.returns-clause-ok
returns-clause-ok c =
    let lt : c.args.id < length c.args.files.now.items = search rules in
    on_ok c.append.result (λ is. set_in (longer c.args.bytes.now) c.args.files.now.items c.args.id _ _ lt c.index_mut-file.ensures.value is) c.append.ensures.ok
