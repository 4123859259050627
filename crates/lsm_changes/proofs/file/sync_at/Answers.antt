use Rattle.std.proofs.Common.{◌<◌, length, rules}
use Rattle.lsm_disk.specs.State.{sure}
use Rattle.lsm_changes.proofs.Files.{set_in}
use Rattle.lsm_changes.proofs.file.sync_at.Goals as goal

pub returns : goal.returns
returns c =
    let lt : c.args.id < length c.args.files.now.items = search rules in
    set_in sure c.args.files.now.items c.args.id _ _ lt c.index_mut-file.ensures.value c.sync.ensures
