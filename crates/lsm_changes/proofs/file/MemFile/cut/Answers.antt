use Rattle.std.proofs.Common.{◌≡◌, ◌+◌, ◌-◌, ◌%◌, ◌∙◌, ap, subst, arith, rules, length, take, drop}
use Rattle.lsm_disk.specs.State.{FileState}
use Rattle.lsm_changes.specs.Files.{IsLeft}
use Rattle.lsm_changes.proofs.Files.{left_of}
use Rattle.lsm_changes.proofs.file.MemFile.cut.Goals as goal

pub returns : goal.returns
returns c =
    let m = c.self.inside in
    let len = m.synced + c.args.pick % (c.len.result - m.synced + 1) in
    let held : c.in_ok-bytes.bytes.items ≡ take len m.bytes.items = c.in_ok-bytes.ensures.items ∙ ap (take len) c.deref.ensures.value in
    let all : c.len-synced.result ≡ length c.in_ok-bytes.bytes.items = search rules in
    subst (λ (f : FileState). IsLeft f (record { synced = take c.len-synced.result c.in_ok-bytes.bytes.items; unsynced = drop c.len-synced.result c.in_ok-bytes.bytes.items })) c.self.view_is
    (left_of m.bytes.items c.in_ok-bytes.bytes.items m.synced len c.len-synced.result (omega arith) held all)
