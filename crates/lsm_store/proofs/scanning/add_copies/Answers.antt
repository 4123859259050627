use Rattle.std.proofs.Common.{◌≡◌, ◌∙◌, length}
use Rattle.lsm_store.proofs.Scans.{all_copied, joined}
use Rattle.lsm_store.proofs.scanning.add_copies.Goals as goal

pub returns : goal.returns
returns c =
    let copies = c.in_ok-copies.copies in
    let same : c.into_vec.result.items ≡ copies = cc (c.into_vec.ensures, c.copies.view_is) in
    let many : c.len.result ≡ length copies = cc (c.len.ensures.len, c.copies.view_is) in
    joined c.args.rows.now.items c.append.new.self.items c.into_vec.result.items c.args.memory.now c.append.result
    c.in_ok-append.was c.append.ensures.items
    (same ∙ all_copied c.args.memory.now copies c.len.result c.in_ok-copies.ensures many c.if-len.false)
