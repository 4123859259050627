use Rattle.std.proofs.Common.{◌≡◌, ◌+◌, ◌-◌, ◌≤◌, length, take, ap, refl, ◌∙◌, arith}
use Rattle.std.proofs.lemmas.List.{length-take-le}
use Rattle.lsm_names.proofs.TextLemmas.{written, same_room, zeros_behind}
use Rattle.lsm_names.proofs.text.Text.push.Goals as goal

pub invariant_of-self : goal.invariant_of-self
invariant_of-self g c =
    let t = c.self.inside in
    let end = t.len + length c.args.more.now in
    let new = c.copy_from_slice.new.self in
    let shown : length (take t.len t.bytes) ≡ t.len = length-take-le t.len t.bytes (omega arith) in
    let within : end ≤ g.row.N = omega (arith, c.requires, ap length c.self.view_is) in
    let long : length new ≡ end - t.len = ap length c.copy_from_slice.ensures.after ∙ omega arith in (
      within,
      same_room g.row.N t.len end t.bytes new long within c.self.invariant.1,
      zeros_behind g.row.N t.len end t.bytes new long (omega arith) within c.self.invariant.1 c.self.invariant.2,
    )

pub returns-clause-bytes : goal.returns-clause-bytes
returns-clause-bytes g c =
    let t = c.self.inside in
    written t.len _ t.bytes c.copy_from_slice.new.self c.args.more.now _ c.copy_from_slice.ensures.after refl (omega arith) c.self.view_is
