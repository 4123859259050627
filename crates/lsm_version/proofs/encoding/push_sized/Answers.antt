use Rattle.std.proofs.Common.{◌≡◌, ◌++◌, List, ℕ, length, append_assoc, sym, ap, ◌∙◌, rules}
use Rattle.lsm_bytes.specs.Varint.{varint}
use Rattle.lsm_version.proofs.encoding.push_sized.Goals as goal
use Rattle.lsm_rows.proofs.ReadSized.{sized-is}

pub returns : goal.returns
returns c =
    let joined : c.extend_from_slice.new.self ≡ c.args.out.now ++ varint (length c.args.bytes.now) ++ c.args.bytes.now = search rules in
    joined ∙ append_assoc c.args.out.now (varint (length c.args.bytes.now)) c.args.bytes.now ∙ ap (λ (t : List ℕ). c.args.out.now ++ t) (sym (sized-is c.args.bytes.now))
