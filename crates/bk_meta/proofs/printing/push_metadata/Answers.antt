use Rattle.std.proofs.Common.{◌≡◌, ◌++◌, ◌∷◌, [], rules}
use Rattle.std.specs.Prelude.{codes}
use Rattle.hex.specs.Hex.{encode_lower}
use Rattle.bk_meta.proofs.PrintLemmas.{metadata_pushed}
use Rattle.bk_meta.proofs.printing.push_metadata.Goals as goal

pub returns : goal.returns
returns c =
    let one : c.extend_from_slice.new.self ≡ c.args.text.now ++ codes "metadata " = search rules in
    let two : c.extend_from_slice-2.new.self ≡ c.extend_from_slice.new.self ++ c.as_bytes.result.now = search rules in
    let three : c.push.new.self ≡ c.extend_from_slice-2.new.self ++ 10 ∷ [] = search rules in
    let digits : c.as_bytes.result.now ≡ encode_lower c.args.metadata.now = search rules in
    metadata_pushed c.args.text.now c.args.metadata.now c.extend_from_slice.new.self c.extend_from_slice-2.new.self c.push.new.self c.as_bytes.result.now (search rules) one two three digits
