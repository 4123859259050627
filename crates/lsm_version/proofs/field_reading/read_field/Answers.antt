use Rattle.std.proofs.Common.{◌≢◌, ℕ, refl, get_or, rules}
use Rattle.lsm_version.specs.Reading.{IsRest, GoesOn}
use Rattle.lsm_version.proofs.ReadTables.{bad_fault}
use Rattle.lsm_version.proofs.ReadFields.{tag_fault, no_tag}
use Rattle.lsm_version.proofs.field_reading.read_field.Goals as goal

pub returns-in_default-clause-bad : goal.returns-in_default-clause-bad
returns-in_default-clause-bad c =
    let tag : ℕ = get_or c.args.bytes.now c.args.at 0 in
    let one : tag ≢ 1 = search rules in
    let two : tag ≢ 2 = search rules in
    let three : tag ≢ 3 = search rules in
    let four : tag ≢ 4 = search rules in
    let five : tag ≢ 5 = search rules in
    bad_fault (IsRest c.args.after) (GoesOn c.args.after) c.args.bytes.now c.args.at c.args.at _ refl
    (tag_fault c.args.bytes.now c.args.at c.args.after c.requires.at (no_tag c.args.after tag one two three four five))
