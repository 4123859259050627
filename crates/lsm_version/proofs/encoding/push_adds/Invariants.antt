use Rattle.std.proofs.Common.{◌≡◌, ◌++◌, take}
use Rattle.std.specs.List.{flat_map}
use Rattle.lsm_version.specs.declared.fields.Field.TheVariants.{Added}
use Rattle.lsm_version.specs.EditText.{field_text}
use Rattle.lsm_version.proofs.encoding.push_adds.Given as goal

abbrev pub invariant-loop-add : goal.invariant-loop-add
invariant-loop-add l = l.out ≡ l.fn.out ++ flat_map (λ add. field_text (Added add)) (take l.add-index l.adds)
