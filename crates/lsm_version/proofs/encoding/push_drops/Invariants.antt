use Rattle.std.proofs.Common.{◌≡◌, ◌++◌, take}
use Rattle.std.specs.List.{flat_map}
use Rattle.lsm_version.specs.declared.fields.Field.TheVariants.{Dropped}
use Rattle.lsm_version.specs.EditText.{field_text}
use Rattle.lsm_version.proofs.encoding.push_drops.Given as goal

abbrev pub invariant-loop-place : goal.invariant-loop-place
invariant-loop-place l = l.out ≡ l.fn.out ++ flat_map (λ place. field_text (Dropped place)) (take l.place-index l.drops)
