use Rattle.std.proofs.Common.{◌++◌, List, ap, ◌∙◌}
use Rattle.std.specs.List.{flat_map}
use Rattle.lsm_version.specs.declared.tables.Add.{Add}
use Rattle.lsm_version.specs.declared.tables.Place.{Place}
use Rattle.lsm_version.specs.declared.fields.Field.TheVariants.{Added, Dropped}
use Rattle.lsm_version.specs.EditText.{field_text}
use Rattle.lsm_version.proofs.Written.{written}
use Rattle.lsm_version.proofs.encoding.encode_edit.Goals as goal

pub returns : goal.returns
returns c =
    written c.args.edit.now _ _ _ _ _ _ c.new-text.ensures
    c.in_ok-push_given.ensures.none c.in_ok-push_given.ensures.some
    c.in_ok-push_given-2.ensures.none c.in_ok-push_given-2.ensures.some
    c.in_ok-push_given-3.ensures.none c.in_ok-push_given-3.ensures.some
    (c.in_ok-push_adds.ensures ∙ ap (λ (xs : List Add). c.push_given-3.new.out ++ flat_map (λ add. field_text (Added add)) xs) c.as_slice.ensures)
    (c.in_ok-push_drops.ensures ∙ ap (λ (xs : List Place). c.push_adds.new.out ++ flat_map (λ place. field_text (Dropped place)) xs) c.as_slice-2.ensures)
