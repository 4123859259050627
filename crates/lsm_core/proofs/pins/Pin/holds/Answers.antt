use Rattle.std.specs.Prelude.{List}
use Rattle.std.proofs.Common.{ap, ◌∙◌}
use Rattle.std.specs.List.{list_any}
use Rattle.lsm_model.specs.Causes.{same_name}
use Rattle.lsm_model.specs.declared.cuts.CutFile.{CutFile}
use Rattle.lsm_refine.specs.Calls.{lists_name}
use Rattle.lsm_refine.specs.Kept.{KeptPin}
use Rattle.lsm_core.proofs.UsedNames.{are_listed}
use Rattle.lsm_core.proofs.pins.Pin.holds.Goals as goal

pub returns : goal.returns
returns c =
    c.is_listed.ensures
    ∙ ap (list_any (λ (file : CutFile). same_name file.name c.args.name)) c.as_slice.ensures
    ∙ are_listed c.args.name c.self.inside.files
    ∙ ap (λ (pin : KeptPin). lists_name c.args.name pin.files) c.self.view_is
