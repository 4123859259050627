use Rattle.std.specs.Prelude.{false}
use Rattle.std.specs.List.{list_any}
use Rattle.std.proofs.Common.{◌≡◌, take}
use Rattle.lsm_model.specs.Causes.{same_name}
use Rattle.lsm_model.specs.declared.cuts.CutFile.{CutFile}
use Rattle.lsm_core.proofs.pins.is_listed.Given as goal

abbrev pub invariant-loop-file : goal.invariant-loop-file
invariant-loop-file l = list_any (λ (file : CutFile). same_name file.name l.name) (take l.file-index l.files) ≡ false
