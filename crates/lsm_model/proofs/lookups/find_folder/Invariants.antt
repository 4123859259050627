use Rattle.std.proofs.Common.{◌≡◌, drop, List, map}
use Rattle.lsm_rows.specs.declared.operations.Op.{Op}
use Rattle.lsm_model.specs.States.{folder_of}
use Rattle.lsm_model.specs.Plain.{plain_folder}
use Rattle.lsm_model.proofs.lookups.find_folder.Given as goal

abbrev pub invariant-loop-folder : goal.invariant-loop-folder
invariant-loop-folder l =
    (accepted : List (List Op)) → folder_of l.name (map (plain_folder accepted) (drop l.folder-index l.folders)) ≡ folder_of l.name (map (plain_folder accepted) l.folders)
