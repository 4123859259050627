use Rattle.std.proofs.Common.{◌∙◌}
use Rattle.lsm_folder.proofs.CurrentLemmas.{no_newline, no_name, found_name}
use Rattle.lsm_recover.proofs.current.named_manifest.Goals as goal

pub returns-in_default-clause-is : goal.returns-in_default-clause-is
returns-in_default-clause-is c = no_newline c.args.text.now c.in_default.ensures.cases

pub returns-in-Ok-clause-is : goal.returns-in-Ok-clause-is
returns-in-Ok-clause-is c =
    c.manifest_number.ensures
    ∙ found_name c.args.text.now c.in-Some.name.now c.in-Some.ensures.cases.0 c.in-Some.ensures.cases.1 c.in-Ok.found c.in-Ok.ensures.number c.in-Ok.ensures.spelling

pub returns-in-Err-clause-is : goal.returns-in-Err-clause-is
returns-in-Err-clause-is c = no_name c.args.text.now c.in-Some.name.now c.in-Some.ensures.cases.0 c.in-Some.ensures.cases.1 c.in-Err.ensures.refused
