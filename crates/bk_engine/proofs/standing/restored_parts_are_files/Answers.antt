use Rattle.bk_engine.proofs.StandingRestored.{restored_names, restored_held, restored_stands}
use Rattle.bk_engine.proofs.standing.restored_parts_are_files.Goals as goal

pub returns-clause-names : goal.returns-clause-names
returns-clause-names c = restored_names

pub returns-clause-held : goal.returns-clause-held
returns-clause-held c = restored_held

pub returns-clause-stands : goal.returns-clause-stands
returns-clause-stands c = restored_stands
