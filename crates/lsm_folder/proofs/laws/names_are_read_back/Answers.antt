use Rattle.lsm_folder.proofs.NameLemmas.{name_only, manifest_only}
use Rattle.lsm_folder.proofs.laws.names_are_read_back.Goals as goal

pub returns-clause-only : goal.returns-clause-only
returns-clause-only c = λ text name is. let spells = name_only text name is in (spells.fits, spells.is)

pub returns-clause-only_current : goal.returns-clause-only_current
returns-clause-only_current c = λ text number is. let names = manifest_only text number is in (names.fits, names.is)
