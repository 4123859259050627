use Rattle.lsm_disk.proofs.Built.{within_spares_name, within_spares}
use Rattle.lsm_disk.proofs.laws.building_spares_others.Goals as goal

pub returns-clause-names : goal.returns-clause-names
returns-clause-names c = within_spares_name

pub returns-clause-files : goal.returns-clause-files
returns-clause-files c = within_spares
