use Rattle.std.proofs.Common.{ap, ◌∙◌}
use Rattle.bk_meta.specs.BackupFiles.{file_at}
use Rattle.bk_meta.proofs.FileLemmas.{path_names, path_spells, file_has_path}
use Rattle.bk_meta.proofs.laws.paths_name_files.Goals as goal

pub returns-clause-named : goal.returns-clause-named
returns-clause-named c id path file = (path_spells id path file, λ said. ap (file_at id) said.1 ∙ path_names id file said.0)

pub returns-clause-path : goal.returns-clause-path
returns-clause-path c = file_has_path
