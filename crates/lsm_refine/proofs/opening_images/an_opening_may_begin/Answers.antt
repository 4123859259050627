use Rattle.lsm_refine.proofs.OpeningBegins.{found_kept, found_rest, names_kept, file_kept, names_found, file_found}
use Rattle.lsm_refine.proofs.opening_images.an_opening_may_begin.Goals as goal

pub returns-clause-found : goal.returns-clause-found
returns-clause-found c = found_kept

pub returns-clause-rest : goal.returns-clause-rest
returns-clause-rest c = found_rest

pub returns-clause-names : goal.returns-clause-names
returns-clause-names c = names_kept

pub returns-clause-file : goal.returns-clause-file
returns-clause-file c = file_kept

pub returns-clause-names_found : goal.returns-clause-names_found
returns-clause-names_found c = names_found

pub returns-clause-file_found : goal.returns-clause-file_found
returns-clause-file_found c = file_found
