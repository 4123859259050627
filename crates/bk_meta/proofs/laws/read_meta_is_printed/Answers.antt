use Rattle.bk_meta.proofs.BackLemmas.{was_printed}
use Rattle.bk_meta.proofs.laws.read_meta_is_printed.Goals as goal

pub returns-clause-text : goal.returns-clause-text
returns-clause-text c id text meta one small h = (was_printed id text meta one small h).0

pub returns-clause-meta : goal.returns-clause-meta
returns-clause-meta c id text meta one small h = (was_printed id text meta one small h).1

pub returns-clause-identifier : goal.returns-clause-identifier
returns-clause-identifier c id text meta one small h = (was_printed id text meta one small h).2
