use Rattle.lsm_refine.proofs.WholeEditLemmas.{whole_are, whole_tables, whole_adds}
use Rattle.lsm_refine.proofs.flush_laws.a_new_manifest_says_the_version.Goals as goal

pub returns-clause-are : goal.returns-clause-are
returns-clause-are c = whole_are

pub returns-clause-tables : goal.returns-clause-tables
returns-clause-tables c = whole_tables

pub returns-clause-adds : goal.returns-clause-adds
returns-clause-adds c = whole_adds
