use Rattle.lsm_refine.proofs.FlushedLemmas.{last_is, lawful_with, first_same, tied_with}
use Rattle.lsm_refine.proofs.flush_laws.frozen_rows_become_a_table.Goals as goal

pub returns-clause-last : goal.returns-clause-last
returns-clause-last c = last_is

pub returns-clause-lawful : goal.returns-clause-lawful
returns-clause-lawful c = lawful_with

pub returns-clause-first : goal.returns-clause-first
returns-clause-first c = first_same

pub returns-clause-tied : goal.returns-clause-tied
returns-clause-tied c = tied_with
