use Rattle.lsm_model.proofs.OpeningLemmas.{crash_opens, synced_opens, sure_opens, close_opens, doubt_opens}
use Rattle.lsm_model.proofs.laws.an_opening_finds_a_prefix.Goals as goal

pub returns-clause-crash : goal.returns-clause-crash
returns-clause-crash c = crash_opens

pub returns-clause-synced : goal.returns-clause-synced
returns-clause-synced c = synced_opens

pub returns-clause-folders : goal.returns-clause-folders
returns-clause-folders c = sure_opens

pub returns-clause-closing : goal.returns-clause-closing
returns-clause-closing c = close_opens

pub returns-clause-given_up : goal.returns-clause-given_up
returns-clause-given_up c = doubt_opens
