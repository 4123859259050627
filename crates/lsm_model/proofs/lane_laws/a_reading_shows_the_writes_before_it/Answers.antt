use Rattle.lsm_model.proofs.RunLemmas.{get_shows, scan_shows, last_shows, accepted_between}
use Rattle.lsm_model.proofs.lane_laws.a_reading_shows_the_writes_before_it.Goals as goal

pub returns-clause-get : goal.returns-clause-get
returns-clause-get c = get_shows

pub returns-clause-scan : goal.returns-clause-scan
returns-clause-scan c = scan_shows

pub returns-clause-last : goal.returns-clause-last
returns-clause-last c = last_shows

pub returns-clause-place : goal.returns-clause-place
returns-clause-place c = accepted_between
