use Rattle.lsm_folder.proofs.OpeningLemmas.{in_refused}
use Rattle.lsm_folder.proofs.TableLemmas.{said_at_size, said_short}
use Rattle.lsm_folder.proofs.WalkLemmas.{walk_begins, walk_goes_on, walked_whole, walk_stops, other_table}
use Rattle.lsm_folder.proofs.laws.a_walked_table_says_its_rows.Goals as goal

pub returns-clause-begins : goal.returns-clause-begins
returns-clause-begins c = walk_begins

pub returns-clause-goes_on : goal.returns-clause-goes_on
returns-clause-goes_on c = walk_goes_on

pub returns-clause-whole : goal.returns-clause-whole
returns-clause-whole c = walked_whole

pub returns-clause-stops : goal.returns-clause-stops
returns-clause-stops c = walk_stops

pub returns-clause-refused : goal.returns-clause-refused
returns-clause-refused c = in_refused

pub returns-clause-other : goal.returns-clause-other
returns-clause-other c = other_table

pub returns-clause-sized : goal.returns-clause-sized
returns-clause-sized c = said_at_size

pub returns-clause-short : goal.returns-clause-short
returns-clause-short c = said_short
