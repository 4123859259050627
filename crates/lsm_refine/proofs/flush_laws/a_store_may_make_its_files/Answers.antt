use Rattle.lsm_refine.proofs.RoomLemmas.{lone_there, parent_there, file_room, current_no_folder}
use Rattle.lsm_refine.proofs.flush_laws.a_store_may_make_its_files.Goals as goal

pub returns-clause-room : goal.returns-clause-room
returns-clause-room c = file_room

pub returns-clause-there : goal.returns-clause-there
returns-clause-there c = lone_there

pub returns-clause-parent : goal.returns-clause-parent
returns-clause-parent c = parent_there

pub returns-clause-current : goal.returns-clause-current
returns-clause-current c = current_no_folder
