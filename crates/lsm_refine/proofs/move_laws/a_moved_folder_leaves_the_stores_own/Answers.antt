use Rattle.lsm_disk.specs.Names.{Moved}
use Rattle.lsm_disk.specs.State.{Named}
use Rattle.lsm_refine.proofs.NeededLemmas.{current_stays, edits_stay, tables_stay}
use Rattle.lsm_refine.proofs.MoveLemmas.{moves_apart, moves_beside, move_spares, logs_moved, quiet_moved, known_moved, files_moved, pins_moved, written_moved, sane_moved, clear_moved, alone_moved, jobs_moved}
use Rattle.lsm_refine.proofs.move_laws.a_moved_folder_leaves_the_stores_own.Goals as goal

pub returns-clause-apart : goal.returns-clause-apart
returns-clause-apart c = moves_apart

pub returns-clause-spares : goal.returns-clause-spares
returns-clause-spares c = move_spares

pub returns-clause-current : goal.returns-clause-current
returns-clause-current c dir from to apart d kept = current_stays d dir kept 0 (Named (Moved from to))
    (move_spares dir from to apart d kept 0)

pub returns-clause-edits : goal.returns-clause-edits
returns-clause-edits c dir from to apart d kept = edits_stay d dir kept 0 (Named (Moved from to)) (move_spares dir from to apart d kept 0)

pub returns-clause-tables : goal.returns-clause-tables
returns-clause-tables c dir from to apart d kept = tables_stay d dir kept 0 (Named (Moved from to)) (move_spares dir from to apart d kept 0)

pub returns-clause-logs : goal.returns-clause-logs
returns-clause-logs c = logs_moved

pub returns-clause-quiet : goal.returns-clause-quiet
returns-clause-quiet c = quiet_moved

pub returns-clause-known : goal.returns-clause-known
returns-clause-known c = known_moved

pub returns-clause-files : goal.returns-clause-files
returns-clause-files c = files_moved

pub returns-clause-pinned : goal.returns-clause-pinned
returns-clause-pinned c = pins_moved

pub returns-clause-written : goal.returns-clause-written
returns-clause-written c = written_moved

pub returns-clause-sane : goal.returns-clause-sane
returns-clause-sane c = sane_moved

pub returns-clause-clear : goal.returns-clause-clear
returns-clause-clear c = clear_moved

pub returns-clause-alone : goal.returns-clause-alone
returns-clause-alone c = alone_moved

pub returns-clause-jobs : goal.returns-clause-jobs
returns-clause-jobs c = jobs_moved

pub returns-clause-beside : goal.returns-clause-beside
returns-clause-beside c = moves_beside
