use Rattle.std.proofs.Common.{◌≡◌, ◌≤◌, length, take, drop, true}
use Rattle.std.specs.List.{list_all}
use Rattle.lsm_names.specs.Sessions.{is_session_byte}
use Rattle.lsm_version.proofs.table_reading.read_session.Given as goal

abbrev pub invariant-loop-i : goal.invariant-loop-i
invariant-loop-i l =
    (l.rest ≡ drop l.at l.bytes) × (length l.name ≡ 20) × (l.i ≤ length l.rest) × (take l.i l.name ≡ take l.i l.rest) × (list_all is_session_byte (take l.i l.rest) ≡ true)
