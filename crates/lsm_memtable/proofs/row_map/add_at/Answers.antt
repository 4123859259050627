use Rattle.lsm_memtable.proofs.Feeding.{ready_sequence, ready_behind, ready_room, ready_few}
use Rattle.lsm_memtable.proofs.row_map.add_at.Goals as goal

pub add-requires-clause-sequence : goal.add-requires-clause-sequence
add-requires-clause-sequence c = ready_sequence c.args.table.now c.requires.0 c.args.place c.args.versions.now c.in-Some.row.now c.requires.1 c.in-Some.ensures

pub add-requires-clause-behind : goal.add-requires-clause-behind
add-requires-clause-behind c = ready_behind c.args.table.now c.requires.0 c.args.place c.args.versions.now c.in-Some.row.now c.requires.1 c.in-Some.ensures c.if-place-table.false

pub add-requires-clause-room : goal.add-requires-clause-room
add-requires-clause-room c = ready_room c.args.table.now c.requires.0 c.args.place c.args.versions.now c.in-Some.row.now c.requires.1 c.in-Some.ensures c.if-place-table.false

pub add-requires-clause-few : goal.add-requires-clause-few
add-requires-clause-few c = ready_few c.args.table.now c.requires.0 c.args.place c.args.versions.now c.requires.1
