use Rattle.std.proofs.Common.{rules, ◌++◌, ◌∷◌, [], List, subst, sym}
use Rattle.lsm_rows.specs.declared.rows.Row.{Row}
use Rattle.lsm_table.specs.Building.{IsBuilt}
use Rattle.lsm_compact.specs.Outputs.{ended_text}
use Rattle.lsm_compact.proofs.Drafts.{may_follow, has_room, pushed}
use Rattle.lsm_compact.proofs.draft.push.Goals as goal

pub add-requires-clause-behind : goal.add-requires-clause-behind
add-requires-clause-behind c =
    may_follow c.args.builder.now c.args.rows.now.items c.args.row
    (ended_text c.args.rows.now.items) c.requires.built c.requires.rows

pub add-requires-clause-room : goal.add-requires-clause-room
add-requires-clause-room c =
    has_room c.args.builder.now c.args.rows.now.items c.args.row
    (ended_text c.args.rows.now.items) c.requires.built c.requires.rows

pub returns-in-Ok-clause-ok : goal.returns-in-Ok-clause-ok
returns-in-Ok-clause-ok c =
    let rows = c.args.rows.now.items in
    let built = c.in-Ok.ensures.ok rows (ended_text rows) c.requires.built in
    pushed c.add.new.self c.next_piece.new.self rows c.push.new.self.items c.args.row c.next_piece.result built (search rules)
    (c.next_piece.ensures.piece (rows ++ c.args.row ∷ []) (ended_text rows) built) c.next_piece.ensures.none

pub returns-in-Err-clause-err : goal.returns-in-Err-clause-err
returns-in-Err-clause-err c =
    let rows = c.args.rows.now.items in
    subst (λ (rs : List Row). IsBuilt c.add.new.self rs (ended_text rs)) (sym c.reserve.ensures.items)
    (c.in-Err.ensures.err rows (ended_text rows) c.requires.built)
