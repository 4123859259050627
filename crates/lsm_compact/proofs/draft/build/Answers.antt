use Rattle.std.proofs.Common.{◌≡◌, List, ◌∙◌, [], take, subst, sym}
use Rattle.std.proofs.lemmas.List.{take_all}
use Rattle.lsm_rows.specs.declared.rows.Row.{Row}
use Rattle.lsm_table.specs.Building.{IsBuilt}
use Rattle.lsm_compact.proofs.Drafts.{may_follow, has_room, pieces, at_row, next_front}
use Rattle.lsm_compact.proofs.draft.build.Goals as goal

pub add-requires-clause-behind : goal.add-requires-clause-behind
add-requires-clause-behind c = may_follow c.loop-row.builder (take c.loop-row.row-index c.args.rows.now) c.row-item.result
    [] c.loop-row.invariant.0
    (at_row c.args.rows.now c.loop-row.row-index c.row-item.result c.loop-row-test.true c.row-item.is c.requires)

pub add-requires-clause-room : goal.add-requires-clause-room
add-requires-clause-room c = has_room c.loop-row.builder (take c.loop-row.row-index c.args.rows.now) c.row-item.result
    [] c.loop-row.invariant.0
    (at_row c.args.rows.now c.loop-row.row-index c.row-item.result c.loop-row-test.true c.row-item.is c.requires)

pub loop-row-init : goal.loop-row-init
loop-row-init c = (c.new-builder.ensures.built, c.new-builder.ensures.number, c.new-builder.ensures.session)

pub loop-row-preserved : goal.loop-row-preserved
loop-row-preserved c = (
  subst (λ (rows : List Row). IsBuilt c.add.new.self rows [])
      (sym (next_front c.args.rows.now c.loop-row.row-index c.row-item.result c.loop-row-test.true c.row-item.is))
      (c.in_ok-add.ensures.ok (take c.loop-row.row-index c.args.rows.now) [] c.loop-row.invariant.0),
  c.add.ensures.number ∙ c.loop-row.invariant.1,
  c.add.ensures.session ∙ c.loop-row.invariant.2,
)

pub returns : goal.returns
returns c =
    let all : take c.loop-row.row-index c.args.rows.now
    ≡ c.args.rows.now = take_all c.loop-row.row-index c.args.rows.now c.loop-row-test.false in
    let built = subst (λ (rows : List Row). IsBuilt c.loop-row.builder rows []) all c.loop-row.invariant.0 in
    record {
      number_is = c.next_piece-handed_out_before.ensures.number ∙ c.loop-row.invariant.1;
      session_is = c.next_piece-handed_out_before.ensures.session ∙ c.loop-row.invariant.2;
      built_is = (pieces c.loop-row.builder c.next_piece-handed_out_before.new.self c.args.rows.now
          [] c.next_piece-handed_out_before.result built
          (c.next_piece-handed_out_before.ensures.piece c.args.rows.now
          [] built) c.next_piece-handed_out_before.ensures.none).1;
    }
