use Rattle.std.proofs.Common.{sym, ◌∙◌, arith}
use Rattle.lsm_frame.proofs.InBlock.{standing_piece, standing_filled, standing_short}
use Rattle.lsm_frame.proofs.steps.look.Goals as goal

pub returns-then-offset-clause-is : goal.returns-then-offset-clause-is
returns-then-offset-clause-is c = standing_piece c.args.place c.args.offset c.args.rest.now c.read_piece.result (omega (arith, c.if-offset.true)) c.read_piece.ensures.is c.read_piece.ensures.inside

pub returns-then-not-all_zeros-clause-is : goal.returns-then-not-all_zeros-clause-is
returns-then-not-all_zeros-clause-is c = λ text block. standing_filled c.args.place c.args.offset c.args.rest.now text (omega (arith, c.if-offset.false)) (sym c.all_zeros.ensures ∙ c.if-not-all_zeros.true) block

pub returns-then-rest-offset-clause-is : goal.returns-then-rest-offset-clause-is
returns-then-rest-offset-clause-is c = λ text block. standing_short c.args.place c.args.offset c.args.rest.now text (omega (arith, c.if-offset.false)) (omega (arith, c.if-rest-offset.true)) (sym c.all_zeros.ensures ∙ c.if-not-all_zeros.false) block
