use Rattle.lsm_table.proofs.NumberedRows.{before_handed}
use Rattle.tests_tables.proofs.numbered.hand_out.Goals as goal

pub returns-in_err-extend_from_slice-in-Some-clause-before : goal.returns-in_err-extend_from_slice-in-Some-clause-before
returns-in_err-extend_from_slice-in-Some-clause-before c = λ key is. before_handed c.args.builder.now
    c.next_piece.new.self key c.next_piece.result is c.next_piece.ensures.piece

pub returns-in_ok-extend_from_slice-in-Some-clause-before : goal.returns-in_ok-extend_from_slice-in-Some-clause-before
returns-in_ok-extend_from_slice-in-Some-clause-before c = λ key is. before_handed c.args.builder.now
    c.next_piece.new.self key c.next_piece.result is c.next_piece.ensures.piece
