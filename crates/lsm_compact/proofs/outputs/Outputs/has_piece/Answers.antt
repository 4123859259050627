use Rattle.lsm_compact.proofs.Stages.{not_open_piece}
use Rattle.lsm_compact.proofs.outputs.Outputs.has_piece.Goals as goal

pub returns-in_default : goal.returns-in_default
returns-in_default c = λ _. not_open_piece c.args.self.now.stage c.in_default.not-Open
