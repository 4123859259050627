use Rattle.lsm_model.proofs.PlainPins.{plain_unpinned}
use Rattle.lsm_model.proofs.plain.PlainLists.end_pin.Goals as goal

pub returns-clause-plain : goal.returns-clause-plain
returns-clause-plain c = plain_unpinned c.args.self.now (record c.args.self.now { pins = c.drop_pin.new.pins }) c.args.pin c.requires c.drop_pin.ensures
