use Rattle.std.proofs.Common.{refl, ◌∙◌, ◌+◌, ◌++◌, ◌∷◌, [], length}
use Rattle.lsm_model.proofs.PlainLemmas.{with_pin_more, plain_pinned}
use Rattle.lsm_model.proofs.plain.PlainLists.add_pin.Goals as goal

pub returns-clause-ok : goal.returns-clause-ok
returns-clause-ok c = with_pin_more c.args.self.now (record c.args.self.now { pins = c.push_pin.new.pins }) c.args.holder (c.args.self.now.greatest_pin + 1) (c.in-Ok.ensures.ok ∙ (λ i. c.args.self.now.pins.items ++ (record { number = c.args.self.now.greatest_pin + 1; batches = length (c.as_slice.ensures.value i); manifest = 0; files = c.new.ensures i; holder = c.args.holder }) ∷ [])) refl

pub returns-clause-plain : goal.returns-clause-plain
returns-clause-plain c = plain_pinned c.args.self.now (record c.args.self.now { pins = c.push_pin.new.pins }) c.args.holder (c.args.self.now.greatest_pin + 1) c.requires.plain c.requires.room (c.in-Ok.ensures.ok ∙ (λ i. c.args.self.now.pins.items ++ (record { number = c.args.self.now.greatest_pin + 1; batches = length (c.as_slice.ensures.value i); manifest = 0; files = c.new.ensures i; holder = c.args.holder }) ∷ []))
