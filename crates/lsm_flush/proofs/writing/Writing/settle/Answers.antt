use Rattle.std.proofs.Common.{sym, ◌∙◌}
use Rattle.lsm_flush.proofs.Writes.{whole_writing, idle_writing}
use Rattle.lsm_flush.proofs.writing.Writing.settle.Goals as goal

pub invariant_of-self : goal.invariant_of-self
invariant_of-self c =
    whole_writing c.self.inside.flush c.self.inside.number c.self.inside.session c.self.inside.ahead c.in-Last.last c.self.invariant
    (sym c.replace.ensures.value ∙ c.in-Last.is)

pub invariant_of-self-in-Nothing : goal.invariant_of-self-in-Nothing
invariant_of-self-in-Nothing c =
    idle_writing c.self.inside.flush c.self.inside.number c.self.inside.session c.self.inside.ahead c.replace.result
    c.replace.new.dest c.self.invariant c.replace.ensures.value c.replace.ensures.after c.in-Nothing.is
