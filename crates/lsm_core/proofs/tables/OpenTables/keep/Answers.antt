use Rattle.std.proofs.Common.{ap}
use Rattle.lsm_core.proofs.TableLemmas.{put_kept, put_none, put_seen}
use Rattle.lsm_core.proofs.tables.OpenTables.keep.Goals as goal

pub invariant_of-self : goal.invariant_of-self
invariant_of-self g c =
    put_kept c.self.inside.tables.entries c.insert.new.self.entries _ c.forget.new.self c.args.self.now
    c.self.view_is
    c.args.table c.properties-number.result.number (ap (λ p. p.number) c.properties-number.ensures.properties) c.requires.whole
    c.self.invariant c.in-Ok.ensures.entries c.forget.ensures

pub returns-in-Ok-clause-ok : goal.returns-in-Ok-clause-ok
returns-in-Ok-clause-ok g c =
    put_seen c.self.inside.tables.entries c.insert.new.self.entries c.args.self.now
    c.self.view_is
    c.args.table c.properties-number.result.number (ap (λ p. p.number) c.properties-number.ensures.properties)
    c.in-Ok.ensures.updates.0

pub invariant_of-self-2 : goal.invariant_of-self-2
invariant_of-self-2 g c =
    put_none c.self.inside.tables.entries c.insert.new.self.entries _ c.forget.new.self c.args.self.now
    c.self.view_is
    c.properties-number.result.number c.self.invariant c.in-Err.ensures.err c.forget.ensures
