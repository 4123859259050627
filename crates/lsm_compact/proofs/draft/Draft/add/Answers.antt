use Rattle.std.proofs.Common.{true, ◌++◌, ◌∷◌, [], ap, subst, sym, List}
use Rattle.lsm_rows.specs.declared.rows.Row.{Row}
use Rattle.lsm_compact.specs.Building.{Table, AreRows}
use Rattle.lsm_compact.proofs.Drafts.{after_push}
use Rattle.lsm_compact.proofs.draft.Draft.add.Goals as goal

pub push-requires-clause-built : goal.push-requires-clause-built
push-requires-clause-built c = (c.self.invariant.built c.in-Some.builder c.in-Some.is).built_is

pub invariant_of-self : goal.invariant_of-self
invariant_of-self c =
    after_push (record {
      number = c.self.inside.number;
      session = c.self.inside.session;
      rows = c.push.new.rows.items;
      whole = true;
    })
    c.in-Some.builder c.push.new.builder c.self.inside.rows.items c.args.row c.push.result c.self.invariant.rows
    (subst (λ (rows : List Row). AreRows (rows ++ c.args.row ∷ []))
    (ap (λ (t : Table). t.rows) (sym c.self.view_is)) c.requires.rows)
    (c.self.invariant.built c.in-Some.builder c.in-Some.is) c.push.ensures.ok c.push.ensures.err c.push.ensures.same
    c.push.ensures.number c.push.ensures.session
