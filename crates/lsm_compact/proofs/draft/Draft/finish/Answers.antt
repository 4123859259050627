use Rattle.std.proofs.Common.{◌∙◌, List, subst, sym}
use Rattle.lsm_rows.specs.declared.rows.Row.{Row}
use Rattle.lsm_compact.specs.Building.{IsBuiltOf}
use Rattle.lsm_compact.specs.Outputs.{ended_text}
use Rattle.lsm_compact.proofs.Drafts.{ends}
use Rattle.lsm_compact.proofs.draft.Draft.finish.Goals as goal

pub built-requires-clause-built : goal.built-requires-clause-built
built-requires-clause-built c = λ b is.
    subst (λ (rows : List Row). IsBuiltOf b c.self.inside.number c.self.inside.session rows) (sym c.as_slice.ensures.value)
    (c.self.invariant.built b (sym c.take.ensures.value ∙ is))

pub returns-clause-end : goal.returns-clause-end
returns-clause-end c =
    let rows = c.self.inside.rows.items in
    let built = subst (λ (rs : List Row). IsBuiltOf c.in_ok-builder.builder c.self.inside.number c.self.inside.session rs)
    c.as_slice.ensures.value c.in_ok-builder.ensures in
    ends c.args.self.now c.in_ok-builder.builder c.self.inside.number c.self.inside.session rows c.finish.result
    (λ i. record {
      number = (c.self.view_is i).number;
      session = (c.self.view_is i).session;
      rows =
          (c.self.view_is i).rows;
      whole = c.args.self.now.whole;
    }) built
    (c.finish.ensures.finished rows (ended_text rows) built.built_is)
