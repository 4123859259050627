-- A backup is told of exactly where its meta is kept.
use Rattle.std.proofs.Common.{inl, Some, None, sym, ap, ◌∙◌}
use Rattle.ldb_script.specs.Restoring.{taken_answer}
use Rattle.ldb_script.proofs.RestoreAnswers.{listed_by}
use Rattle.ldb_script.proofs.restoring.refuse_name.Goals as goal

pub returns-in-Some : goal.returns-in-Some
returns-in-Some g c = inl (sym (ap (taken_answer c.args.id c.args.name.now)
    (listed_by c.args.id c.args.engine.now.metas c.as_slice.result.now (Some c.in-Some.field-0.now) c.in-Some.ensures (c.as_slice.ensures ∙ c.in-Ok.ensures.told))))

pub returns-in-Ok : goal.returns-in-Ok
returns-in-Ok g c = inl (sym (ap (taken_answer c.args.id c.args.name.now)
    (listed_by c.args.id c.args.engine.now.metas c.as_slice.result.now None c.in-None.ensures (c.as_slice.ensures ∙ c.in-Ok.ensures.told))))
