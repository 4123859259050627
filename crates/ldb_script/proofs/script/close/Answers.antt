use Rattle.std.proofs.Common.{◌≡◌, subst, sym, ap, ◌∙◌}
use Rattle.ldb_script.specs.Stored.{Shown, Stands}
use Rattle.ldb_script.specs.Run.{now}
use Rattle.ldb_script.specs.Tools.{tools}
use Rattle.ldb_script.specs.Doing.{LastOr, Ran}
use Rattle.ldb_script.specs.Place.{shown_in}
use Rattle.ldb_script.proofs.Closing.{closed_by}
use Rattle.ldb_script.proofs.script.close.Goals as goal

pub returns-in-Some-clause-closed : goal.returns-in-Some-clause-closed
returns-in-Some-clause-closed g c origin first source sink backups clock counted ran =
    let old : Shown = c.args.place.now in
    let new : Shown = c.sync_last.new.store in
    let same : old ≡ c.in-Some.store = sym c.place.view_is ∙ ap shown_in c.in-Some.is in
    closed_by origin first source sink old new backups clock (subst (Ran origin (now first source sink old.disk backups.disk clock) (tools old backups clock)) c.in-Finished.is ran)
    counted.faults counted.refusals c.sync_last.result
    (λ start outcome was. subst (λ (s : Shown). LastOr start s new outcome c.sync_last.result) (sym same) (c.sync_last.ensures.synced start outcome (subst (λ (s : Shown). Stands start s outcome) same was)))
