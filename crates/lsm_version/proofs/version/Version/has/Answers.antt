use Rattle.std.proofs.Common.{ap, ◌∙◌}
use Rattle.std.specs.FinMap as finite
use Rattle.lsm_version.specs.Levels.{Tables}
use Rattle.lsm_version.specs.Versions.{is_of_level}
use Rattle.lsm_version.proofs.TableMaps.{value_at}
use Rattle.lsm_version.proofs.version.Version.has.Goals as goal

pub returns-in-Some : goal.returns-in-Some
returns-in-Some c =
    ap (is_of_level c.args.place.level)
    (c.in-Some.ensures.value ∙ value_at c.self.inside.tables.entries c.args.place.number ∙ ap (λ (t : Tables). finite.get t c.args.place.number) c.self.view_is)

pub returns-in-None : goal.returns-in-None
returns-in-None c =
    ap (is_of_level c.args.place.level)
    (c.in-None.ensures.value ∙ value_at c.self.inside.tables.entries c.args.place.number ∙ ap (λ (t : Tables). finite.get t c.args.place.number) c.self.view_is)
