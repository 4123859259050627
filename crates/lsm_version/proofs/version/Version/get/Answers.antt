use Rattle.std.proofs.Common.{ap, ◌∙◌}
use Rattle.std.specs.FinMap as finite
use Rattle.lsm_version.specs.Levels.{Tables}
use Rattle.lsm_version.proofs.TableMaps.{value_at}
use Rattle.lsm_version.proofs.version.Version.get.Goals as goal

pub returns : goal.returns
returns c = c.get.ensures.value ∙ value_at c.self.inside.tables.entries c.args.number ∙ ap (λ (t : Tables). finite.get t c.args.number) c.self.view_is
