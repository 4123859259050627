use Rattle.std.proofs.Common.{ap, ◌∙◌}
use Rattle.std.specs.FinMap as finite
use Rattle.lsm_version.specs.Levels.{Tables}
use Rattle.lsm_version.proofs.TableMaps.{tables_len}
use Rattle.lsm_version.proofs.version.Version.len.Goals as goal

pub returns-clause-len : goal.returns-clause-len
returns-clause-len c = c.len.ensures.len ∙ tables_len c.self.inside.tables.entries c.len.ensures.ordered ∙ ap (λ (t : Tables). finite.len t) c.self.view_is
