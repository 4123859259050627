use Rattle.std.proofs.Common.{ap, ◌∙◌}
use Rattle.std.specs.Prelude.{is_some}
use Rattle.std.specs.FinMap as finmap
use Rattle.lsm_core.specs.Reading.{Views}
use Rattle.lsm_core.proofs.TableLemmas.{is_open_at}
use Rattle.lsm_core.proofs.tables.OpenTables.is_open.Goals as goal

pub returns : goal.returns
returns g c =
    c.contains_key.ensures ∙ is_open_at c.self.inside.tables.entries c.args.number
    ∙ ap (λ (v : Views). is_some (finmap.get v c.args.number)) c.self.view_is
