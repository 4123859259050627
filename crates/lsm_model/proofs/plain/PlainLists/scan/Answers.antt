use Rattle.std.proofs.Common.{ap, ◌∙◌}
use Rattle.lsm_model.specs.Plain.{state_of}
use Rattle.std.specs.FinMap as finite
use Rattle.lsm_rows.specs.Replay.{replayed}
use Rattle.lsm_model.proofs.PlainLemmas.{scanned}
use Rattle.lsm_model.proofs.plain.PlainLists.scan.Goals as goal

pub returns-in-Ok : goal.returns-in-Ok
returns-in-Ok c = scanned (state_of c.args.self.now) c.in-Ok.pairs (c.in-Ok.ensures ∙ ap (replayed finite.empty) c.deref.ensures.value)
