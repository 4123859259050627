use Rattle.std.proofs.Common.{ap, ◌∙◌}
use Rattle.std.specs.Prelude.{Option, ℕ}
use Rattle.lsm_recover.specs.Gathered.{is_newer}
use Rattle.lsm_recover.proofs.GatheredLemmas.{sequence_at}
use Rattle.lsm_recover.proofs.newest.is_newer.Goals as goal

pub returns-in-Some : goal.returns-in-Some
returns-in-Some c = ap (λ (o : Option ℕ). is_newer o c.args.row.now.sequence) (c.in-Some.ensures.value ∙ sequence_at c.args.sequences.now.entries c.args.row.now.key)

pub returns-in-None : goal.returns-in-None
returns-in-None c = ap (λ (o : Option ℕ). is_newer o c.args.row.now.sequence) (c.in-None.ensures.value ∙ sequence_at c.args.sequences.now.entries c.args.row.now.key)
