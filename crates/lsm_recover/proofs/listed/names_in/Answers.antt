use Rattle.lsm_recover.proofs.ListedLemmas.{names_more, names_all}
use Rattle.lsm_recover.proofs.listed.names_in.Goals as goal

pub loop-entry-preserved : goal.loop-entry-preserved
loop-entry-preserved c = names_more c.args.entries.now c.loop-entry.entry-index c.loop-entry.names c.push_name.new.names c.entry-item.result c.loop-entry.invariant c.loop-entry-test.true c.entry-item.is c.in_ok-push_name.ensures

pub returns : goal.returns
returns c = names_all c.args.entries.now c.loop-entry.entry-index c.loop-entry.names c.loop-entry.invariant c.loop-entry-test.false
