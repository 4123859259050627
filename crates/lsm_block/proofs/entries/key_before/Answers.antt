use Rattle.std.proofs.Common.{◌∙◌, sym}
use Rattle.lsm_block.proofs.Keys.{last_key-get, last_key-none}
use Rattle.lsm_block.proofs.entries.key_before.Goals as goal

pub returns-in-Some : goal.returns-in-Some
returns-in-Some c = c.as_slice.ensures ∙ sym (last_key-get c.args.entries.now c.in-Some.entry.now (sym c.in-Some.ensures.value))

pub returns-in-None : goal.returns-in-None
returns-in-None c = c.as_slice-in-None.ensures ∙ sym (last_key-none c.args.entries.now (sym c.in-None.ensures.value))
