use Rattle.std.proofs.Common.{◌≡◌, take}
use Rattle.lsm_block.specs.BlockText.{entries_text}
use Rattle.lsm_block.specs.Parts.{last_key, restarts_bytes}
use Rattle.lsm_block.proofs.writing.write_block.Given as goal

-- the entries so far are written, their restarts are noted, and the last one's key is kept
abbrev pub invariant-loop-number : goal.invariant-loop-number
invariant-loop-number l =
    (l.text ≡ entries_text (take l.number l.entries)) × (l.restarts ≡ restarts_bytes (take l.number l.entries)) × (l.before ≡ last_key (take l.number l.entries))
