use Rattle.std.proofs.Common.{◌∙◌}
use Rattle.lsm_memtable.proofs.Pushes.{new_kept, new_put}
use Rattle.lsm_memtable.proofs.row_map.insert_first.Goals as goal

pub returns-clause-put : goal.returns-clause-put
returns-clause-put c =
    new_put c.in_ok-key.key c.args.row c.in_ok-versions.versions c.args.keys.now.entries c.insert.new.self.entries (c.in_ok-key.ensures.items ∙ c.as_slice.ensures) c.in_ok-versions.ensures c.requires.absent c.in_ok-insert.ensures.entries

pub returns-clause-kept : goal.returns-clause-kept
returns-clause-kept c =
    new_kept c.in_ok-key.key c.args.row c.in_ok-versions.versions c.args.keys.now.entries c.insert.new.self.entries (c.in_ok-key.ensures.items ∙ c.as_slice.ensures) c.in_ok-versions.ensures c.requires.absent c.in_ok-insert.ensures.entries
    c.in_ok-insert.ensures.ordered c.requires.kept c.requires.below
