use Rattle.std.proofs.Common.{◌<◌, length, rules}
use Rattle.lsm_volume.proofs.Ties.{file_within}
use Rattle.lsm_volume.proofs.volume.Volume.front.Goals as goal

pub len_at-found-requires : goal.len_at-found-requires
len_at-found-requires c =
    let m = c.self.inside in
    let lt : c.in-Some.id < length m.files.items = file_within m.links m.names m.names_synced m.files.items _ c.as_bytes.result.now c.in-Some.id c.self.invariant.0 c.in-Some.ensures in
    search (rules, lt)

pub front_at-requires-clause-file : goal.front_at-requires-clause-file
front_at-requires-clause-file c =
    let m = c.self.inside in
    let lt : c.in-Some.id < length m.files.items = file_within m.links m.names m.names_synced m.files.items _ c.as_bytes.result.now c.in-Some.id c.self.invariant.0 c.in-Some.ensures in
    search (rules, lt)
