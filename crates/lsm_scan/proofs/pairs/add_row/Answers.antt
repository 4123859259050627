use Rattle.std.proofs.Common.{◌≡◌, sym, ap, subst, ◌∙◌}
use Rattle.std.specs.Prelude.{List, ℕ, OnOk}
use Rattle.std.specs.FinMap as finmap
use Rattle.lsm_rows.specs.Replay.{Contents}
use Rattle.lsm_scan.proofs.Sorted.{put_ends, put_same, first_deleted, not_first_ends}
use Rattle.lsm_scan.proofs.pairs.add_row.Goals as goal

pub returns-then-not-is_first_of_key : goal.returns-then-not-is_first_of_key
returns-then-not-is_first_of_key c =
    not_first_ends c.args.rows.now c.requires.sorted c.args.place c.requires.place c.args.pairs.now
    (c.is_first_of_key.ensures.not_first c.if-not-is_first_of_key.true) c.requires.before

pub returns-in-Some : goal.returns-in-Some
returns-in-Some c =
    put_ends c.args.rows.now c.requires.sorted c.args.place c.requires.place c.index-rows-place.result c.index-rows-place.is
    c.args.pairs.now c.requires.before c.in-Some.value c.put.new.self c.put.result
    (c.is_first_of_key.ensures.first c.if-not-is_first_of_key.false) c.in-Some.is
    (put_same c.args.pairs.now c.put.new.self c.index-rows-place.result.key c.as_slice.result.now c.in-Some.value
    c.as_slice-in-Some.result.now c.put.result c.as_slice.ensures c.as_slice-in-Some.ensures c.put.ensures)

pub returns-in-None : goal.returns-in-None
returns-in-None c =
    first_deleted c.args.rows.now c.requires.sorted c.args.place c.requires.place c.index-rows-place.result c.index-rows-place.is
    c.args.pairs.now (c.is_first_of_key.ensures.first c.if-not-is_first_of_key.false) c.in-None.is c.requires.before
