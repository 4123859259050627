use Rattle.std.proofs.Common.{[], ◌++◌, take, refl, sym, ap, ◌∙◌, subst}
use Rattle.std.specs.Option.{option_map}
use Rattle.lsm_block.specs.Runs.{rows_after}
use Rattle.lsm_memtable.specs.Kept.{rows_in}
use Rattle.lsm_memtable.proofs.KeptRows.{Each, each_tail}
use Rattle.lsm_memtable.proofs.VersionRows.{run_turn, ended}
use Rattle.lsm_memtable.proofs.row_map.copy_from.Goals as goal

pub loop-key-preserved : goal.loop-key-preserved
loop-key-preserved c = (
  run_turn (option_map (λ key. key.now) c.args.after) c.args.count c.loop-key.out c.copy_after.new.out c.in-Some.versions.now (rows_in c.next.new.self) _ c.in_ok-copy_after.ensures.ok
      (ap (λ es. take c.args.count (c.loop-key.out ++ rows_after (option_map (λ key. key.now) c.args.after) (rows_in es))) (sym c.in-Some.ensures.steps) ∙ c.loop-key.invariant.0),
  c.in_ok-copy_after.ensures.within,
  each_tail (c.in-Some._key.now, c.in-Some.versions.now) c.next.new.self (subst Each c.in-Some.ensures.steps c.loop-key.invariant.2),
)

pub returns : goal.returns
returns c =
    ended (option_map (λ key. key.now) c.args.after) c.args.count c.loop-key.out [] _ refl c.loop-key.invariant.1
    (ap (λ es. take c.args.count (c.loop-key.out ++ rows_after (option_map (λ key. key.now) c.args.after) (rows_in es))) (sym c.in-None.ensures.steps.0) ∙ c.loop-key.invariant.0)
