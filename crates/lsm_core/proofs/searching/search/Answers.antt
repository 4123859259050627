use Rattle.std.proofs.Common.{refl, arith, ◌∙◌}
use Rattle.lsm_model.specs.declared.errors.StoreError.TheVariants as error
use Rattle.lsm_core.specs.Reading.{IsOutside, seen_with}
use Rattle.lsm_core.specs.Searching.{MeetsAll, FindsNewest}
use Rattle.lsm_core.proofs.ReadLemmas.{reads_refused, reads_so}
use Rattle.lsm_core.proofs.SearchLemmas.{finds_newest}
use Rattle.lsm_core.proofs.searching.search.Goals as goal

pub returns-in_default : goal.returns-in_default
unfolding IsOutside
returns-in_default g c =
    reads_refused c.args.home.now c.args.version.now (g.D.Disk.seen c.args.disk.now) (g.D.Disk.seen c.args.disk.now)
    c.args.tables.now
    (FindsNewest c.args.version.now c.args.key.now) error.NoMemory refl (omega arith) (omega arith) tt (λ rows t. tt)

pub returns-in-Ok-meet : goal.returns-in-Ok-meet
returns-in-Ok-meet g c =
    reads_so (MeetsAll c.args.version.now c.args.key.now c.as_slice.result.now) (FindsNewest c.args.version.now c.args.key.now)
    (seen_with (g.D.Disk.seen c.args.disk.now) c.args.home.now c.args.version.now c.args.tables.now)
    (seen_with (g.D.Disk.seen c.meet.new.disk) c.args.home.now c.args.version.now c.meet.new.tables) c.in-Ok-meet.met
    c.row_met.result
    c.in-Ok-meet.ensures
    (λ rows is. finds_newest c.args.version.now c.args.key.now c.as_slice.result.now rows c.in-Ok-meet.met c.row_met.result
    (c.as_slice.ensures ∙ c.in-Ok.ensures) c.row_met.ensures is)
