use Rattle.std.proofs.Common.{refl, arith, ◌∙◌}
use Rattle.lsm_model.specs.declared.errors.StoreError.TheVariants as error
use Rattle.lsm_core.specs.Reading.{IsOutside, seen_with}
use Rattle.lsm_core.proofs.LookLemmas.{opens_looked}
use Rattle.lsm_core.proofs.ReadLemmas.{reads_weaker, reads_refused}
use Rattle.lsm_core.proofs.looking.open_looked.Goals as goal

pub returns-in-Ok : goal.returns-in-Ok
returns-in-Ok g c = λ views.
    reads_weaker _ _ (seen_with (g.D.Disk.seen c.args.disk.now) c.args.home.now c.args.version.now views)
    (seen_with (g.D.Disk.seen c.open_places.new.disk) c.args.home.now c.args.version.now views) c.open_places.result
    (c.open_places.ensures views)
    (λ rows tables opens. opens_looked c.args.version.now c.args.key.now c.as_slice.result.now (c.as_slice.ensures ∙
    c.in-Ok.ensures) rows tables opens)

pub returns-in-Err : goal.returns-in-Err
unfolding IsOutside
returns-in-Err g c = λ views.
    reads_refused c.args.home.now c.args.version.now (g.D.Disk.seen c.args.disk.now) (g.D.Disk.seen c.args.disk.now) views
    _ error.NoMemory refl (omega arith) (omega arith) tt (λ rows t. tt)
