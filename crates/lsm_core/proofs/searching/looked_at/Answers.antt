use Rattle.std.specs.Prelude.{List, filter}
use Rattle.std.proofs.Common.{ap, ◌∙◌}
use Rattle.std.proofs.lemmas.List.{take_all}
use Rattle.std.specs.FinMap as finmap
use Rattle.lsm_version.specs.declared.tables.Place.{Place}
use Rattle.lsm_core.specs.Searching.{has_in_range, looked_at}
use Rattle.lsm_core.proofs.searching.looked_at.Goals as goal

pub returns : goal.returns
unfolding looked_at
returns c =
    c.loop-place.invariant
    ∙ ap (λ (l : List Place). filter (λ place. has_in_range c.args.key.now (finmap.get c.args.version.now place.number)) l)
    (take_all c.loop-place.place-index c.as_slice-place-items.result.now c.loop-place-test.false ∙
    c.as_slice-place-items.ensures ∙ c.in_ok-all.ensures)
