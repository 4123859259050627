-- Each turn hands one view back.
use Rattle.std.specs.Prelude.{◌≡◌, ◌<◌, List, [], ◌∷◌, length}
use Rattle.std.proofs.Common.{subst, refl, arith}
use Rattle.std.specs.Ordering.{nat_cmp}
use Rattle.std.specs.FinMap as finmap
use Rattle.lsm_disk.specs.Viewed.{Viewed}
use Rattle.lsm_core.specs.Catalogs.{Numbered}
use Rattle.lsm_core.specs.Closing.{HasHandedBack}
use Rattle.lsm_core.proofs.HandedBack.{none_handed, one_handed, all_handed}
use Rattle.lsm_core.proofs.tables.close_all.Goals as goal

pub loop-number-init : goal.loop-number-init
loop-number-init g c = none_handed c.all.inside.tables.entries (g.D.Disk.seen c.args.disk.now)

pub loop-number-preserved : goal.loop-number-preserved
loop-number-preserved g c =
    one_handed c.all.inside.tables.entries c.loop-number.tables.entries c.pop_first.new.self.entries
    (c.in-Some._number, c.in-Some.table)
    (g.D.View.View.viewed c.into_view.result) (g.D.Disk.seen c.args.disk.now) (g.D.Disk.seen c.loop-number.disk)
    (g.D.Disk.seen c.close.new.self)
    c.loop-number.invariant c.in-Some.ensures.removal c.into_view.ensures c.close.ensures.did c.close.ensures.later
    c.close.ensures.refusals
    c.close.ensures.faults

no_entries : (tables : List Numbered) → (0 < length tables → ⊥) → tables ≡ []
no_entries [] none = refl
no_entries (table ∷ tables) none = absurd (none (omega arith))

pub returns : goal.returns
returns g c =
    subst (λ (views : finmap.FinMap nat_cmp Viewed). HasHandedBack views (g.D.Disk.seen c.args.disk.now)
    (g.D.Disk.seen c.loop-number.disk))
    c.all.view_is
    (all_handed c.all.inside.tables.entries c.loop-number.tables.entries (g.D.Disk.seen c.args.disk.now)
    (g.D.Disk.seen c.loop-number.disk)
    c.loop-number.invariant (no_entries c.loop-number.tables.entries
    (λ some. let clash = c.in_default.ensures.variant.1 some in cc)))
