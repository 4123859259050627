-- The call at what the store held before it.
use Rattle.std.proofs.Common.{ap, subst, ◌∙◌}
use Rattle.lsm_dest.specs.FolderDests.{begun_in, hand_in}
use Rattle.lsm_refine.specs.Kept.{Shown}
use Rattle.lsm_restoring.specs.Calls.{LeadsOn}
use Rattle.lsm_store.specs.Inside.{Inner, shown_of}
use Rattle.lsm_store.specs.Fields.{inner}
use Rattle.lsm_store.proofs.Restorings.{begin_more}
use Rattle.lsm_store.proofs.restoring.StoreDest.begin.Goals as goal

pub returns-clause-went : goal.returns-clause-went
returns-clause-went g c story tells = c.begin_in.ensures.went story
    (ap (λ (v : Shown). v.disk.told) c.self.view_is ∙ tells)

pub returns-clause-more : goal.returns-clause-more
returns-clause-more g c =
    let x : Inner = inner g.D.Disk.seen c.self.inside in
    let seen = g.D.Disk.seen c.begin_in.new.self in
    let built = c.begin_in.new.built in
    let w : Shown = shown_of (record x {
      disk = seen;
      halt = c.begin_in.new.halted;
      begun = begun_in built;
      hand = hand_in built;
    }) in
    subst (λ (v : Shown). (first : Shown) → LeadsOn first v → LeadsOn first w) c.self.view_is
    (begin_more x c.self.invariant seen c.begin_in.new.halted (begun_in built) (hand_in built) c.begin_in.result
    c.args.dir.now c.as_bytes-name.ensures.folder c.begin_in.ensures.halt c.begin_in.ensures.leaves c.begin_in.ensures.cause
    c.begin_in.ensures.taken c.begin_in.ensures.did)
