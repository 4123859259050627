-- The call at what the store held before it.
use Rattle.std.specs.Prelude.{◌≢◌, All, IsSome, IfSome}
use Rattle.std.proofs.Common.{sym, ap, subst, ◌∙◌}
use Rattle.lsm_disk.specs.Dest.{Begun}
use Rattle.lsm_dest.specs.FolderDests.{begun_in, hand_in}
use Rattle.lsm_refine.specs.Kept.{Shown}
use Rattle.lsm_restoring.specs.Calls.{LeadsOn}
use Rattle.lsm_store.specs.Inside.{Inner, shown_of}
use Rattle.lsm_store.specs.Fields.{inner}
use Rattle.lsm_store.proofs.Restorings.{file_more}
use Rattle.lsm_store.proofs.restoring.StoreDest.file.Goals as goal

pub returns-clause-went : goal.returns-clause-went
returns-clause-went g c start story begun parts tells is = c.file_in.ensures.went start story begun parts
    (ap (λ (v : Shown). v.disk.told) c.self.view_is ∙ tells)
    (ap (λ (v : Shown). v.kept.begun) c.self.view_is ∙ is)

pub returns-clause-more : goal.returns-clause-more
returns-clause-more g c =
    let x : Inner = inner g.D.Disk.seen c.self.inside in
    let seen = g.D.Disk.seen c.file_in.new.self in
    let built = c.file_in.new.built in
    let w : Shown = shown_of (record x {
      disk = seen;
      halt = c.file_in.new.halted;
      begun = begun_in built;
      hand = hand_in built;
    }) in
    subst (λ (v : Shown). (first : Shown) → LeadsOn first v → LeadsOn first w) c.self.view_is
    (file_more x c.self.invariant seen c.file_in.new.halted (begun_in built) (hand_in built) c.file_in.result
    (subst (λ (v : Shown). IsSome v.kept.begun) (sym c.self.view_is) c.requires.begun) c.args.name.now
    (ap (λ (v : Shown). v.kept.hand) c.self.view_is ∙ c.requires.free) c.requires.part
    (subst (λ (v : Shown). IfSome v.kept.begun (λ (begun : Begun). All (λ other. c.args.name.now ≢ other) begun.names))
    (sym c.self.view_is) c.requires.new) c.file_in.ensures.halt c.file_in.ensures.leaves c.file_in.ensures.cause
    c.file_in.ensures.taken c.file_in.ensures.did)
