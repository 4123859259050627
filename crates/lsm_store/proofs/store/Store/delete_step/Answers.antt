-- Each exit is a lemma of `Deletes`, at what the store held before the call.
use Rattle.std.specs.Prelude.{◌≡◌, List, ℕ, None, Ok, Err}
use Rattle.std.proofs.Common.{ap, sym, subst, ◌∙◌}
use Rattle.lsm_disk.specs.State.{unnamed}
use Rattle.lsm_disk.specs.Answers.{Makes}
use Rattle.lsm_model.specs.declared.replies.Deleted.TheVariants as delete
use Rattle.lsm_model.specs.declared.errors.StoreError.TheVariants as error
use Rattle.lsm_flush.specs.Frozen.{number_of}
use Rattle.lsm_refine.specs.Kept.{Kept, Shown}
use Rattle.lsm_refine.specs.Obsolete.{IsNextObsolete}
use Rattle.lsm_core.specs.Obsolete.{IsNext, deleting}
use Rattle.lsm_store.specs.Fields.{inner}
use Rattle.lsm_store.specs.Inside.{Inner, shown_of}
use Rattle.lsm_store.proofs.Calls.{no_halt, leads_on}
use Rattle.lsm_store.proofs.Deletes.{IsDelete, asked_so, inside_without, halted_delete, disabled_delete, nothing_delete, removed_delete, refused_delete}
use Rattle.lsm_store.proofs.store.Store.delete_step.Given as given
use Rattle.lsm_store.proofs.store.Store.delete_step.Goals as goal

at-in-Some : (g : given.Over) (c : goal.In-Some g)
    → IsDelete (Err (error.Halted c.in-Some.first)) c.args.self.now c.args.self.now
at-in-Some g c =
    let x : Inner = inner g.D.Disk.seen c.self.inside in
    subst (λ (v : Shown). IsDelete (Err (error.Halted c.in-Some.first)) v v) c.self.view_is
    (halted_delete x c.self.invariant c.in-Some.first c.in-Some.is)

pub returns-in-Some-clause-step : goal.returns-in-Some-clause-step
returns-in-Some-clause-step g c = (at-in-Some g c).step

pub returns-in-Some-clause-images : goal.returns-in-Some-clause-images
returns-in-Some-clause-images g c s good = (at-in-Some g c).images s good

pub returns-in-Some-clause-causes : goal.returns-in-Some-clause-causes
returns-in-Some-clause-causes g c = (at-in-Some g c).causes

pub returns-in-Some-clause-leads : goal.returns-in-Some-clause-leads
returns-in-Some-clause-leads g c start steps = leads_on start steps (at-in-Some g c)

at-then-count : (g : given.Over) (c : goal.Then-count-ne0 g)
    → IsDelete (Ok (delete.Disabled c.disables-count.result)) c.args.self.now c.args.self.now
at-then-count g c =
    let x : Inner = inner g.D.Disk.seen c.self.inside in
    let none : c.self.inside.halt ≡ None = no_halt c.self.inside.halt c.in_default.not-Some in
    subst (λ (v : Shown). IsDelete (Ok (delete.Disabled c.disables-count.result)) v v) c.self.view_is
    (disabled_delete x c.self.invariant none c.disables-count.result c.disables-count.ensures c.if-count-ne0.true)

pub returns-then-count-ne0-clause-step : goal.returns-then-count-ne0-clause-step
returns-then-count-ne0-clause-step g c = (at-then-count g c).step

pub returns-then-count-ne0-clause-images : goal.returns-then-count-ne0-clause-images
returns-then-count-ne0-clause-images g c s good = (at-then-count g c).images s good

pub returns-then-count-ne0-clause-causes : goal.returns-then-count-ne0-clause-causes
returns-then-count-ne0-clause-causes g c = (at-then-count g c).causes

pub returns-then-count-ne0-clause-leads : goal.returns-then-count-ne0-clause-leads
returns-then-count-ne0-clause-leads g c start steps = leads_on start steps (at-then-count g c)

at-in-Ok : (g : given.Over) (c : goal.After-forget g)
    → IsDelete (Ok (delete.Removed c.in-Some-next_obsolete.name)) c.args.self.now
    (shown_of (record (inner g.D.Disk.seen c.self.inside) {
      disk = g.D.Disk.seen c.unlink.new.self;
      known = c.forget.new.names.items;
    }))
at-in-Ok g c =
    let x : Inner = inner g.D.Disk.seen c.self.inside in
    let none : c.self.inside.halt ≡ None = no_halt c.self.inside.halt c.in_default.not-Some in
    let name = c.in-Some-next_obsolete.name in
    let next : IsNextObsolete (deleting x.known x.manifest.number (number_of x.frozen) x.catalog) name =
    subst (λ (k : Kept). IsNextObsolete k name)
    (asked_so x c.deref.result.now c.number-manifest.result c.number-writing.result c.deref.ensures.value
    c.number-manifest.ensures c.number-writing.ensures) c.in-Some-next_obsolete.ensures in
    let seen = g.D.Disk.seen c.unlink.new.self in
    subst (λ (v : Shown). IsDelete (Ok (delete.Removed name)) v
    (shown_of (record x { disk = seen; known = c.forget.new.names.items })))
    c.self.view_is
    (removed_delete x c.self.invariant none (sym c.disables-count.ensures ∙ c.if-count-ne0.false) name next seen
    c.unlink.ensures.cause.faults_later c.unlink.ensures.cause.refusals_later c.forget.new.names.items c.forget.ensures
    (subst (λ (p : List ℕ). Makes x.disk.told (unnamed p) seen.told) c.file-path.ensures c.in-Ok.ensures.did))

pub invariant_of-self : goal.invariant_of-self
invariant_of-self g c =
    inside_without (inner g.D.Disk.seen c.self.inside) c.self.invariant c.in-Some-next_obsolete.name c.forget.new.names.items
    c.forget.ensures (g.D.Disk.seen c.unlink.new.self)

pub returns-in-Ok-clause-step : goal.returns-in-Ok-clause-step
returns-in-Ok-clause-step g c = (at-in-Ok g c).step

pub returns-in-Ok-clause-images : goal.returns-in-Ok-clause-images
returns-in-Ok-clause-images g c s good = (at-in-Ok g c).images s good

pub returns-in-Ok-clause-causes : goal.returns-in-Ok-clause-causes
returns-in-Ok-clause-causes g c = (at-in-Ok g c).causes

pub returns-in-Ok-clause-leads : goal.returns-in-Ok-clause-leads
returns-in-Ok-clause-leads g c start steps = leads_on start steps (at-in-Ok g c)

at-in-Err : (g : given.Over) (c : goal.After-error_by g)
    → IsDelete (Err c.error_by.result) c.args.self.now (shown_of (record (inner g.D.Disk.seen c.self.inside) {
      disk = g.D.Disk.seen c.unlink.new.self;
      halt = c.halt_by-self-inside.result;
    }))
at-in-Err g c =
    let x : Inner = inner g.D.Disk.seen c.self.inside in
    let none : c.self.inside.halt ≡ None = no_halt c.self.inside.halt c.in_default.not-Some in
    let name = c.in-Some-next_obsolete.name in
    let next : IsNextObsolete (deleting x.known x.manifest.number (number_of x.frozen) x.catalog) name =
    subst (λ (k : Kept). IsNextObsolete k name)
    (asked_so x c.deref.result.now c.number-manifest.result c.number-writing.result c.deref.ensures.value
    c.number-manifest.ensures c.number-writing.ensures) c.in-Some-next_obsolete.ensures in
    let seen = g.D.Disk.seen c.unlink.new.self in
    subst (λ (v : Shown). IsDelete (Err c.error_by.result) v
    (shown_of (record x { disk = seen; halt = c.halt_by-self-inside.result }))) c.self.view_is
    (refused_delete x c.self.invariant none (sym c.disables-count.ensures ∙ c.if-count-ne0.false) name next seen
    c.unlink.ensures.cause.faults_later c.unlink.ensures.cause.refusals_later c.in-Err.why c.file-path.result
    c.halt_by-self-inside.result c.error_by.result c.file-path.ensures c.halt_by-self-inside.ensures c.error_by.ensures
    (λ same. c.in-Err.ensures.memory (ap Err same)) c.in-Err.ensures.answer c.in-Err.ensures.did
    c.in-Err.ensures.cause.counted)

pub returns-in-Err-clause-step : goal.returns-in-Err-clause-step
returns-in-Err-clause-step g c = (at-in-Err g c).step

pub returns-in-Err-clause-images : goal.returns-in-Err-clause-images
returns-in-Err-clause-images g c s good = (at-in-Err g c).images s good

pub returns-in-Err-clause-causes : goal.returns-in-Err-clause-causes
returns-in-Err-clause-causes g c = (at-in-Err g c).causes

pub returns-in-Err-clause-leads : goal.returns-in-Err-clause-leads
returns-in-Err-clause-leads g c start steps = leads_on start steps (at-in-Err g c)

at-in-None : (g : given.Over) (c : goal.In-None g) → IsDelete (Ok delete.Nothing) c.args.self.now c.args.self.now
at-in-None g c =
    let x : Inner = inner g.D.Disk.seen c.self.inside in
    let none : c.self.inside.halt ≡ None = no_halt c.self.inside.halt c.in_default.not-Some in
    subst (λ (v : Shown). IsDelete (Ok delete.Nothing) v v) c.self.view_is
    (nothing_delete x c.self.invariant none (sym c.disables-count.ensures ∙ c.if-count-ne0.false)
    (subst (λ (k : Kept). IsNext k None)
    (asked_so x c.deref.result.now c.number-manifest.result c.number-writing.result c.deref.ensures.value
    c.number-manifest.ensures c.number-writing.ensures) c.in-None.ensures))

pub returns-in-None-clause-step : goal.returns-in-None-clause-step
returns-in-None-clause-step g c = (at-in-None g c).step

pub returns-in-None-clause-images : goal.returns-in-None-clause-images
returns-in-None-clause-images g c s good = (at-in-None g c).images s good

pub returns-in-None-clause-causes : goal.returns-in-None-clause-causes
returns-in-None-clause-causes g c = (at-in-None g c).causes

pub returns-in-None-clause-leads : goal.returns-in-None-clause-leads
returns-in-None-clause-leads g c start steps = leads_on start steps (at-in-None g c)
