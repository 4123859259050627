-- Each exit is a lemma of `Flushes`, at what the store held before the call.
use Rattle.std.specs.Prelude.{◌≡◌, ◌≢◌, [], None, Ok, Err}
use Rattle.std.proofs.Common.{sym, ap, subst, ◌∙◌}
use Rattle.lsm_model.specs.declared.errors.StoreError.TheVariants as error
use Rattle.lsm_model.specs.declared.replies.Flushed.TheVariants as flush
use Rattle.lsm_refine.specs.Kept.{Shown}
use Rattle.lsm_flush.specs.Frozen.{rows_of}
use Rattle.lsm_store.specs.Inside.{Inner, shown_of}
use Rattle.lsm_store.proofs.Calls.{no_halt, is_nothing, is_something, leads_on}
use Rattle.lsm_store.specs.Fields.{inner}
use Rattle.lsm_store.proofs.Flushes.{IsFlush, halted_flush, idle_flush, on_flush, unbegun_flush}
use Rattle.lsm_store.proofs.store.Store.flush_step.Given as given
use Rattle.lsm_store.proofs.store.Store.flush_step.Goals as goal

at-in-Some : (g : given.Over) (c : goal.In-Some g)
    → IsFlush (Err (error.Halted c.in-Some.first)) c.args.self.now c.args.self.now
at-in-Some g c =
    halted_flush c.args.self.now c.in-Some.first (ap (λ (v : Shown). v.halt) (sym c.self.view_is) ∙ c.in-Some.is)

pub returns-in-Some-clause-step : goal.returns-in-Some-clause-step
returns-in-Some-clause-step g c = (at-in-Some g c).step

pub returns-in-Some-clause-images : goal.returns-in-Some-clause-images
returns-in-Some-clause-images g c s good = (at-in-Some g c).images s good

pub returns-in-Some-clause-causes : goal.returns-in-Some-clause-causes
returns-in-Some-clause-causes g c = (at-in-Some g c).causes

pub returns-in-Some-clause-leads : goal.returns-in-Some-clause-leads
returns-in-Some-clause-leads g c start steps = leads_on start steps (at-in-Some g c)

at-then-is_empty : (g : given.Over) (c : goal.Then-is_empty g)
    → IsFlush (Ok flush.NoJob) c.args.self.now c.args.self.now
at-then-is_empty g c =
    let x : Inner = inner g.D.Disk.seen c.self.inside in
    let none : c.self.inside.halt ≡ None = no_halt c.self.inside.halt c.in_default.not-Some in
    subst (λ (v : Shown). IsFlush (Ok flush.NoJob) v v) c.self.view_is
    (idle_flush (shown_of x) none
    (is_nothing c.is_empty.result (rows_of c.self.inside.frozen) c.is_empty.ensures.rows c.if-is_empty.true))

pub returns-then-is_empty-clause-step : goal.returns-then-is_empty-clause-step
returns-then-is_empty-clause-step g c = (at-then-is_empty g c).step

pub returns-then-is_empty-clause-images : goal.returns-then-is_empty-clause-images
returns-then-is_empty-clause-images g c s good = (at-then-is_empty g c).images s good

pub returns-then-is_empty-clause-causes : goal.returns-then-is_empty-clause-causes
returns-then-is_empty-clause-causes g c = (at-then-is_empty g c).causes

pub returns-then-is_empty-clause-leads : goal.returns-then-is_empty-clause-leads
returns-then-is_empty-clause-leads g c start steps = leads_on start steps (at-then-is_empty g c)

pub begin_table-requires-clause-open : goal.begin_table-requires-clause-open
begin_table-requires-clause-open g c κs within =
    ap (λ (v : Shown). v.halt) (sym c.self.view_is) ∙ no_halt c.self.inside.halt c.in_default.not-Some

pub begin_table-requires-clause-some : goal.begin_table-requires-clause-some
begin_table-requires-clause-some g c κs within =
    subst (λ (v : Shown). v.kept.frozen ≢ []) c.self.view_is
    (is_something c.is_empty.result (rows_of c.self.inside.frozen) c.is_empty.ensures.rows c.if-is_empty.false)

pub flush_on-requires-clause-open : goal.flush_on-requires-clause-open
flush_on-requires-clause-open g c κs within = c.in-Ok.ensures.ok.unhalted

at-in-Err : (g : given.Over) (c : goal.In-Err g)
    → IsFlush (Err c.in-Err.refused) c.args.self.now c.begin_table.new.self
at-in-Err g c =
    let none : c.self.inside.halt ≡ None = no_halt c.self.inside.halt c.in_default.not-Some in
    let some : rows_of c.self.inside.frozen ≢ [] =
    is_something c.is_empty.result (rows_of c.self.inside.frozen) c.is_empty.ensures.rows c.if-is_empty.false in
    unbegun_flush c.args.self.now c.begin_table.new.self (ap (λ (v : Shown). v.halt) (sym c.self.view_is) ∙ none)
    (subst (λ (v : Shown). v.kept.frozen ≢ []) c.self.view_is some) c.in-Err.refused c.in-Err.ensures.err

pub returns-in-Err-clause-step : goal.returns-in-Err-clause-step
returns-in-Err-clause-step g c = (at-in-Err g c).step

pub returns-in-Err-clause-images : goal.returns-in-Err-clause-images
returns-in-Err-clause-images g c s good = (at-in-Err g c).images s good

pub returns-in-Err-clause-causes : goal.returns-in-Err-clause-causes
returns-in-Err-clause-causes g c = (at-in-Err g c).causes

pub returns-in-Err-clause-leads : goal.returns-in-Err-clause-leads
returns-in-Err-clause-leads g c start steps = leads_on start steps (at-in-Err g c)

at-in-Ok : (g : given.Over) (c : goal.After-flush_on g)
    → IsFlush c.flush_on.result c.args.self.now c.flush_on.new.self
at-in-Ok g c =
    let none : c.self.inside.halt ≡ None = no_halt c.self.inside.halt c.in_default.not-Some in
    let some : rows_of c.self.inside.frozen ≢ [] =
    is_something c.is_empty.result (rows_of c.self.inside.frozen) c.is_empty.ensures.rows c.if-is_empty.false in
    on_flush c.args.self.now c.begin_table.new.self c.flush_on.new.self
    (ap (λ (v : Shown). v.halt) (sym c.self.view_is) ∙ none) (subst (λ (v : Shown). v.kept.frozen ≢ []) c.self.view_is some)
    c.in-Ok.ensures.ok c.in-Ok.ensures.number c.flush_on.result c.flush_on.ensures.ok c.flush_on.ensures.err

pub returns-in-Ok-clause-step : goal.returns-in-Ok-clause-step
returns-in-Ok-clause-step g c = (at-in-Ok g c).step

pub returns-in-Ok-clause-images : goal.returns-in-Ok-clause-images
returns-in-Ok-clause-images g c s good = (at-in-Ok g c).images s good

pub returns-in-Ok-clause-causes : goal.returns-in-Ok-clause-causes
returns-in-Ok-clause-causes g c = (at-in-Ok g c).causes

pub returns-in-Ok-clause-leads : goal.returns-in-Ok-clause-leads
returns-in-Ok-clause-leads g c start steps = leads_on start steps (at-in-Ok g c)
