use Rattle.std.proofs.Common.{refl, ◌∙◌, arith}
use Rattle.std.proofs.lemmas.Result.{err_from_is_err_and}
use Rattle.lsm_frame.specs.declared.steps.Step.TheVariants.{Over, Record, More}
use Rattle.lsm_frame.proofs.Going.{stays_same, stays_trans, rose_later, stepped, has_room, is_step, rest_inside, going_on, going_over}
use Rattle.lsm_frame.proofs.found.read_record.Goals as goal

pub loop-at-init : goal.loop-at-init
loop-at-init g c = record { loads = c.requires.loads; stays = stays_same _; reached = omega arith; inside = c.requires.from; ready = c.new-payload.ensures; same = λ text told. refl }

pub bring-requires-clause-at : goal.bring-requires-clause-at
bring-requires-clause-at g c κs within = omega (arith, c.loop-at.invariant.inside, c.loop-at.invariant.stays.len)

pub bring-requires-clause-loads : goal.bring-requires-clause-loads
bring-requires-clause-loads g c κs within = c.loop-at.invariant.loads

pub returns-in_err-bring-clause-stays : goal.returns-in_err-bring-clause-stays
returns-in_err-bring-clause-stays g c = stays_trans _ _ _ c.loop-at.invariant.stays c.bring.ensures.stays

pub returns-in_err-bring-clause-cause : goal.returns-in_err-bring-clause-cause
returns-in_err-bring-clause-cause g c =
    let p = err_from_is_err_and c.from_residual.result c.from_residual.ensures.1 in
    rw (p.1, p.2) (λ is. rose_later _ _ _ c.loop-at.invariant.stays.faults (c.in_err-bring.ensures.cause is))

pub rest_of-requires-clause-room : goal.rest_of-requires-clause-room
rest_of-requires-clause-room g c = has_room _ (g.V.View.viewed c.loop-at.view) (g.V.View.viewed c.bring.new.view) c.bring.new.loaded.buffer.items c.deref.result.now c.bring.new.loaded.base c.len-len.result c.loop-at.at c.loop-at.invariant.stays c.in_ok-bring.ensures.stays c.in_ok-bring.ensures.base c.in_ok-bring.ensures.loads c.len-len.ensures c.deref.ensures.value

pub take_step-requires-clause-ready : goal.take_step-requires-clause-ready
take_step-requires-clause-ready g c = c.loop-at.invariant.ready

pub returns-in_err-ending-clause-stays : goal.returns-in_err-ending-clause-stays
returns-in_err-ending-clause-stays g c = stays_trans _ _ _ c.loop-at.invariant.stays c.bring.ensures.stays

pub returns-in-Over-clause-is : goal.returns-in-Over-clause-is
returns-in-Over-clause-is g c = λ text told. c.loop-at.invariant.same text told ∙ is_step (g.V.View.viewed c.args.view.now) (g.V.View.viewed c.bring.new.view) c.bring.new.loaded.buffer.items c.loop-at.at c.rest_of.result.now c.loop-at.begun c.loop-at.payload c.take_step.new.payload (Over c.in-Over.ending) (stepped _ (g.V.View.viewed c.loop-at.view) (g.V.View.viewed c.bring.new.view) c.bring.new.loaded.buffer.items c.deref.result.now c.bring.new.loaded.base c.len-len.result c.loop-at.at c.rest_of.result.now c.loop-at.begun c.loop-at.payload c.take_step.new.payload c.in_ok-ending.field-0 (Over c.in-Over.ending) c.loop-at.invariant.stays c.in_ok-bring.ensures.stays c.loop-at.invariant.inside c.in_ok-bring.ensures.base c.in_ok-bring.ensures.loads c.len-len.ensures c.deref.ensures.value c.rest_of.ensures c.in-Over.is c.in_ok-ending.ensures.is c.in_ok-ending.ensures.leads) text told

pub returns-in-Over-clause-stays : goal.returns-in-Over-clause-stays
returns-in-Over-clause-stays g c = stays_trans _ _ _ c.loop-at.invariant.stays c.bring.ensures.stays

pub returns-in-Record-clause-is : goal.returns-in-Record-clause-is
returns-in-Record-clause-is g c = λ text told. c.loop-at.invariant.same text told ∙ is_step (g.V.View.viewed c.args.view.now) (g.V.View.viewed c.bring.new.view) c.bring.new.loaded.buffer.items c.loop-at.at c.rest_of.result.now c.loop-at.begun c.loop-at.payload c.take_step.new.payload (Record c.in-Record.place c.in-Record.next) (stepped _ (g.V.View.viewed c.loop-at.view) (g.V.View.viewed c.bring.new.view) c.bring.new.loaded.buffer.items c.deref.result.now c.bring.new.loaded.base c.len-len.result c.loop-at.at c.rest_of.result.now c.loop-at.begun c.loop-at.payload c.take_step.new.payload c.in_ok-ending.field-0 (Record c.in-Record.place c.in-Record.next) c.loop-at.invariant.stays c.in_ok-bring.ensures.stays c.loop-at.invariant.inside c.in_ok-bring.ensures.base c.in_ok-bring.ensures.loads c.len-len.ensures c.deref.ensures.value c.rest_of.ensures c.in-Record.is c.in_ok-ending.ensures.is c.in_ok-ending.ensures.leads) text told

pub returns-in-Record-clause-leads : goal.returns-in-Record-clause-leads
returns-in-Record-clause-leads g c =
    let s = stepped _ (g.V.View.viewed c.loop-at.view) (g.V.View.viewed c.bring.new.view) c.bring.new.loaded.buffer.items c.deref.result.now c.bring.new.loaded.base c.len-len.result c.loop-at.at c.rest_of.result.now c.loop-at.begun c.loop-at.payload c.take_step.new.payload c.in_ok-ending.field-0 (Record c.in-Record.place c.in-Record.next) c.loop-at.invariant.stays c.in_ok-bring.ensures.stays c.loop-at.invariant.inside c.in_ok-bring.ensures.base c.in_ok-bring.ensures.loads c.len-len.ensures c.deref.ensures.value c.rest_of.ensures c.in-Record.is c.in_ok-ending.ensures.is c.in_ok-ending.ensures.leads in
    let inside = rest_inside (g.V.View.viewed c.args.view.now) (g.V.View.viewed c.bring.new.view) c.bring.new.loaded.buffer.items c.loop-at.at c.rest_of.result.now c.loop-at.begun c.loop-at.payload c.take_step.new.payload (Record c.in-Record.place c.in-Record.next) s in
    (omega (arith, c.loop-at.invariant.reached, s.leads.0), omega (arith, s.leads.1, inside))

pub returns-in-Record-clause-stays : goal.returns-in-Record-clause-stays
returns-in-Record-clause-stays g c = stays_trans _ _ _ c.loop-at.invariant.stays c.bring.ensures.stays

pub loop-at-preserved : goal.loop-at-preserved
loop-at-preserved g c = going_on _ (g.V.View.viewed c.loop-at.view) (g.V.View.viewed c.bring.new.view) c.bring.new.loaded.buffer.items c.loop-at.loaded.buffer.items c.bring.new.loaded.base c.loop-at.loaded.base c.args.from c.loop-at.at c.rest_of.result.now c.loop-at.begun c.in-More.place c.loop-at.payload c.take_step.new.payload c.in-More.next c.loop-at.invariant c.in_ok-bring.ensures.loads
    (stepped _ (g.V.View.viewed c.loop-at.view) (g.V.View.viewed c.bring.new.view) c.bring.new.loaded.buffer.items c.deref.result.now c.bring.new.loaded.base c.len-len.result c.loop-at.at c.rest_of.result.now c.loop-at.begun c.loop-at.payload c.take_step.new.payload c.in_ok-ending.field-0 (More c.in-More.place c.in-More.next) c.loop-at.invariant.stays c.in_ok-bring.ensures.stays c.loop-at.invariant.inside c.in_ok-bring.ensures.base c.in_ok-bring.ensures.loads c.len-len.ensures c.deref.ensures.value c.rest_of.ensures c.in-More.is c.in_ok-ending.ensures.is c.in_ok-ending.ensures.leads)

pub returns-clause-is : goal.returns-clause-is
returns-clause-is g c = going_over _ (g.V.View.viewed c.loop-at.view) c.loop-at.loaded.buffer.items c.loop-at.loaded.base c.args.from c.loop-at.at c.loop-at.begun c.loop-at.payload c.end_inside.result c.loop-at.invariant (omega (arith, c.loop-at-test.false, c.len-len.ensures)) (c.end_inside.ensures c.loop-at.payload)

pub returns-clause-loads : goal.returns-clause-loads
returns-clause-loads g c = c.loop-at.invariant.loads

pub returns-clause-stays : goal.returns-clause-stays
returns-clause-stays g c = c.loop-at.invariant.stays
