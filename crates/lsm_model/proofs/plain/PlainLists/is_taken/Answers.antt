use Rattle.std.proofs.Common.{sym, ◌∙◌, Some, None}
use Rattle.lsm_model.specs.Plain.{plain_folder}
use Rattle.lsm_model.specs.States.{folder_of}
use Rattle.std.proofs.Common.{ap, map}
use Rattle.lsm_model.proofs.PlainPins.{taken_own, taken_else}
use Rattle.lsm_model.proofs.plain.PlainLists.is_taken.Goals as goal

pub returns-then-same_name : goal.returns-then-same_name
returns-then-same_name c = taken_own c.args.self.now c.args.dir.now (sym c.same_name.ensures ∙ c.if-same_name.true)

pub returns-in-Some : goal.returns-in-Some
returns-in-Some c =
    taken_else c.args.self.now c.args.dir.now (Some (plain_folder c.args.self.now.accepted.items c.in-Some.field-0.now)) (sym c.same_name.ensures ∙ c.if-same_name.false)
    (c.in-Some.ensures c.args.self.now.accepted.items ∙ ap (λ folders. folder_of c.args.dir.now (map (plain_folder c.args.self.now.accepted.items) folders)) c.as_slice.ensures.value)

pub returns-in-None : goal.returns-in-None
returns-in-None c =
    taken_else c.args.self.now c.args.dir.now None (sym c.same_name.ensures ∙ c.if-same_name.false)
    (c.in-None.ensures c.args.self.now.accepted.items ∙ ap (λ folders. folder_of c.args.dir.now (map (plain_folder c.args.self.now.accepted.items) folders)) c.as_slice.ensures.value)
