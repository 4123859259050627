use Rattle.std.proofs.Common.{arith}
use Rattle.lsm_model.specs.Plain.{state_of}
use Rattle.lsm_model.proofs.PlainLemmas.{none_from, none_deleted, deletion_disabled}
use Rattle.lsm_model.proofs.PlainHalts.{delete_halted}
use Rattle.lsm_model.proofs.plain.PlainLists.delete_step.Goals as goal

pub returns-then-self-gt0 : goal.returns-then-self-gt0
returns-then-self-gt0 c = deletion_disabled (state_of c.args.self.now) (none_from c.args.self.now.halt c.in_default.not-Some) (λ e. absurd (omega (arith, e, c.if-self-gt0.true)))

pub returns : goal.returns
returns c = none_deleted c.args.self.now c.requires (none_from c.args.self.now.halt c.in_default.not-Some) (omega (arith, c.if-self-gt0.false))

pub returns-in-Some : goal.returns-in-Some
returns-in-Some c = delete_halted (state_of c.args.self.now) c.in-Some.first c.in-Some.is
