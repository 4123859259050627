use Rattle.std.proofs.Common.{arith, sym, ap, ◌∙◌, ◌+◌, ℕ, Bool, cond, length}
use Rattle.lsm_model.proofs.PlainLemmas.{none_from, wrote, sequence_is_full, plain_written, longer}
use Rattle.lsm_model.specs.Plain.{state_of}
use Rattle.lsm_model.proofs.PlainHalts.{write_halted}
use Rattle.lsm_model.proofs.plain.PlainLists.write.Goals as goal

pub returns-then-self-count-gt-LAST_SEQUENCE-clause-step : goal.returns-then-self-count-gt-LAST_SEQUENCE-clause-step
returns-then-self-count-gt-LAST_SEQUENCE-clause-step c = sequence_is_full c.args.self.now c.args.batch c.args.sync c.len-count.result c.requires (none_from c.args.self.now.halt c.in_default.not-Some) c.len-count.ensures.len (omega (arith, c.if-self-count-gt-LAST_SEQUENCE.true))

pub returns-then-sync-clause-step : goal.returns-then-sync-clause-step
returns-then-sync-clause-step c = wrote c.args.self.now (record c.args.self.now { accepted = c.push_batch.new.accepted }) c.args.batch c.args.sync (c.args.self.now.sequence + c.len-count.result) (length c.as_slice.result.now) (c.args.self.now.active_len + (c.text_len-size.result + 7)) c.requires c.in-Ok.ensures.ok (none_from c.args.self.now.halt c.in_default.not-Some) ((ap length c.as_slice.ensures.value ∙ longer c.args.self.now.accepted.items c.push_batch.new.accepted.items c.args.batch c.in-Ok.ensures.ok) ∙ sym (ap (λ (b : Bool). cond b (length c.args.self.now.accepted.items + 1) c.args.self.now.durable) c.if-sync.true)) (ap (λ (m : ℕ). c.args.self.now.sequence + m) c.len-count.ensures.len) (omega (arith, c.if-self-count-gt-LAST_SEQUENCE.false)) (omega arith)

pub returns-then-sync-clause-plain : goal.returns-then-sync-clause-plain
returns-then-sync-clause-plain c = plain_written c.args.self.now (record c.args.self.now { accepted = c.push_batch.new.accepted }) c.args.batch (c.args.self.now.sequence + c.len-count.result) (length c.as_slice.result.now) (c.args.self.now.active + 1) (c.args.self.now.active_len + (c.text_len-size.result + 7)) c.requires c.in-Ok.ensures.ok (omega (arith, ap length c.as_slice.ensures.value ∙ longer c.args.self.now.accepted.items c.push_batch.new.accepted.items c.args.batch c.in-Ok.ensures.ok)) (ap (λ (m : ℕ). c.args.self.now.sequence + m) c.len-count.ensures.len) (omega (arith, c.if-self-count-gt-LAST_SEQUENCE.false))

pub returns-clause-step : goal.returns-clause-step
returns-clause-step c = wrote c.args.self.now (record c.args.self.now { accepted = c.push_batch.new.accepted }) c.args.batch c.args.sync (c.args.self.now.sequence + c.len-count.result) c.args.self.now.durable (c.args.self.now.active_len + (c.text_len-size.result + 7)) c.requires c.in-Ok.ensures.ok (none_from c.args.self.now.halt c.in_default.not-Some) (sym (ap (λ (b : Bool). cond b (length c.args.self.now.accepted.items + 1) c.args.self.now.durable) c.if-sync.false)) (ap (λ (m : ℕ). c.args.self.now.sequence + m) c.len-count.ensures.len) (omega (arith, c.if-self-count-gt-LAST_SEQUENCE.false)) (omega arith)

pub returns-clause-plain : goal.returns-clause-plain
returns-clause-plain c = plain_written c.args.self.now (record c.args.self.now { accepted = c.push_batch.new.accepted }) c.args.batch (c.args.self.now.sequence + c.len-count.result) c.args.self.now.durable (c.args.self.now.active + 1) (c.args.self.now.active_len + (c.text_len-size.result + 7)) c.requires c.in-Ok.ensures.ok (omega (arith, c.requires.durable)) (ap (λ (m : ℕ). c.args.self.now.sequence + m) c.len-count.ensures.len) (omega (arith, c.if-self-count-gt-LAST_SEQUENCE.false))

pub returns-in-Some-clause-step : goal.returns-in-Some-clause-step
returns-in-Some-clause-step c = write_halted (state_of c.args.self.now) c.in-Some.first c.in-Some.is c.args.batch c.args.sync
