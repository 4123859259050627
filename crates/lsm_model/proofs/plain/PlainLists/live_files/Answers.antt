use Rattle.std.proofs.Common.{sym, subst, Ok, Bool}
use Rattle.lsm_model.specs.Plain.{state_of}
use Rattle.lsm_model.specs.Pins.{ListsFiles}
use Rattle.lsm_model.proofs.PlainLemmas.{none_from, no_live_files, live_flushed}
use Rattle.lsm_model.proofs.PlainHalts.{list_halted}
use Rattle.lsm_model.proofs.plain.PlainLists.live_files.Goals as goal

pub returns-then-flush-clause-step : goal.returns-then-flush-clause-step
returns-then-flush-clause-step c = subst (λ (b : Bool). ListsFiles (state_of c.args.self.now) b (Ok c.no_files.result) (state_of (record c.args.self.now { active = 0; frozen = 0; active_len = 0; frozen_len = 0 }))) (sym c.if-flush.true) (live_flushed c.args.self.now c.no_files.result c.requires (none_from c.args.self.now.halt c.in_default.not-Some) c.no_files.ensures.sequence c.no_files.ensures.len c.no_files.ensures.files)

pub returns-clause-step : goal.returns-clause-step
returns-clause-step c = subst (λ (b : Bool). ListsFiles (state_of c.args.self.now) b (Ok c.no_files-2.result) (state_of c.args.self.now)) (sym c.if-flush.false) (no_live_files c.args.self.now c.no_files-2.result c.requires (none_from c.args.self.now.halt c.in_default.not-Some) c.no_files-2.ensures.sequence c.no_files-2.ensures.len c.no_files-2.ensures.files)

pub returns-in-Some-clause-step : goal.returns-in-Some-clause-step
returns-in-Some-clause-step c = list_halted (state_of c.args.self.now) c.in-Some.first c.in-Some.is c.args.flush
