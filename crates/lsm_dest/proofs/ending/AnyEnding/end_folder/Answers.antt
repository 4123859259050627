-- Each exit, by what the calls before it left.
use Rattle.std.specs.Prelude.{ℕ, List}
use Rattle.std.proofs.Common.{sym, ap, ◌∙◌, arith}
use Rattle.lsm_names.specs.declared.file_names.FileName.TheVariants.{Current}
use Rattle.lsm_disk.specs.Dest.{path_in, temporary}
use Rattle.lsm_dest.proofs.Refusing.{cause_later}
use Rattle.lsm_dest.proofs.Finishing.{after_sync, sync_refused, after_write, write_refused, after_switch, switch_refused, taken_back}
use Rattle.lsm_dest.proofs.ending.AnyEnding.end_folder.Goals as goal

pub returns-in-Err-clause-went : goal.returns-in-Err-clause-went
returns-in-Err-clause-went g c start story begun parts tells is building =
    sync_refused start story begun parts c.args.current.now tells building c.path.result c.in-Err.why c.refused.result c.refused.ensures c.in-Err.ensures.did c.in-Err.ensures.answer

pub returns-in-Err-write_current-clause-went : goal.returns-in-Err-write_current-clause-went
returns-in-Err-write_current-clause-went g c start story begun parts tells is building =
    let tmp_is = c.file-temporary.ensures ∙ ap (λ (f : List ℕ). path_in f temporary) (sym is) in
    taken_back start story begun parts c.args.current.now building.names c.file-temporary.result tmp_is c.in-Err-write_current.refusal c.take_back.result c.take_back.ensures.took
    (write_refused start story begun parts c.args.current.now c.file-temporary.result tmp_is building.names c.in-Err-write_current.refusal
    c.in-Err-write_current.ensures.went c.in-Err-write_current.ensures.answer (after_sync start story begun parts c.args.current.now tells building c.in_default.ensures.did))

pub returns-in-Err-name_current-clause-went : goal.returns-in-Err-name_current-clause-went
returns-in-Err-name_current-clause-went g c start story begun parts tells is building =
    let tmp_is = c.file-temporary.ensures ∙ ap (λ (f : List ℕ). path_in f temporary) (sym is) in
    taken_back start story begun parts c.args.current.now building.names c.file-temporary.result tmp_is c.in-Err-name_current.refusal c.take_back-in-Err-name_current.result c.take_back-in-Err-name_current.ensures.took
    (switch_refused start story begun parts c.args.current.now c.file-temporary.result c.file-path.result tmp_is (c.file-path.ensures ∙ ap (λ (f : List ℕ). path_in f Current) (sym is)) c.in-Err-name_current.refusal
    c.in-Err-name_current.ensures.went c.in-Err-name_current.ensures.answer c.in-Err-name_current.ensures.memory
    (after_write start story begun parts c.args.current.now c.file-temporary.result tmp_is c.in_default-write_current.ensures.went (after_sync start story begun parts c.args.current.now tells building c.in_default.ensures.did)))

pub returns-clause-went : goal.returns-clause-went
returns-clause-went g c start story begun parts tells is building =
    let tmp_is = c.file-temporary.ensures ∙ ap (λ (f : List ℕ). path_in f temporary) (sym is) in
    after_switch start story begun parts c.args.current.now c.file-temporary.result c.file-path.result tmp_is (c.file-path.ensures ∙ ap (λ (f : List ℕ). path_in f Current) (sym is))
    c.in_default-name_current.ensures.went
    (after_write start story begun parts c.args.current.now c.file-temporary.result tmp_is c.in_default-write_current.ensures.went (after_sync start story begun parts c.args.current.now tells building c.in_default.ensures.did))

pub returns-in-Err-write_current-clause-cause : goal.returns-in-Err-write_current-clause-cause
returns-in-Err-write_current-clause-cause g c =
    let first = g.D.Disk.seen c.args.self.now in
    c.take_back.ensures.cause first (cause_later first (g.D.Disk.seen c.sync_names.new.self) (g.D.Disk.seen c.write_current.new.self) c.in_default.ensures.cause.faults_later c.in_default.ensures.cause.refusals_later
    c.in-Err-write_current.refusal c.in-Err-write_current.ensures.cause)

pub returns-in-Err-name_current-clause-cause : goal.returns-in-Err-name_current-clause-cause
returns-in-Err-name_current-clause-cause g c =
    let first = g.D.Disk.seen c.args.self.now in
    let synced = c.in_default.ensures.cause in
    let written = c.in_default-write_current.ensures.cause in
    c.take_back-in-Err-name_current.ensures.cause first (cause_later first (g.D.Disk.seen c.write_current.new.self) (g.D.Disk.seen c.name_current.new.self)
    (omega (arith, synced.faults_later, written.faults_later)) (omega (arith, synced.refusals_later, written.refusals_later)) c.in-Err-name_current.refusal c.in-Err-name_current.ensures.cause)
