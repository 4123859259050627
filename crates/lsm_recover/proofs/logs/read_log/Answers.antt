-- Each exit, by what the calls before it told.
use Rattle.std.proofs.Common.{◌≡◌, ◌∙◌, ◌+◌, ℕ, List, None, ap, subst, arith}
use Rattle.std.specs.Prelude.{is_some}
use Rattle.lsm_names.proofs.PathLemmas.{path_has_bytes}
use Rattle.lsm_names.specs.declared.file_names.FileName.TheVariants.{Log}
use Rattle.lsm_rows.specs.Replay.{sequence_after}
use Rattle.lsm_disk.specs.State.{Story, state_of, file_now, file_at, bytes_of}
use Rattle.lsm_disk.specs.Refusals.{no_file}
use Rattle.lsm_disk.specs.Answers.{RefusesBy}
use Rattle.lsm_wal.specs.Reading.{IsReading, IsTrouble, At_end, open_end}
use Rattle.lsm_folder.proofs.ReadLogLemmas.{this_log}
use Rattle.lsm_recover.specs.declared.errors.FolderError.TheVariants.{Missing}
use Rattle.lsm_folder.specs.Files as folder
use Rattle.lsm_recover.specs.Answers.{files_now}
use Rattle.lsm_recover.proofs.OpenLemmas.{where_told, told_that}
use Rattle.lsm_recover.proofs.PartLemmas.{is_there, is_missing}
use Rattle.lsm_recover.proofs.LogPartLemmas.{log_there, log_answered, log_not_opened, log_refused}
use Rattle.lsm_recover.proofs.logs.read_log.Goals as goal

pub returns-in-Ok-read_wal-clause-answer : goal.returns-in-Ok-read_wal-clause-answer
returns-in-Ok-read_wal-clause-answer g c =
    let dir = c.args.dir.now in
    let path = c.file_path-path.result in
    let log = c.in-Ok-read_wal.log in
    let told = (g.D.Disk.seen c.args.disk.now).told in
    where_told told _
    (λ story is small.
    let bytes = bytes_of (file_now path (state_of story)) in
    let same : c.saturating_add.result ≡ c.args.last + 1 = omega (arith, small, c.saturating_add.ensures) in
    let tells = told_that told _ story is c.in-Ok.ensures.tells in
    let there = is_there dir story (path_has_bytes dir c.file_path-path.ensures.folder) path (Log c.args.number) c.requires.number c.file_path-path.ensures.path (told_that told (λ (x : Story). no_file path (state_of x) ≡ None) story is c.in-Ok.ensures.there) in
    let reads = subst (λ (e : ℕ). IsReading e bytes log.batches (At_end (open_end log.torn))) same (c.in-Ok-read_wal.ensures.read bytes tells) in
    let ends = c.in-Ok-read_wal.ensures.last ∙ ap (λ (e : ℕ). sequence_after e log.batches) same in
    log_there _ _ there c.args.last c.args.rows.now _ c.take_log.result
    (log_answered c.args.is_last c.args.number c.args.last bytes small log.batches log.torn log.last c.args.rows.now _ reads ends c.take_log.result c.take_log.ensures.taken c.take_log.ensures.rows c.take_log.ensures.refused))

pub returns-in-Err-read_wal-clause-answer : goal.returns-in-Err-read_wal-clause-answer
returns-in-Err-read_wal-clause-answer g c =
    let dir = c.args.dir.now in
    let path = c.file_path-path.result in
    let why = c.in-Err-read_wal.error.why in
    let told = (g.D.Disk.seen c.args.disk.now).told in
    where_told told _
    (λ story is small.
    let bytes = bytes_of (file_now path (state_of story)) in
    let same : c.saturating_add.result ≡ c.args.last + 1 = omega (arith, small, c.saturating_add.ensures) in
    let tells = told_that told _ story is c.in-Ok.ensures.tells in
    let there = is_there dir story (path_has_bytes dir c.file_path-path.ensures.folder) path (Log c.args.number) c.requires.number c.file_path-path.ensures.path (told_that told (λ (x : Story). no_file path (state_of x) ≡ None) story is c.in-Ok.ensures.there) in
    let trouble = subst (λ (e : ℕ). IsTrouble e bytes why) same (c.in-Err-read_wal.ensures.trouble bytes tells) in
    log_there _ _ there c.args.last c.args.rows.now _ _
    (log_refused c.args.is_last c.args.number (c.args.last + 1) bytes why c.error_of.result c.error_of.ensures trouble))

pub returns-in-Err-clause-answer : goal.returns-in-Err-clause-answer
returns-in-Err-clause-answer g c =
    let dir = c.args.dir.now in
    let path = c.file_path-path.result in
    let refused = c.in-Err.refused in
    let told = (g.D.Disk.seen c.args.disk.now).told in
    where_told told _
    (λ story is small.
    let some = path_has_bytes dir c.file_path-path.ensures.folder in
    let why = told_that told (λ (x : Story). RefusesBy (no_file path (state_of x)) refused.why) story is c.in-Err.ensures.refused in
    let held = folder.file_at (files_now dir story) (Log c.args.number) in
    let read = λ (text : List ℕ). this_log c.args.is_last c.args.number (c.args.last + 1) text in
    log_not_opened held read c.args.last c.args.rows.now (Missing (Log c.args.number)) refused (is_some (file_at (state_of story) path)) c.error_by.result c.error_by.ensures why
    (λ none. is_missing dir story some path (Log c.args.number) c.requires.number c.file_path-path.ensures.path none))
