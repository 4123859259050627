-- Each exit, by what the calls before it told.
use Rattle.std.proofs.Common.{◌≡◌, None, subst}
use Rattle.std.specs.Prelude.{Result}
use Rattle.lsm_names.proofs.PathLemmas.{path_has_bytes}
use Rattle.lsm_disk.specs.State.{Story, state_of, file_now, bytes_of}
use Rattle.lsm_disk.specs.Refusals.{no_file}
use Rattle.lsm_disk.specs.Answers.{RefusesBy}
use Rattle.lsm_folder.specs.declared.refusals.Refusal.{Refusal}
use Rattle.lsm_folder.specs.Tables.{TableRead}
use Rattle.lsm_recover.specs.Tables.{AnswersTable}
use Rattle.lsm_recover.proofs.OpenLemmas.{where_told, told_that}
use Rattle.lsm_recover.proofs.PartLemmas.{table_said_here, table_refused}
use Rattle.lsm_recover.proofs.tables.read_table.Goals as goal

pub returns-in-Ok-clause-answer : goal.returns-in-Ok-clause-answer
returns-in-Ok-clause-answer g c =
    let dir = c.args.dir.now in
    let path = c.file_path-path.result in
    let told = (g.D.Disk.seen c.args.disk.now).told in
    where_told told _
    (λ story is.
    let there = told_that told (λ (x : Story). no_file path (state_of x) ≡ None) story is c.in-Ok.ensures.there in
    let tells = told_that told _ story is c.in-Ok.ensures.tells in
    subst (λ (read : Result TableRead Refusal). AnswersTable read c.args.rows.now c.read_whole-walked.new.rows c.read_whole-walked.result.read)
    (table_said_here dir story (path_has_bytes dir c.file_path-path.ensures.folder) path c.args.number c.args.placed.now c.requires.number c.file_path-path.ensures.path there)
    (c.read_whole-walked.ensures.answer (bytes_of (file_now path (state_of story))) tells))

pub returns-in-Err-clause-answer : goal.returns-in-Err-clause-answer
returns-in-Err-clause-answer g c =
    let dir = c.args.dir.now in
    let path = c.file_path-path.result in
    let told = (g.D.Disk.seen c.args.disk.now).told in
    where_told told _
    (λ story is.
    table_refused dir story (path_has_bytes dir c.file_path-path.ensures.folder) path c.args.number c.args.placed.now c.in-Err.refused c.error_by.result c.error_by.ensures c.requires.number c.file_path-path.ensures.path
    (told_that told (λ (x : Story). RefusesBy (no_file path (state_of x)) c.in-Err.refused.why) story is c.in-Err.ensures.refused))
