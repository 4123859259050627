-- Each exit, by what the calls before it told.
use Rattle.std.proofs.Common.{◌≡◌, None, refl, sym, subst}
use Rattle.lsm_names.proofs.PathLemmas.{path_has_bytes}
use Rattle.lsm_disk.specs.State.{Story, state_of, file_now, bytes_of}
use Rattle.lsm_disk.specs.Refusals.{no_file}
use Rattle.lsm_disk.specs.Answers.{RefusesBy}
use Rattle.lsm_folder.specs.Reading.{current_of}
use Rattle.lsm_recover.specs.declared.errors.FolderError.TheVariants.{NoCurrent}
use Rattle.lsm_recover.specs.Answers.{AnswersAs, IsRefusedBy, files_now}
use Rattle.lsm_recover.proofs.OpenLemmas.{where_told, told_that}
use Rattle.lsm_recover.proofs.CauseLemmas.{call_cause}
use Rattle.lsm_recover.proofs.PartLemmas.{current_said, current_refused}
use Rattle.lsm_recover.proofs.current.read_current.Goals as goal

pub returns-in-Ok-clause-answer : goal.returns-in-Ok-clause-answer
returns-in-Ok-clause-answer g c =
    let dir = c.args.dir.now in
    let path = c.file_path-path.result in
    let told = (g.D.Disk.seen c.args.disk.now).told in
    where_told told (λ (story : Story). AnswersAs (current_of (files_now dir story)) c.read_name-named.result)
    (λ story is. current_said dir story (path_has_bytes dir c.file_path-path.ensures.folder) path c.read_name-named.result c.file_path-path.ensures.path
    (told_that told (λ (x : Story). no_file path (state_of x) ≡ None) story is c.in-Ok.ensures.there)
    (c.read_name-named.ensures.answer (bytes_of (file_now path (state_of story))) (told_that told _ story is c.in-Ok.ensures.tells)))

pub returns-in-Err-clause-answer : goal.returns-in-Err-clause-answer
returns-in-Err-clause-answer g c =
    let dir = c.args.dir.now in
    let path = c.file_path-path.result in
    let told = (g.D.Disk.seen c.args.disk.now).told in
    where_told told (λ (story : Story). IsRefusedBy (current_of (files_now dir story)) c.error_by.result)
    (λ story is. subst (IsRefusedBy (current_of (files_now dir story))) (sym c.error_by.ensures)
    (current_refused dir story (path_has_bytes dir c.file_path-path.ensures.folder) path dir c.in-Err.refused c.file_path-path.ensures.path
    (told_that told (λ (x : Story). RefusesBy (no_file path (state_of x)) c.in-Err.refused.why) story is c.in-Err.ensures.refused)))

pub returns-in-Err-clause-cause : goal.returns-in-Err-clause-cause
returns-in-Err-clause-cause g c =
    let seen = g.D.Disk.seen in
    let cause = c.in-Err.ensures.cause in
    call_cause c.args.dir.now (seen c.args.disk.now) (seen c.open_whole.new.disk) (NoCurrent c.args.dir.now) c.in-Err.refused c.error_by.result c.error_by.ensures c.in-Err.ensures.made cause.faults_later cause.refusals_later cause.counted (λ rose. (refl, rose))
