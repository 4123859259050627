-- Each exit, by what the calls before it told.
use Rattle.std.proofs.Common.{◌≡◌, None, sym, subst}
use Rattle.lsm_names.proofs.PathLemmas.{path_has_bytes}
use Rattle.lsm_disk.specs.State.{Story, state_of, file_now, bytes_of}
use Rattle.lsm_disk.specs.Refusals.{no_file}
use Rattle.lsm_disk.specs.Answers.{RefusesBy}
use Rattle.lsm_frame.specs.Reader.{Reader, Tells}
use Rattle.lsm_folder.specs.Reading.{edits_of}
use Rattle.lsm_recover.specs.Answers.{IsRefusedBy, files_now}
use Rattle.lsm_recover.specs.Stated.{AnswersStated}
use Rattle.lsm_recover.proofs.OpenLemmas.{where_told, told_that}
use Rattle.lsm_recover.proofs.PartLemmas.{manifest_said, manifest_refused}
use Rattle.lsm_recover.proofs.manifest.read_manifest.Goals as goal

pub returns-in-Ok-clause-answer : goal.returns-in-Ok-clause-answer
returns-in-Ok-clause-answer g c =
    let dir = c.args.dir.now in
    let path = c.file_path-path.result in
    let told = (g.D.Disk.seen c.args.disk.now).told in
    where_told told (λ (story : Story). AnswersStated (edits_of (files_now dir story) c.args.number) c.read_edits-stated.result)
    (λ story is.
    let text = bytes_of (file_now path (state_of story)) in
    let tells = told_that told _ story is c.in-Ok.ensures.tells in
    manifest_said dir story (path_has_bytes dir c.file_path-path.ensures.folder) path c.args.number c.read_edits-stated.result c.requires.number c.file_path-path.ensures.path
    (told_that told (λ (x : Story). no_file path (state_of x) ≡ None) story is c.in-Ok.ensures.there)
    (c.read_edits-stated.ensures.answer text (subst (λ (r : Reader). Tells r.viewed text) (sym c.new-reader.ensures) tells)))

pub returns-in-Err-clause-answer : goal.returns-in-Err-clause-answer
returns-in-Err-clause-answer g c =
    let dir = c.args.dir.now in
    let path = c.file_path-path.result in
    let told = (g.D.Disk.seen c.args.disk.now).told in
    where_told told (λ (story : Story). IsRefusedBy (edits_of (files_now dir story) c.args.number) c.error_by.result)
    (λ story is. subst (IsRefusedBy (edits_of (files_now dir story) c.args.number)) (sym c.error_by.ensures)
    (manifest_refused dir story (path_has_bytes dir c.file_path-path.ensures.folder) path c.args.number c.in-Err.refused c.requires.number c.file_path-path.ensures.path
    (told_that told (λ (x : Story). RefusesBy (no_file path (state_of x)) c.in-Err.refused.why) story is c.in-Err.ensures.refused)))
