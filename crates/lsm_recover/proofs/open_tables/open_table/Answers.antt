-- Each exit, by what the calls before it told.
use Rattle.std.proofs.Common.{◌≡◌, None}
use Rattle.lsm_names.proofs.PathLemmas.{path_has_bytes}
use Rattle.lsm_disk.specs.State.{Story, state_of, file_now, bytes_of}
use Rattle.lsm_disk.specs.Refusals.{no_file}
use Rattle.lsm_disk.specs.Answers.{RefusesBy}
use Rattle.lsm_recover.proofs.OpenLemmas.{where_told, told_that}
use Rattle.lsm_recover.proofs.PartLemmas.{open_on, open_refused, file_refused}
use Rattle.lsm_recover.proofs.open_tables.open_table.Goals as goal

pub returns-in-Ok-open_view-clause-opened : goal.returns-in-Ok-open_view-clause-opened
returns-in-Ok-open_view-clause-opened g c =
    let dir = c.args.dir.now in
    let path = c.file_path-path.result in
    let told = (g.D.Disk.seen c.args.disk.now).told in
    where_told told _
    (λ story is.
    let there = told_that told (λ (x : Story). no_file path (state_of x) ≡ None) story is c.in-Ok.ensures.there in
    let tells = told_that told _ story is c.in-Ok.ensures.tells in
    open_on dir story (path_has_bytes dir c.file_path-path.ensures.folder) path c.args.number c.args.placed.now c.requires.number c.file_path-path.ensures.path _ c.in-Ok-open_view.table there tells c.in-Ok-open_view.ensures.kept
    (c.in-Ok-open_view.ensures.opened (bytes_of (file_now path (state_of story))) tells))

pub returns-in-Err-open_view-clause-refused : goal.returns-in-Err-open_view-clause-refused
returns-in-Err-open_view-clause-refused g c =
    let dir = c.args.dir.now in
    let path = c.file_path-path.result in
    let told = (g.D.Disk.seen c.args.disk.now).told in
    where_told told _
    (λ story is.
    let there = told_that told (λ (x : Story). no_file path (state_of x) ≡ None) story is c.in-Ok.ensures.there in
    let tells = told_that told _ story is c.in-Ok.ensures.tells in
    open_refused dir story (path_has_bytes dir c.file_path-path.ensures.folder) path c.args.number c.args.placed.now c.requires.number c.file_path-path.ensures.path c.in-Err-open_view.refused.why there
    (c.in-Err-open_view.ensures.refused (bytes_of (file_now path (state_of story))) tells))

pub returns-in-Err-clause-refused : goal.returns-in-Err-clause-refused
returns-in-Err-clause-refused g c =
    let dir = c.args.dir.now in
    let path = c.file_path-path.result in
    let told = (g.D.Disk.seen c.args.disk.now).told in
    where_told told _
    (λ story is. file_refused dir story (path_has_bytes dir c.file_path-path.ensures.folder) path c.args.number c.args.placed.now c.requires.number c.file_path-path.ensures.path c.in-Err.refused c.error_by.result c.error_by.ensures
    (told_that told (λ (x : Story). RefusesBy (no_file path (state_of x)) c.in-Err.refused.why) story is c.in-Err.ensures.refused))
