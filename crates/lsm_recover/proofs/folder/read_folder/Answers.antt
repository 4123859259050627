-- Each exit, by what the parts before it told.
use Rattle.std.proofs.Common.{◌∙◌, ◌+◌, ℕ, List, [], Ok, sym, subst, rules}
use Rattle.std.specs.FinMap as finmap
use Rattle.lsm_rows.specs.declared.rows.Row.{Row}
use Rattle.lsm_disk.specs.State.{Story}
use Rattle.lsm_folder.specs.Logs.{all_batches, logs_of}
use Rattle.lsm_folder.specs.Reading.{reading, tables_in}
use Rattle.lsm_recover.specs.Answers.{IsRefusedBy, place_now, files_now}
use Rattle.lsm_recover.specs.Gathered.{Gathered}
use Rattle.lsm_recover.specs.Head.{edits_there, IsHead}
use Rattle.lsm_recover.specs.Listed.{IsListing}
use Rattle.lsm_recover.specs.Logs.{Replays}
use Rattle.lsm_recover.specs.Shown.{AnswersShown}
use Rattle.lsm_recover.specs.Tables.{GathersTables}
use Rattle.lsm_recover.proofs.OpenLemmas.{where_told, told_that}
use Rattle.lsm_recover.proofs.FolderLemmas.{head_refuses, tables_refuse, logs_refuse, found_answers, found_of}
use Rattle.lsm_recover.proofs.folder.read_folder.Goals as goal

pub returns-in_err-head-clause-answer : goal.returns-in_err-head-clause-answer
returns-in_err-head-clause-answer g c =
    let dir = c.args.dir.now in
    let told = (g.D.Disk.seen c.args.disk.now).told in
    let error = c.in_err-head.field-0.0 in
    let refused = where_told told (λ (story : Story). IsRefusedBy (reading (place_now dir story)) error)
    (λ story is. head_refuses (place_now dir story) error (told_that told (λ (x : Story). IsRefusedBy (edits_there (place_now dir x)) error) story is c.in_err-head.ensures.answer)) in
    search (rules, refused)

pub returns-in_err-read_tables-clause-answer : goal.returns-in_err-read_tables-clause-answer
returns-in_err-read_tables-clause-answer g c =
    let dir = c.args.dir.now in
    let seen = g.D.Disk.seen in
    let told = (seen c.args.disk.now).told in
    let head = c.in_ok-head.head in
    let error = c.in_err-read_tables.field-0.0 in
    let refused = where_told told (λ (story : Story). IsRefusedBy (reading (place_now dir story)) error)
    (λ story is.
    let of = told_that told (λ (x : Story). IsHead dir x head) story is c.in_ok-head.ensures.answer in
    tables_refuse dir story head of error
    (told_that (seen c.read_head.new.disk).told (λ (x : Story). IsRefusedBy (tables_in (files_now dir x) (finmap.entries head.stated.version)) error) story (c.in_ok-head.ensures.told ∙ is) c.in_err-read_tables.ensures.answer)) in
    search (rules, refused)

pub returns-in_err-sequence-clause-answer : goal.returns-in_err-sequence-clause-answer
returns-in_err-sequence-clause-answer g c =
    let dir = c.args.dir.now in
    let seen = g.D.Disk.seen in
    let told = (seen c.args.disk.now).told in
    let head = c.in_ok-head.head in
    let newest = c.read_tables.new.rows in
    let error = c.in_err-sequence.field-0.0 in
    let refused = where_told told (λ (story : Story). IsRefusedBy (reading (place_now dir story)) error)
    (λ story is.
    let of = told_that told (λ (x : Story). IsHead dir x head) story is c.in_ok-head.ensures.answer in
    let headed = c.in_ok-head.ensures.told ∙ is in
    let gathers = told_that (seen c.read_head.new.disk).told (λ (x : Story). GathersTables (tables_in (files_now dir x) (finmap.entries head.stated.version)) c.new-newest.result newest) story headed c.in_ok-read_tables.ensures.answer in
    let says = told_that (seen c.read_tables.new.disk).told (λ (x : Story). IsListing dir x c.as_slice.result.now → IsRefusedBy (all_batches (head.stated.last + 1) (finmap.entries (logs_of head.stated.log (files_now dir x)))) error) story (c.in_ok-read_tables.ensures.told ∙ headed) c.in_err-sequence.ensures.answer in
    logs_refuse dir story head of newest (subst (λ (before : Gathered). GathersTables (tables_in (files_now dir story) (finmap.entries head.stated.version)) before newest) c.new-newest.ensures gathers) error
    (says (subst (IsListing dir story) (sym c.as_slice.ensures) of.listed))) in
    search (rules, refused)

pub returns-clause-answer : goal.returns-clause-answer
returns-clause-answer g c =
    let dir = c.args.dir.now in
    let seen = g.D.Disk.seen in
    let told = (seen c.args.disk.now).told in
    let head = c.in_ok-head.head in
    let newest = c.read_tables.new.rows in
    let rows = c.read_logs.new.rows in
    let sequence = c.in_ok-sequence.sequence in
    where_told told (λ (story : Story). AnswersShown (reading (place_now dir story)) c.found_by.result)
    (λ story is.
    let of = told_that told (λ (x : Story). IsHead dir x head) story is c.in_ok-head.ensures.answer in
    let headed = c.in_ok-head.ensures.told ∙ is in
    let gathers = told_that (seen c.read_head.new.disk).told (λ (x : Story). GathersTables (tables_in (files_now dir x) (finmap.entries head.stated.version)) c.new-newest.result newest) story headed c.in_ok-read_tables.ensures.answer in
    let read = told_that (seen c.read_tables.new.disk).told
    (λ (x : Story). IsListing dir x c.as_slice.result.now → Replays head.stated.last (all_batches (head.stated.last + 1) (finmap.entries (logs_of head.stated.log (files_now dir x)))) (λ (_ : ℕ). Ok []) c.new-rows.result rows sequence)
    story (c.in_ok-read_tables.ensures.told ∙ headed) c.in_ok-sequence.ensures.answer in
    let replays = subst (λ (before : List Row). Replays head.stated.last (all_batches (head.stated.last + 1) (finmap.entries (logs_of head.stated.log (files_now dir story)))) (λ (_ : ℕ). Ok []) before rows sequence) c.new-rows.ensures
    (read (subst (IsListing dir story) (sym c.as_slice.ensures) of.listed)) in
    found_answers dir story head of newest (subst (λ (before : Gathered). GathersTables (tables_in (files_now dir story) (finmap.entries head.stated.version)) before newest) c.new-newest.ensures gathers)
    rows sequence replays c.found_by.result c.found_by.ensures.contents c.found_by.ensures.sequence c.found_by.ensures.refused)

pub returns-clause-found : goal.returns-clause-found
returns-clause-found g c =
    let dir = c.args.dir.now in
    let told = (g.D.Disk.seen c.args.disk.now).told in
    let head = c.in_ok-head.head in
    found_of dir told head c.found_by.result (λ story is. told_that told (λ (x : Story). IsHead dir x head) story is c.in_ok-head.ensures.answer)
    c.found_by.ensures.version c.found_by.ensures.log c.found_by.ensures.next c.found_by.ensures.names
