-- Each exit, by what the parts before it told.
use Rattle.std.proofs.Common.{◌≡◌, ◌∙◌, ◌+◌, ℕ, List, [], Ok, sym, subst}
use Rattle.std.specs.FinMap as finmap
use Rattle.std.proofs.lemmas.Result.{err_from_is_err_and}
use Rattle.lsm_rows.specs.declared.rows.Row.{Row}
use Rattle.lsm_disk.specs.State.{Story}
use Rattle.lsm_folder.specs.Logs.{all_batches, logs_of}
use Rattle.lsm_recover.specs.Answers.{IsRefusedBy, place_now, files_now}
use Rattle.lsm_recover.specs.Head.{IsHead}
use Rattle.lsm_recover.specs.Listed.{IsListing}
use Rattle.lsm_recover.specs.Logs.{Replays}
use Rattle.lsm_recover.specs.Opening.{IsOpenBehind, all_opened, opening}
use Rattle.lsm_recover.proofs.OpenLemmas.{where_told, told_that}
use Rattle.lsm_recover.proofs.OpeningLemmas.{tables_refuse_opening, logs_refuse_opening, logs_open}
use Rattle.lsm_recover.proofs.opened.open_parts.Goals as goal

pub returns-in_err-open_tables-clause-refused : goal.returns-in_err-open_tables-clause-refused
returns-in_err-open_tables-clause-refused g c =
    let dir = c.args.dir.now in
    let told = (g.D.Disk.seen c.args.disk.now).told in
    let head = c.args.head.now in
    let error = c.in_err-open_tables.field-0.0 in
    let p = err_from_is_err_and c.from_residual.result c.from_residual.ensures.1 in
    rw (p.1, p.2) (where_told told (λ (story : Story). IsHead dir story head → IsRefusedBy (opening (place_now dir story)) error)
    (λ story is of. tables_refuse_opening dir story head of error
    (told_that told (λ (x : Story). IsRefusedBy (all_opened (files_now dir x) (finmap.entries head.stated.version)) error) story is c.in_err-open_tables.ensures.refused)))

pub returns-in_err-sequence-clause-refused : goal.returns-in_err-sequence-clause-refused
returns-in_err-sequence-clause-refused g c =
    let dir = c.args.dir.now in
    let seen = g.D.Disk.seen in
    let told = (seen c.args.disk.now).told in
    let head = c.args.head.now in
    let error = c.in_err-sequence.field-0.0 in
    let p = err_from_is_err_and c.from_residual-in_err-sequence.result c.from_residual-in_err-sequence.ensures.1 in
    rw (p.1, p.2) (where_told told (λ (story : Story). IsHead dir story head → IsRefusedBy (opening (place_now dir story)) error)
    (λ story is of.
    let opens = told_that told (λ (x : Story). IsOpenBehind (files_now dir x) (finmap.entries head.stated.version) c.args.tables.now c.open_tables.new.tables) story is c.in_ok-open_tables.ensures.opened in
    let says = told_that (seen c.open_tables.new.disk).told (λ (x : Story). IsListing dir x c.as_slice-entries.result.now → IsRefusedBy (all_batches (head.stated.last + 1) (finmap.entries (logs_of head.stated.log (files_now dir x)))) error) story (c.in_ok-open_tables.ensures.told ∙ is) c.in_err-sequence.ensures.answer in
    logs_refuse_opening dir story head of c.args.tables.now c.open_tables.new.tables opens error (says (subst (IsListing dir story) (sym c.as_slice-entries.ensures) of.listed))))

pub returns-clause-opened : goal.returns-clause-opened
returns-clause-opened g c =
    let dir = c.args.dir.now in
    let seen = g.D.Disk.seen in
    let told = (seen c.args.disk.now).told in
    let head = c.args.head.now in
    let rows = c.read_logs.new.rows in
    let sequence = c.in_ok-sequence.sequence in
    where_told told (λ (story : Story). IsHead dir story head → opening (place_now dir story) ≡ Ok (record { sequence = sequence; rows = rows }))
    (λ story is of.
    let opens = told_that told (λ (x : Story). IsOpenBehind (files_now dir x) (finmap.entries head.stated.version) c.args.tables.now c.open_tables.new.tables) story is c.in_ok-open_tables.ensures.opened in
    let read = told_that (seen c.open_tables.new.disk).told
    (λ (x : Story). IsListing dir x c.as_slice-entries.result.now → Replays head.stated.last (all_batches (head.stated.last + 1) (finmap.entries (logs_of head.stated.log (files_now dir x)))) (λ (_ : ℕ). Ok []) c.new-rows.result rows sequence)
    story (c.in_ok-open_tables.ensures.told ∙ is) c.in_ok-sequence.ensures.answer in
    let replays = subst (λ (before : List Row). Replays head.stated.last (all_batches (head.stated.last + 1) (finmap.entries (logs_of head.stated.log (files_now dir story)))) (λ (_ : ℕ). Ok []) before rows sequence) c.new-rows.ensures
    (read (subst (IsListing dir story) (sym c.as_slice-entries.ensures) of.listed)) in
    logs_open dir story head of c.args.tables.now c.open_tables.new.tables opens rows sequence replays)
