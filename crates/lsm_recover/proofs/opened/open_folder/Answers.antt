-- Each exit, by what the parts before it told.
use Rattle.std.specs.Prelude.{All}
use Rattle.std.proofs.Common.{◌≡◌, ◌∙◌, ℕ, Ok, refl, sym, subst}
use Rattle.std.specs.FinMap as finmap
use Rattle.std.proofs.lemmas.Result.{err_from_is_err_and}
use Rattle.lsm_names.specs.FileNames.{IsFileName}
use Rattle.lsm_disk.specs.State.{Story}
use Rattle.lsm_recover.specs.Answers.{IsRefusedBy, place_now, files_now}
use Rattle.lsm_recover.specs.Head.{edits_there, IsHead}
use Rattle.lsm_recover.specs.Opening.{AreOpenOn, IsOpenBehind, opening}
use Rattle.lsm_recover.specs.Shown.{IsOfFolder}
use Rattle.lsm_recover.specs.Listed.{AreBefore, names_in, next_number}
use Rattle.lsm_recover.proofs.BehindLemmas.{names_before}
use Rattle.lsm_recover.proofs.EntryLemmas.{names_fit}
use Rattle.lsm_recover.proofs.OpenLemmas.{where_told, told_that}
use Rattle.lsm_recover.proofs.FolderLemmas.{of_folder}
use Rattle.lsm_recover.proofs.OpeningLemmas.{head_refuses_opening, only_these_open, next_told}
use Rattle.lsm_recover.proofs.opened.open_folder.Goals as goal

pub returns-in_err-head-clause-refused : goal.returns-in_err-head-clause-refused
returns-in_err-head-clause-refused g c =
    let dir = c.args.dir.now in
    let told = (g.D.Disk.seen c.args.disk.now).told in
    let error = c.in_err-head.field-0.0 in
    let p = err_from_is_err_and c.from_residual.result c.from_residual.ensures.1 in
    rw (p.1, p.2) (where_told told (λ (story : Story). IsRefusedBy (opening (place_now dir story)) error)
    (λ story is. head_refuses_opening (place_now dir story) error (told_that told (λ (x : Story). IsRefusedBy (edits_there (place_now dir x)) error) story is c.in_err-head.ensures.answer)))

pub returns-in-Ok-clause-opened : goal.returns-in-Ok-clause-opened
returns-in-Ok-clause-opened g c =
    let dir = c.args.dir.now in
    let seen = g.D.Disk.seen in
    let told = (seen c.args.disk.now).told in
    let head = c.in_ok-head.head in
    let parts = c.in-Ok.parts in
    where_told told (λ (story : Story). opening (place_now dir story) ≡ Ok (record { sequence = parts.sequence; rows = parts.rows }))
    (λ story is.
    let of = told_that told (λ (x : Story). IsHead dir x head) story is c.in_ok-head.ensures.answer in
    told_that (seen c.read_head.new.disk).told (λ (x : Story). IsHead dir x head → opening (place_now dir x) ≡ Ok (record { sequence = parts.sequence; rows = parts.rows })) story (c.in_ok-head.ensures.told ∙ is) c.in-Ok.ensures.opened of)

pub returns-in-Ok-clause-tables : goal.returns-in-Ok-clause-tables
returns-in-Ok-clause-tables g c =
    let dir = c.args.dir.now in
    let seen = g.D.Disk.seen in
    let told = (seen c.args.disk.now).told in
    let head = c.in_ok-head.head in
    let after = c.open_parts.new.tables in
    where_told told (λ (story : Story). AreOpenOn (files_now dir story) (finmap.entries head.stated.version) after)
    (λ story is.
    let opens = told_that (seen c.read_head.new.disk).told (λ (x : Story). IsOpenBehind (files_now dir x) (finmap.entries head.stated.version) c.new-tables.result after) story (c.in_ok-head.ensures.told ∙ is) c.in-Ok.ensures.tables in
    only_these_open (files_now dir story) (finmap.entries head.stated.version) c.new-tables.result after c.new-tables.ensures opens)

pub returns-in-Ok-clause-found : goal.returns-in-Ok-clause-found
returns-in-Ok-clause-found g c =
    let dir = c.args.dir.now in
    let told = (g.D.Disk.seen c.args.disk.now).told in
    let head = c.in_ok-head.head in
    let parts = c.in-Ok.parts in
    where_told told (λ (story : Story). IsOfFolder dir story head.stated.version head.stated.log c.next_number-next.result parts.names)
    (λ story is.
    let of = told_that told (λ (x : Story). IsHead dir x head) story is c.in_ok-head.ensures.answer in
    of_folder dir story head of head.stated.version head.stated.log c.next_number-next.result parts.names refl refl
    (next_told head.stated.next c.as_slice.result.now head.listing c.next_number-next.result c.next_number-next.ensures c.as_slice.ensures) c.in-Ok.ensures.names)

pub returns-in-Err-clause-refused : goal.returns-in-Err-clause-refused
returns-in-Err-clause-refused g c =
    let dir = c.args.dir.now in
    let seen = g.D.Disk.seen in
    let told = (seen c.args.disk.now).told in
    let head = c.in_ok-head.head in
    let error = c.in-Err.error in
    where_told told (λ (story : Story). IsRefusedBy (opening (place_now dir story)) error)
    (λ story is.
    let of = told_that told (λ (x : Story). IsHead dir x head) story is c.in_ok-head.ensures.answer in
    told_that (seen c.read_head.new.disk).told (λ (x : Story). IsHead dir x head → IsRefusedBy (opening (place_now dir x)) error) story (c.in_ok-head.ensures.told ∙ is) c.in-Err.ensures.refused of)

pub returns-in-Ok-clause-behind : goal.returns-in-Ok-clause-behind
returns-in-Ok-clause-behind g c =
    let head = c.in_ok-head.head in
    let next = c.next_number-next.result in
    let names = c.in-Ok.parts.names in
    let is : next ≡ next_number head.stated.next head.listing =
    next_told head.stated.next c.as_slice.result.now head.listing next c.next_number-next.ensures c.as_slice.ensures in
    subst (λ (n : ℕ). AreBefore n names) (sym is)
    (subst (AreBefore (next_number head.stated.next head.listing)) (sym c.in-Ok.ensures.names)
    (names_before head.stated.next head.listing))

pub returns-in-Ok-clause-fit : goal.returns-in-Ok-clause-fit
returns-in-Ok-clause-fit g c = subst (All IsFileName) (sym c.in-Ok.ensures.names) (names_fit c.in_ok-head.head.listing)
