-- Each exit, by what the calls before it told.
use Rattle.std.proofs.Common.{◌≡◌, ◌∙◌, sym, subst}
use Rattle.std.specs.Prelude.{length}
use Rattle.lsm_disk.specs.State.{Story, state_of, file_now, bytes_of}
use Rattle.lsm_disk.specs.Refusals.{no_file, no_view}
use Rattle.lsm_disk.specs.Answers.{RefusesBy}
use Rattle.lsm_recover.proofs.OpenLemmas.{where_told, told_that, view_refused, view_tells}
use Rattle.lsm_recover.proofs.opening.open_whole.Goals as goal

pub returns-in-Ok-open-clause-tells : goal.returns-in-Ok-open-clause-tells
returns-in-Ok-open-clause-tells g c =
    let path = c.args.path.now in
    let told = (g.D.Disk.seen c.args.disk.now).told in
    let now = (g.D.Disk.seen c.size.new.self).told in
    where_told told _
    (λ story is. view_tells path story now c.in-Ok.size _ (c.in-Ok.ensures.did ∙ is) c.in-Ok-open.ensures.view
    (told_that told (λ (x : Story). c.in-Ok.size ≡ length (bytes_of (file_now path (state_of x)))) story is c.in-Ok.ensures.size))

pub returns-in-Err-open-clause-refused : goal.returns-in-Err-open-clause-refused
returns-in-Err-open-clause-refused g c =
    let path = c.args.path.now in
    let told = (g.D.Disk.seen c.args.disk.now).told in
    let now = (g.D.Disk.seen c.size.new.self).told in
    where_told told (λ (story : Story). RefusesBy (no_file path (state_of story)) c.refusal.result.why)
    (λ story is.
    let whole = told_that told (λ (x : Story). c.in-Ok.size ≡ length (bytes_of (file_now path (state_of x)))) story is c.in-Ok.ensures.size in
    let refused = told_that now (λ (x : Story). RefusesBy (no_view path c.in-Ok.size (state_of x)) c.in-Err-open.why) story (c.in-Ok.ensures.did ∙ is) c.in-Err-open.ensures.answer in
    subst (RefusesBy (no_file path (state_of story))) (sym c.refusal.ensures.why) (view_refused path (state_of story) c.in-Ok.size whole c.in-Err-open.why refused))
