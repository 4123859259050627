-- Each exit behind the listing, by what the calls before it told.
use Rattle.std.proofs.Common.{◌≡◌, ◌∙◌, sym, subst}
use Rattle.std.specs.Prelude.{is_some, List}
use Rattle.lsm_disk.specs.Names.{stands}
use Rattle.lsm_disk.specs.State.{Story, state_of, names_now}
use Rattle.lsm_disk.specs.declared.listing.Entry.{Entry}
use Rattle.lsm_recover.specs.Listed.{IsListing}
use Rattle.lsm_recover.specs.Site.{AnswersSite, AnswersSiteOf, IsSiteRefusal, IsNotListed}
use Rattle.lsm_recover.proofs.OpenLemmas.{where_told, told_that}
use Rattle.lsm_recover.proofs.SiteAnswers.{site_answered, not_listed}
use Rattle.lsm_recover.proofs.site.find_site.Goals as goal

pub returns-in-Ok-clause-site : goal.returns-in-Ok-clause-site
returns-in-Ok-clause-site g c =
    let dir = c.args.dir.now in
    let seen = g.D.Disk.seen in
    let told = (seen c.args.disk.now).told in
    let entries = c.in-Ok.listing in
    where_told told (λ (story : Story). AnswersSite dir story c.site_in.result)
    (λ story is. site_answered dir c.requires c.list_taken.ensures.path story entries
    (told_that (seen c.is_taken.new.disk).told (λ (x : Story). IsListing dir x entries) story (c.in-Ok-true.ensures.told ∙ is)
    c.in-Ok.ensures.folder)
    c.site_in.result
    (subst (λ (es : List Entry). AnswersSiteOf dir es c.site_in.result) c.as_slice.ensures c.site_in.ensures.site))

pub returns-in-Err-list_taken-clause-site : goal.returns-in-Err-list_taken-clause-site
returns-in-Err-list_taken-clause-site g c =
    let dir = c.args.dir.now in
    let seen = g.D.Disk.seen in
    let told = (seen c.args.disk.now).told in
    let error = c.in-Err-list_taken.error in
    where_told told (λ (story : Story). IsSiteRefusal dir story error)
    (λ story is. not_listed dir story
    (sym c.in-Ok-true.field-0-test ∙ told_that told (λ (x : Story). c.in-Ok-true.field-0 ≡ is_some (stands (names_now (state_of x)) dir)) story is
    c.in-Ok-true.ensures.taken)
    error
    (told_that (seen c.is_taken.new.disk).told (λ (x : Story). IsNotListed dir x error) story (c.in-Ok-true.ensures.told ∙ is)
    c.in-Err-list_taken.ensures.refused))
