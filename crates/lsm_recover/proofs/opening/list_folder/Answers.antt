-- Each exit, by what the call told.
use Rattle.std.proofs.Common.{◌≡◌, None, inl, refl, sym, subst}
use Rattle.lsm_disk.specs.State.{Story, state_of, names_now}
use Rattle.lsm_disk.specs.Listing.{listing}
use Rattle.lsm_disk.specs.Refusals.{no_folder}
use Rattle.lsm_disk.specs.Answers.{RefusesBy, HasRisen}
use Rattle.lsm_recover.specs.declared.errors.FolderError.TheVariants.{NoFolder}
use Rattle.lsm_recover.specs.Answers.{IsRefusedBy, place_now}
use Rattle.lsm_recover.specs.Head.{edits_there}
use Rattle.lsm_recover.specs.Listed.{IsListing}
use Rattle.lsm_recover.proofs.OpenLemmas.{where_told, told_that}
use Rattle.lsm_recover.proofs.DiskLemmas.{list_refused, folder_there}
use Rattle.lsm_recover.proofs.CauseLemmas.{call_cause}
use Rattle.lsm_recover.proofs.opening.list_folder.Goals as goal

pub returns-in-Ok-clause-folder : goal.returns-in-Ok-clause-folder
returns-in-Ok-clause-folder g c =
    let dir = c.args.dir.now in
    let told = (g.D.Disk.seen c.args.disk.now).told in
    where_told told (λ (story : Story). IsListing dir story c.in-Ok.listing)
    (λ story is. record {
      folder = folder_there dir (state_of story) (told_that told (λ (x : Story). no_folder dir (state_of x) ≡ None) story is c.in-Ok.ensures.answer);
      entries_are = told_that told (λ (x : Story). c.in-Ok.listing ≡ listing dir (names_now (state_of x))) story is c.in-Ok.ensures.listed;
    })

pub returns-in-Err-clause-refused : goal.returns-in-Err-clause-refused
returns-in-Err-clause-refused g c =
    let dir = c.args.dir.now in
    let told = (g.D.Disk.seen c.args.disk.now).told in
    where_told told (λ (story : Story). IsRefusedBy (edits_there (place_now dir story)) c.error_by.result)
    (λ story is. list_refused dir (state_of story) c.refusal.result c.error_by.result c.error_by.ensures
    (subst (RefusesBy (no_folder dir (state_of story))) (sym c.refusal.ensures.why) (told_that told (λ (x : Story). RefusesBy (no_folder dir (state_of x)) c.in-Err.why) story is c.in-Err.ensures.answer)))

pub returns-in-Err-clause-cause : goal.returns-in-Err-clause-cause
returns-in-Err-clause-cause g c =
    let seen = g.D.Disk.seen in
    let old = seen c.args.disk.now in
    let new = seen c.list.new.self in
    let cause = c.in-Err.ensures.cause in
    call_cause c.args.dir.now old new (NoFolder c.args.dir.now) c.refusal.result c.error_by.result c.error_by.ensures (inl c.refusal.ensures.made)
    cause.faults_later cause.refusals_later
    (subst (HasRisen old new) (sym c.refusal.ensures.why) cause.counted) (λ rose. (refl, rose))
