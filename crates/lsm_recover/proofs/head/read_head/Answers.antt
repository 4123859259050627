-- Each exit, by what the parts before it told.
use Rattle.std.proofs.Common.{◌≡◌, ◌∙◌, Ok, rules}
use Rattle.lsm_disk.specs.State.{Story}
use Rattle.lsm_folder.specs.Reading.{current_of, edits_of}
use Rattle.lsm_recover.specs.Answers.{IsRefusedBy, place_now, files_now}
use Rattle.lsm_recover.specs.Head.{edits_there, IsHead}
use Rattle.lsm_recover.specs.Listed.{IsListing}
use Rattle.lsm_recover.specs.Stated.{GivesStated}
use Rattle.lsm_recover.proofs.OpenLemmas.{where_told, told_that}
use Rattle.lsm_recover.proofs.HeadLemmas.{current_refuses, manifest_refuses, manifest_gives}
use Rattle.lsm_recover.proofs.head.read_head.Goals as goal

pub returns-in_err-manifest-clause-answer : goal.returns-in_err-manifest-clause-answer
returns-in_err-manifest-clause-answer g c =
    let dir = c.args.dir.now in
    let seen = g.D.Disk.seen in
    let told = (seen c.args.disk.now).told in
    let entries = c.in_ok-listing.listing in
    let error = c.in_err-manifest.field-0.0 in
    let refused = where_told told (λ (story : Story). IsRefusedBy (edits_there (place_now dir story)) error)
    (λ story is.
    let listing = told_that told (λ (x : Story). IsListing dir x entries) story is c.in_ok-listing.ensures.folder in
    current_refuses dir story entries listing error
    (told_that (seen c.list_folder.new.disk).told (λ (x : Story). IsRefusedBy (current_of (files_now dir x)) error) story (c.in_ok-listing.ensures.told ∙ is) c.in_err-manifest.ensures.answer)) in
    search (rules, refused)

pub returns-in_err-stated-clause-answer : goal.returns-in_err-stated-clause-answer
returns-in_err-stated-clause-answer g c =
    let dir = c.args.dir.now in
    let seen = g.D.Disk.seen in
    let told = (seen c.args.disk.now).told in
    let entries = c.in_ok-listing.listing in
    let manifest = c.in_ok-manifest.manifest in
    let error = c.in_err-stated.field-0.0 in
    let refused = where_told told (λ (story : Story). IsRefusedBy (edits_there (place_now dir story)) error)
    (λ story is.
    let listing = told_that told (λ (x : Story). IsListing dir x entries) story is c.in_ok-listing.ensures.folder in
    let listed = c.in_ok-listing.ensures.told ∙ is in
    let current = told_that (seen c.list_folder.new.disk).told (λ (x : Story). current_of (files_now dir x) ≡ Ok manifest) story listed c.in_ok-manifest.ensures.answer in
    manifest_refuses dir story entries listing manifest current error
    (told_that (seen c.read_current.new.disk).told (λ (x : Story). IsRefusedBy (edits_of (files_now dir x) manifest) error) story (c.in_ok-manifest.ensures.told ∙ listed) c.in_err-stated.ensures.answer)) in
    search (rules, refused)

pub returns-clause-answer : goal.returns-clause-answer
returns-clause-answer g c =
    let dir = c.args.dir.now in
    let seen = g.D.Disk.seen in
    let told = (seen c.args.disk.now).told in
    let entries = c.in_ok-listing.listing in
    let manifest = c.in_ok-manifest.manifest in
    let stated = c.in_ok-stated.stated in
    where_told told (λ (story : Story). IsHead dir story (record { listing = entries; stated = stated }))
    (λ story is.
    let listing = told_that told (λ (x : Story). IsListing dir x entries) story is c.in_ok-listing.ensures.folder in
    let listed = c.in_ok-listing.ensures.told ∙ is in
    let current = told_that (seen c.list_folder.new.disk).told (λ (x : Story). current_of (files_now dir x) ≡ Ok manifest) story listed c.in_ok-manifest.ensures.answer in
    record {
      listed = listing;
      gives = manifest_gives dir story entries listing manifest current stated
          (told_that (seen c.read_current.new.disk).told (λ (x : Story). GivesStated (edits_of (files_now dir x) manifest) stated) story (c.in_ok-manifest.ensures.told ∙ listed) c.in_ok-stated.ensures.answer);
    })
