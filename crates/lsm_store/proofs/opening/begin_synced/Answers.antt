-- Each exit is a lemma of `OpenNew`, `OpenBeside` or `OpenFound`.
use Rattle.std.specs.Prelude.{◌≡◌, ℕ, ◌+◌, ◌≤◌, List, length, Option, Ok, Err, IfSome}
use Rattle.std.proofs.Common.{subst, arith}
use Rattle.lsm_disk.specs.State.{Seen, Story}
use Rattle.lsm_recover.specs.declared.site.Site.{Site}
use Rattle.lsm_recover.specs.Site.{AnswersSite, HasSiteCause, IsNumbered}
use Rattle.lsm_store.proofs.OpenBeside.{beside_made, beside_refused}
use Rattle.lsm_store.proofs.OpenFound.{recover_made, recover_refused, site_refused}
use Rattle.lsm_store.proofs.OpenNew.{anew_made, anew_refused}
use Rattle.lsm_store.proofs.opening.begin_synced.Goals as goal

within : (dir : List ℕ) → length dir ≤ 64 → length dir + 30 ≤ 160
within dir short = omega (arith, short)

module _ (p dir : List ℕ) (is : p ≡ dir) (f x : Site) (same : f ≡ x) where
  site_at : (told : Option Story) → IfSome told (λ (story : Story). AnswersSite p story (Ok f)) → IfSome told
      (λ (story : Story). AnswersSite dir story (Ok x))
  site_at told holds = subst (λ (q : List ℕ). IfSome told (λ (story : Story). AnswersSite q story (Ok x))) is
      (subst (λ (s : Site). IfSome told (λ (story : Story). AnswersSite p story (Ok s))) same holds)

  cause_at : (old at : Seen) → HasSiteCause {T = Site} p old at (Ok f) → HasSiteCause {T = Site} dir old at (Ok x)
  cause_at old at cause = record {
    faults_later = cause.faults_later;
    refusals_later = cause.refusals_later;
    counted = tt;
  }

pub returns-in-Ok : goal.returns-in-Ok
returns-in-Ok g c =
    let seen = g.D.Disk.seen in
    let dir = c.args.dir.now in
    let old = seen c.args.disk.now in
    let at = seen c.find_site.new.disk in
    let found = c.in-Ok-Nothing in
    anew_made dir c.as_bytes-name.ensures.folder (within dir c.as_bytes-name.ensures.within) old at
    (seen c.make_anew.new.disk) found.ensures.told found.ensures.lawful
    (cause_at c.path.result dir c.path.ensures.path found.field-0 _ found.field-0-is old at found.ensures.cause)
    (site_at c.path.result dir c.path.ensures.path found.field-0 _ found.field-0-is old.told found.ensures.site)
    c.in-Ok.parts c.in-Ok.ensures.parts c.in-Ok.ensures.went c.in-Ok.ensures.cause c.new_begun.result c.new_begun.ensures

pub returns-in-Ok-Nothing : goal.returns-in-Ok-Nothing
returns-in-Ok-Nothing g c =
    let seen = g.D.Disk.seen in
    let dir = c.args.dir.now in
    let old = seen c.args.disk.now in
    let at = seen c.find_site.new.disk in
    let found = c.in-Ok-Nothing in
    let refused = c.in-Err-make_anew in
    anew_refused dir c.as_bytes-name.ensures.folder (within dir c.as_bytes-name.ensures.within) old at
    (seen c.make_anew.new.disk) found.ensures.told found.ensures.lawful
    (cause_at c.path.result dir c.path.ensures.path found.field-0 _ found.field-0-is old at found.ensures.cause)
    (site_at c.path.result dir c.path.ensures.path found.field-0 _ found.field-0-is old.told found.ensures.site)
    refused.why refused.ensures.went refused.ensures.cause

pub returns-in-Ok-make_beside : goal.returns-in-Ok-make_beside
returns-in-Ok-make_beside g c =
    let seen = g.D.Disk.seen in
    let dir = c.args.dir.now in
    let old = seen c.args.disk.now in
    let at = seen c.find_site.new.disk in
    let found = c.in-Ok-Fresh in
    let made = c.in-Ok-make_beside in
    beside_made dir c.as_bytes-name.ensures.folder (within dir c.as_bytes-name.ensures.within) old at
    (seen c.make_beside.new.disk) found.ensures.told found.ensures.lawful found.names found.next
    (cause_at c.path.result dir c.path.ensures.path found.field-0 _ found.field-0-is old at found.ensures.cause)
    (site_at c.path.result dir c.path.ensures.path found.field-0 _ found.field-0-is old.told found.ensures.site)
    made.ensures.idle (subst IsNumbered found.field-0-is found.ensures.numbered) made.parts made.ensures.parts
    made.ensures.went made.ensures.cause c.new_begun-in-Ok-make_beside.result c.new_begun-in-Ok-make_beside.ensures

pub returns-in-Ok-Fresh : goal.returns-in-Ok-Fresh
returns-in-Ok-Fresh g c =
    let seen = g.D.Disk.seen in
    let dir = c.args.dir.now in
    let old = seen c.args.disk.now in
    let at = seen c.find_site.new.disk in
    let found = c.in-Ok-Fresh in
    let refused = c.in-Err-make_beside in
    beside_refused dir c.as_bytes-name.ensures.folder (within dir c.as_bytes-name.ensures.within) old at
    (seen c.make_beside.new.disk) found.ensures.told found.ensures.lawful found.names found.next
    (cause_at c.path.result dir c.path.ensures.path found.field-0 _ found.field-0-is old at found.ensures.cause)
    (site_at c.path.result dir c.path.ensures.path found.field-0 _ found.field-0-is old.told found.ensures.site)
    refused.ensures.idle refused.why refused.ensures.went refused.ensures.cause

pub returns-in-Ok-recover : goal.returns-in-Ok-recover
returns-in-Ok-recover g c =
    let seen = g.D.Disk.seen in
    let dir = c.args.dir.now in
    let old = seen c.args.disk.now in
    let at = seen c.find_site.new.disk in
    let found = c.in-Ok-Store in
    let made = c.in-Ok-recover in
    recover_made dir c.as_bytes-name.ensures.folder (within dir c.as_bytes-name.ensures.within) old at
    (seen c.recover.new.disk) found.ensures.told found.ensures.lawful
    (cause_at c.path.result dir c.path.ensures.path found.field-0 _ found.field-0-is old at found.ensures.cause)
    (site_at c.path.result dir c.path.ensures.path found.field-0 _ found.field-0-is old.told found.ensures.site)
    made.ensures.images made.recovered c.begun_by.result c.begun_by.ensures made.ensures.sound made.ensures.recovered
    made.ensures.cause

pub returns-in-Ok-Store : goal.returns-in-Ok-Store
returns-in-Ok-Store g c =
    let seen = g.D.Disk.seen in
    let dir = c.args.dir.now in
    let old = seen c.args.disk.now in
    let at = seen c.find_site.new.disk in
    let found = c.in-Ok-Store in
    let refused = c.in-Err-recover in
    recover_refused dir c.as_bytes-name.ensures.folder (within dir c.as_bytes-name.ensures.within) old at
    (seen c.recover.new.disk) found.ensures.told found.ensures.lawful
    (cause_at c.path.result dir c.path.ensures.path found.field-0 _ found.field-0-is old at found.ensures.cause)
    (site_at c.path.result dir c.path.ensures.path found.field-0 _ found.field-0-is old.told found.ensures.site)
    refused.ensures.images refused.why refused.ensures.cause c.open_error.result c.open_error.ensures

pub returns : goal.returns
returns g c =
    let seen = g.D.Disk.seen in
    let dir = c.args.dir.now in
    let old = seen c.args.disk.now in
    let at = seen c.find_site.new.disk in
    site_refused dir c.as_bytes-name.ensures.folder old at c.in-Err.ensures.told c.in-Err.why
    (subst (λ (p : List ℕ). HasSiteCause {T = Site} p old at (Err c.in-Err.why)) c.path.ensures.path c.in-Err.ensures.cause)
    c.own_error.result c.own_error.ensures
