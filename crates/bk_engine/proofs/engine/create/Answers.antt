use Rattle.std.proofs.Common.{rules, arith, ℕ, length, sym, subst, option_map, Err, None}
use Rattle.lsm_disk.specs.State.{state_of}
use Rattle.lsm_disk.specs.Goes.{Went}
use Rattle.lsm_disk.specs.Kept.{IsKeptName}
use Rattle.lsm_disk.specs.Refusals.{no_room}
use Rattle.bk_tree.specs.Kept.{IsKeptBackup}
use Rattle.bk_tree.specs.Places.{meta_path}
use Rattle.bk_engine.specs.Creating.{plain_names}
use Rattle.bk_engine.specs.Copying.{Whatever, Anything}
use Rattle.bk_engine.specs.Preparing.{AreNew, plain_views, faults_of}
use Rattle.bk_engine.specs.Publishing.{Creates, AreOwn}
use Rattle.bk_engine.specs.Stopping.{HasStopCause}
use Rattle.bk_meta.specs.declared.metas.Meta.{Meta}
use Rattle.bk_engine.proofs.Causes.{then_stopped}
use Rattle.bk_engine.proofs.Crashes.{folder_crash, copies_crash, publication_crash}
use Rattle.bk_engine.proofs.Creations.{folder_refused, after_folder, after_copies, lawful_at}
use Rattle.bk_engine.proofs.engine.create.Goals as goal

pub returns-in-Err-clause-went : goal.returns-in-Err-clause-went
returns-in-Err-clause-went g c story tells = folder_refused c.args.id c.own_folder-own.result c.own_folder-own.ensures story tells (no_room c.own_folder-own.result) c.in-Err.why c.in-Err.ensures.did

pub returns-in_err-meta-clause-went : goal.returns-in_err-meta-clause-went
returns-in_err-meta-clause-went g c story tells = after_folder c.args.id c.own_folder-own.result c.own_folder-own.ensures story tells c.in_default.ensures.did (λ first. Whatever) c.prepare.ensures.went

pub returns-in_err-publish_meta-clause-went : goal.returns-in_err-publish_meta-clause-went
returns-in_err-publish_meta-clause-went g c story tells =
    let first = length (state_of story).files in
    after_copies c.args.id c.own_folder-own.result c.own_folder-own.ensures story tells c.in_default.ensures.did (λ n. Whatever) Whatever c.prepare.ensures.went
    (λ mid told low now. subst (λ (n : ℕ). Went mid (g.B.Disk.seen c.publish_meta.new.disk).told (Creates n first) Anything Whatever) c.in_ok-meta.ensures.id (c.publish_meta.ensures.went mid first told low))

pub returns-clause-went : goal.returns-clause-went
returns-clause-went g c story tells =
    let first = length (state_of story).files in
    after_copies c.args.id c.own_folder-own.result c.own_folder-own.ensures story tells c.in_default.ensures.did (λ n. Whatever) Whatever c.prepare.ensures.went
    (λ mid told low now. subst (λ (n : ℕ). Went mid (g.B.Disk.seen c.publish_meta.new.disk).told (Creates n first) Anything Whatever) c.in_ok-meta.ensures.id (c.publish_meta.ensures.went mid first told low))

pub returns-clause-made : goal.returns-clause-made
returns-clause-made g c =
    let made = c.in_ok-meta.ensures.made in
    let meta = c.in_ok-meta.meta in (
      made.0,
      made.1,
      made.2,
      λ story tells.
          let first = length (state_of story).files in
          after_copies c.args.id c.own_folder-own.result c.own_folder-own.ensures story tells c.in_default.ensures.did (λ n s. AreNew n s meta.files made.0) (λ s. IsKeptBackup s meta made.0)
          (λ mid n told low. made.3 mid n told low)
          (λ mid told low new. subst (λ (n : ℕ). Went mid (g.B.Disk.seen c.publish_meta.new.disk).told (Creates n first) Anything (λ s. IsKeptBackup s meta made.0)) c.in_ok-meta.ensures.id
          (c.in_ok-publish_meta.ensures.kept mid first made.0 told low (lawful_at (g.B.Disk.seen c.prepare.new.disk).told mid told c.in_ok-meta.ensures.disk)
          (subst (λ (n : ℕ). AreOwn n meta.files) (sym c.in_ok-meta.ensures.id) c.in_ok-meta.ensures.own) new)),
    )

pub returns-in_err-publish_meta-clause-cause : goal.returns-in_err-publish_meta-clause-cause
returns-in_err-publish_meta-clause-cause g c =
    let old = plain_views (option_map (λ file. g.V.View.viewed file.view) c.args.files.now.log) (g.V.View.viewed c.args.files.now.current) (g.V.View.viewed c.args.files.now.manifest.view) in
    let new = plain_views (option_map (λ file. g.V.View.viewed file.view) c.prepare.new.files.log) (g.V.View.viewed c.prepare.new.files.current) (g.V.View.viewed c.prepare.new.files.manifest.view) in
    let cause : HasStopCause {T = Meta} (g.B.Disk.seen c.args.disk.now) (g.B.Disk.seen c.publish_meta.new.disk) (faults_of old) (faults_of new) (Err c.in_err-publish_meta.field-0.0) =
    then_stopped (g.B.Disk.seen c.args.disk.now) (g.B.Disk.seen c.prepare.new.disk) (g.B.Disk.seen c.publish_meta.new.disk) old new c.in_err-publish_meta.field-0.0
    (omega (arith, c.make_folder.ensures.cause.faults_later, c.prepare.ensures.cause.faults_later)) (omega (arith, c.make_folder.ensures.cause.refusals_later, c.prepare.ensures.cause.refusals_later))
    c.prepare.ensures.views (c.in_err-publish_meta.ensures.cause (faults_of old)) in
    search (rules, cause)

pub returns-clause-cause : goal.returns-clause-cause
returns-clause-cause g c =
    let done = c.publish_meta.ensures.cause 0 in
    record {
      faults_later = omega (arith, c.make_folder.ensures.cause.faults_later, c.prepare.ensures.cause.faults_later, done.faults_later);
      refusals_later = omega (arith, c.make_folder.ensures.cause.refusals_later, c.prepare.ensures.cause.refusals_later, done.refusals_later);
      stopped = tt;
    }

pub returns-in-Err-clause-crash : goal.returns-in-Err-clause-crash
returns-in-Err-clause-crash g c story tells free =
    let views = plain_views (option_map (λ file. g.V.View.viewed file.view) c.args.files.now.log) (g.V.View.viewed c.args.files.now.current) (g.V.View.viewed c.args.files.now.manifest.view) in
    let names = plain_names (option_map (λ file. file.number) c.args.files.now.log) c.args.files.now.manifest.number in
    folder_crash c.args.id c.args.now c.args.sequence names views c.own_folder-own.result c.own_folder-own.ensures story tells free (no_room c.own_folder-own.result) c.in-Err.why c.in-Err.ensures.did

pub returns-in_err-meta-clause-crash : goal.returns-in_err-meta-clause-crash
returns-in_err-meta-clause-crash g c story tells free =
    let views = plain_views (option_map (λ file. g.V.View.viewed file.view) c.args.files.now.log) (g.V.View.viewed c.args.files.now.current) (g.V.View.viewed c.args.files.now.manifest.view) in
    let names = plain_names (option_map (λ file. file.number) c.args.files.now.log) c.args.files.now.manifest.number in
    copies_crash c.args.id c.args.now c.args.sequence names views c.own_folder-own.result c.own_folder-own.ensures story tells free c.in_default.ensures.did c.prepare.ensures.went

pub returns-in_err-publish_meta-clause-crash : goal.returns-in_err-publish_meta-clause-crash
returns-in_err-publish_meta-clause-crash g c story tells free =
    let made = c.in_ok-meta.ensures.made in
    let meta = c.in_ok-meta.meta in
    let first = length (state_of story).files in
    let views = plain_views (option_map (λ file. g.V.View.viewed file.view) c.args.files.now.log) (g.V.View.viewed c.args.files.now.current) (g.V.View.viewed c.args.files.now.manifest.view) in
    let names = plain_names (option_map (λ file. file.number) c.args.files.now.log) c.args.files.now.manifest.number in
    publication_crash c.args.id c.args.now c.args.sequence names views c.own_folder-own.result c.own_folder-own.ensures story tells free c.in_default.ensures.did meta made.0 made.2 made.1 (λ mid n told low. made.3 mid n told low)
    (λ mid told low new free.
    c.publish_meta.ensures.crash mid first made.0 told low (lawful_at (g.B.Disk.seen c.prepare.new.disk).told mid told c.in_ok-meta.ensures.disk)
    (subst (λ (n : ℕ). AreOwn n meta.files) (sym c.in_ok-meta.ensures.id) c.in_ok-meta.ensures.own) new
    (subst (λ (n : ℕ). IsKeptName (state_of mid) (meta_path n) None) (sym c.in_ok-meta.ensures.id) free))

pub returns-clause-crash : goal.returns-clause-crash
returns-clause-crash g c story tells free =
    let made = c.in_ok-meta.ensures.made in
    let meta = c.in_ok-meta.meta in
    let first = length (state_of story).files in
    let views = plain_views (option_map (λ file. g.V.View.viewed file.view) c.args.files.now.log) (g.V.View.viewed c.args.files.now.current) (g.V.View.viewed c.args.files.now.manifest.view) in
    let names = plain_names (option_map (λ file. file.number) c.args.files.now.log) c.args.files.now.manifest.number in
    publication_crash c.args.id c.args.now c.args.sequence names views c.own_folder-own.result c.own_folder-own.ensures story tells free c.in_default.ensures.did meta made.0 made.2 made.1 (λ mid n told low. made.3 mid n told low)
    (λ mid told low new free.
    c.publish_meta.ensures.crash mid first made.0 told low (lawful_at (g.B.Disk.seen c.prepare.new.disk).told mid told c.in_ok-meta.ensures.disk)
    (subst (λ (n : ℕ). AreOwn n meta.files) (sym c.in_ok-meta.ensures.id) c.in_ok-meta.ensures.own) new
    (subst (λ (n : ℕ). IsKeptName (state_of mid) (meta_path n) None) (sym c.in_ok-meta.ensures.id) free))
