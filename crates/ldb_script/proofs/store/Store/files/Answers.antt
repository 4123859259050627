-- The files as they are opened are the store's, and a refusal breaks it.
use Rattle.std.specs.Prelude.{ℕ, List, Option, option_map, IfErr}
use Rattle.std.proofs.Common.{refl, subst, sym, ◌∙◌}
use Rattle.lsm_disk.specs.State.{Story}
use Rattle.lsm_disk.specs.Viewed.{opened}
use Rattle.ldb_script.specs.Plain.{Outcome}
use Rattle.ldb_script.specs.Stored.{Shown, Stands}
use Rattle.ldb_script.specs.Opening.{IsBroken}
use Rattle.ldb_script.specs.Files.{where_any, HasViews, IsRefused}
use Rattle.ldb_script.proofs.Telling.{given_on}
use Rattle.ldb_script.proofs.Shows.{stands_untouched}
use Rattle.ldb_script.proofs.Refused.{broken_refused}
use Rattle.ldb_script.proofs.Views.{views_there, files_told}
use Rattle.ldb_script.proofs.store.Store.files.Goals as goal

pub returns-in_err-files-clause-stands : goal.returns-in_err-files-clause-stands
returns-in_err-files-clause-stands g c start outcome was =
    let old : Shown = record { disk = g.D.Disk.seen c.self.inside.disk; log = c.self.inside.wal.path; len = c.self.inside.wal.len; contents = c.self.inside.pairs; sequence = c.self.inside.sequence } in
    let new : Shown = record { disk = g.D.Disk.seen c.open_files.new.disk; log = c.self.inside.wal.path; len = c.self.inside.wal.len; contents = c.self.inside.pairs; sequence = c.self.inside.sequence } in
    let stood : Stands start old outcome = subst (λ (s : Shown). Stands start s outcome) (sym c.self.view_is) was in
    stands_untouched start old new outcome (record { told = c.open_files.ensures.told; log = refl; len = refl; contents = refl; sequence = refl }) stood

pub returns-clause-stands : goal.returns-clause-stands
returns-clause-stands g c start outcome was =
    let old : Shown = record { disk = g.D.Disk.seen c.self.inside.disk; log = c.self.inside.wal.path; len = c.self.inside.wal.len; contents = c.self.inside.pairs; sequence = c.self.inside.sequence } in
    let new : Shown = record { disk = g.D.Disk.seen c.open_files.new.disk; log = c.self.inside.wal.path; len = c.self.inside.wal.len; contents = c.self.inside.pairs; sequence = c.self.inside.sequence } in
    let stood : Stands start old outcome = subst (λ (s : Shown). Stands start s outcome) (sym c.self.view_is) was in
    stands_untouched start old new outcome (record { told = c.open_files.ensures.told; log = refl; len = refl; contents = refl; sequence = refl }) stood

pub returns-clause-views : goal.returns-clause-views
returns-clause-views g c start outcome was =
    let old : Shown = record { disk = g.D.Disk.seen c.self.inside.disk; log = c.self.inside.wal.path; len = c.self.inside.wal.len; contents = c.self.inside.pairs; sequence = c.self.inside.sequence } in
    let stood : Stands start old outcome = subst (λ (s : Shown). Stands start s outcome) (sym c.self.view_is) was in
    let files = c.in_ok-files.files in
    let all = c.in_ok-files.ensures in
    let viewed = g.D.View.View.viewed in
    files_told start old outcome stood c.self.inside.home c.self.invariant (option_map (λ file. file.number) files.log) files.manifest.number (option_map (λ file. viewed file.view) files.log) (viewed files.current) (viewed files.manifest.view)
    (all.log_number ∙ λ i. where_any (c.len.ensures i) 2) all.manifest_number
    (all.log ∙ λ i. where_any (c.len.ensures i) (opened (c.path.ensures i) (c.len.ensures i) old.disk.told))
    all.current all.manifest

pub returns-in_err-files-clause-refused : goal.returns-in_err-files-clause-refused
returns-in_err-files-clause-refused g c =
    let seen = g.D.Disk.seen in
    let home : List ℕ = c.self.inside.home in
    let old : Shown = record { disk = seen c.self.inside.disk; log = c.self.inside.wal.path; len = c.self.inside.wal.len; contents = c.self.inside.pairs; sequence = c.self.inside.sequence } in
    let new : Shown = record { disk = seen c.open_files.new.disk; log = c.self.inside.wal.path; len = c.self.inside.wal.len; contents = c.self.inside.pairs; sequence = c.self.inside.sequence } in
    let why = c.in_err-files.field-0.0 in
    subst (λ (shown : Shown). IfErr c.from_residual.result (λ error. (start : Option Story) (outcome : Outcome) → Stands start shown outcome → IsBroken start shown new error)) c.self.view_is
    (given_on c.from_residual.result why (λ error. (start : Option Story) (outcome : Outcome) → Stands start old outcome → IsBroken start old new error) c.from_residual.ensures.1
    (λ start outcome stood.
    broken_refused (HasViews home old.log old.len) start old new (views_there start old outcome stood home c.self.invariant) why
    (subst (λ (p : List ℕ). IsRefused (HasViews home p old.len) old.disk new.disk why) c.path.ensures (subst (λ (n : ℕ). IsRefused (HasViews home c.path.result.now n) old.disk new.disk why) c.len.ensures c.in_err-files.ensures.refused))))
