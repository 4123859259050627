use Rattle.std.proofs.Common.{ℕ, List, refl, subst, sym}
use Rattle.std.specs.Prelude.{IfSome}
use Rattle.lsm_folder.specs.Reading.{reading}
use Rattle.lsm_recover.specs.Answers.{place_now}
use Rattle.lsm_recover.specs.Shown.{AnswersShown}
use Rattle.ldb_script.specs.Stored.{Shown, Stands}
use Rattle.ldb_script.proofs.Shows.{show_reads, stands_untouched}
use Rattle.ldb_script.proofs.store.Store.show.Goals as goal

pub returns-clause-stands : goal.returns-clause-stands
returns-clause-stands g c start outcome was =
    let old : Shown = record { disk = g.D.Disk.seen c.self.inside.disk; log = c.self.inside.wal.path; len = c.self.inside.wal.len; contents = c.self.inside.pairs; sequence = c.self.inside.sequence } in
    let new : Shown = record { disk = g.D.Disk.seen c.read_folder.new.disk; log = c.self.inside.wal.path; len = c.self.inside.wal.len; contents = c.self.inside.pairs; sequence = c.self.inside.sequence } in
    let stood : Stands start old outcome = subst (λ (s : Shown). Stands start s outcome) (sym c.self.view_is) was in
    stands_untouched start old new outcome (record { told = c.read_folder.ensures.told; log = refl; len = refl; contents = refl; sequence = refl }) stood

pub returns-clause-shown : goal.returns-clause-shown
returns-clause-shown g c start outcome was =
    let old : Shown = record { disk = g.D.Disk.seen c.self.inside.disk; log = c.self.inside.wal.path; len = c.self.inside.wal.len; contents = c.self.inside.pairs; sequence = c.self.inside.sequence } in
    let stood : Stands start old outcome = subst (λ (s : Shown). Stands start s outcome) (sym c.self.view_is) was in
    show_reads start old outcome stood c.args.name.now c.as_bytes.ensures.folder c.read_folder.result
    (subst (λ (p : List ℕ). IfSome old.disk.told (λ story. AnswersShown (reading (place_now p story)) c.read_folder.result)) c.path.ensures.path c.read_folder.ensures.answer)
