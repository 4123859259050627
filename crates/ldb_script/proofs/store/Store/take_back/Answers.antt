-- Views that are taken back leave the store as it is.
use Rattle.std.proofs.Common.{refl, subst, sym}
use Rattle.ldb_script.specs.Opening.{IsUntouched}
use Rattle.ldb_script.specs.Stored.{Shown, Stands}
use Rattle.ldb_script.proofs.Shows.{stands_untouched}
use Rattle.ldb_script.proofs.store.Store.take_back.Goals as goal

pub returns-clause-stands : goal.returns-clause-stands
returns-clause-stands g c start outcome was =
    let old : Shown = record { disk = g.D.Disk.seen c.self.inside.disk; log = c.self.inside.wal.path; len = c.self.inside.wal.len; contents = c.self.inside.pairs; sequence = c.self.inside.sequence } in
    let new : Shown = record { disk = g.D.Disk.seen c.close_files.new.disk; log = c.self.inside.wal.path; len = c.self.inside.wal.len; contents = c.self.inside.pairs; sequence = c.self.inside.sequence } in
    let stood : Stands start old outcome = subst (λ (s : Shown). Stands start s outcome) (sym c.self.view_is) was in
    stands_untouched start old new outcome (record { told = c.close_files.ensures.told; log = refl; len = refl; contents = refl; sequence = refl }) stood

pub returns-clause-untouched : goal.returns-clause-untouched
returns-clause-untouched g c =
    let new : Shown = record { disk = g.D.Disk.seen c.close_files.new.disk; log = c.self.inside.wal.path; len = c.self.inside.wal.len; contents = c.self.inside.pairs; sequence = c.self.inside.sequence } in
    subst (λ (s : Shown). IsUntouched s new) c.self.view_is (record { told = c.close_files.ensures.told; log = refl; len = refl; contents = refl; sequence = refl })
