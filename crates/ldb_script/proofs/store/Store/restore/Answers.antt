-- The store's own name is refused, and under another one the answer of the restore stands.
use Rattle.std.specs.Prelude.{◌≡◌, ◌≢◌, ℕ, List, true, false}
use Rattle.std.proofs.Common.{subst, sym, ap, ◌∙◌}
use Rattle.std.proofs.lemmas.Bool.Decides.{Decides-eqb}
use Rattle.std.proofs.lemmas.Slice.Eq.{slice_eq-Decides}
use Rattle.ldb_script.specs.Stored.{Shown, Stands, log_path}
use Rattle.ldb_script.specs.Restoring.{RestoresOr}
use Rattle.ldb_script.proofs.RestoreAnswers.{own_answer, restored_answer}
use Rattle.ldb_script.proofs.store.Store.restore.Goals as goal

pub returns-then-eq-clause-restored : goal.returns-then-eq-clause-restored
returns-then-eq-clause-restored g c start backups outcome was keeps =
    let home : List ℕ = c.self.inside.home in
    let same : c.args.name.now ≡ home = sym c.as_bytes.ensures.bytes ∙ (slice_eq-Decides Decides-eqb c.as_bytes.result.now c.as_bytes-2.result.now c.eq.result c.eq.ensures).0 c.if-eq.true ∙ c.as_bytes-2.ensures.bytes in
    let at : c.args.self.log ≡ log_path home = sym (ap (λ (s : Shown). s.log) c.self.view_is) ∙ c.self.invariant in
    own_answer start backups c.args.self c.args.self.disk c.args.engine.now.disk c.args.engine.now.disk c.args.engine.now outcome was keeps home c.args.name.now at c.args.id
    same c.refuse_name-why.result c.refuse_name-why.ensures

pub returns-clause-restored : goal.returns-clause-restored
returns-clause-restored g c start backups outcome was keeps =
    let seen = g.D.Disk.seen in
    let home : List ℕ = c.self.inside.home in
    let name : List ℕ = c.args.name.now in
    let after = seen c.restore_onto-disk.result.0 in
    let vault = c.args.engine.now.disk in
    let vault' = c.restore_onto-disk.new.engine.disk in
    let old : Shown = record { disk = seen c.self.inside.disk; log = c.self.inside.wal.path; len = c.self.inside.wal.len; contents = c.self.inside.pairs; sequence = c.self.inside.sequence } in
    let new : Shown = record { disk = after; log = c.self.inside.wal.path; len = c.self.inside.wal.len; contents = c.self.inside.pairs; sequence = c.self.inside.sequence } in
    let stood : Stands start old outcome = subst (λ (s : Shown). Stands start s outcome) (sym c.self.view_is) was in
    let differ : name ≢ home = λ same.
    let both : true ≡ false = sym ((slice_eq-Decides Decides-eqb c.as_bytes.result.now c.as_bytes-2.result.now c.eq.result c.eq.ensures).1 (c.as_bytes.ensures.bytes ∙ same ∙ sym c.as_bytes-2.ensures.bytes)) ∙ c.if-eq.false in
    cc in
    subst (λ (s : Shown). RestoresOr start s new vault vault' outcome c.args.id name c.restore_onto-disk.result.1) c.self.view_is
    (restored_answer start backups old after vault vault' c.args.engine.now outcome stood keeps home name c.self.invariant c.args.id
    c.as_bytes-2.ensures.folder c.as_bytes.ensures.folder differ c.restore_onto-disk.result.1 c.restore_onto-disk.ensures.unlisted c.restore_onto-disk.ensures.restored)
