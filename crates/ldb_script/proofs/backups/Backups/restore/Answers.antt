use Rattle.std.proofs.Common.{◌≡◌, subst, sym, ap, ◌∙◌, Some}
use Rattle.ldb_script.specs.Restoring.{RestoresOr}
use Rattle.ldb_script.specs.Vaults.{Vault, vault_of, Backs}
use Rattle.ldb_script.specs.declared.backups.Held.TheVariants.{Engine}
use Rattle.ldb_script.proofs.Backing.{vault_at, keeps_of, backs_same}
use Rattle.ldb_script.proofs.backups.Backups.restore.Goals as goal

pub returns-clause-restored : goal.returns-clause-restored
returns-clause-restored g c start backups outcome stands was =
    let e = c.in-Some-Engine.engine in
    let is_held : c.self.inside.held ≡ Some (Engine e) = cc (c.in-Some-Engine.is, c.in-Some-Engine.field-0-is) in
    let is_old : c.args.self.now ≡ vault_at e = sym c.self.view_is ∙ ap (vault_of g.B.Disk.seen) is_held in
    subst (λ (v : Vault). RestoresOr start c.args.place.now c.restore.new.self v.disk c.restore.new.engine.disk outcome c.args.id c.args.name.now c.restore.result) (sym is_old)
    (c.restore.ensures.restored start backups outcome stands (keeps_of backups e outcome.after (subst (λ (v : Vault). Backs backups v outcome.after) is_old was)))

pub returns-clause-kept : goal.returns-clause-kept
returns-clause-kept g c start plain was =
    let e = c.in-Some-Engine.engine in
    let is_held : c.self.inside.held ≡ Some (Engine e) = cc (c.in-Some-Engine.is, c.in-Some-Engine.field-0-is) in
    let is_old : c.args.self.now ≡ vault_at e = sym c.self.view_is ∙ ap (vault_of g.B.Disk.seen) is_held in
    backs_same start e c.restore.new.engine plain c.restore.ensures.told c.restore.ensures.metas c.restore.ensures.given c.restore.ensures.halt (subst (λ (v : Vault). Backs start v plain) is_old was)
