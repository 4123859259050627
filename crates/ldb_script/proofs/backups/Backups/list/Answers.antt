use Rattle.std.proofs.Common.{◌≡◌, subst, sym, ap, ◌∙◌, Some}
use Rattle.std.proofs.lemmas.Result.{IfOk-weaker}
use Rattle.ldb_script.specs.Vaults.{Vault, vault_of, Backs}
use Rattle.ldb_script.specs.declared.backups.Held.TheVariants.{Engine}
use Rattle.ldb_script.proofs.Backing.{vault_at, listed}
use Rattle.ldb_script.proofs.backups.Backups.list.Goals as goal

pub returns-clause-told : goal.returns-clause-told
returns-clause-told g c =
    let e = c.in-Some-Engine.engine in
    let is_some : c.self.inside.held ≡ Some c.in-Some-Engine.field-0 = c.in-Some-Engine.is in
    let is_engine : c.in-Some-Engine.field-0 ≡ Engine e = rw c.in-Some-Engine.is at c.in-Some-Engine.field-0-is in
    let is_old : c.args.self.now ≡ vault_at e = sym c.self.view_is ∙ (ap (vault_of g.B.Disk.seen) is_some ∙ ap (λ h. vault_of g.B.Disk.seen (Some h)) is_engine) in
    IfOk-weaker c.list.result _ _ (λ infos is. λ start plain was. listed start e plain infos is (subst (λ (v : Vault). Backs start v plain) is_old was)) c.list.ensures.told
