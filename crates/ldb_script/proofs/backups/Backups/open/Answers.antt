use Rattle.std.proofs.Common.{◌≡◌, subst, sym, ap, ◌∙◌, Some}
use Rattle.ldb_script.specs.Backing.{IsReady, ShutBy}
use Rattle.ldb_script.specs.Vaults.{Vault, vault_of, Backs}
use Rattle.ldb_script.specs.declared.backups.Held.TheVariants.{Disk}
use Rattle.ldb_script.proofs.Backing.{vault_on, opened, shut}
use Rattle.ldb_script.proofs.backups.Backups.open.Goals as goal

pub returns-in-Ok-clause-opened : goal.returns-in-Ok-clause-opened
returns-in-Ok-clause-opened g c start plain tells was =
    let is_held : c.self.inside.held ≡ Some (Disk c.in-Some-Disk.disk) = cc (c.take.ensures.value, c.in-Some-Disk.is, c.in-Some-Disk.field-0-is) in
    let is_old : c.args.self.now ≡ vault_on (g.B.Disk.seen c.in-Some-Disk.disk) = sym c.self.view_is ∙ ap (vault_of g.B.Disk.seen) is_held in
    subst (λ (v : Vault). IsReady start v plain) (sym (ap (vault_of g.B.Disk.seen) c.put.ensures))
    (opened start (g.B.Disk.seen c.in-Some-Disk.disk) plain (subst (λ (v : Vault). Backs start v plain) is_old was) c.in-Ok.engine tells c.in-Ok.ensures.metas c.in-Ok.ensures.given c.in-Ok.ensures.halt c.in-Ok.ensures.made)

pub returns-in-Err-clause-opened : goal.returns-in-Err-clause-opened
returns-in-Err-clause-opened g c start plain tells was =
    let is_held : c.self.inside.held ≡ Some (Disk c.in-Some-Disk.disk) = cc (c.take.ensures.value, c.in-Some-Disk.is, c.in-Some-Disk.field-0-is) in
    let is_old : c.args.self.now ≡ vault_on (g.B.Disk.seen c.in-Some-Disk.disk) = sym c.self.view_is ∙ ap (vault_of g.B.Disk.seen) is_held in
    subst (λ (v : Vault). ShutBy start v (vault_of g.B.Disk.seen c.put-in-Err.new.place) c.in-Err.field-0.why) (sym is_old)
    (subst (λ (v : Vault). ShutBy start (vault_on (g.B.Disk.seen c.in-Some-Disk.disk)) v c.in-Err.field-0.why) (sym (ap (vault_of g.B.Disk.seen) c.put-in-Err.ensures))
    (shut start (g.B.Disk.seen c.in-Some-Disk.disk) plain (subst (λ (v : Vault). Backs start v plain) is_old was) (g.B.Disk.seen c.in-Err.field-0.disk) c.in-Err.field-0.why c.in-Err.ensures.answer c.in-Err.ensures.cause))
