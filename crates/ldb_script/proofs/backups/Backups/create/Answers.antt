use Rattle.std.proofs.Common.{◌≡◌, subst, sym, ap, ◌∙◌, Some}
use Rattle.ldb_script.specs.Vaults.{Vault, vault_of, Backs}
use Rattle.ldb_script.specs.declared.backups.Held.TheVariants.{Engine}
use Rattle.ldb_script.proofs.Backing.{vault_at, is_created, uncreated_at, if_ok, if_err}
use Rattle.ldb_script.proofs.backups.Backups.create.Goals as goal

pub returns-clause-created : goal.returns-clause-created
returns-clause-created g c =
    let e = c.in-Some-Engine.engine in
    let e' = c.create_plain.new.self in
    let is_held : c.self.inside.held ≡ Some (Engine e) = cc (c.in-Some-Engine.is, c.in-Some-Engine.field-0-is) in
    let is_old : c.args.self.now ≡ vault_at e = sym c.self.view_is ∙ ap (vault_of g.B.Disk.seen) is_held in
    if_ok c.create_plain.result _ _ _ _ _ c.create_plain.ensures.made c.create_plain.ensures.given c.create_plain.ensures.going c.create_plain.ensures.ready
    (λ info made given going ready. λ start plain left was is are.
    is_created start e e' plain c.args.now left info c.args.sequence _ _ (subst (λ (v : Vault). Backs start v plain) is_old was) is are made given going ready.1)

pub returns-clause-refused : goal.returns-clause-refused
returns-clause-refused g c =
    let e = c.in-Some-Engine.engine in
    let e' = c.create_plain.new.self in
    let is_held : c.self.inside.held ≡ Some (Engine e) = cc (c.in-Some-Engine.is, c.in-Some-Engine.field-0-is) in
    let is_old : c.args.self.now ≡ vault_at e = sym c.self.view_is ∙ ap (vault_of g.B.Disk.seen) is_held in
    if_err c.create_plain.result _ _ _ c.create_plain.ensures.cause c.create_plain.ensures.left
    (λ r cause left. λ start plain was. uncreated_at start c.args.self.now e e' plain _ _ r.why is_old was cause left)
