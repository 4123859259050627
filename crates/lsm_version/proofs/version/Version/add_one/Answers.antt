use Rattle.std.proofs.Common.{◌≡◌, refl, sym, ap, ◌∙◌, Some, true, false, rules}
use Rattle.std.specs.Prelude.{is_some}
use Rattle.std.specs.FinMap as finite
use Rattle.lsm_version.specs.Levels.{Tables}
use Rattle.lsm_version.proofs.TableMaps.{value_at, tables_put, added_not, added_is}
use Rattle.lsm_version.proofs.version.Version.add_one.Goals as goal

pub returns-then-contains_key-clause-err : goal.returns-then-contains_key-clause-err
returns-then-contains_key-clause-err c =
    let same : c.contains_key.result ≡ is_some (finite.get c.args.self.now c.args.add.now.table.number) =
    c.contains_key.ensures ∙ ap is_some (value_at c.self.inside.tables.entries c.args.add.now.table.number ∙ ap (λ (t : Tables). finite.get t c.args.add.now.table.number) c.self.view_is) in
    let taken : is_some (finite.get c.args.self.now c.args.add.now.table.number) ≡ true = search rules in
    λ _. (refl, added_not c.args.self.now c.args.add.now taken)

pub returns-clause-ok : goal.returns-clause-ok
returns-clause-ok c =
    let same : c.contains_key.result ≡ is_some (finite.get c.args.self.now c.args.add.now.table.number) =
    c.contains_key.ensures ∙ ap is_some (value_at c.self.inside.tables.entries c.args.add.now.table.number ∙ ap (λ (t : Tables). finite.get t c.args.add.now.table.number) c.self.view_is) in
    let free : is_some (finite.get c.args.self.now c.args.add.now.table.number) ≡ false = search rules in
    added_is c.args.self.now c.args.add.now free
    ∙ ap (λ (t : Tables). Some t)
    (sym (tables_put c.self.inside.tables.entries c.insert.new.self.entries c.args.add.now.table.number (record { level = c.args.add.now.level; info = c.in_ok-info.info }) c.in_ok-insert.ensures.entries
    ∙ (λ i. finite.insert (c.self.view_is i) c.args.add.now.table.number (record { level = c.args.add.now.level; info = c.in_ok-info.ensures i }))))
