use Rattle.std.proofs.Common.{◌≡◌, ◌≢◌, ◌∙◌, ap, sym, rules, List, ℕ}
use Rattle.std.specs.FinMap as map
use Rattle.std.specs.Cmp.Lexicographic.{same_text}
use Rattle.lsm_disk.specs.Names.{Names, File_node}
use Rattle.lsm_nametable.specs.declared.table.Target.TheVariants.{File}
use Rattle.lsm_nametable.proofs.Tables.{table_insert, table_remove, move_other, move_same, other_text}
use Rattle.lsm_nametable.proofs.table.NameTable.move_file.Goals as goal

pub returns-then-eq-clause-ok : goal.returns-then-eq-clause-ok
returns-then-eq-clause-ok c =
    let from = c.args.from.now in
    let same : from ≡ c.args.to.items = same_text from c.as_slice.result.now c.if-eq.ensures ∙ c.as_slice.ensures.value in
    move_same c.args.self.now from (File_node c.args.id) c.requires ∙ ap (λ (p : List ℕ). map.insert (map.remove c.args.self.now from) p (File_node c.args.id)) same

pub returns-clause-ok : goal.returns-clause-ok
returns-clause-ok c =
    let from = c.args.from.now in
    let other : from ≢ c.args.to.items = λ same. other_text from c.as_slice.result.now (sym c.if-eq.ensures) (same ∙ sym c.as_slice.ensures.value) in
    table_remove from c.insert.new.self.entries c.remove.new.self.entries c.remove.ensures.updates.1 c.remove.ensures.entries
    ∙ ap (λ (t : Names). map.remove t from) (table_insert c.args.to (File c.args.id) c.self.inside.entries.entries c.insert.new.self.entries (search rules))
    ∙ move_other _ from c.args.to.items (File_node c.args.id) other
    ∙ ap (λ (t : Names). map.insert (map.remove t from) c.args.to.items (File_node c.args.id)) c.self.view_is
