use Rattle.std.proofs.Common.{◌∙◌, ap, sym}
use Rattle.std.specs.Prelude.{Some}
use Rattle.std.specs.FinMap as map
use Rattle.lsm_disk.specs.Names.{Names, Folder_node, renamed, moved_entries}
use Rattle.lsm_nametable.specs.Table.{shown, table_of, put_all}
use Rattle.lsm_nametable.proofs.Tables.{Entries, put_fresh, entries_table, shown_sorted}
use Rattle.lsm_nametable.proofs.table.NameTable.with_moved.Goals as goal

pub returns : goal.returns
returns c =
    let from = c.args.from.now in
    let to = c.args.to.now in
    let es = c.self.inside.entries.entries in
    c.in_ok-insert_all.ensures.ok ∙ (λ i. put_all (c.in_ok-names.ensures.names i) (table_of (c.new-entries.ensures.empty i))) ∙ put_fresh (moved_entries from to (shown es))
    ∙ ap (λ (l : Entries). map.from_entries (moved_entries from to l)) (sym (entries_table es (shown_sorted es c.in_ok-names.ensures.ordered)))
    ∙ ap (λ (t : Names). renamed from to (Some Folder_node) t) c.self.view_is
