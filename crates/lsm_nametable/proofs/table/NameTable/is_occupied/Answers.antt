use Rattle.std.proofs.Common.{◌∙◌, ap, sym}
use Rattle.std.specs.Prelude.{is_some}
use Rattle.std.specs.List.{list_any}
use Rattle.lsm_disk.specs.Names.{Names, inside, is_occupied}
use Rattle.lsm_nametable.proofs.Tables.{shown_sorted, entries_table, Entries}
use Rattle.lsm_nametable.proofs.table.NameTable.is_occupied.Goals as goal

pub returns : goal.returns
returns c =
    let es = c.self.inside.entries.entries in
    c.has_inside.ensures.answer ∙ ap (λ (l : Entries). list_any (λ e. is_some (inside c.args.folder.now e.0)) l) (sym (entries_table es (shown_sorted es c.has_inside.ensures.ordered)))
    ∙ ap (λ (t : Names). is_occupied t c.args.folder.now) c.self.view_is
