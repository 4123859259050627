use Rattle.std.proofs.Common.{◌∙◌, ap, sym}
use Rattle.lsm_disk.specs.Names.{Names}
use Rattle.lsm_disk.specs.Listing.{listed, listing}
use Rattle.lsm_nametable.proofs.Tables.{shown_sorted, entries_table, ok_both}
use Rattle.lsm_nametable.proofs.table.NameTable.listing.Goals as goal

pub returns : goal.returns
returns c =
    let es = c.self.inside.entries.entries in
    ok_both c.listed_in.result c.listed_in.ensures.ordered c.listed_in.ensures.listed (λ v ordered is.
    is ∙ ap (listed c.args.folder.now) (sym (entries_table es (shown_sorted es ordered))) ∙ ap (λ (t : Names). listing c.args.folder.now t) c.self.view_is)
