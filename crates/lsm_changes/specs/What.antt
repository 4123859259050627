-- The change that an entry of the record stands for.
use Rattle.lsm_disk.specs.Names.{Folder_node, File_node, Put, Gone, Moved}
use Rattle.lsm_disk.specs.State.{Change, Created, Named, Appended, Synced, Names_synced}
use Rattle.lsm_changes.specs.declared.history.What.{What}
use Rattle.lsm_changes.specs.declared.history.What.TheVariants as what

abbrev pub change_of : What → Change
change_of (what.Create path) = Created path.items
change_of (what.MakeFolder path) = Named (Put path.items Folder_node)
change_of (what.Append id bytes) = Appended id bytes.items
change_of (what.Link to id) = Named (Put to.items (File_node id))
change_of (what.Rename from to) = Named (Moved from.items to.items)
change_of (what.Unname path) = Named (Gone path.items)
change_of (what.Sync id) = Synced id
change_of what.SyncNames = Names_synced
