-- What a name leads to.
use Rattle.lsm_disk.specs.Names.{Node, Folder_node, File_node}
use Rattle.lsm_nametable.specs.declared.table.Target.{Target}
use Rattle.lsm_nametable.specs.declared.table.Target.TheVariants.{Folder, File}

abbrev pub node_of : Target → Node
node_of Folder = Folder_node
node_of (File id) = File_node id
