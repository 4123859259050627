-- What a disk tells of one name.
use Rattle.std.specs.Prelude.{Option, Some, None}
use Rattle.lsm_disk.specs.Names.{Node, Folder_node, File_node}
use Rattle.lsm_disk.specs.declared.calls.Kind.{Kind}
use Rattle.lsm_disk.specs.declared.calls.Kind.TheVariants.{File, Folder}

-- the kind of what stands under a name
abbrev pub kind_of : Option Node → Option Kind
kind_of None = None
kind_of (Some Folder_node) = Some Folder
kind_of (Some (File_node id)) = Some File
