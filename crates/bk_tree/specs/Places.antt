-- Where the parts of a backup folder stand.
use Rattle.std.specs.Prelude.{ℕ, ◌^◌, ◌&&◌, Bool, nat_le, nat_lt, List, ◌++◌, codes}
use Rattle.std.specs.Fmt.{decimal}

-- the folder of the metas, one file for each backup
abbrev pub meta_folder : List ℕ
meta_folder = codes "meta"

-- the folder in which each backup has a folder for itself
abbrev pub private_root : List ℕ
private_root = codes "private"

-- the folder of the tables that backups share
abbrev pub shared_root : List ℕ
shared_root = codes "shared_checksum"

-- identifiers count from 1, and have 32 bits
abbrev pub is_identifier : ℕ → Bool
is_identifier id = nat_le 1 id && nat_lt id (2 ^ 32)

-- where the meta of a backup stands: `meta/<id>`, the identifier in decimal
unfoldable pub meta_path : ℕ → List ℕ
meta_path id = codes "meta/" ++ decimal id
