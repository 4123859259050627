-- The paths that a creation makes, besides those that its meta names.
use Rattle.std.specs.Prelude.{ℕ, List, ◌++◌, codes}
use Rattle.std.specs.Fmt.{decimal}

-- the folder that a backup has for itself: `private/<id>`
unfoldable pub own_folder : ℕ → List ℕ
own_folder id = codes "private/" ++ decimal id

-- where a meta is written before it is published: `meta/.<id>.tmp`
unfoldable pub temporary_path : ℕ → List ℕ
temporary_path id = codes "meta/." ++ decimal id ++ codes ".tmp"
