-- Which paths the backups of a tree reach.
use Rattle.std.specs.Prelude.{◌≡◌, ℕ, List, [], ◌∷◌, map, Option, Some, None}
use Rattle.std.specs.List.{flat_map}
use Rattle.lsm_disk.specs.Images.{Tree, bytes_at}
use Rattle.bk_meta.specs.declared.metas.MetaFile.{MetaFile}
use Rattle.bk_meta.specs.declared.metas.Meta.{Meta}
use Rattle.bk_tree.specs.Places.{meta_path}
use Rattle.bk_tree.specs.Listed.{listed}
use Rattle.bk_tree.specs.Holds.{meta_in}

-- the paths of the files that a meta names; none of a meta that isn't readable
abbrev pub named_by : Option Meta → List (List ℕ)
named_by None = []
named_by (Some meta) = map (λ (file : MetaFile). file.path) meta.files

-- the paths that one backup reaches: its meta, and the files that its meta names
abbrev pub reached_by : Tree → ℕ → List (List ℕ)
reached_by t id = meta_path id ∷ named_by (meta_in t id)

-- the paths that the listed backups reach
abbrev pub reached : Tree → List (List ℕ)
reached t = flat_map (reached_by t) (listed t)

-- the same bytes stand at each of these paths, or none
abbrev pub AgreeAt : List (List ℕ) → Tree → Tree → Type 0
AgreeAt [] t u = Unit {0}
AgreeAt (path ∷ paths) t u = (bytes_at t path ≡ bytes_at u path) × AgreeAt paths t u
