-- The views of files that are handed back.
use Rattle.std.specs.Prelude.{List, [], ◌∷◌}
use Rattle.lsm_disk.specs.Viewed.{Viewed}
use Rattle.bk_engine.specs.Copying.{IsSameView}

-- the views have the same bytes, and no count of their faults has fallen
abbrev pub AreSameViews : List Viewed → List Viewed → Type 0
AreSameViews [] [] = Unit {0}
AreSameViews [] (v ∷ views) = ⊥
AreSameViews (v ∷ views) [] = ⊥
AreSameViews (v ∷ views) (w ∷ others) = IsSameView v w × AreSameViews views others
