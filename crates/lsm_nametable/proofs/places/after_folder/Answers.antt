use Rattle.std.proofs.Common.{◌≡◌, ◌<◌, ◌≤◌, ℕ, List, [], ◌∷◌, length, drop, refl, ◌∙◌, arith, length-drop}
use Rattle.std.specs.Prelude.{None}
use Rattle.lsm_disk.specs.Names.{under}
use Rattle.lsm_nametable.proofs.places.after_folder.Goals as goal

ended : (folder path : List ℕ) → 0 < length folder → length path ≤ 0 → None ≡ under folder path
ended [] path some none = absurd (omega (arith, some))
ended (f ∷ folder) [] some none = refl
ended (f ∷ folder) (c ∷ path) some none = absurd (omega (arith, none))

pub returns-then-at-path-clause-rest : goal.returns-then-at-path-clause-rest
returns-then-at-path-clause-rest c =
    ended (drop c.loop-byte.byte-index c.args.folder.now) (drop c.loop-byte.at c.args.path.now) (omega (arith, length-drop {A = ℕ})) (omega (arith, length-drop {A = ℕ})) ∙ c.loop-byte.invariant.rest
