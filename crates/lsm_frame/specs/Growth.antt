-- What more text does to what was read.
use Rattle.std.specs.Prelude.{◌≡◌, ◌⊎◌, List}
use Rattle.lsm_frame.specs.Begins.{Begins}
use Rattle.lsm_frame.specs.Records.{Ending}
use Rattle.lsm_frame.specs.declared.ending.Ending.TheVariants.{End, Torn, Damaged, Malformed}

-- an end behind which more text may stand; the others stay, whatever stands behind them
abbrev pub IsOpen : Ending → Type 0
IsOpen End = Unit {0}
IsOpen (Torn place) = Unit {0}
IsOpen (Damaged place kept found) = ⊥
IsOpen (Malformed place) = ⊥

-- what a longer text reads to: the same, or more than the shorter one where that one's end is open
abbrev pub Extends : {A : Type 0} → List A × Ending → List A × Ending → Type 0
Extends short long = (long ≡ short) ⊎ (IsOpen short.1 × Begins short.0 long.0)
