-- The greatest sequence of rows.
use Rattle.std.specs.Prelude.{ℕ, nat_lt, if◌then◌else◌, List, [], ◌∷◌}
use Rattle.lsm_rows.specs.declared.rows.Row.{Row}

-- the greater of the two
abbrev pub later : ℕ → ℕ → ℕ
later last sequence = if nat_lt last sequence then sequence else last

-- the greatest of this number and the rows' sequences
abbrev pub greatest_from : ℕ → List Row → ℕ
greatest_from last [] = last
greatest_from last (row ∷ rows) = greatest_from (later last row.sequence) rows
