-- The sizes of rows that are kept by their keys.
use Rattle.std.proofs.Common.{◌≡◌, ◌+◌, ◌≤◌, List, [], ◌∷◌, ◌++◌, length, refl, ap, arith, length-append}
use Rattle.std.specs.List.{flat_map, sum_by}
use Rattle.std.specs.Map.{values_of}
use Rattle.std.proofs.lemmas.List.Sums.{sum_by-append, sum_by-cons}
use Rattle.lsm_rows.specs.declared.rows.Row.{Row}
use Rattle.lsm_memtable.specs.Sizes.{row_bytes}
use Rattle.lsm_memtable.specs.Kept.{rows_in}

-- one list behind another
abbrev pub joined : List (List Row) → List Row
joined lists = flat_map (λ rows. rows) lists

pub joined_values : {K : Type 0} (es : List (K × List Row)) → joined (values_of es) ≡ rows_in es
joined_values [] = refl
joined_values (e ∷ es) = ap (λ l. e.1 ++ l) (joined_values es)

pub length-joined : (rows : List Row) (lists : List (List Row)) → length (joined (rows ∷ lists)) ≡ length rows + length (joined lists)
length-joined rows lists = length-append rows (joined lists)

pub sum-joined : (rows : List Row) (lists : List (List Row)) → sum_by row_bytes (joined (rows ∷ lists)) ≡ sum_by row_bytes rows + sum_by row_bytes (joined lists)
sum-joined rows lists = sum_by-append row_bytes rows (joined lists)

-- each row counts a byte at least
pub length-le-bytes : (rows : List Row) → length rows ≤ sum_by row_bytes rows
length-le-bytes [] = omega arith
length-le-bytes (r ∷ rows) = omega (arith, sum_by-cons row_bytes r rows, length-le-bytes rows)
