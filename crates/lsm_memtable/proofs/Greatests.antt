-- The greatest sequence of rows, found row by row.
use Rattle.std.proofs.Common.{◌≡◌, ℕ, List, [], ◌∷◌, ◌++◌, refl, sym, ap, ◌∙◌}
use Rattle.std.specs.Prelude.{reverse}
use Rattle.std.proofs.lemmas.List.{reverse-append}
use Rattle.lsm_rows.specs.declared.rows.Row.{Row}
use Rattle.lsm_memtable.specs.Greatest.{later, greatest_from}

pub greatest-append : (n : ℕ) (rows more : List Row) → greatest_from n (rows ++ more) ≡ greatest_from (greatest_from n rows) more
greatest-append n [] more = refl
greatest-append n (row ∷ rows) more = greatest-append (later n row.sequence) rows more

-- the last row of a list is the next one of its reverse
pub last_turn : (n start : ℕ) (rest after rows : List Row) (row : Row) → rest ≡ after ++ row ∷ []
    → greatest_from n (reverse rest) ≡ greatest_from start rows
    → greatest_from (later n row.sequence) (reverse after) ≡ greatest_from start rows
last_turn n start rest after rows row steps before =
    sym (ap (greatest_from n) (ap reverse steps ∙ reverse-append after (row ∷ []))) ∙ before
