-- The rows of logs have sequences that rise, so no two of them have one.
use Rattle.std.specs.Prelude.{◌≡◌, ℕ, ◌+◌, ◌<◌, ◌≤◌, false, nat_eq, List, [], ◌∷◌, ◌++◌, length}
use Rattle.std.proofs.Common.{sym, subst, arith}
use Rattle.std.proofs.lemmas.Bool.Decides.{nat_tests}
use Rattle.std.specs.List.{IsDistinct, AllByRecursion}
use Rattle.lsm_rows.specs.declared.operations.Op.{Op}
use Rattle.lsm_rows.specs.declared.rows.Row.{Row}
use Rattle.lsm_rows.specs.Rows.{batch_rows, rows_of}
use Rattle.lsm_rows.proofs.ReplayedRows.{sequence-is}
use Rattle.lsm_folder.specs.Needed.{sequences}

-- numbers that rise, each at least this one
abbrev pub Rising : ℕ → List ℕ → Type 0
Rising least [] = Unit {0}
Rising least (x ∷ xs) = (least ≤ x) × Rising (x + 1) xs

sooner : (least more : ℕ) (xs : List ℕ) → least ≤ more → Rising more xs → Rising least xs
sooner least more [] le h = tt
sooner least more (x ∷ xs) le h = (omega (arith, le, h.0), h.1)

pub apart_above : (x least : ℕ) (xs : List ℕ) → x < least → Rising least xs → AllByRecursion (λ (y : ℕ). nat_eq x y ≡ false) xs
apart_above x least [] lt h = tt
apart_above x least (y ∷ xs) lt h =
    let above : x < y = omega (arith, lt, h.0) in
    (grind (arith, nat_tests), apart_above x (y + 1) xs (omega (arith, above)) h.1)

pub apart : (least : ℕ) (xs : List ℕ) → Rising least xs → IsDistinct nat_eq xs
unfolding IsDistinct
apart least [] h = tt
apart least (x ∷ xs) h = (apart_above x (x + 1) xs (omega arith) h.1, apart (x + 1) xs h.1)

batch_rises : (first : ℕ) (ops : List Op) (rest : List Row) → Rising (first + length ops) (sequences rest)
    → Rising first (sequences (batch_rows first ops ++ rest))
batch_rises first [] rest h = sooner first (first + 0) (sequences rest) (omega arith) h
batch_rises first (op ∷ ops) rest h =
    let is = sequence-is first op in
    let later : Rising (first + 1 + length ops) (sequences rest) =
    sooner (first + 1 + length ops) (first + length (op ∷ ops)) (sequences rest) (omega arith) h in
    (omega (arith, is), subst (λ (n : ℕ). Rising (n + 1) (sequences (batch_rows (first + 1) ops ++ rest))) (sym is) (batch_rises (first + 1) ops rest later))

pub rows_rise : (first : ℕ) (batches : List (List Op)) → Rising first (sequences (rows_of first batches))
rows_rise first [] = tt
rows_rise first (ops ∷ batches) =
    batch_rises first ops (rows_of (first + length ops) batches) (rows_rise (first + length ops) batches)
