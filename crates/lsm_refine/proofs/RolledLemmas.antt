-- Lists of logs with one more, and what stands where no rows are frozen.
use Rattle.std.specs.Prelude.{◌≡◌, ℕ, ◌+◌, ◌<◌, ◌≤◌, List, [], ◌∷◌, ◌++◌, length, sum_by, All}
use Rattle.std.specs.List.{AllByRecursion}
use Rattle.std.specs.List.Sorted.{IsPermutation, IsStrictlySortedBy}
use Rattle.std.specs.Ordering.{nat_cmp}
use Rattle.std.specs.declared.cmp.Ordering.TheVariants.{Less}
use Rattle.std.proofs.Common.{refl, sym, ap, subst, ◌∙◌, arith, append_assoc}
use Rattle.std.proofs.lemmas.Bool.Decides.{nat_tests}
use Rattle.std.proofs.lemmas.List.{append-nil}
use Rattle.std.proofs.lemmas.List.Sums.{sum_by-cons}
use Rattle.std.proofs.lemmas.List.Elements.{All-head, All-tail}
use Rattle.std.proofs.lemmas.List.Sorted.{length_permutation}
use Rattle.lsm_names.specs.declared.file_names.FileName.TheVariants.{Log}
use Rattle.lsm_rows.specs.declared.operations.Op.{Op}
use Rattle.lsm_rows.specs.declared.rows.Row.{Row}
use Rattle.lsm_rows.specs.Replay.{sequence_after}
use Rattle.lsm_rows.specs.Rows.{batch_rows, rows_of}
use Rattle.lsm_rows.proofs.Replaying.{sequence_both}
use Rattle.lsm_disk.specs.State.{State}
use Rattle.lsm_disk.specs.Dest.{path_in}
use Rattle.lsm_wal.specs.Batches.{IsLogged, in_sequence, wal_text}
use Rattle.lsm_wal.specs.Standing.{IsWal}
use Rattle.lsm_refine.specs.Parts.{LogPart, batches_in}
use Rattle.lsm_refine.specs.Sane.{AreSynced}
use Rattle.lsm_refine.specs.Fronts.{texts_from}
use Rattle.lsm_refine.proofs.ShownLemmas.{rows_both}

-- ---- one log more

pub batches_push : (older : List LogPart) (last : LogPart) → batches_in (older ++ last ∷ []) ≡ batches_in older ++ last.batches
batches_push [] last = append-nil last.batches
batches_push (log ∷ older) last = ap (λ (l : List (List Op)). log.batches ++ l) (batches_push older last) ∙ sym
    (append_assoc log.batches (batches_in older) last.batches)

pub synced_push : (d : State) (dir : List ℕ) (first : ℕ) (older : List LogPart) (last : LogPart) → AreSynced d dir first older
    → IsWal d (path_in dir (Log last.number)) (in_sequence (sequence_after first (batches_in older)) last.batches)
    (length last.batches) → AreSynced d dir first (older ++ last ∷ [])
synced_push d dir first [] last synced wal = (wal, tt)
synced_push d dir first (log ∷ older) last synced wal = (
  synced.0,
  synced_push d dir (sequence_after first log.batches) older last synced.1
      (subst (λ (n : ℕ). IsWal d (path_in dir (Log last.number)) (in_sequence n last.batches) (length last.batches))
      (sym (sequence_both first log.batches (batches_in older))) wal),
)

is_less : (a b : ℕ) → a < b → nat_cmp a b ≡ Less
is_less a b less = grind (arith, nat_tests)

pub sorted_push : (xs : List ℕ) (n : ℕ) → IsStrictlySortedBy nat_cmp xs → All (λ (x : ℕ). x < n) xs
    → IsStrictlySortedBy nat_cmp (xs ++ n ∷ [])
unfolding IsStrictlySortedBy
sorted_push [] n sorted below = (tt, tt)
sorted_push (x ∷ xs) n sorted below = (at_end xs sorted.0, sorted_push xs n sorted.1 (All-tail (λ (y : ℕ). y < n) x xs below))
  where
    at_end : (ys : List ℕ) → AllByRecursion (λ (y : ℕ). nat_cmp x y ≡ Less) ys
        → AllByRecursion (λ (y : ℕ). nat_cmp x y ≡ Less) (ys ++ n ∷ [])
    at_end [] each = (is_less x n (All-head (λ (y : ℕ). y < n) x xs below), tt)
    at_end (y ∷ ys) each = (each.0, at_end ys each.1)

abbrev text_bytes : ℕ × List ℕ → ℕ
text_bytes text = length text.1

-- how many bytes they have
pub bytes_push : (first : ℕ) (older : List LogPart) (last : LogPart) → sum_by text_bytes (texts_from first (older ++ last ∷ []))
    ≡ sum_by text_bytes (texts_from first older) + length (wal_text (in_sequence (sequence_after first (batches_in older)) last.batches))
bytes_push first [] last = omega arith
bytes_push first (log ∷ older) last =
    let next : ℕ = sequence_after first log.batches in
    let all : sum_by text_bytes (texts_from first (log ∷ (older ++ last ∷ [])))
    ≡ length (wal_text (in_sequence first log.batches)) + sum_by text_bytes (texts_from next (older ++ last ∷ [])) =
    sum_by-cons text_bytes (log.number, wal_text (in_sequence first log.batches)) (texts_from next (older ++ last ∷ [])) in
    let front : sum_by text_bytes (texts_from first (log ∷ older))
    ≡ length (wal_text (in_sequence first log.batches)) + sum_by text_bytes (texts_from next older) =
    sum_by-cons text_bytes (log.number, wal_text (in_sequence first log.batches)) (texts_from next older) in
    let behind = ap (λ (n : ℕ). length (wal_text (in_sequence n last.batches))) (sequence_both first log.batches (batches_in older)) in
    omega (arith, all, front, bytes_push next older last, behind)

-- ---- no rows

no_cons : {A : Type 0} (x : A) (xs : List A) → x ∷ xs ≡ [] → ⊥
no_cons x xs same = let many : length (x ∷ xs) ≡ 0 = ap (λ l. length l) same in omega (arith, many)

pub split_none : {A : Type 0} (xs ys : List A) → xs ++ ys ≡ [] → (xs ≡ []) × (ys ≡ [])
split_none [] ys same = (refl, same)
split_none (x ∷ xs) ys same = absurd (no_cons x (xs ++ ys) same)

some_rows : (first : ℕ) (ops : List Op) (more : List Row) → 1 ≤ length ops → batch_rows first ops ++ more ≡ [] → ⊥
some_rows first [] more some same = omega (arith, some)
some_rows first (op ∷ ops) more some same = no_cons _ _ same

-- no rows are those of no batches
pub none_logged : (first : ℕ) (batches : List (List Op)) → All IsLogged (in_sequence first batches)
    → rows_of first batches ≡ [] → batches ≡ []
none_logged first [] each same = refl
none_logged first (ops ∷ batches) each same =
    absurd (some_rows first ops (rows_of (first + length ops) batches)
    (All-head IsLogged (record { first = first; ops = ops }) (in_sequence (first + length ops) batches) each).some same)

pub none_in : (d : State) (dir : List ℕ) (first : ℕ) (logs : List LogPart) → AreSynced d dir first logs
    → rows_of first (batches_in logs) ≡ [] → batches_in logs ≡ []
none_in d dir first [] synced same = refl
none_in d dir first (log ∷ logs) synced same =
    let parts = split_none (rows_of first log.batches) (rows_of (sequence_after first log.batches) (batches_in logs))
    (sym (rows_both first log.batches (batches_in logs)) ∙ same) in
    let here : log.batches ≡ [] = none_logged first log.batches synced.0.each parts.0 in
    ap (λ (l : List (List Op)). l ++ batches_in logs) here ∙ none_in d dir (sequence_after first log.batches) logs synced.1 parts.1

-- what is none in another order is none
pub none_of : {A : Type 0} (xs ys : List A) → IsPermutation xs ys → ys ≡ [] → xs ≡ []
none_of [] ys perm same = refl
none_of {A = A} (x ∷ xs) ys perm same = absurd (omega (arith, length_permutation (x ∷ xs) ys perm, ap (λ (m : List A). length m) same))

pub of_none : {A : Type 0} (xs ys : List A) → IsPermutation xs ys → xs ≡ [] → ys ≡ []
of_none xs [] perm same = refl
of_none {A = A} xs (y ∷ ys) perm same = absurd (omega (arith, length_permutation xs (y ∷ ys) perm, ap (λ (m : List A). length m) same))

-- logs of no batches have no bytes
pub no_bytes : (first : ℕ) (logs : List LogPart) → batches_in logs ≡ [] → sum_by text_bytes (texts_from first logs) ≡ 0
no_bytes first [] none = refl
no_bytes first (log ∷ logs) none =
    let parts = split_none log.batches (batches_in logs) none in
    let here : length (wal_text (in_sequence first log.batches)) ≡ 0 =
    ap (λ (l : List (List Op)). length (wal_text (in_sequence first l))) parts.0 in
    let all : sum_by text_bytes (texts_from first (log ∷ logs))
    ≡ length (wal_text (in_sequence first log.batches)) + sum_by text_bytes (texts_from (sequence_after first log.batches) logs) =
    sum_by-cons text_bytes (log.number, wal_text (in_sequence first log.batches)) (texts_from (sequence_after first log.batches) logs) in
    omega (arith, all, here, no_bytes (sequence_after first log.batches) logs parts.1)
