-- Rows with rising sequences, behind older rows, stand for the replay of their batches.
use Rattle.std.proofs.Common.{◌≡◌, ℕ, ◌+◌, ◌<◌, true, false, cond, nat_lt, List, [], ◌∷◌, ◌++◌, length, refl, sym, ◌∙◌, ap, subst, arith, append_assoc}
use Rattle.std.specs.Prelude.{Some}
use Rattle.std.specs.List.{fold}
use Rattle.std.proofs.lemmas.List.{append-nil}
use Rattle.std.proofs.lemmas.List.Elements.{All-head, All-tail, All-push, All-weaker}
use Rattle.std.proofs.lemmas.Bool.Decides.{nat_tests}
use Rattle.std.specs.Ordering.{eq_by_cmp}
use Rattle.std.specs.Cmp.Lexicographic.{nat_list_cmp_total}
use Rattle.std.specs.FinMap as map
use Rattle.lsm_rows.specs.declared.rows.Row.{Row}
use Rattle.lsm_rows.specs.declared.operations.Op.{Op}
use Rattle.lsm_rows.specs.declared.operations.Op.TheVariants.{Put, Delete}
use Rattle.lsm_rows.specs.Replay.{Contents, key_cmp, applied, replayed}
use Rattle.lsm_rows.specs.Rows.{row_of, batch_rows, rows_of}
use Rattle.lsm_rows.specs.Contents.{newer, newest, value_of, contents_of, AllBefore}
use Rattle.std.proofs.Common.{suc}
use Rattle.lsm_rows.proofs.NewestRows.{get_contents, same_contents}

pub lesser : (m n : ℕ) → m < n → nat_lt m n ≡ true
lesser m n h = grind (arith, nat_tests)

newest_last : (rows : List Row) (r : Row) (k : List ℕ) → AllBefore r.sequence rows → newest k (rows ++ r ∷ []) ≡ cond (eq_by_cmp key_cmp k r.key) (Some r) (newest k rows)
newest_last [] r k below = refl
newest_last (x ∷ rows) r k below =
    ap (λ o. cond (eq_by_cmp key_cmp k x.key) (Some (newer x o)) o) (newest_last rows r k (All-tail (λ row. row.sequence < r.sequence) x rows below))
    ∙ elim (eq_by_cmp key_cmp k r.key) as (λ b. cond (eq_by_cmp key_cmp k x.key) (Some (newer x (cond b (Some r) (newest k rows)))) (cond b (Some r) (newest k rows))
    ≡ cond b (Some r) (cond (eq_by_cmp key_cmp k x.key) (Some (newer x (newest k rows))) (newest k rows))) [
      | true ↦ ap (λ t. cond (eq_by_cmp key_cmp k x.key) (Some (cond t r x)) (Some r)) (lesser x.sequence r.sequence (All-head (λ row. row.sequence < r.sequence) x rows below))
          ∙ elim (eq_by_cmp key_cmp k x.key) as (λ c. cond c (Some r) (Some r) ≡ Some r) [ true ↦ refl | false ↦ refl ]
      | false ↦ refl
    ]

get_applied : (m : Contents) (sequence : ℕ) (op : Op) (q : List ℕ)
    → map.get (applied m op) q ≡ cond (eq_by_cmp key_cmp q (row_of sequence op).key) (row_of sequence op).value (map.get m q)
get_applied m sequence (Put key value) q = map.get-insert nat_list_cmp_total m key value q
get_applied m sequence (Delete key) q = map.get-remove nat_list_cmp_total m key q

contents_last : (rows : List Row) (r : Row) (q : List ℕ) → AllBefore r.sequence rows
    → map.get (contents_of (rows ++ r ∷ [])) q ≡ cond (eq_by_cmp key_cmp q r.key) r.value (map.get (contents_of rows) q)
contents_last rows r q below =
    get_contents (rows ++ r ∷ []) q ∙ ap value_of (newest_last rows r q below)
    ∙ elim (eq_by_cmp key_cmp q r.key) as (λ b. value_of (cond b (Some r) (newest q rows)) ≡ cond b r.value (map.get (contents_of rows) q)) [
      | true ↦ refl
      | false ↦ sym (get_contents rows q)
    ]

-- a row has the sequence that it was given
pub sequence-is : (sequence : ℕ) (op : Op) → (row_of sequence op).sequence ≡ sequence
sequence-is sequence (Put key value) = refl
sequence-is sequence (Delete key) = refl

pub contents_applied : (rows : List Row) (sequence : ℕ) (op : Op) → AllBefore sequence rows → contents_of (rows ++ row_of sequence op ∷ []) ≡ applied (contents_of rows) op
contents_applied rows sequence op below =
    same_contents (contents_of (rows ++ row_of sequence op ∷ [])) (applied (contents_of rows) op) (λ q.
    contents_last rows (row_of sequence op) q (subst (λ (n : ℕ). AllBefore n rows) (sym (sequence-is sequence op)) below)
    ∙ sym (get_applied (contents_of rows) sequence op q))

before_push : (rows : List Row) (sequence : ℕ) (op : Op) → AllBefore sequence rows → AllBefore (sequence + 1) (rows ++ row_of sequence op ∷ [])
before_push rows sequence op below =
    All-push (λ row. row.sequence < sequence + 1) rows (row_of sequence op)
    (All-weaker (λ row. row.sequence < sequence) (λ row. row.sequence < sequence + 1) (λ row h. omega arith) rows below)
    (omega (arith, sequence-is sequence op))

none_later : (first : ℕ) → first ≡ first + 0
none_later first = omega arith

one_later : (first n : ℕ) → first + 1 + n ≡ first + suc n
one_later first n = omega arith

pub before_batch : (rows : List Row) (first : ℕ) (ops : List Op) → AllBefore first rows → AllBefore (first + length ops) (rows ++ batch_rows first ops)
before_batch rows first [] below =
    subst (λ (n : ℕ). AllBefore n (rows ++ [])) (none_later first) (subst (λ (xs : List Row). AllBefore first xs) (sym (append-nil rows)) below)
before_batch rows first (op ∷ ops) below =
    subst (λ (n : ℕ). AllBefore n (rows ++ row_of first op ∷ batch_rows (first + 1) ops)) (one_later first (length ops))
    (subst (λ (xs : List Row). AllBefore (first + 1 + length ops) xs) (append_assoc rows (row_of first op ∷ []) (batch_rows (first + 1) ops))
    (before_batch (rows ++ row_of first op ∷ []) (first + 1) ops (before_push rows first op below)))

pub contents_batch : (rows : List Row) (first : ℕ) (ops : List Op) → AllBefore first rows → contents_of (rows ++ batch_rows first ops) ≡ fold applied (contents_of rows) ops
contents_batch rows first [] below = ap contents_of (append-nil rows)
contents_batch rows first (op ∷ ops) below =
    ap contents_of (sym (append_assoc rows (row_of first op ∷ []) (batch_rows (first + 1) ops)))
    ∙ contents_batch (rows ++ row_of first op ∷ []) (first + 1) ops (before_push rows first op below)
    ∙ ap (λ m. fold applied m ops) (contents_applied rows first op below)

pub contents_replayed : (rows : List Row) (first : ℕ) (batches : List (List Op)) → AllBefore first rows → contents_of (rows ++ rows_of first batches) ≡ replayed (contents_of rows) batches
contents_replayed rows first [] below = ap contents_of (append-nil rows)
contents_replayed rows first (ops ∷ batches) below =
    ap contents_of (sym (append_assoc rows (batch_rows first ops) (rows_of (first + length ops) batches)))
    ∙ contents_replayed (rows ++ batch_rows first ops) (first + length ops) batches (before_batch rows first ops below)
    ∙ ap (λ m. replayed m batches) (contents_batch rows first ops below)
