-- What a store tells of itself.
use Rattle.std.specs.Prelude.{◌≡◌, ℕ, ◌+◌, Bool, nat_le, List, [], ◌∷◌, length, sum_by, Option, Some, None}
use Rattle.std.proofs.Common.{refl, sym, ap, subst, ◌∙◌, arith}
use Rattle.std.proofs.lemmas.List.Sorted.{sum_by-IsPermutation}
use Rattle.std.proofs.lemmas.List.Sums.{sum_by-append, sum_by-cons}
use Rattle.lsm_rows.specs.declared.operations.Op.{Op}
use Rattle.lsm_rows.specs.declared.operations.Op.TheVariants.{Put, Delete}
use Rattle.lsm_rows.specs.declared.rows.Row.{Row}
use Rattle.lsm_rows.specs.Rows.{row_of, batch_rows, rows_of}
use Rattle.lsm_memtable.specs.Sizes.{row_bytes}
use Rattle.lsm_model.specs.declared.events.Event.TheVariants as event
use Rattle.lsm_model.specs.declared.replies.Reply.TheVariants as reply
use Rattle.lsm_model.specs.declared.states.State.{State}
use Rattle.lsm_model.specs.Reads.{freeze_size, TellsWantsFreeze}
use Rattle.lsm_model.specs.States.{op_bytes, bytes_of, active_batches}
use Rattle.lsm_model.specs.Steps.{Step}
use Rattle.lsm_refine.specs.Kept.{Shown}
use Rattle.lsm_refine.specs.Good.{first_active}
use Rattle.lsm_refine.specs.Caused.{row_size}
use Rattle.lsm_refine.proofs.ShownLemmas.{good_shows}
use Rattle.lsm_refine.proofs.UnpinSteps.{last_told}
use Rattle.lsm_store.proofs.Calls.{IsCall, nothing_called, last_caused, wants_caused}

abbrev pub IsLast : ℕ → Shown → Type 0
IsLast last v = IsCall (λ s. s) event.Last (reply.Last last) v v

abbrev pub IsWanting : Bool → Shown → Type 0
IsWanting wants v = IsCall (λ s. s) event.WantsFreeze (reply.WantsFreeze wants) v v

pub tells_last : (v : Shown) → IsLast v.kept.sequence v
tells_last v =
    nothing_called (λ s. s) event.Last (reply.Last v.kept.sequence) v (λ s good. last_told v s good)
    (last_caused v v v.kept.sequence (refl, refl))

-- ---- how many bytes the rows in memory count

-- a memory's row counts what a kept row does
same_size : (row : Row) → row_bytes row ≡ row_size row
same_size row = by row.value refl
  where
    by : (value : Option (List ℕ)) → row.value ≡ value → row_bytes row ≡ row_size row
    by None is =
        subst (λ (v : Option (List ℕ)). row_bytes (record row { value = v }) ≡ row_size (record row { value = v }))
        (sym is) (omega arith)
    by (Some bytes) is =
        subst (λ (v : Option (List ℕ)). row_bytes (record row { value = v }) ≡ row_size (record row { value = v }))
        (sym is) refl

pub same_sizes : (rows : List Row) → sum_by row_bytes rows ≡ sum_by row_size rows
same_sizes [] = refl
same_sizes (row ∷ rows) =
    omega (arith, sum_by-cons row_bytes row rows, sum_by-cons row_size row rows, same_size row, same_sizes rows)

op_size : (first : ℕ) (op : Op) → row_size (row_of first op) ≡ op_bytes op
op_size first (Put key value) = refl
op_size first (Delete key) = omega arith

batch_size : (first : ℕ) (ops : List Op) → sum_by row_size (batch_rows first ops) ≡ sum_by op_bytes ops
batch_size first [] = refl
batch_size first (op ∷ ops) =
    omega (
      arith,
      sum_by-cons row_size (row_of first op) (batch_rows (first + 1) ops),
      sum_by-cons op_bytes op ops,
      op_size first op,
      batch_size (first + 1) ops,
    )

rows_size : (first : ℕ) (batches : List (List Op)) → sum_by row_size (rows_of first batches) ≡ bytes_of batches
rows_size first [] = refl
rows_size first (ops ∷ batches) =
    sum_by-append row_size (batch_rows first ops) (rows_of (first + length ops) batches)
    ∙ ap (λ (n : ℕ). n + sum_by row_size (rows_of (first + length ops) batches)) (batch_size first ops)
    ∙ ap (λ (n : ℕ). sum_by op_bytes ops + n) (rows_size (first + length ops) batches)
    ∙ sym (sum_by-cons (λ (l : List Op). sum_by op_bytes l) ops batches)

wants_step : (s t : State) (wants : Bool) → TellsWantsFreeze s wants t → Step s event.WantsFreeze (reply.WantsFreeze wants) t
unfolding Step
wants_step s t wants step = step

pub tells_wants : (v : Shown) (bytes : ℕ) → bytes ≡ sum_by row_bytes v.kept.active → IsWanting (nat_le freeze_size bytes) v
tells_wants v bytes are =
    let kept : bytes ≡ sum_by row_size v.kept.active = are ∙ same_sizes v.kept.active in
    nothing_called (λ s. s) event.WantsFreeze (reply.WantsFreeze (nat_le freeze_size bytes)) v
    (λ s good.
    let rows = (good_shows v s good).active in
    let counted : bytes ≡ bytes_of (active_batches s) =
    kept ∙ sum_by-IsPermutation row_size (rows_of (first_active s) (active_batches s)) v.kept.active rows.same
    ∙ rows_size (first_active s) (active_batches s) in
    (s, wants_step s s (nat_le freeze_size bytes) (ap (nat_le freeze_size) counted, refl), good))
    (wants_caused v v (nat_le freeze_size bytes) (ap (nat_le freeze_size) kept, refl))
