-- A batch's text is read back by its own counts and lengths.
use Rattle.std.specs.Prelude.{◌≡◌, ℕ, ◌+◌, ◌^◌, ◌<◌, Bool, true, false, cond, ◌&&◌, nat_le, List, [], ◌∷◌, ◌++◌, length, All, Option, Some, None}
use Rattle.std.proofs.Common.{refl, ap, subst, ◌∙◌, arith}
use Rattle.std.proofs.lemmas.Bool.{and_parts}
use Rattle.std.proofs.Common.{append_assoc}
use Rattle.std.proofs.lemmas.List.Elements.{All-head, All-tail, All-nil, All-cons}
use Rattle.std.proofs.lemmas.Nat.{from_le_bytes-to_le_bytes_4, from_le_bytes-to_le_bytes_8}
use Rattle.std.specs.List.{flat_map, list_all}
use Rattle.std.specs.Int.{w32, to_le_bytes, from_le_bytes}
use Rattle.std.specs.Str.{bytes_eq}
use Rattle.lsm_rows.specs.declared.operations.Op.{Op}
use Rattle.lsm_rows.specs.declared.operations.Op.TheVariants.{Put, Delete}
use Rattle.lsm_rows.specs.BatchText.{sized, op_text, batch_text, text_len}
use Rattle.lsm_rows.specs.Limits.{key_len, value_len, key_limit, value_limit, count_limit, bytes_limit, OpInLimits}
use Rattle.lsm_rows.specs.Decoding.{IsBatchText, IsSomeBatch}
use Rattle.lsm_wal.specs.Batches.{Logged, text_of, IsLogged}
use Rattle.lsm_folder.specs.Batches.{sized_ahead, op_ahead, ops_ahead, claimed, op_fits, batch_fits, batch_of}
use Rattle.lsm_folder.proofs.AheadLemmas.{at_most, within, sized_back}
use Rattle.lsm_folder.proofs.NameLemmas.{same_text, equal_texts, and_true}
use Rattle.std.proofs.lemmas.Option.{same_Some}

-- ---- operations

put_back : (key value rest : List ℕ) → op_ahead (1 ∷ (sized key ++ sized value) ++ rest) ≡ (Put key value, rest)
unfolding op_ahead
put_back key value rest =
    let first : sized_ahead ((sized key ++ sized value) ++ rest) ≡ (key, sized value ++ rest) =
    ap sized_ahead (append_assoc (sized key) (sized value) rest) ∙ sized_back key (sized value ++ rest) in
    ap (λ (k : List ℕ × List ℕ). (Put k.0 (sized_ahead k.1).0, (sized_ahead k.1).1)) first
    ∙ ap (λ (v : List ℕ × List ℕ). (Put key v.0, v.1)) (sized_back value rest)

delete_back : (key rest : List ℕ) → op_ahead (0 ∷ sized key ++ rest) ≡ (Delete key, rest)
unfolding op_ahead
delete_back key rest = ap (λ (k : List ℕ × List ℕ). (Delete k.0, k.1)) (sized_back key rest)

op_back : (op : Op) (rest : List ℕ) → op_ahead (op_text op ++ rest) ≡ (op, rest)
unfolding op_text
op_back (Put key value) rest = put_back key value rest
op_back (Delete key) rest = delete_back key rest

ops_back : (ops : List Op) → ops_ahead (length ops) (flat_map op_text ops) ≡ ops
ops_back [] = refl
ops_back (op ∷ ops) =
    ap (λ (r : Op × List ℕ). r.0 ∷ ops_ahead (length ops) r.1) (op_back op (flat_map op_text ops))
    ∙ ap (λ (l : List Op). op ∷ l) (ops_back ops)

-- ---- batches

claimed_back : (first : ℕ) (ops : List Op) → first < 2 ^ 64 → length ops < 2 ^ 32
    → claimed (batch_text first ops) ≡ record { first = first; ops = ops }
unfolding claimed batch_text
claimed_back first ops small few =
    ap (λ (k : ℕ). record { first = k; ops = ops_ahead (from_le_bytes w32 (to_le_bytes w32 (length ops))) (flat_map op_text ops) }) (from_le_bytes-to_le_bytes_8 first small)
    ∙ ap (λ (k : ℕ). record { first = first; ops = ops_ahead k (flat_map op_text ops) })
    (from_le_bytes-to_le_bytes_4 (length ops) few)
    ∙ ap (λ (l : List Op). record { first = first; ops = l }) (ops_back ops)

op_fits_says : (op : Op) → op_fits op ≡ true → OpInLimits op
op_fits_says op h =
    let parts = and_parts (nat_le (key_len op) key_limit) (nat_le (value_len op) value_limit) h in
    record { key = at_most (key_len op) key_limit parts.0; value = at_most (value_len op) value_limit parts.1 }

fits_op : (op : Op) → OpInLimits op → op_fits op ≡ true
fits_op op h = and_true _ _ (within (key_len op) key_limit h.key) (within (value_len op) value_limit h.value)

all_fit_says : (ops : List Op) → list_all op_fits ops ≡ true → All OpInLimits ops
all_fit_says [] h = All-nil OpInLimits
all_fit_says (op ∷ ops) h =
    let parts = and_parts (op_fits op) (list_all op_fits ops) h in
    All-cons OpInLimits op ops (op_fits_says op parts.0) (all_fit_says ops parts.1)

all_fit : (ops : List Op) → All OpInLimits ops → list_all op_fits ops ≡ true
all_fit [] h = refl
all_fit (op ∷ ops) h = and_true _ _ (fits_op op (All-head OpInLimits op ops h)) (all_fit ops (All-tail OpInLimits op ops h))

-- the test of a batch is that of its text
fits_logged : (batch : Logged) → IsLogged batch → batch_fits batch ≡ true
unfolding batch_fits
fits_logged batch h =
    let some = within 1 (length batch.ops) h.some in
    let last = within (batch.first + length batch.ops) (2 ^ 56) h.last in
    let count = within (length batch.ops) count_limit h.limits.count in
    let bytes = within (text_len batch.ops) bytes_limit h.limits.bytes in
    and_true _ _ (and_true _ _ (and_true _ _ (and_true _ _ some last) (all_fit batch.ops h.limits.each)) count) bytes

logged_fits : (batch : Logged) → batch_fits batch ≡ true → IsLogged batch
unfolding batch_fits
logged_fits batch h =
    let most = and_parts _ _ h in
    let count = and_parts _ _ most.0 in
    let each = and_parts _ _ count.0 in
    let some = and_parts _ _ each.0 in
    record {
      is = refl;
      some = at_most 1 (length batch.ops) some.0;
      limits = record { each = all_fit_says batch.ops each.1; count = at_most (length batch.ops) count_limit count.1; bytes = at_most (text_len batch.ops) bytes_limit most.1 };
      last = at_most (batch.first + length batch.ops) (2 ^ 56) some.1;
    }

-- a batch's text gives the batch
pub batch_found : (text : List ℕ) (first : ℕ) (ops : List Op) → IsBatchText text first ops
    → batch_of text ≡ Some (record { first = first; ops = ops })
unfolding batch_of
batch_found text first ops h =
    let batch : Logged = record { first = first; ops = ops } in
    let small : first < 2 ^ 64 = omega (arith, h.last) in
    let few : length ops < 2 ^ 32 = omega (arith, h.limits.count) in
    let logged : IsLogged batch = record { is = refl; some = h.some; limits = h.limits; last = h.last } in
    ap (λ (l : Logged). cond (batch_fits l && bytes_eq text (text_of l)) (Some l) None)
    (ap claimed h.is ∙ claimed_back first ops small few)
    ∙ ap (λ (b : Bool). cond b (Some batch) None)
    (and_true _ _ (fits_logged batch logged) (ap (λ (t : List ℕ). bytes_eq t (text_of batch)) h.is ∙ same_text (text_of batch)))

-- only a batch's text gives it
pub batch_is : (text : List ℕ) (batch : Logged) → batch_of text ≡ Some batch → IsBatchText text batch.first batch.ops
unfolding batch_of
batch_is text batch h =
    let l = claimed text in
    elim (batch_fits l && bytes_eq text (text_of l)) as (λ b. (batch_fits l && bytes_eq text (text_of l)) ≡ b → cond b (Some l) None ≡ Some batch → IsBatchText text batch.first batch.ops) [
      | true ↦ λ is e.
          let parts = and_parts (batch_fits l) (bytes_eq text (text_of l)) is in
          let logged = logged_fits l parts.0 in
          subst (λ (x : Logged). IsBatchText text x.first x.ops) (same_Some l batch e)
          (record { is = equal_texts text (text_of l) parts.1; some = logged.some; limits = logged.limits; last = logged.last })
      | false ↦ λ is e. cc
    ] refl h

no_some : (o : Option Logged) → ((batch : Logged) → o ≡ Some batch → ⊥) → o ≡ None
no_some None h = refl
no_some (Some batch) h = absurd (h batch refl)

-- a text that is no batch's gives none
pub batch_none : (text : List ℕ) → ¬ IsSomeBatch text → batch_of text ≡ None
batch_none text none =
    no_some (batch_of text)
    (λ batch is. none (record { first = batch.first; ops = batch.ops; text_is = batch_is text batch is }))
