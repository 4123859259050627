-- How a batch is built of a line's operations, one by one.
use Rattle.std.specs.Prelude.{◌≡◌, ℕ, ◌+◌, List, [], ◌∷◌, ◌++◌, drop, Option, Some, None, false, true, Result, Ok, Err, IsErr, IsErrAnd}
use Rattle.std.proofs.Common.{sym, ap, subst, ◌∙◌}
use Rattle.lsm_rows.specs.declared.operations.Op.{Op}
use Rattle.lsm_rows.specs.Limits.{Refused, refusal_of, refused_in}
use Rattle.lsm_rows.specs.declared.refusals.BatchRefusal.{BatchRefusal}
use Rattle.lsm_rows.specs.declared.refusals.BatchRefusal.TheVariants as refusals
use Rattle.ldb_script.specs.Plain.{or_later, first_refusal}
use Rattle.ldb_script.specs.Doing.{BuildsOr}

module _ (ops built : List Op) (i : ℕ) (op : Op) (is : drop i ops ≡ op ∷ drop (i + 1) ops) where
  -- an operation that the limits take
  pub taken : refusal_of built op ≡ None → first_refusal built (drop i ops) ≡ first_refusal (built ++ op ∷ []) (drop (i + 1) ops)
  taken fits = ap (first_refusal built) is ∙ ap (λ (r : Option Refused). or_later r (first_refusal (built ++ op ∷ []) (drop (i + 1) ops))) fits

  -- the first one that they refuse
  pub refused : (r : Refused) → refusal_of built op ≡ Some r → first_refusal built (drop i ops) ≡ Some r
  refused r is_refused = ap (first_refusal built) is ∙ ap (λ (r : Option Refused). or_later r (first_refusal (built ++ op ∷ []) (drop (i + 1) ops))) is_refused

  -- what the refusal of an operation says of the batch
  pub builds_none : (all : List Op) → first_refusal [] all ≡ first_refusal built (drop i ops) → (e : BatchRefusal) → refused_in {A = Unit {0}} (Err e) ≡ refusal_of built op → BuildsOr all (Err e)
  unfolding refused_in
  builds_none all so_far (refusals.BatchTooLarge what kept limit) told = so_far ∙ refused (record { what = what; kept = kept; limit = limit }) (sym told)
  builds_none all so_far refusals.NoMemory told = tt

pub builds_by : (all : List Op) (result : Result (List Op) BatchRefusal) (e : BatchRefusal) → IsErr result × IsErrAnd result (λ x. x ≡ e) → BuildsOr all (Err e) → BuildsOr all result
builds_by all (Ok batch) e is h = absurd (ok_is_no_err is.0) where
  ok_is_no_err : false ≡ true → ⊥
  ok_is_no_err e = cc
builds_by all (Err x) e is h = subst (λ (y : BatchRefusal). BuildsOr all (Err y)) (sym is.1) h
