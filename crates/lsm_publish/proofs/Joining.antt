-- The writing and the switch, one after the other.
use Rattle.std.specs.Prelude.{◌≡◌, ℕ, List, Option, Some, Result, Err, IsErrAnd}
use Rattle.std.proofs.Common.{inl, inr, sym, ap, subst, ◌∙◌}
use Rattle.std.proofs.lemmas.Result.{err_from_is_err_and}
use Rattle.lsm_disk.specs.State.{State, Story, state_of}
use Rattle.lsm_disk.specs.Goes.{Went}
use Rattle.lsm_disk.specs.declared.calls.DiskRefusal.{DiskRefusal}
use Rattle.lsm_disk.proofs.Runs.{went_weaker, went_then, went_wider}
use Rattle.lsm_publish.specs.Publishing.{Old, HasOld, HasOldOrNew, Writes, Switches, Publishes, IsReady, Written, Switched, Published}

module _ (temporary path : List ℕ) (old : Old) (id : ℕ) (bytes : List ℕ) (story : Story) where
  abbrev Came : Option Story → (State → Type 0) → Type 0
  Came told I = Went story told (Publishes temporary path id) (HasOldOrNew path old bytes) I

  widened : {told : Option Story} {I : State → Type 0} → Went story told (Writes temporary id) (HasOld path old) I → Came told I
  widened w = went_wider (Writes temporary id) (Publishes temporary path id) (HasOld path old) (HasOldOrNew path old bytes) (λ c x. inl x) (λ s t x. inl x) w

  -- the answer is handed on
  by_error : (told : Option Story) (r : Result (Unit {0}) DiskRefusal) (e : DiskRefusal) → IsErrAnd r (λ x. x ≡ e) → Came told (Published temporary path old id bytes (Err e)) → Came told (Published temporary path old id bytes r)
  by_error told r e is w =
      let p = err_from_is_err_and r is in
      subst (λ (x : Result (Unit {0}) DiskRefusal). Came told (Published temporary path old id bytes x)) (sym (p.1 ∙ ap (λ (x : DiskRefusal). Err x) p.2)) w

  pub not_written : {told : Option Story} (r : Result (Unit {0}) DiskRefusal) (e : DiskRefusal) → IsErrAnd r (λ x. x ≡ e) → Went story told (Writes temporary id) (HasOld path old) (Written temporary path old id bytes (Err e))
      → Came told (Published temporary path old id bytes r)
  not_written r e is w = by_error _ r e is (went_weaker (Written temporary path old id bytes (Err e)) (Published temporary path old id bytes (Err e)) (λ s x. inl x) (widened w))

  pub then_switched : {told now : Option Story} (result : Result (Unit {0}) DiskRefusal) → Went story told (Writes temporary id) (HasOld path old) (IsReady temporary path old id bytes)
      → ((mid : Story) → told ≡ Some mid → IsReady temporary path old id bytes (state_of mid) → Went mid now (Switches temporary path) (HasOldOrNew path old bytes) (Switched temporary path old id bytes result))
      → Came now (Switched temporary path old id bytes result)
  then_switched result w next = went_then (widened w) (λ mid tells ready. went_wider (Switches temporary path) (Publishes temporary path id) (HasOldOrNew path old bytes) (HasOldOrNew path old bytes) (λ c x. inr x) (λ s t x. x) (next mid tells ready))

  pub not_switched : {now : Option Story} (r : Result (Unit {0}) DiskRefusal) (e : DiskRefusal) → IsErrAnd r (λ x. x ≡ e) → Came now (Switched temporary path old id bytes (Err e)) → Came now (Published temporary path old id bytes r)
  not_switched r e is w = by_error _ r e is (went_weaker (Switched temporary path old id bytes (Err e)) (Published temporary path old id bytes (Err e)) (λ s x. inr x) w)
