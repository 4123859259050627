-- What the switch of `CURRENT` leaves, and the sync of names before it.
use Rattle.std.specs.Prelude.{◌≡◌, ◌≢◌, ◌⊎◌, ℕ, List, Option, Some, IfSome, Result, Ok, Err}
use Rattle.std.proofs.Common.{⊎_elim, inl, inr}
use Rattle.lsm_disk.specs.Names.{File_node, Moved}
use Rattle.lsm_disk.specs.State.{State, Story, Change, after, state_of, names_synced, renamed_by}
use Rattle.lsm_disk.specs.Images.{Tree, IsImage}
use Rattle.lsm_disk.specs.Goes.{Shows, Went}
use Rattle.lsm_disk.specs.Kept.{IsFileNow, IsKeptFile, OpSpares}
use Rattle.lsm_disk.specs.Answers.{Makes, LeftBy, Allowed, RefusesBy}
use Rattle.lsm_disk.specs.Refusals.{never, no_rename}
use Rattle.lsm_disk.specs.declared.calls.DiskCall.{DiskCall}
use Rattle.lsm_disk.specs.declared.calls.DiskCall.TheVariants as call
use Rattle.lsm_disk.specs.declared.calls.DiskError.{DiskError}
use Rattle.lsm_disk.specs.declared.calls.DiskRefusal.{DiskRefusal}
use Rattle.lsm_disk.proofs.Named.{name_now, now_kept}
use Rattle.lsm_disk.proofs.Kept.{kept_spared}
use Rattle.lsm_disk.proofs.Runs.{went_start, went_weaker, went_ok, went_err, went_then, went_kept}
use Rattle.lsm_publish.specs.Publishing.{Old, StillHas, HasOldOrNew, Switches, IsReady, SwitchLeft, Switched, written}
use Rattle.lsm_publish.proofs.Olds.{still_image, still_names, names_switch}
use Rattle.lsm_publish.proofs.Switching.{whole_in, switch_refused, refused_rename as switch_rename, refused_names as switch_names, after_names as switch_ok}
use Rattle.lsm_manifest.specs.Installing.{IsOnly, IsSettled, LeadsEither, HasLed}
use Rattle.lsm_manifest.proofs.Carrying.{switch_spares}
use Rattle.lsm_manifest.proofs.Settling.{settled, went_both}

-- a refusal of this call, at this path and by this error
pub record IsAt (r : DiskRefusal) (c : DiskCall) (path : List ℕ) (why : DiskError) : Type 0 where
  pub call_is : r.at.call ≡ c
  pub path_is : r.at.path ≡ path
  pub why_is : r.why ≡ why

refusal_is : (r : DiskRefusal) (c : DiskCall) (path : List ℕ) (why : DiskError) → IsAt r c path why
    → r ≡ record { at = record { call = c; path = path }; why = why }
refusal_is r c path why at = λ i. record { at = record { call = at.call_is i; path = at.path_is i }; why = at.why_is i }

module _ (temporary path other : List ℕ) (old : Old) (id k : ℕ) (bytes text : List ℕ) (spares : OpSpares other (Moved temporary path)) (story : Story) where
  abbrev P : State → Tree → Type 0
  P = LeadsEither path other old bytes text

  abbrev Q : Change → Type 0
  Q = Switches temporary path

  -- both files are filled
  abbrev Filled : State → Type 0
  Filled s = StillHas path old s × IsFileNow s temporary id (written bytes) × IsFileNow s other k (written text)

  abbrev KeptOther : State → Type 0
  KeptOther s = IsKeptFile s other k (written text)

  -- and their names are sure
  abbrev Sure : State → Type 0
  Sure s = IsReady temporary path old id bytes s × KeptOther s

  abbrev Led : Result (Unit {0}) DiskRefusal → State → Type 0
  Led result = HasLed {T = Unit {0}} temporary path other old id bytes k text result

  shows_filled : (s : State) → Filled s → Shows P s
  shows_filled s f = record { each = λ t i. inl (still_image path old s f.0 t i) }

  shows_sure : (s : State) → Sure s → Shows P s
  shows_sure s r = record { each = λ t i. inl (still_image path old s r.0.still t i) }

  step_names : (s : State) → Filled s → Sure (after s (names_synced s))
  step_names s f = (record { still = still_names path old s f.0; new = now_kept s temporary id (written bytes) f.1 }, now_kept s other k (written text) f.2)

  keep : (s : State) (c : Change) → Q c → KeptOther s → KeptOther (after s c)
  keep s c is kept = kept_spared s other k (written text) kept c (switch_spares temporary path other k c spares is)

  shows : (s : State) (t : Tree) → KeptOther s → IsImage s t → HasOldOrNew path old bytes s t → P s t
  shows s t kept image has = ⊎_elim (λ was. inl was) (λ new. inr (new, whole_in other k text s t kept image)) has

  module _ {o1 : Option Story} (tells : o1 ≡ Some story) (filled : Filled (state_of story)) where
    begun : Went story o1 Q P Filled
    begun = went_start Filled tells filled shows_filled

    module _ {o2 : Option Story} where
      after_names : Makes o1 names_synced o2 → Went story o2 Q P Sure
      after_names makes = went_ok Filled Sure names_synced makes (λ s f. names_switch temporary path s) step_names shows_sure begun

      pub refused_names : (r : DiskRefusal) (e : DiskError) → r.at.path ≡ temporary → LeftBy (o2 ≡ o1) (Allowed never o1 × Makes o1 names_synced o2) e → Went story o2 Q P (Led (Err r))
      refused_names r e at did = went_weaker (λ s. Filled s ⊎ Sure s) (Led (Err r)) (λ s. ⊎_elim (λ f. inl (at, f.0, f.2)) (λ w. inl (at, w.0.still, record { named = name_now s other (Some (File_node k)) w.1.named; file = w.1.file })))
          (went_err Filled Sure names_synced never e did (λ s f. names_switch temporary path s) step_names shows_sure begun)

      module _ (synced : Makes o1 names_synced o2) where
        then_switch : {told : Option Story} (result : Result (Unit {0}) DiskRefusal)
            → ((mid : Story) → o2 ≡ Some mid → IsReady temporary path old id bytes (state_of mid)
            → Went mid told Q (HasOldOrNew path old bytes) (Switched temporary path old id bytes result))
            → Went story told Q P (λ s. Switched temporary path old id bytes result s × KeptOther s)
        then_switch result next = went_then (after_names synced)
            (λ mid here w. went_kept P KeptOther keep shows (Switched temporary path old id bytes result) w.1
            (next mid here w.0))

        -- a call of the switch was refused
        refused_switch : {told : Option Story} (c : DiskCall) (why : DiskError) (r : DiskRefusal) → IsAt r c path why
            → ((mid : Story) → o2 ≡ Some mid → IsReady temporary path old id bytes (state_of mid)
            → Went mid told Q (HasOldOrNew path old bytes) (SwitchLeft temporary path old id bytes c why))
            → Went story told Q P (Led (Err r))
        refused_switch c why r at next = went_weaker _ (Led (Err r)) (λ s p. inr p)
            (then_switch (Err r) (λ mid here ready. switch_refused temporary path old id bytes c why r
            (refusal_is r c path why at) (next mid here ready)))

        module _ {o3 : Option Story} where
          pub refused_rename : (e : DiskError) (r : DiskRefusal) → IsAt r call.Rename path e
              → LeftBy (o3 ≡ o2) (Allowed (no_rename temporary path) o2 × Makes o2 (renamed_by temporary path) o3) e
              → IfSome o2 (λ x. RefusesBy (no_rename temporary path (state_of x)) e) → Went story o3 Q P (Led (Err r))
          refused_rename e r at did by = refused_switch call.Rename e r at
              (λ mid here ready. switch_rename temporary path old id bytes mid here ready e did by)

          module _ (moved : Makes o2 (renamed_by temporary path) o3) {o4 : Option Story} where
            pub refused_last : (e : DiskError) (r : DiskRefusal) → IsAt r call.SyncNames path e → LeftBy (o4 ≡ o3)
                (Allowed never o3 × Makes o3 names_synced o4) e
                → IfSome o3 (λ x. RefusesBy (never (state_of x)) e) → Went story o4 Q P (Led (Err r))
            refused_last e r at did by = refused_switch call.SyncNames e r at
                (λ mid here ready. switch_names temporary path old id bytes mid here ready moved e did by)

            pub all_led : temporary ≢ path → id ≢ k → IsOnly (state_of story) other k → Makes o3 names_synced o4
                → Went story o4 Q P (Led (Ok (tt {0})))
            all_led apart ne only last = went_weaker _ (Led (Ok (tt {0}))) (λ s p. (p.0.0, p.0.1, p.1))
                (went_both (λ s. Switched temporary path old id bytes (Ok (tt {0})) s × KeptOther s)
                (IsSettled temporary other k)
                (then_switch (Ok (tt {0})) (λ mid here ready. switch_ok temporary path old id bytes mid here ready moved last))
                (settled temporary path other id k apart ne story tells synced moved last
                (record { named = filled.1.named; only = only })))
