-- What each call of the writing leaves.
use Rattle.std.specs.Prelude.{◌≡◌, ◌≢◌, ℕ, cond, List, take, is_some, Option, Some, None, IfSome, Err}
use Rattle.std.proofs.Common.{⊎_elim, refl, sym, ap, subst}
use Rattle.lsm_disk.specs.State.{State, Story, FileState, Created, after, state_of, new_file, longer, created, appended, file_synced, names_synced}
use Rattle.lsm_disk.specs.Images.{Tree}
use Rattle.lsm_disk.specs.Kept.{IsFileNow}
use Rattle.lsm_disk.specs.Goes.{Shows, Went}
use Rattle.lsm_disk.specs.Answers.{Makes, MakesFront, LeftBy, Allowed, RefusesBy}
use Rattle.lsm_disk.specs.Refusals.{never, no_room, no_file}
use Rattle.lsm_disk.specs.declared.calls.DiskError.{DiskError}
use Rattle.lsm_disk.specs.declared.calls.DiskError.TheVariants.{NotThere}
use Rattle.lsm_disk.specs.declared.calls.DiskCall.{DiskCall}
use Rattle.lsm_disk.specs.declared.calls.DiskCall.TheVariants as call
use Rattle.lsm_disk.specs.declared.calls.DiskRefusal.{DiskRefusal}
use Rattle.lsm_disk.proofs.Named.{created_now, now_at, now_appended, now_synced, now_kept, appends_in_now, syncs_in_now}
use Rattle.lsm_disk.proofs.Runs.{left_cases, went_start, went_weaker, went_ok}
use Rattle.lsm_disk.proofs.Left.{went_left, went_append_left}
use Rattle.lsm_publish.specs.Publishing.{Old, HasOld, Writes, IsBegun, IsWriting, IsReady, IsOther, WriteLeft, Written, written}
use Rattle.lsm_publish.proofs.Olds.{still_spared, still_image, still_names, created_spares, in_file_spares, other_new, file_writes, names_write}

-- a refusal of a call under the temporary name
pub write_refused : {told : Option Story} {story : Story} {q : _} {P : _} (temporary path : List ℕ) (old : Old) (id : ℕ) (bytes : List ℕ) (c : DiskCall) (why : DiskError) (r : DiskRefusal) → r ≡ record { at = record { call = c; path = temporary }; why = why }
    → Went story told q P (WriteLeft temporary path old id bytes c why) → Went story told q P (Written temporary path old id bytes (Err r))
write_refused {told} {story} {q} {P} temporary path old id bytes c why r is w =
    subst (λ (x : DiskRefusal). Went story told q P (Written temporary path old id bytes (Err x))) (sym is) (went_weaker (WriteLeft temporary path old id bytes c why) _ (λ s left. (refl, left)) w)

module _ (temporary path : List ℕ) (old : Old) (id : ℕ) (bytes : List ℕ) (apart : path ≢ temporary) where
  abbrev P : State → Tree → Type 0
  P = HasOld path old

  abbrev Begun : State → Type 0
  Begun = IsBegun path old id

  abbrev Writing : FileState → State → Type 0
  Writing = IsWriting temporary path old id

  abbrev Ready : State → Type 0
  Ready = IsReady temporary path old id bytes

  abbrev part : ℕ → FileState
  part n = longer (take n bytes) new_file

  abbrev all : FileState
  all = longer bytes new_file

  shows_begun : (s : State) → Begun s → Shows P s
  shows_begun s b = record { each = still_image path old s b.still }

  shows_writing : (f : FileState) (s : State) → Writing f s → Shows P s
  shows_writing f s w = record { each = still_image path old s w.still }

  shows_ready : (s : State) → Ready s → Shows P s
  shows_ready s r = record { each = still_image path old s r.still }

  -- ---- each change

  step_create : (s : State) → Begun s → Writing new_file (after s (created temporary s))
  step_create s b = record {
    still = still_spared path old s (Created temporary) b.still (created_spares path temporary old apart);
    new = subst (λ (n : ℕ). IsFileNow (after s (Created temporary)) temporary n new_file) b.next (created_now s temporary);
    other = subst (λ (n : ℕ). IsOther old n) b.next (other_new path old s b.still);
  }

  step_append : (more : List ℕ) (s : State) → Writing new_file s → Writing (longer more new_file) (after s (appended temporary more s))
  step_append more s w = record {
    still = still_spared path old s (appended temporary more s) w.still (in_file_spares path old id (appended temporary more s) w.other (appends_in_now s temporary id new_file w.new more));
    new = now_appended s temporary id new_file w.new more;
    other = w.other;
  }

  kind_append : (more : List ℕ) (s : State) → Writing new_file s → Writes temporary id (appended temporary more s)
  kind_append more s w = file_writes temporary id (appended temporary more s) (appends_in_now s temporary id new_file w.new more)

  step_sync : (s : State) → Writing all s → Writing (written bytes) (after s (file_synced temporary s))
  step_sync s w = record {
    still = still_spared path old s (file_synced temporary s) w.still (in_file_spares path old id (file_synced temporary s) w.other (syncs_in_now s temporary id all w.new));
    new = now_synced s temporary id all w.new;
    other = w.other;
  }

  kind_sync : (s : State) → Writing all s → Writes temporary id (file_synced temporary s)
  kind_sync s w = file_writes temporary id (file_synced temporary s) (syncs_in_now s temporary id all w.new)

  step_names : (s : State) → Writing (written bytes) s → Ready (after s (names_synced s))
  step_names s w = record { still = still_names path old s w.still; new = now_kept s temporary id (written bytes) w.new }

  -- the file is there, so nothing refuses a call on it
  allowed : (f : FileState) (s : State) (why : DiskError) → Writing f s → RefusesBy (no_file temporary s) why → RefusesBy (never s) why
  allowed f s why w = subst (λ (o : Option DiskError). RefusesBy o why) (ap (λ (o : Option ℕ). cond (is_some o) None (Some NotThere)) (now_at s temporary id f w.new))

  -- ---- each call

  module _ (story : Story) {o1 : Option Story} (tells : o1 ≡ Some story) (begins : Begun (state_of story)) where
    begun : Went story o1 (Writes temporary id) P Begun
    begun = went_start Begun tells begins shows_begun

    module _ {o2 : Option Story} where
      after_create : Makes o1 (created temporary) o2 → Went story o2 (Writes temporary id) P (Writing new_file)
      after_create makes = went_ok Begun (Writing new_file) (created temporary) makes (λ s b. refl) step_create (shows_writing new_file) begun

      pub refused_create : (e : DiskError) → LeftBy (o2 ≡ o1) (Allowed (no_room temporary) o1 × Makes o1 (created temporary) o2) e → IfSome o1 (λ x. RefusesBy (no_room temporary (state_of x)) e)
          → Went story o2 (Writes temporary id) P (WriteLeft temporary path old id bytes call.Create e)
      refused_create e did by = went_weaker (λ s. LeftBy (Begun s) (Writing new_file s) e × RefusesBy (no_room temporary s) e) _ (λ s p. record { left = p.0; by = p.1 })
          (went_left Begun (Writing new_file) (created temporary) (no_room temporary) e did by (λ s b. refl) step_create (shows_writing new_file) begun)

      module _ {o3 : Option Story} (made : Makes o1 (created temporary) o2) where
        after_append : Makes o2 (appended temporary bytes) o3 → Went story o3 (Writes temporary id) P (Writing all)
        after_append makes = went_ok (Writing new_file) (Writing all) (appended temporary bytes) makes (kind_append bytes) (step_append bytes) (shows_writing all) (after_create made)

        pub refused_append : (e : DiskError) → LeftBy (o3 ≡ o2) (Allowed (no_file temporary) o2 × MakesFront temporary bytes o2 o3) e → IfSome o2 (λ x. RefusesBy (no_file temporary (state_of x)) e)
            → Went story o3 (Writes temporary id) P (WriteLeft temporary path old id bytes call.Append e)
        refused_append e did by = went_weaker (λ s. LeftBy (Writing new_file s) ((n : ℕ) × Writing (part n) s) e × RefusesBy (no_file temporary s) e) _
            (λ s p. record { left = p.0; by = ⊎_elim (λ w. allowed new_file s e w p.1) (λ w. allowed (part w.0) s e w.1 p.1) (left_cases (Writing new_file s) ((n : ℕ) × Writing (part n) s) e p.0) })
            (went_append_left (Writing new_file) (λ n. Writing (part n)) temporary bytes e did by (λ n. kind_append (take n bytes)) (λ n. step_append (take n bytes)) (λ n. shows_writing (part n)) (after_create made))

        module _ {o4 : Option Story} (filled : Makes o2 (appended temporary bytes) o3) where
          after_sync : Makes o3 (file_synced temporary) o4 → Went story o4 (Writes temporary id) P (Writing (written bytes))
          after_sync makes = went_ok (Writing all) (Writing (written bytes)) (file_synced temporary) makes kind_sync step_sync (shows_writing (written bytes)) (after_append filled)

          pub refused_sync : (e : DiskError) → LeftBy (o4 ≡ o3) (Allowed (no_file temporary) o3 × Makes o3 (file_synced temporary) o4) e → IfSome o3 (λ x. RefusesBy (no_file temporary (state_of x)) e)
              → Went story o4 (Writes temporary id) P (WriteLeft temporary path old id bytes call.Sync e)
          refused_sync e did by = went_weaker (λ s. LeftBy (Writing all s) (Writing (written bytes) s) e × RefusesBy (no_file temporary s) e) _
              (λ s p. record { left = p.0; by = ⊎_elim (λ w. allowed all s e w p.1) (λ w. allowed (written bytes) s e w p.1) (left_cases (Writing all s) (Writing (written bytes) s) e p.0) })
              (went_left (Writing all) (Writing (written bytes)) (file_synced temporary) (no_file temporary) e did by kind_sync step_sync (shows_writing (written bytes)) (after_append filled))

          module _ {o5 : Option Story} (sured : Makes o3 (file_synced temporary) o4) where
            pub after_names : Makes o4 names_synced o5 → Went story o5 (Writes temporary id) P Ready
            after_names makes = went_ok (Writing (written bytes)) Ready names_synced makes (λ s w. names_write temporary id s) step_names shows_ready (after_sync sured)

            pub refused_names : (e : DiskError) → LeftBy (o5 ≡ o4) (Allowed never o4 × Makes o4 names_synced o5) e → IfSome o4 (λ x. RefusesBy (never (state_of x)) e)
                → Went story o5 (Writes temporary id) P (WriteLeft temporary path old id bytes call.SyncNames e)
            refused_names e did by = went_weaker (λ s. LeftBy (Writing (written bytes) s) (Ready s) e × RefusesBy (never s) e) _ (λ s p. record { left = p.0; by = p.1 })
                (went_left (Writing (written bytes)) Ready names_synced never e did by (λ s w. names_write temporary id s) step_names shows_ready (after_sync sured))
