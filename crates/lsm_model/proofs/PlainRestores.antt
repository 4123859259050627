-- A plain store's folder that is finished.
use Rattle.std.specs.Prelude.{◌≡◌, ℕ, ◌≤◌, true, List, take, map, min, length, All, Some, None, Result, Ok}
use Rattle.std.specs.FinMap as finite
use Rattle.std.proofs.Common.{sym, ap, subst, ◌∙◌}
use Rattle.std.proofs.lemmas.List.{take_min}
use Rattle.lsm_rows.specs.declared.operations.Op.{Op}
use Rattle.lsm_rows.specs.Replay.{replayed, sequence_after}
use Rattle.lsm_model.specs.declared.errors.StoreError.{StoreError}
use Rattle.lsm_model.specs.declared.replies.Shown.{Shown}
use Rattle.lsm_model.specs.declared.states.State.{State}
use Rattle.lsm_model.specs.declared.states.FolderRead.{FolderRead}
use Rattle.lsm_model.specs.declared.plain.PlainLists.{PlainLists}
use Rattle.lsm_model.specs.States.{shown_at, folder_of, with_folder}
use Rattle.lsm_model.specs.Moves.{Becomes}
use Rattle.lsm_model.specs.Destination.{FinishesFolder, with_reading}
use Rattle.lsm_model.specs.Plain.{state_of, plain_shown, plain_folder, with_plain, HasFront, IsPlain}
use Rattle.lsm_model.proofs.PinLemmas.{folder_placed}
use Rattle.lsm_model.proofs.PlainFolders.{placed, all_placed}
use Rattle.lsm_model.proofs.PlainLemmas.{same_state}

module _ (p q : PlainLists) (dir : List ℕ) (count : ℕ) (more : q.folders.items ≡ with_plain (record { name = dir; batches = Some count }) p.folders.items) where
  folders : map (plain_folder p.accepted.items) q.folders.items ≡ with_folder (record { name = dir; reading = Ok (plain_shown p.accepted.items count); sure = true }) (state_of p).folders
  folders = ap (map (plain_folder p.accepted.items)) more ∙ placed p.accepted.items (record { name = dir; batches = Some count }) p.folders.items

  pub finished : p.halt ≡ None → p.begun ≡ Some dir → FinishesFolder (state_of p) (Ok tt) (state_of (record p { folders = q.folders; begun = None }))
  finished runs begun =
      let reading : Result Shown StoreError = Ok (plain_shown p.accepted.items count) in
      let t : State = record (with_reading dir reading true (state_of p)) { begun = None } in (
        runs,
        record {
          dir = dir;
          reading = reading;
          begun = begun;
          rest = subst (λ (l : List FolderRead). Becomes t (record t { folders = l })) (sym folders) (same_state t);
        },
      )

  pub reads_so : (batches : ℕ) → count ≡ min batches (length p.accepted.items)
      → folder_of dir (map (plain_folder p.accepted.items) q.folders.items) ≡ Some (record { name = dir; reading = Ok (shown_at (state_of p) batches); sure = true })
  reads_so batches is =
      let first : take count p.accepted.items ≡ take batches p.accepted.items = ap (λ (n : ℕ). take n p.accepted.items) is ∙ take_min batches p.accepted.items in
      ap (folder_of dir) folders
      ∙ folder_placed (record { name = dir; reading = Ok (plain_shown p.accepted.items count); sure = true }) (state_of p).folders
      ∙ ap (λ (l : List (List Op)). Some (record { name = dir; reading = Ok (record { sequence = sequence_after 0 l; contents = replayed finite.empty l }); sure = true })) first

  pub plain_finished : IsPlain p → count ≤ length p.accepted.items → IsPlain (record p { folders = q.folders; begun = None })
  plain_finished is front = record {
    sequence = is.sequence;
    last = is.last;
    durable = is.durable;
    few = is.few;
    pins = is.pins;
    folders = subst (All (HasFront p.accepted.items)) (sym more) (all_placed (HasFront p.accepted.items) (record { name = dir; batches = Some count }) p.folders.items front is.folders);
  }
