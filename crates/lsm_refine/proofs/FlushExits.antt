-- The last exits of a step of a flush, each as a step of the abstract store from the state at its start, where the store
-- that it was on the way is good.
use Rattle.std.specs.Prelude.{◌≡◌, ◌≢◌, ◌⊎◌, ℕ, ◌+◌, ◌≤◌, List, [], ◌∷◌, ◌++◌, length, All, Some, None, Ok, Err}
use Rattle.std.specs.FinMap as finmap
use Rattle.std.proofs.Common.{⊎_elim, inl, inr, refl, ap, ◌∙◌}
use Rattle.lsm_io.specs.Causes.{Rose}
use Rattle.lsm_names.specs.FileNames.{IsFileName}
use Rattle.lsm_names.specs.declared.file_names.FileName.TheVariants.{Table, Manifest, Temp, Current}
use Rattle.lsm_rows.specs.declared.rows.Row.{Row}
use Rattle.lsm_disk.specs.State.{Seen, Story, state_of}
use Rattle.lsm_disk.specs.Images.{Tree, IsImage}
use Rattle.lsm_disk.specs.Dest.{path_in}
use Rattle.lsm_disk.specs.declared.calls.DiskCall.TheVariants as call
use Rattle.lsm_disk.specs.declared.calls.Halt.{Halt}
use Rattle.lsm_version.specs.declared.edits.Edit.{Edit}
use Rattle.lsm_version.specs.declared.tables.TableInfo.{TableInfo}
use Rattle.lsm_version.specs.Edits.{IsEdit}
use Rattle.lsm_folder.specs.Manifests.{manifest_text}
use Rattle.lsm_model.specs.declared.errors.StoreError.TheVariants as error
use Rattle.lsm_model.specs.declared.events.Event.TheVariants as event
use Rattle.lsm_model.specs.declared.replies.Reply.TheVariants as reply
use Rattle.lsm_model.specs.declared.replies.Flushed.TheVariants as flush
use Rattle.lsm_model.specs.declared.states.State.{State}
use Rattle.lsm_model.specs.Causes.{table_limit}
use Rattle.lsm_model.specs.Halting.{A_table, A_manifest, A_temporary, IsOn, IsMet, table_calls}
use Rattle.lsm_model.specs.Moves.{Draws}
use Rattle.lsm_refine.specs.Kept.{Unfinished, Shown}
use Rattle.lsm_refine.specs.Sane.{IsWholeFile}
use Rattle.lsm_refine.specs.Good.{IsRunning, Good}
use Rattle.lsm_refine.specs.Beside.{WritesAt}
use Rattle.lsm_refine.specs.Among.{switched_kept}
use Rattle.lsm_refine.specs.Grown.{halted_shown}
use Rattle.lsm_refine.specs.Flushed.{AddTable, EndsFrozen, HasFlushTable, Renewed, IsRenewed, flush_edit, flushed_kept, shown_with}
use Rattle.lsm_refine.specs.Naming.{HasEither, NamesWhole, ReplacesAt, HasReplaced, MayBeNext}
use Rattle.lsm_refine.proofs.FlushReads.{append_halts, roll_halts, roll_good}
use Rattle.lsm_refine.proofs.FlushSteps.{flush_fault, flush_installed}
use Rattle.lsm_refine.proofs.InstalledLemmas.{installed_good, one_more}
use Rattle.lsm_refine.proofs.WriteSteps.{Steps}

-- ---- which calls halt it

module _ (v : Shown) (s : State) (good : Good v s) (at : Halt) where
  -- a call on a table's file
  pub table_met : (number : ℕ) → at.path ≡ path_in v.dir (Table number)
      → (at.call ≡ call.Create) ⊎ (at.call ≡ call.Append) ⊎ (at.call ≡ call.Sync) ⊎ (at.call ≡ call.SyncNames)
      → IsMet s.own at table_calls
  table_met number on is =
      let here : IsOn s.own A_table at.path = (number, on ∙ ap (λ (dir : List ℕ). path_in dir (Table number)) good.kept.own) in
      ⊎_elim (λ made. inl (made, here)) (λ more. ⊎_elim (λ added. inr (inl (added, here)))
      (λ most. ⊎_elim (λ synced. inr (inr (inl (synced, here)))) (λ named. inr (inr (inr (inl (named, here))))) most) more) is

  -- a call on a manifest's file
  pub manifest_met : (number : ℕ) → at.path ≡ path_in v.dir (Manifest number)
      → (at.call ≡ call.Append) ⊎ (at.call ≡ call.Sync) ⊎ (at.call ≡ call.Create) → IsMet s.own at table_calls
  manifest_met number on is =
      let here : IsOn s.own A_manifest at.path = (
        number,
        on
            ∙ ap (λ (dir : List ℕ). path_in dir (Manifest number)) good.kept.own,
      ) in
      inr (inr (inr (inr (⊎_elim (λ added. inl (added, here)) (λ more. ⊎_elim (λ synced. inr (inl (synced, here)))
      (λ made. inr (inr (inl (made, here)))) more) is))))

  -- a call on the temporary file
  pub temporary_met : (number : ℕ) → at.path ≡ path_in v.dir (Temp number)
      → (at.call ≡ call.Create) ⊎ (at.call ≡ call.Append) ⊎ (at.call ≡ call.Sync) ⊎ (at.call ≡ call.SyncNames)
      → IsMet s.own at table_calls
  temporary_met number on is =
      let here : IsOn s.own A_temporary at.path = (
        number,
        on
            ∙ ap (λ (dir : List ℕ). path_in dir (Temp number)) good.kept.own,
      ) in
      inr (inr (inr (inr (inr (inr (inr (⊎_elim (λ made. inl (made, here)) (λ more. ⊎_elim (λ added. inr (inl (added, here)))
      (λ most. ⊎_elim (λ synced. inr (inr (inl (synced, here)))) (λ named. inr (inr (inr (inl (named, here))))) most) more)
      is)))))))

  -- a call on CURRENT
  pub current_met : at.path ≡ path_in v.dir Current → (at.call ≡ call.Rename) ⊎ (at.call ≡ call.SyncNames)
      → IsMet s.own at table_calls
  current_met on is =
      let here = on ∙ ap (λ (dir : List ℕ). path_in dir Current) good.kept.own in
      inr (inr (inr (inr (inr (inr (inr (inr (inr (inr (inr (⊎_elim (λ moved. inl (moved, here))
      (λ named. inr (inl (named, here))) is)))))))))))

-- ---- from the start of the step, and the store that is good on the way

module _ (v : Shown) (s : State) (good : Good v s) (run : IsRunning (state_of good.story) v s) (none : v.halt ≡ None)
    (some : v.kept.frozen ≢ []) (k : ℕ) (few : k ≤ 2) (m : State) (w : Shown) (draws : Draws k s m) (now : Good w m)
    (runs : IsRunning (state_of now.story) w m) (unhalted : w.halt ≡ None)
    (same_version : finmap.len w.kept.version ≡ finmap.len v.kept.version)
    (info : TableInfo) (rows : List Row) (table : HasFlushTable (state_of now.story) w.dir w.kept info rows) (log last : ℕ)
    (ends : EndsFrozen w.kept log last) (seen : Seen) (faults : m.faults ≤ seen.faults)
    (refusals : m.refusals ≤ seen.refusals) where
  module _ (edits : List Edit) (add : AddTable runs.parts.edits info log last edits) (renewed : Renewed)
      (fit : IsRenewed (state_of now.story) w edits renewed) (limit : finmap.len renewed.version ≤ table_limit) (len : ℕ)
      (long : len ≡ length (manifest_text edits)) (story : Story) (told : seen.told ≡ Some story) where
    one_table : finmap.len renewed.version ≡ finmap.len v.kept.version + 1
    one_table = one_more w m now runs info rows table log last ends edits add renewed fit len
        ∙ ap (λ (n : ℕ). n + 1) same_version

    -- the edit was appended
    pub append_installs : WritesAt w.dir (Manifest w.kept.manifest) (state_of now.story) (state_of story)
        → IsWholeFile (state_of story) (path_in w.dir (Manifest w.kept.manifest)) (manifest_text edits)
        → Steps s event.FlushStep (reply.FlushStep (Ok flush.Installed))
        (shown_with seen (flushed_kept renewed log last len w.kept) w)
    append_installs writes whole =
        flush_installed v s good run none some k m
        (shown_with seen (flushed_kept renewed log last len w.kept) w) seen renewed.version len
        few draws faults refusals limit one_table
        (installed_good w m now runs info rows table log last ends edits add renewed fit len
        (state_of story) writes whole long seen story
        told unhalted refl)

    -- a new manifest took the place
    pub roll_installs : (number : ℕ) → MayBeNext w.kept number → ReplacesAt w.dir number (state_of now.story) (state_of story)
        → HasReplaced (state_of story) w.dir number edits
        → All (λ (t : Unfinished). IsFileName (Table t.number)) renewed.unfinished
        → Steps s event.FlushStep (reply.FlushStep (Ok flush.Installed))
        (shown_with seen (switched_kept number len w.kept.next (w.kept.known ++ Manifest number ∷ [])
        (flushed_kept renewed log last len w.kept)) w)
    roll_installs number next is done fits =
        flush_installed v s good run none some k m (shown_with seen (switched_kept number len w.kept.next
        (w.kept.known ++ Manifest number ∷ []) (flushed_kept renewed log last len w.kept)) w) seen renewed.version len
        few draws faults refusals limit one_table
        (roll_good w m now runs info rows table log last ends edits add number next
        (state_of story) is done renewed fit fits len long
        seen story told unhalted refl)

  module _ (at : Halt) (met : IsMet s.own at table_calls) (rose : Rose v.disk.faults seen.faults) (story : Story)
      (told : seen.told ≡ Some story) where
    -- the append failed
    pub append_fails : (next : ℕ) → IsEdit (flush_edit info log next last)
        → WritesAt w.dir (Manifest w.kept.manifest) (state_of now.story) (state_of story)
        → ((t : Tree) → IsImage (state_of story) t
        → HasEither (path_in w.dir (Manifest w.kept.manifest)) runs.parts.edits (flush_edit info log next last) t)
        → Steps s event.FlushStep (reply.FlushStep (Err error.DiskFault)) (halted_shown seen at w)
    append_fails next grammar writes either =
        flush_fault v s good run none some k m w seen at draws met rose faults refusals
        (append_halts w m now runs info rows table log last ends next grammar
        (state_of story) writes either seen at story told refl)

    -- the making of the manifest failed
    pub roll_fails : (edits : List Edit) → AddTable runs.parts.edits info log last edits → (number : ℕ)
        → MayBeNext w.kept number
        → ReplacesAt w.dir number (state_of now.story) (state_of story)
        → ((t : Tree) → IsImage (state_of story) t
        → NamesWhole w.dir w.kept.manifest runs.parts.edits t ⊎ NamesWhole w.dir number edits t)
        → Steps s event.FlushStep (reply.FlushStep (Err error.DiskFault)) (halted_shown seen at w)
    roll_fails edits add number next is either =
        flush_fault v s good run none some k m w seen at draws met rose faults refusals
        (roll_halts w m now runs info rows table log last ends edits add number next
        (state_of story) is either seen at story told refl)
