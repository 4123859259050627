-- A step of deletion, at each exit: the store's answer is a step of the abstract store, and the store is good behind it.
use Rattle.std.specs.Prelude.{◌≡◌, ◌≢◌, ◌⊎◌, ℕ, ◌≤◌, List, [], ◌∷◌, length, All, Option, Some, None, option_map, Result, Ok, Err}
use Rattle.std.proofs.Common.{⊎_elim, inl, inr, refl, sym, ap, subst, ◌∙◌, arith}
use Rattle.lsm_io.specs.Causes.{Rose}
use Rattle.lsm_names.specs.declared.file_names.FileName.{FileName}
use Rattle.lsm_disk.specs.Names.{Gone}
use Rattle.lsm_disk.specs.State as disk
use Rattle.lsm_disk.specs.State.{Seen, Story, Named, unnamed, after, state_of}
use Rattle.lsm_disk.specs.Images.{Tree, IsImage}
use Rattle.lsm_disk.specs.Answers.{Makes, pushed}
use Rattle.lsm_disk.specs.Dest.{path_in}
use Rattle.lsm_disk.specs.declared.calls.DiskCall.TheVariants as call
use Rattle.lsm_disk.specs.declared.calls.Halt.{Halt}
use Rattle.lsm_disk.proofs.Runs.{state_push, went_start, went_ok, went_weaker}
use Rattle.lsm_model.specs.declared.errors.StoreError.{StoreError}
use Rattle.lsm_model.specs.declared.errors.StoreError.TheVariants as error
use Rattle.lsm_model.specs.declared.events.Event.TheVariants as event
use Rattle.lsm_model.specs.declared.replies.Reply.TheVariants as reply
use Rattle.lsm_model.specs.declared.replies.Deleted.{Deleted}
use Rattle.lsm_model.specs.declared.replies.Deleted.TheVariants as delete
use Rattle.lsm_model.specs.declared.states.State.{State}
use Rattle.lsm_model.specs.declared.states.Pin.{Pin}
use Rattle.lsm_model.specs.Answers.{Done, Failed, Refused}
use Rattle.lsm_model.specs.Causes.{halted}
use Rattle.lsm_model.specs.Halting.{A_file, IsMet}
use Rattle.lsm_model.specs.Moves.{Settles, HaltsSettling}
use Rattle.lsm_model.specs.Steps.{Step}
use Rattle.lsm_model.specs.Upkeep.{Deletes}
use Rattle.lsm_refine.specs.Kept.{Shown}
use Rattle.lsm_refine.specs.Pins.{PinFiles}
use Rattle.lsm_refine.specs.Folders.{ChangesInside}
use Rattle.lsm_refine.specs.Good.{IsRunning, Good, with_counts}
use Rattle.lsm_refine.specs.Moments.{ReadsAsCrashed, ImagesShow}
use Rattle.lsm_refine.specs.Beside.{ChangesAt}
use Rattle.lsm_refine.specs.Grown.{halted_shown, halted_state}
use Rattle.lsm_refine.specs.Calls.{MayBeRemoved, AreWithout, removed_shown}
use Rattle.lsm_refine.proofs.BesideLemmas.{writes_none}
use Rattle.lsm_refine.proofs.ChangeLemmas.{changes_none}
use Rattle.lsm_refine.proofs.MomentLemmas.{reads_crashed}
use Rattle.lsm_refine.proofs.RemovedLemmas.{obsolete_fits, obsolete_unneeded, removed_at, removed_inside, removed_pins, removed_good}
use Rattle.lsm_refine.proofs.UnneededLemmas.{unneeded_reads, unneeded_halts}
use Rattle.lsm_refine.proofs.WriteSteps.{Steps}

delete_step : (s t : State) (r : Result Deleted StoreError) → Deletes s r t → Step s event.DeleteStep (reply.DeleteStep r) t
unfolding Step
delete_step s t r step = step

-- nothing becomes of it
same_settles : (s t : State) → s.durable ≤ length s.accepted → t ≡ record s { faults = t.faults; refusals = t.refusals }
    → s.faults ≤ t.faults → s.refusals ≤ t.refusals → Settles s t
same_settles s t few is faults refusals = record {
  rest = record {
    rest = is ∙ sym (ap (λ (q : State). record s {
      durable = q.durable;
      faults = t.faults;
      refusals = t.refusals;
    }) is);
    faults = faults;
    refusals = refusals;
  };
  durable = omega (arith, ap (λ (q : State). q.durable) is);
  within = omega (arith, few, ap (λ (q : State). q.durable) is, ap (λ (q : State). length q.accepted) is);
}

module _ (v : Shown) (s : State) (good : Good v s) where
  pub delete_halted : (first : Halt) → v.halt ≡ Some first → Steps s event.DeleteStep (reply.DeleteStep (Err (error.Halted first))) v
  delete_halted first is = (
    s,
    delete_step s s (Err (error.Halted first)) (Refused (error.Halted first) refl
        (ap (option_map error.Halted) (sym good.kept.halt ∙ is)) refl),
    good,
  )

  module _ (none : v.halt ≡ None) where
    known : halted s ≡ None
    known = ap (option_map error.Halted) (sym good.kept.halt ∙ none)

    pub delete_disabled : v.kept.disables ≢ 0 → Steps s event.DeleteStep (reply.DeleteStep (Ok (delete.Disabled v.kept.disables))) v
    delete_disabled some = (
      s,
      delete_step s s (Ok (delete.Disabled v.kept.disables))
          (Done (delete.Disabled v.kept.disables) refl known
          (good.kept.disables, (λ zero. some (good.kept.disables ∙ zero)), refl)),
      good,
    )

    module _ (enabled : v.kept.disables ≡ 0) where
      zero_disables : s.disables ≡ 0
      zero_disables = sym good.kept.disables ∙ enabled

      -- each file is needed
      pub delete_nothing : Steps s event.DeleteStep (reply.DeleteStep (Ok delete.Nothing)) v
      delete_nothing = (
        s,
        delete_step s s (Ok delete.Nothing)
            (Done delete.Nothing refl known (zero_disables, same_settles s s good.counted.durable refl (omega arith) (omega arith))),
        good,
      )

      module _ (run : IsRunning (state_of good.story) v s) (name : FileName) (is : MayBeRemoved v.kept name) (seen : Seen)
          (faults : v.disk.faults ≤ seen.faults) (refusals : v.disk.refusals ≤ seen.refusals) where
        abbrev d : disk.State
        d = state_of good.story

        abbrev removing : disk.State → disk.Change
        removing = unnamed (path_in v.dir name)

        abbrev gone : disk.State
        gone = after d (Named (Gone (path_in v.dir name)))

        abbrev later : Story
        later = pushed removing good.story

        at_later : state_of later ≡ gone
        at_later = state_push good.story (removing d)

        tells_later : Makes v.disk.told removing seen.told → seen.told ≡ Some later
        tells_later makes = makes ∙ ap (option_map (pushed removing)) good.told

        -- Ok: the file is gone
        pub delete_removed : (fewer : List FileName) → AreWithout name v.kept.known fewer
            → Makes v.disk.told (unnamed (path_in v.dir name)) seen.told
            → Steps s event.DeleteStep (reply.DeleteStep (Ok (delete.Removed name))) (removed_shown seen fewer v)
        delete_removed fewer without makes = (
          with_counts seen s,
          delete_step s (with_counts seen s) (Ok (delete.Removed name))
              (Done (delete.Removed name) refl known (
                zero_disables,
                same_settles s
                    (with_counts seen s) good.counted.durable refl (omega (arith, good.counts.faults, faults))
                    (omega (arith, good.counts.refusals, refusals)),
              )),
          removed_good v s good run name is fewer without seen later (tells_later makes) none at_later,
        )

        halts_at : (at : Halt) (story : Story) → seen.told ≡ Some story → (state_of story ≡ d) ⊎ (state_of story ≡ gone)
            → Good (halted_shown seen at v) (halted_state seen at s.doubtful s)
        halts_at at story told which =
            let fits = obsolete_fits v s good run name is in
            let free = obsolete_unneeded v s good run name is in
            ⊎_elim
            (λ same. unneeded_halts v s good run name fits free seen at story told
            (subst (ChangesAt (path_in v.dir name) d) (sym same) (changes_none (path_in v.dir name) d))
            (subst (ChangesInside v.dir d) (sym same) ((writes_none v.dir name d).inside))
            (subst (λ (x : disk.State). All (λ (pin : Pin). PinFiles x v.dir pin.files) s.pins) (sym same) good.pinned.files))
            (λ made. unneeded_halts v s good run name fits free seen at story told
            (subst (ChangesAt (path_in v.dir name) d) (sym made) (removed_at v s good run name is))
            (subst (ChangesInside v.dir d) (sym made) (removed_inside v s good run name is))
            (subst (λ (x : disk.State). All (λ (pin : Pin). PinFiles x v.dir pin.files) s.pins) (sym made)
            (removed_pins v s good run name is)))
            which

        -- a fault halts the store, whether the file is gone or not
        pub delete_fault : (at : Halt) → IsMet s.own at ((call.Unlink, A_file) ∷ []) → Rose v.disk.faults seen.faults
            → (seen.told ≡ v.disk.told) ⊎ Makes v.disk.told (unnamed (path_in v.dir name)) seen.told
            → Steps s event.DeleteStep (reply.DeleteStep (Err error.DiskFault)) (halted_shown seen at v)
        delete_fault at met rose left =
            let t : State = halted_state seen at s.doubtful s in
            let halts : HaltsSettling ((call.Unlink, A_file) ∷ []) s t = record {
              settled = s;
              before = same_settles s s good.counted.durable refl (omega arith) (omega arith);
              halts = record {
                first = at;
                among = met;
                rose = subst (λ (n : ℕ). Rose n seen.faults) good.counts.faults rose;
                rest = record {
                  rest = refl;
                  faults = omega (arith, good.counts.faults, faults);
                  refusals = omega (arith, good.counts.refusals, refusals);
                };
              };
            } in (
              t,
              delete_step s t (Err error.DiskFault) (Failed refl known (zero_disables, halts)),
              ⊎_elim (λ same. halts_at at good.story (same ∙ good.told) (inl refl))
                  (λ makes. halts_at at later (tells_later makes) (inr at_later)) left,
            )

-- each image reads as a crash leaves the state before
module _ (v : Shown) (s : State) (good : Good v s) (run : IsRunning (state_of good.story) v s) (name : FileName)
    (is : MayBeRemoved v.kept name) where
  at_start : (x : disk.State) → x ≡ state_of good.story → (t : Tree) → IsImage x t → ReadsAsCrashed s t
  at_start x same t i = reads_crashed v s good t (subst (λ (y : disk.State). IsImage y t) same i)

  at_end : (x : disk.State) → x ≡ after (state_of good.story) (Named (Gone (path_in v.dir name))) → (t : Tree) → IsImage x t
      → ReadsAsCrashed s t
  at_end x same t i =
      unneeded_reads v s good run name (obsolete_fits v s good run name is) (obsolete_unneeded v s good run name is)
      (after (state_of good.story) (Named (Gone (path_in v.dir name))))
      (removed_at v s good run name is) (removed_inside v s good run name is) t (subst (λ (y : disk.State). IsImage y t) same i)

  pub delete_shows : (told : Option Story) → (told ≡ v.disk.told) ⊎ Makes v.disk.told (unnamed (path_in v.dir name)) told
      → (later : State) → ImagesShow good.story told s later
  delete_shows told left later = ⊎_elim (λ same. started told (same ∙ good.told)) removed left
    where
      started : (o : Option Story) → o ≡ Some good.story → ImagesShow good.story o s later
      started o tells = went_weaker (λ x. x ≡ state_of good.story) (λ x. Unit {0}) (λ x at. tt)
          (went_start (λ x. x ≡ state_of good.story) tells refl (λ x at. record { each = λ t i. inl (at_start x at t i) }))

      removed : Makes v.disk.told (unnamed (path_in v.dir name)) told → ImagesShow good.story told s later
      removed makes = went_weaker (λ x. x ≡ after (state_of good.story) (Named (Gone (path_in v.dir name)))) (λ x. Unit {0}) (λ x at. tt)
          (went_ok (λ x. x ≡ state_of good.story) (λ x. x ≡ after (state_of good.story) (Named (Gone (path_in v.dir name))))
          (unnamed (path_in v.dir name)) makes (λ x at. tt)
          (λ x at. ap (λ (y : disk.State). after y (unnamed (path_in v.dir name) y)) at)
          (λ x at. record { each = λ t i. inl (at_end x at t i) })
          (went_start (λ x. x ≡ state_of good.story) good.told refl (λ x at. record { each = λ t i. inl (at_start x at t i) })))
