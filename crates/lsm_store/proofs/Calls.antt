-- What each exit of a call owes, and exits that leave what contracts see of the store.
use Rattle.std.specs.Prelude.{◌≡◌, ◌≢◌, ◌↔◌, ℕ, Bool, true, false, IsTrue, take, length, List, ◌∷◌, [], ◌++◌, Option, Some, None, Result}
use Rattle.std.proofs.Common.{refl, sym, ap, subst, ◌∙◌, arith}
use Rattle.std.proofs.Math.Seq.{take-append_seam}
use Rattle.lsm_names.specs.declared.file_names.FileName.{FileName}
use Rattle.lsm_rows.specs.declared.operations.Op.{Op}
use Rattle.lsm_disk.specs.State.{Story, Seen}
use Rattle.lsm_disk.specs.declared.calls.DiskError.{DiskError}
use Rattle.lsm_disk.specs.declared.calls.DiskError.TheVariants.{Fault, NoMemory}
use Rattle.lsm_disk.specs.declared.calls.Halt.{Halt}
use Rattle.lsm_model.specs.declared.errors.StoreError.{StoreError}
use Rattle.lsm_model.specs.declared.events.Event.{Event}
use Rattle.lsm_model.specs.declared.events.Event.TheVariants as event
use Rattle.lsm_model.specs.declared.replies.Reply.{Reply}
use Rattle.lsm_model.specs.declared.replies.Reply.TheVariants as reply
use Rattle.lsm_model.specs.declared.states.State.{State}
use Rattle.lsm_model.specs.Steps.{Made, Asked}
use Rattle.lsm_refine.specs.Kept.{Shown}
use Rattle.lsm_refine.specs.Good.{Good, Leads}
use Rattle.lsm_refine.specs.Moments.{ImagesShow}
use Rattle.lsm_refine.specs.Refused.{CountsHold}
use Rattle.lsm_refine.specs.Caused.{WroteBy, SyncedBy, FrozeBy, UnpinnedBy, DisabledBy, EnabledBy, ToldLast, ToldWantsFreeze, CausedBy, Caused}
use Rattle.lsm_refine.proofs.LeadsLemmas.{leads_call}
use Rattle.lsm_refine.proofs.MomentLemmas.{nothing_done}
use Rattle.lsm_refine.proofs.WriteSteps.{Steps}

-- which states an image on the way may read as a crash leaves
abbrev pub Later : Type 0
Later = State → State

-- The event is answered so, and leaves the later store: by a step of the abstract store, with
-- images that read as before or as behind the call, and for a cause.
pub record IsCall (later : Later) (e : Event) (r : Reply) (v w : Shown) : Type 0 where
  pub step : (s : State) → Good v s → Steps s e r w
  pub images : (s : State) → (good : Good v s) → ImagesShow good.story w.disk.told s (later s)
  pub causes : Caused v e r w

-- so calls that led to the store lead on
pub leads_on : (start : State) (steps : List Made) {later : Later} {e : Event} {r : Reply} {v w : Shown} → IsCall later e r v w
    → Leads start steps v → Leads start (steps ++ Asked e r ∷ []) w
leads_on start steps {e = e} {r = r} {v = v} {w = w} is leads = leads_call start steps v w (Asked e r) is.step leads

-- where the disk is as it was, its images are those from before
pub same_shows : (v : Shown) (s later : State) (good : Good v s) (told : Option Story) → told ≡ v.disk.told
    → ImagesShow good.story told s later
same_shows v s later good told same =
    subst (λ (o : Option Story). ImagesShow good.story o s later) (sym (same ∙ good.told)) (nothing_done v s later good)

pub counts_same : (v : Shown) → CountsHold v v
counts_same v = record { dir = refl; faults = omega arith; refusals = omega arith }

-- nothing was done
pub nothing_called : (later : Later) (e : Event) (r : Reply) (v : Shown) → ((s : State) → Good v s → Steps s e r v)
    → CausedBy v e r v
    → IsCall later e r v v
nothing_called later e r v step by = record {
  step = step;
  images = λ s good. same_shows v s (later s) good v.disk.told refl;
  causes = record { counts = counts_same v; by = by };
}

-- the disk is as it was
pub undisturbed : (e : Event) (r : Reply) (v w : Shown) → w.disk ≡ v.disk → w.dir ≡ v.dir
    → ((s : State) → Good v s → Steps s e r w)
    → CausedBy v e r w → IsCall (λ s. s) e r v w
undisturbed e r v w disk_is dir step by = record {
  step = step;
  images = λ s good. same_shows v s s good w.disk.told (ap (λ (d : Seen). d.told) disk_is);
  causes = record {
    counts = record {
      dir = dir;
      faults = omega (arith, ap (λ (d : Seen). d.faults) disk_is);
      refusals = omega (arith, ap (λ (d : Seen). d.refusals) disk_is);
    };
    by = by;
  };
}

-- ---- causes

pub write_caused : (ops : List Op) (sync : Bool) (v w : Shown) (r : Result ℕ StoreError) → WroteBy ops v w r
    → CausedBy v (event.Write ops sync) (reply.Write r) w
unfolding CausedBy
write_caused ops sync v w r by = by

pub sync_caused : (v w : Shown) (r : Result (Unit {0}) StoreError) → SyncedBy v w r
    → CausedBy v event.SyncLog (reply.SyncLog r) w
unfolding CausedBy
sync_caused v w r by = by

pub freeze_caused : (v w : Shown) (r : Result Bool StoreError) → FrozeBy v w r → CausedBy v event.Freeze (reply.Freeze r) w
unfolding CausedBy
freeze_caused v w r by = by

pub unpin_caused : (pin : ℕ) (v w : Shown) (r : Result (Unit {0}) StoreError) → UnpinnedBy pin v w r
    → CausedBy v (event.Unpin pin) (reply.Unpin r) w
unfolding CausedBy
unpin_caused pin v w r by = by

pub disable_caused : (v w : Shown) (r : Result ℕ StoreError) → DisabledBy v w r → CausedBy v event.Disable (reply.Disable r) w
unfolding CausedBy
disable_caused v w r by = by

pub enable_caused : (v w : Shown) (r : Result ℕ StoreError) → EnabledBy v w r → CausedBy v event.Enable (reply.Enable r) w
unfolding CausedBy
enable_caused v w r by = by

pub last_caused : (v w : Shown) (last : ℕ) → ToldLast v w last → CausedBy v event.Last (reply.Last last) w
unfolding CausedBy
last_caused v w last by = by

pub wants_caused : (v w : Shown) (wants : Bool) → ToldWantsFreeze v w wants
    → CausedBy v event.WantsFreeze (reply.WantsFreeze wants) w
unfolding CausedBy
wants_caused v w wants by = by

-- ---- small facts

pub no_halt : (h : Option Halt) → ((first : Halt) → h ≡ Some first → ⊥) → h ≡ None
no_halt None never = refl
no_halt (Some first) never = absurd (never first refl)

pub never_some : {e : DiskError} → None ≡ Some e → ⊥
never_some same = cc

pub no_fault : (e : DiskError) → e ≡ NoMemory → e ≢ Fault
no_fault e is same = cc

pub is_nothing : {A : Type 0} (r : Bool) (xs : List A) → IsTrue r ↔ (xs ≡ []) → r ≡ true → xs ≡ []
is_nothing r xs same is = same.0 is

pub is_something : {A : Type 0} (r : Bool) (xs : List A) → IsTrue r ↔ (xs ≡ []) → r ≡ false → xs ≢ []
is_something r xs same is none = let clash : false ≡ true = sym is ∙ same.1 none in cc

-- a name is taken back that was added at the end
pub taken_back : (count : ℕ) (names new late : List FileName) (name : FileName) → count ≡ length names
    → new ≡ names ++ name ∷ []
    → late ≡ take count new → late ≡ names
taken_back count names new late name many grown taken =
    taken ∙ ap (take count) grown ∙ ap (λ (k : ℕ). take k (names ++ name ∷ [])) many ∙ take-append_seam names (name ∷ [])
