-- What a crash leaves, and what a finished checkpoint is.
use Rattle.std.specs.Prelude.{◌≡◌, ℕ, zero, suc, ◌≤◌, true, false, ◌||◌, List, [], ◌∷◌, ◌++◌, length, take, drop, is_some, Some, None, Ok}
use Rattle.std.specs.Str.{bytes_eq}
use Rattle.std.proofs.Common.{refl, sym, ap, ◌∙◌, arith, take-append-drop}
use Rattle.std.proofs.lemmas.List.{take-append-le}
use Rattle.std.proofs.lemmas.Slice.Eq.{bytes_eq-Decides}
use Rattle.lsm_rows.specs.declared.operations.Op.{Op}
use Rattle.lsm_model.specs.declared.states.State.{State}
use Rattle.lsm_model.specs.declared.states.Pin.{Pin}
use Rattle.lsm_model.specs.declared.states.FolderRead.{FolderRead}
use Rattle.lsm_model.specs.declared.events.Event.TheVariants as event
use Rattle.lsm_model.specs.declared.replies.Reply.TheVariants as reply
use Rattle.lsm_model.specs.States.{written, none_or_one, folder_of, shown_at}
use Rattle.lsm_model.specs.Causes.{is_taken}
use Rattle.lsm_model.specs.Checkpoints as checkpoints
use Rattle.lsm_model.specs.Checkpoints.{IsFinished, IsJob, checkpoint_folder}
use Rattle.lsm_model.specs.Crashes.{Crashed}
use Rattle.lsm_model.specs.Steps.{Step}
use Rattle.lsm_model.proofs.PinLemmas.{folder_new}

-- a front of a longer front
take_less : {A : Type 0} (m n : ℕ) (xs : List A) → m ≤ n → take m (take n xs) ≡ take m xs
take_less zero n xs le = refl
take_less (suc m) zero xs le = absurd (omega (arith, le))
take_less (suc m) (suc n) [] le = refl
take_less (suc m) (suc n) (x ∷ xs) le = ap (λ l. x ∷ l) (take_less m n xs (omega (arith, le)))

pub durable_stay : (s t : State) → Crashed s t → s.durable ≤ length s.accepted → take s.durable t.accepted ≡ take s.durable s.accepted
durable_stay s t c within =
    ap (take s.durable) c.accepted
    ∙ take_less s.durable c.kept (written s) c.durable
    ∙ take-append-le s.durable s.accepted (none_or_one s.doubtful) within

pub nothing_new : (s t : State) → Crashed s t → (gone : List (List Op)) × (written s ≡ t.accepted ++ gone)
nothing_new s t c = (drop c.kept (written s), sym (take-append-drop c.kept (written s)) ∙ ap (λ (l : List (List Op)). l ++ drop c.kept (written s)) (sym c.accepted))

pub sure_stay : (s t : State) (name : List ℕ) (folder : FolderRead) → Crashed s t → folder_of name s.folders ≡ Some folder → folder.sure ≡ true → folder_of name t.folders ≡ Some folder
sure_stay s t name folder c found sure = c.folders name folder found sure

-- a free name is no folder's
pub no_folder : (dir : List ℕ) (s : State) → is_taken dir s ≡ false → folder_of dir s.folders ≡ None
unfolding is_taken
no_folder dir s free =
    elim (folder_of dir s.folders) as (λ o. (bytes_eq s.own dir || is_some o) ≡ false → o ≡ None) [
      | None ↦ λ h. refl
      | Some folder ↦ λ h. elim (bytes_eq s.own dir) as (λ b. (b || true) ≡ false → Some folder ≡ None) [ true ↦ λ e. absurd (cc) | false ↦ λ e. absurd (cc) ] h
    ] free

pub finished : (s t : State) (number sequence : ℕ) → Step s (event.CheckpointFinish number) (reply.CheckpointFinish (Ok sequence)) t
    → (pin : Pin) × (dir : List ℕ) × (left : ℕ) × IsJob s number pin dir left × (sequence ≡ (shown_at s pin.batches).sequence) × (folder_of dir t.folders ≡ Some (checkpoint_folder s pin dir true))
unfolding Step
finished s t number sequence step = elim step [
  | checkpoints.Done other is known d ↦
      let same : sequence ≡ other = cc in (
        d.pin,
        d.dir,
        d.left,
        d.job,
        same ∙ d.sequence_is,
        ap (λ (q : State). folder_of d.dir q.folders) d.rest.rest ∙ folder_new d.dir s.folders (checkpoint_folder s d.pin d.dir true) (no_folder d.dir s d.free) ((bytes_eq-Decides d.dir d.dir).1 refl),
      )
  | checkpoints.No_job other is known w ↦ absurd (cc)
  | checkpoints.Halted other is job known w ↦ absurd (cc)
  | checkpoints.Failed is known f ↦ absurd (cc)
  | checkpoints.Wanting is job known w ↦ absurd (cc)
  | checkpoints.Taken dir is known w ↦ absurd (cc)
]
