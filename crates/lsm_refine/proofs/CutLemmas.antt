-- What a cut lists stands for the accepted batches, where the store is good behind it.
use Rattle.std.specs.Prelude.{◌≡◌, ℕ, List, [], ◌∷◌, ◌++◌, length, Ok}
use Rattle.std.proofs.Common.{sym, ap, subst}
use Rattle.lsm_folder.specs.Needed.{Stands}
use Rattle.lsm_model.specs.declared.cuts.Cut.{Cut}
use Rattle.lsm_model.specs.declared.cuts.FlushRule.{FlushRule}
use Rattle.lsm_model.specs.declared.events.Event.TheVariants as event
use Rattle.lsm_model.specs.declared.replies.Reply.TheVariants as reply
use Rattle.lsm_model.specs.declared.states.State.{State}
use Rattle.lsm_model.specs.declared.states.Pin.{Pin}
use Rattle.lsm_model.specs.declared.states.Holder.TheVariants.{Caller}
use Rattle.lsm_model.specs.States.{shown_at}
use Rattle.lsm_model.specs.Steps.{Step}
use Rattle.lsm_model.specs.Pins.{IsCut, new_pin}
use Rattle.lsm_model.proofs.PinHistories.{flushing_done}
use Rattle.lsm_refine.specs.Kept.{KeptPin, Shown}
use Rattle.lsm_refine.specs.Pins.{ArePins, IsKeptPin, folder_of_pin, ListedStand}
use Rattle.lsm_refine.specs.Good.{Good}

-- the last pin of a state is kept
last_fits : (Fits : KeptPin → Pin → Type 0) (kept : List KeptPin) (pins : List Pin) (pin : Pin)
    → ArePins Fits kept (pins ++ pin ∷ []) → (k : KeptPin) × Fits k pin
last_fits Fits [] [] pin are = absurd are
last_fits Fits [] (p ∷ pins) pin are = absurd are
last_fits Fits (k ∷ kept) [] pin are = (k, are.0)
last_fits Fits (k ∷ kept) (p ∷ pins) pin are = last_fits Fits kept pins pin are.1

cut_stands : (s t : State) (w : Shown) (rule : FlushRule) (cut : Cut) → IsCut s rule cut t → Good w t → ListedStand cut t
cut_stands s t w rule cut done good =
    let new : Pin = new_pin Caller cut.manifest done.files done.at in
    let all : t.pins ≡ done.at.pins ++ new ∷ [] = ap (λ (q : State). q.pins) done.rest.rest in
    let count : length done.at.accepted ≡ length t.accepted = sym (ap (λ (q : State). length q.accepted) done.rest.rest) in
    let last = last_fits (IsKeptPin t) w.kept.pins done.at.pins new (subst (ArePins (IsKeptPin t) w.kept.pins) all good.pinned.pins) in
    record {
      files = done.files;
      are = done.lists;
      stands = subst (λ (n : ℕ). Stands (folder_of_pin cut.manifest done.files) (shown_at t n).contents (shown_at t n).sequence) count
          (subst (λ (m : ℕ). Stands (folder_of_pin m done.files) (shown_at t (length done.at.accepted)).contents
          (shown_at t (length done.at.accepted)).sequence) last.1.manifest last.1.stands);
    }

pub cut_listed : (s t : State) (w : Shown) (rule : FlushRule) (cut : Cut) → Step s (event.Cut rule) (reply.Cut (Ok cut)) t
    → Good w t → ListedStand cut t
unfolding Step
cut_listed s t w rule cut step good = cut_stands s t w rule cut (flushing_done cut step) good
