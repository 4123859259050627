-- Where a view of a store's file was refused.
use Rattle.std.specs.Prelude.{◌≡◌, ℕ, List, Option, Some, None, IfSome}
use Rattle.std.proofs.Common.{refl, sym, subst, ◌∙◌, arith}
use Rattle.lsm_disk.specs.State.{Seen, State, Story, state_of}
use Rattle.lsm_disk.specs.Refusals.{no_view}
use Rattle.lsm_disk.specs.Answers.{RefusesBy, HasRisen}
use Rattle.lsm_disk.specs.declared.calls.DiskCall.{DiskCall}
use Rattle.lsm_disk.specs.declared.calls.DiskError.{DiskError}
use Rattle.lsm_disk.specs.declared.calls.DiskError.TheVariants.{Fault, NotThere, Exists, NoLinks, NotEmpty, Short, NoMemory}
use Rattle.ldb_script.specs.Stored.{Shown}
use Rattle.ldb_script.specs.Opening.{SeenStay, IsBroken, store_error}
use Rattle.ldb_script.specs.Files.{IsRefused}
use Rattle.ldb_script.specs.declared.store.StoreError.{StoreError}
use Rattle.ldb_script.specs.declared.store.StoreError.TheVariants as store_errors

module _ (path : List ℕ) (len : ℕ) (old new : Seen) (call : DiskCall) where
  denied : (e : DiskError) → IfSome old.told (λ story. no_view path len (state_of story) ≡ Some e) → (story : Story) → old.told ≡ Some story → no_view path len (state_of story) ≡ None → ⊥
  denied e answer story tells none =
      let clash : None ≡ Some e = sym none ∙ subst (λ (o : Option Story). IfSome o (λ story. no_view path len (state_of story) ≡ Some e)) tells answer in cc

  -- the disk refused a view
  pub view_refused : (at : List ℕ) (e : DiskError) → IfSome old.told (λ story. RefusesBy (no_view path len (state_of story)) e) → HasRisen old new e → IsRefused (λ s. no_view path len s ≡ None) old new (store_error call at e)
  view_refused at Fault answer rose = rose
  view_refused at NoMemory answer rose = tt
  view_refused at NotThere answer rose = (rose, denied NotThere answer)
  view_refused at Exists answer rose = (rose, denied Exists answer)
  view_refused at NoLinks answer rose = (rose, denied NoLinks answer)
  view_refused at NotEmpty answer rose = (rose, denied NotEmpty answer)
  view_refused at (Short found) answer rose = (rose, denied (Short found) answer)

pub seen_same : (s : Seen) → SeenStay s s
seen_same s = record { faults = omega arith; refusals = omega arith }

-- a refused call came between others
pub refused_between : (P Q : State → Type 0) (old mid new end : Seen) → ((s : State) → P s → Q s) → mid.told ≡ old.told → SeenStay old mid → SeenStay new end → (e : StoreError) → IsRefused Q mid new e → IsRefused P old end e
refused_between P Q old mid new end weaker same before later store_errors.DiskFault h = omega (arith, before.faults, later.faults, h)
refused_between P Q old mid new end weaker same before later (store_errors.Changed call path) h = (omega (arith, before.refusals, later.refusals, h.0), λ story tells holds. h.1 story (same ∙ tells) (weaker (state_of story) holds))
refused_between P Q old mid new end weaker same before later store_errors.NoMemory h = tt

-- a store that stands on a disk with P is broken by it
pub broken_refused : (P : State → Type 0) (start : Option Story) (old new : Shown) → ((story : Story) → start ≡ Some story → (now : Story) × (old.disk.told ≡ Some now) × P (state_of now)) → (e : StoreError) → IsRefused P old.disk new.disk e → IsBroken start old new e
broken_refused P start old new has store_errors.DiskFault h = h
broken_refused P start old new has (store_errors.Changed call path) h = (h.0, untold start (λ story tells. let n = has story tells in h.1 n.0 n.1 n.2)) where
  untold : (o : Option Story) → ((story : Story) → o ≡ Some story → ⊥) → o ≡ None
  untold None never = refl
  untold (Some story) never = absurd (never story refl)
broken_refused P start old new has store_errors.NoMemory h = tt
