-- A restore's calls leave the batches and the pins.
use Rattle.std.specs.Prelude.{◌≡◌, List, ℕ, Result, Ok, Err}
use Rattle.std.proofs.Common.{ap, inl, inr}
use Rattle.lsm_disk.specs.declared.calls.DiskCall.{DiskCall}
use Rattle.lsm_disk.specs.declared.dest.DestError.{DestError}
use Rattle.lsm_disk.specs.declared.dest.DestError.TheVariants as dest
use Rattle.lsm_model.specs.declared.states.State.{State}
use Rattle.lsm_model.specs.Halting.{Aimed}
use Rattle.lsm_model.specs.Moves.{Becomes, Halts}
use Rattle.lsm_model.specs.Destination.{BeginsFolder, FillsFolder, FinishesFolder}

-- the batches, how many are durable, and the pins are the same
abbrev pub Alike : State → State → Type 0
Alike s t = (t.durable ≡ s.durable) × (t.accepted ≡ s.accepted) × (t.pins ≡ s.pins) × (t.greatest_pin ≡ s.greatest_pin)

same : (s t : State) → t ≡ s → Alike s t
same s t is = (ap (λ (q : State). q.durable) is, ap (λ (q : State). q.accepted) is, ap (λ (q : State). q.pins) is, ap (λ (q : State). q.greatest_pin) is)

module _ {s t : State} where
  becomes : Becomes s t → Alike s t
  becomes b = (ap (λ (q : State). q.durable) b.rest, ap (λ (q : State). q.accepted) b.rest, ap (λ (q : State). q.pins) b.rest, ap (λ (q : State). q.greatest_pin) b.rest)

module _ {s t : State} where
  halts : {calls : List Aimed} → Halts calls s t → Alike s t
  halts h = becomes h.rest

pub begins : (s t : State) (dir : List ℕ) (result : Result (Unit {0}) DestError) → BeginsFolder s dir result t → Alike s t
begins s t dir (Ok done) h = becomes h.2
begins s t dir (Err dest.Fault) h = elim h.1 [ inl f ↦ halts f | inr f ↦ halts f.1 ]
begins s t dir (Err (dest.Halted first)) h = same s t h.1
begins s t dir (Err dest.Exists) h = becomes h.2
begins s t dir (Err (dest.Changed call path)) h = absurd h
begins s t dir (Err dest.NoMemory) h = becomes h.1

pub fills : (s t : State) (call : DiskCall) (result : Result (Unit {0}) DestError) → FillsFolder call s result t → Alike s t
fills s t call (Ok done) h = becomes h.1
fills s t call (Err dest.Fault) h = halts h.1
fills s t call (Err (dest.Halted first)) h = same s t h.1
fills s t call (Err dest.Exists) h = absurd h
fills s t call (Err (dest.Changed at path)) h = absurd h
fills s t call (Err dest.NoMemory) h = becomes h.1

pub finishes : (s t : State) (result : Result (Unit {0}) DestError) → FinishesFolder s result t → Alike s t
finishes s t (Ok done) h = becomes h.1.rest
finishes s t (Err dest.Fault) h = elim h.1.halts [ inl f ↦ halts f | inr f ↦ halts f ]
finishes s t (Err (dest.Halted first)) h = same s t h.1
finishes s t (Err dest.Exists) h = absurd h
finishes s t (Err (dest.Changed call path)) h = absurd h
finishes s t (Err dest.NoMemory) h = becomes h.1
