-- Writes and what makes them durable.
use Rattle.std.specs.Prelude.{◌≡◌, ℕ, ◌+◌, ◌<◌, Bool, if◌then◌else◌, List, [], ◌∷◌, ◌++◌, length, Some, Result}
use Rattle.lsm_rows.specs.declared.operations.Op.{Op}
use Rattle.lsm_model.specs.declared.errors.StoreError.{StoreError}
use Rattle.lsm_model.specs.declared.states.State.{State}
use Rattle.lsm_model.specs.States.{last_of}
use Rattle.lsm_model.specs.Halting.{sync_calls, write_calls}
use Rattle.lsm_model.specs.Moves.{Becomes, Halts, HaltsSettling}
use Rattle.lsm_model.specs.Causes.{first_of, halted, sequence_full}
use Rattle.lsm_model.specs.Answers.{Answers}

-- one batch more is accepted; with `sync` all are durable; its rows are in memory
abbrev pub with_batch : List Op → Bool → State → State
with_batch ops sync s = record s {
  accepted = s.accepted ++ ops ∷ [];
  durable = if sync then length s.accepted + 1 else s.durable;
  active = s.active + 1;
}

-- the batch may be there after the next opening
abbrev pub doubting : List Op → State → State
doubting ops s = record s { doubtful = Some ops }

-- all accepted batches are durable
abbrev pub all_durable : State → State
all_durable s = record s { durable = length s.accepted }

-- The batch is accepted, and the last log is longer. Not said here: by how many bytes.
pub record IsLogged (ops : List Op) (sync : Bool) (s t : State) : Type 0 where
  pub longer : s.active_len < t.active_len
  pub rest : Becomes (record (with_batch ops sync s) { active_len = t.active_len }) t

-- A write answers the last sequence. Where the disk failed, the batch is doubtful, and the store is halted.
abbrev pub Writes : State → List Op → Bool → Result ℕ StoreError → State → Type 0
Writes s ops sync result t =
    Answers (first_of (halted s ∷ sequence_full (length ops) s ∷ []))
    (λ (last : ℕ). (last ≡ last_of s + length ops) × IsLogged ops sync s t)
    (Halts write_calls (doubting ops s) t)
    (Becomes s t) (t ≡ s) result

-- A failed sync may have made batches durable. A sync takes no memory.
abbrev pub SyncsLog : State → Result (Unit {0}) StoreError → State → Type 0
SyncsLog s result t =
    Answers (halted s) (λ (done : Unit {0}). Becomes (all_durable s) t) (HaltsSettling sync_calls s t) ⊥ (t ≡ s) result
