-- What an engine answers, what halts it, and which identifiers its backups have.
use Rattle.std.specs.Prelude.{◌≡◌, ℕ, ◌+◌, ◌<◌, ◌≤◌, List, [], ◌∷◌, Option, Some, None, IsTrue, is_some}
use Rattle.lsm_io.specs.Causes.{Rose}
use Rattle.lsm_disk.specs.Halts.{halt_at}
use Rattle.lsm_disk.specs.declared.calls.Halt.{Halt}
use Rattle.bk_meta.specs.declared.metas.Meta.{Meta}
use Rattle.bk_engine.specs.Shown.{Shown}
use Rattle.bk_engine.specs.declared.errors.EngineError.{EngineError}
use Rattle.bk_engine.specs.declared.errors.EngineError.TheVariants as engine

-- the greatest identifier
abbrev pub last_identifier : ℕ
last_identifier = 4294967295

-- Why a creation was refused by this answer: a count of the backup disk rose, or one of the views; the engine had been halted
-- by this disk call; it hadn't, and the last identifier was given; or memory was wanted. No other answer comes.
abbrev pub HasRefused : Shown → Shown → ℕ → ℕ → EngineError → Type 0
HasRefused old new before later engine.DiskFault = Rose old.disk.faults new.disk.faults
HasRefused old new before later (engine.Changed call path) = Rose old.disk.refusals new.disk.refusals
HasRefused old new before later engine.SourceFault = Rose before later
HasRefused old new before later (engine.Halted first) = old.halt ≡ Some first
HasRefused old new before later engine.IdsFull = (old.halt ≡ None) × (old.given ≡ last_identifier)
HasRefused old new before later engine.NoMemory = Unit {0}
HasRefused old new before later other = ⊥

-- A creation that was refused before it touched the disk leaves all as it was. Any other has used its identifier up.
abbrev pub IsLeftBy : Shown → Shown → EngineError → Type 0
IsLeftBy old new (engine.Halted first) = new ≡ old
IsLeftBy old new engine.IdsFull = new ≡ old
IsLeftBy old new other = new.given ≡ old.given + 1

-- What halts the engine after this answer: the disk call that failed or found the disk changed, and else what did before.
abbrev pub HaltsBy : Option Halt → Option Halt → EngineError → Type 0
HaltsBy old new engine.DiskFault = IsTrue (is_some new)
HaltsBy old new (engine.Changed call path) = new ≡ Some (halt_at call path)
HaltsBy old new other = new ≡ old

-- each identifier is above those before it, and they are above the first bound and not above the last
abbrev pub RiseBetween : ℕ → ℕ → List Meta → Type 0
RiseBetween low high [] = low ≤ high
RiseBetween low high (meta ∷ metas) = (low < meta.id) × RiseBetween meta.id high metas
