-- What a store has of a key in memory, and what a probe for it tells.
use Rattle.std.specs.Prelude.{◌≡◌, ℕ, ◌<◌, Bool, true, false, ◌||◌, ◌==◌, List, Contains, Option, Some, None, option_map, is_some, Result, IfOk, MatchResult}
use Rattle.std.specs.FinMap as finmap
use Rattle.lsm_rows.specs.declared.rows.Row.{Row}
use Rattle.lsm_rows.specs.Contents.{newest}
use Rattle.lsm_model.specs.declared.errors.StoreError.{StoreError}
use Rattle.lsm_model.specs.declared.states.State.{State}
use Rattle.lsm_model.specs.States.{contents_now}
use Rattle.lsm_refine.specs.Kept.{Kept, Shown}
use Rattle.lsm_refine.specs.Good.{Good, with_counts}
use Rattle.lsm_refine.specs.Refused.{CountsHold}
use Rattle.lsm_refine.specs.Caused.{ReadBy}
use Rattle.lsm_io.specs.Causes.{Rose}
use Rattle.lsm_core.specs.Looking.{Leveled, TellsValue}
use Rattle.lsm_core.specs.Reading.{IsOutside}
use Rattle.lsm_store.specs.declared.probing.Probe.{Probe}
use Rattle.lsm_store.specs.declared.probing.Probe.TheVariants.{Known, Look}

-- the first of two rows that is there
abbrev pub row_or : Option Row → Option Row → Option Row
row_or None other = other
row_or (Some row) other = Some row

-- the key's newest row in memory: an active one, or else a frozen one
abbrev pub row_in_memory : List Row → List Row → List ℕ → Option Row
row_in_memory active frozen key = row_or (newest key active) (newest key frozen)

-- what that row gives the key: a value, or none where it is a delete
abbrev pub value_in_memory : List Row → List Row → List ℕ → Option (Option (List ℕ))
value_in_memory active frozen key = option_map (λ (row : Row). row.value) (row_in_memory active frozen key)

-- ---- a probe

-- a probe's value is the one that the contents have at the key; its tables give the key that value
abbrev pub TellsProbe : {V : Type 0} → State → List ℕ → Probe V → Type 0
TellsProbe s key (Known value) = value ≡ finmap.get (contents_now s) key
TellsProbe s key (Look tables) = TellsValue tables key (finmap.get (contents_now s) key)

-- whether a probe tells the value at once
abbrev pub is_known : {V : Type 0} → Probe V → Bool
is_known (Known value) = true
is_known (Look tables) = false

-- whether a store tells it at once: a row in memory has the key, or no table is live
abbrev pub is_at_hand : Kept → List ℕ → Bool
is_at_hand kept key = is_some (value_in_memory kept.active kept.frozen key) || (finmap.len kept.version == 0)

-- A probe changes nothing of a store, but for its disk's counts. It tells the value that the
-- contents have at the key, at once exactly where it is at hand, or gives the tables that tell it;
-- and only the disk's faults and want of memory refuse it, where the store is good.
pub record Probed {V : Type 0} (key : List ℕ) (v w : Shown) (result : Result (Probe V) StoreError) : Type 0 where
  pub counts : CountsHold v w
  pub told : w.disk.told ≡ v.disk.told
  pub by : ReadBy v w result
  pub rest : w ≡ record v { disk = w.disk }
  pub known : IfOk result (λ probe. is_known probe ≡ is_at_hand v.kept key)
  pub good : (s : State) → Good v s → Good w (with_counts w.disk s)
  pub tells : (s : State) → Good v s → MatchResult result (TellsProbe s key) IsOutside

-- The views of a probe's tables are closed. One that had failed raises the disk's count of faults,
-- and nothing else changes.
pub record HasClosed (tables : List Leveled) (v w : Shown) : Type 0 where
  pub counts : CountsHold v w
  pub told : w.disk.told ≡ v.disk.told
  pub rest : w ≡ record v { disk = w.disk }
  pub rose : (t : Leveled) → Contains tables t → 0 < t.table.viewed.faults → Rose v.disk.faults w.disk.faults
  pub good : (s : State) → Good v s → Good w (with_counts w.disk s)
