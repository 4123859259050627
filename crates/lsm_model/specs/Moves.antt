-- How a state may differ from another where a call says no more of it.
use Rattle.std.specs.Prelude.{◌≡◌, ◌⊎◌, ℕ, ◌+◌, ◌≤◌, ◌==◌, if◌then◌else◌, List, length, Some}
use Rattle.lsm_io.specs.Causes.{Rose}
use Rattle.lsm_disk.specs.declared.calls.Halt.{Halt}
use Rattle.lsm_model.specs.declared.states.State.{State}
use Rattle.lsm_model.specs.Halting.{Aimed, IsMet}

-- The state becomes this one: all is so but the disk's counts, which may have risen.
pub record Becomes (s t : State) : Type 0 where
  pub rest : t ≡ record s { faults = t.faults; refusals = t.refusals }
  pub faults : s.faults ≤ t.faults
  pub refusals : s.refusals ≤ t.refusals

-- The same, and more of the accepted batches may be durable.
pub record Settles (s t : State) : Type 0 where
  pub rest : Becomes (record s { durable = t.durable }) t
  pub durable : s.durable ≤ t.durable
  pub within : t.durable ≤ length t.accepted

-- Numbers may be drawn besides, so many at most.
pub record Draws (most : ℕ) (s t : State) : Type 0 where
  pub rest : Settles (record s { next = t.next }) t
  pub next : s.next ≤ t.next
  pub few : t.next ≤ s.next + most

-- How many numbers are drawn at most where all rows in memory go into tables: for the frozen ones that of a table and that
-- of a manifest, and for the active ones that of a log besides.
abbrev pub flush_draws : State → ℕ
flush_draws s = (if s.frozen == 0 then 0 else 2) + (if s.active == 0 then 0 else 3)

-- how many tables come so
abbrev pub flush_tables : State → ℕ
flush_tables s = (if s.frozen == 0 then 0 else 1) + (if s.active == 0 then 0 else 1)

-- Rows may have gone from memory into tables. Contents, pins and folders stay. Where no rows are in memory nothing is moved,
-- drawn or edited. Not said here: what the tables hold, and how long the manifest is.
pub record Flushes (s t : State) : Type 0 where
  pub rest : Settles (record s {
    active = t.active;
    frozen = t.frozen;
    active_len = t.active_len;
    frozen_len = t.frozen_len;
    tables = t.tables;
    next = t.next;
    manifest_len = t.manifest_len;
  }) t
  pub next : s.next ≤ t.next
  pub few : t.next ≤ s.next + flush_draws s
  pub older : length s.tables ≤ length t.tables
  pub newer : length t.tables ≤ length s.tables + flush_tables s
  pub idle : s.active ≡ 0 → s.frozen ≡ 0 → (t.tables ≡ s.tables) × (t.manifest_len ≡ s.manifest_len)

-- The disk failed in one of these changing calls, and the store is halted by it.
pub record Halts (calls : List Aimed) (s t : State) : Type 0 where
  pub first : Halt
  pub among : IsMet s.own first calls
  pub rose : Rose s.faults t.faults
  pub rest : Becomes (record s { halt = Some first }) t

-- The same, where batches may have become durable before.
pub record HaltsSettling (calls : List Aimed) (s t : State) : Type 0 where
  pub settled : State
  pub before : Settles s settled
  pub halts : Halts calls settled t

-- The disk failed in a call that only reads, and nothing is halted.
pub record FailsToRead (s t : State) : Type 0 where
  pub rose : Rose s.faults t.faults
  pub rest : Becomes s t

-- The disk failed, in one of these changing calls or in one that only reads.
abbrev pub Fails : List Aimed → State → State → Type 0
Fails calls s t = FailsToRead s t ⊎ Halts calls s t
