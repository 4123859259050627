-- How a call is answered, where its answers differ in nothing but what it does.
use Rattle.std.specs.Prelude.{◌≡◌, ℕ, ◌+◌, ◌<◌, ◌≤◌, Bool, true, false, nat_le, if◌then◌else◌, length, Option, Some, None, Result, Ok, Err}
use Rattle.lsm_model.specs.declared.cuts.FlushRule.{FlushRule}
use Rattle.lsm_model.specs.declared.cuts.FlushRule.TheVariants.{Never, Always, AtLeast}
use Rattle.lsm_model.specs.declared.errors.StoreError.{StoreError}
use Rattle.lsm_model.specs.declared.errors.StoreError.TheVariants.{DiskFault, NumbersFull, TablesFull, NoMemory}
use Rattle.lsm_model.specs.declared.states.State.{State}
use Rattle.lsm_model.specs.Halting.{flush_calls}
use Rattle.lsm_model.specs.Moves.{Becomes, Flushes, Halts, flush_draws, flush_tables}
use Rattle.lsm_model.specs.Causes.{table_limit, number_end}

-- What the store knows refuses the call first, and changes nothing. Else the call is done, or the disk failed, or memory
-- was wanting.
pub data Answers {A : Type 0} (known : Option StoreError) (Does : A → Type 0) (fails wants stays : Type 0)
    (result : Result A StoreError) : Type 0 where
  Done : (value : A) → result ≡ Ok value → known ≡ None → Does value → Answers known Does fails wants stays result
  Failed : result ≡ Err DiskFault → known ≡ None → fails → Answers known Does fails wants stays result
  Wanting : result ≡ Err NoMemory → known ≡ None → wants → Answers known Does fails wants stays result
  Refused : (refusal : StoreError) → result ≡ Err refusal → known ≡ Some refusal → stays → Answers known Does fails wants stays result

-- ---- where rows are flushed on the way

-- whether the rule has the rows in memory flushed: by `AtLeast` exactly where the live logs have so many bytes or more
abbrev pub does_flush : FlushRule → State → Bool
does_flush Never s = false
does_flush Always s = true
does_flush (AtLeast bytes) s = nat_le bytes (s.frozen_len + s.active_len)

-- what may have become of the state on the way, where rows are flushed or aren't
abbrev pub MayFlush : Bool → State → State → Type 0
MayFlush true s t = Flushes s t
MayFlush false s t = Becomes s t

-- how many numbers the rule draws at most, and how many tables it adds
abbrev pub rule_draws : FlushRule → State → ℕ
rule_draws rule s = if does_flush rule s then flush_draws s else 0

abbrev pub rule_tables : FlushRule → State → ℕ
rule_tables rule s = if does_flush rule s then flush_tables s else 0

-- One more number was to be drawn for the rows in memory, and none was left.
pub record LacksNumber (rule : FlushRule) (next : ℕ) (s t : State) : Type 0 where
  pub is : next ≡ t.next
  pub full : number_end ≤ next
  pub drawn : next < s.next + rule_draws rule s
  pub rest : MayFlush (does_flush rule s) s t

-- One more table was to be installed for the rows in memory, and it would be one too many.
pub record LacksPlace (rule : FlushRule) (live adding : ℕ) (s t : State) : Type 0 where
  pub live_is : live ≡ length t.tables
  pub adding_is : adding ≡ 1
  pub full : table_limit < live + adding
  pub older : length s.tables ≤ live
  pub added : live < length s.tables + rule_tables rule s
  pub rest : MayFlush (does_flush rule s) s t

-- A changing disk call failed in the flush, and halted the store. Where nothing is flushed no disk call is made.
pub record FailsFlushing (rule : FlushRule) (s t : State) : Type 0 where
  pub flushes : does_flush rule s ≡ true
  pub flushed : State
  pub before : Flushes s flushed
  pub halts : Halts flush_calls flushed t

-- The same, where rows may be flushed by a rule before the call is done. A refusal on the way may leave them frozen, and a
-- flush begun.
pub data AnswersFlushing {A : Type 0} (known : Option StoreError) (rule : FlushRule) (s : State) (Does : A → Type 0)
    (result : Result A StoreError) (t : State) : Type 0 where
  Usual : Answers known Does (FailsFlushing rule s t) (MayFlush (does_flush rule s) s t) (t ≡ s) result
      → AnswersFlushing known rule s Does result t
  No_number : (next : ℕ) → result ≡ Err (NumbersFull next) → known ≡ None → LacksNumber rule next s t
      → AnswersFlushing known rule s Does result t
  No_place : (live adding : ℕ) → result ≡ Err (TablesFull live adding) → known ≡ None → LacksPlace rule live adding s t
      → AnswersFlushing known rule s Does result t
