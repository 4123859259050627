-- How large a batch may be, and which refusal comes where it would pass a limit.
use Rattle.std.specs.Prelude.{ℕ, ◌+◌, ◌≤◌, nat_lt, if◌then◌else◌, List, [], ◌∷◌, ◌++◌, length, All, Option, Some, None, Result, Ok, Err}
use Rattle.lsm_rows.specs.declared.operations.Op.{Op}
use Rattle.lsm_rows.specs.declared.operations.Op.TheVariants.{Put, Delete}
use Rattle.lsm_rows.specs.declared.refusals.What.{What}
use Rattle.lsm_rows.specs.declared.refusals.What.TheVariants.{Key, Value, Count, Bytes}
use Rattle.lsm_rows.specs.declared.refusals.BatchRefusal.{BatchRefusal}
use Rattle.lsm_rows.specs.declared.refusals.BatchRefusal.TheVariants.{BatchTooLarge, NoMemory}
use Rattle.lsm_rows.specs.BatchText.{text_len}

-- the most bytes of a key
abbrev pub key_limit : ℕ
key_limit = 65535

-- the most bytes of a value
abbrev pub value_limit : ℕ
value_limit = 1048576

-- the most operations of a batch
abbrev pub count_limit : ℕ
count_limit = 1024

-- the most bytes of a batch's text
abbrev pub bytes_limit : ℕ
bytes_limit = 4194304

-- the length of an operation's key
abbrev pub key_len : Op → ℕ
key_len (Put key value) = length key
key_len (Delete key) = length key

-- the length of the value that an operation writes; a delete writes none
abbrev pub value_len : Op → ℕ
value_len (Put key value) = length value
value_len (Delete key) = 0

-- an operation's key and value are within their limits
pub record OpInLimits (op : Op) : Type 0 where
  pub key : key_len op ≤ key_limit
  pub value : value_len op ≤ value_limit

-- a batch of these operations is within all four limits
pub record InLimits (ops : List Op) : Type 0 where
  pub each : All OpInLimits ops
  pub count : length ops ≤ count_limit
  pub bytes : text_len ops ≤ bytes_limit

-- what would pass its limit, the size that it would have, and the limit
pub record Refused : Type 0 where
  pub what : What
  pub kept : ℕ
  pub limit : ℕ

-- one test: the refusal where the size passes the limit, else what the later tests say
abbrev pub tested : What → ℕ → ℕ → Option Refused → Option Refused
tested what size limit later = if nat_lt limit size then Some (record { what = what; kept = size; limit = limit }) else later

-- the tests of one more operation, in their order: key, value, count, bytes
unfoldable pub refusal_of : List Op → Op → Option Refused
refusal_of ops op =
    tested Key (key_len op) key_limit
    (tested Value (value_len op) value_limit
    (tested Count (length ops + 1) count_limit
    (tested Bytes (text_len (ops ++ op ∷ [])) bytes_limit None)))

-- the refusal that a call answered: none with Ok or where memory was wanting
unfoldable pub refused_in : {A : Type 0} → Result A BatchRefusal → Option Refused
refused_in (Ok x) = None
refused_in (Err (BatchTooLarge what kept limit)) = Some (record { what = what; kept = kept; limit = limit })
refused_in (Err NoMemory) = None
