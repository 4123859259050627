-- How the inputs of a compaction are read, a run at a time.
use Rattle.std.specs.Prelude.{◌≡◌, ℕ, Bool, true, false, List, [], ◌∷◌, reverse, Option, Some, None}
use Rattle.std.proofs.Common.{refl}
use Rattle.std.proofs.lemmas.Bool.{false≢true}
use Rattle.lsm_rows.specs.declared.rows.Row.{Row}
use Rattle.lsm_block.specs.TableText.{row_entry}
use Rattle.lsm_compact.specs.declared.input.Input.{Input}
use Rattle.lsm_compact.specs.declared.input.Input.TheVariants.{Run, Wanting, Ended}
use Rattle.lsm_compact.specs.declared.input.Unfilled.{Unfilled}

-- a run has at most so many rows
abbrev pub run_len : ℕ
run_len = 16

-- the rows of its run that an input didn't give yet
abbrev pub left_rows : Input → List Row
left_rows (Run rows) = reverse rows.items
left_rows (Wanting why) = []
left_rows Ended = []

-- no row is left, and none follows
abbrev pub is_ended : Input → Bool
is_ended (Run rows) = false
is_ended (Wanting why) = false
is_ended Ended = true

-- at its end none is left
pub none_at_end : (input : Input) → is_ended input ≡ true → left_rows input ≡ []
none_at_end (Run rows) is = absurd (false≢true is)
none_at_end (Wanting why) is = absurd (false≢true is)
none_at_end Ended is = refl

-- the fault of an input's last answer
abbrev pub fault_of : Input → Option Unfilled
fault_of (Run rows) = None
fault_of (Wanting why) = Some why
fault_of Ended = None

-- the internal key of the last of all rows that were read, after a run
unfoldable pub read_to : Option (List ℕ) → List Row → Option (List ℕ)
read_to after [] = after
read_to after (row ∷ rows) = read_to (Some (row_entry row).key) rows
