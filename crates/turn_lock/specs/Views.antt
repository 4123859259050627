-- Views: what a pass knows, and how its view changes.
use Rattle.std.specs.Prelude.{ℕ, List, [], ◌∷◌, ◌++◌, length, Option, Some, None}
use Rattle.turn_lock.specs.declared.view.View.{View}
use Rattle.turn_lock.specs.declared.view.Stage.{Stage}
use Rattle.turn_lock.specs.declared.view.Stage.TheVariants.{Founds, Places, Idle, Waits, Holds, Spent}
use Rattle.turn_lock.specs.Lists.{total, is_lane, longer, tagged, blank, first_lane, noted, other_lanes, lane_alone}

-- 1 where a pass at this stage has a ticket that wasn't served to its end, else 0
abbrev pub pending : Stage → ℕ
pending Founds = 0
pending Places = 0
pending Idle = 0
pending Waits = 1
pending Holds = 1
pending Spent = 0

module _ {S E : Type 0} where
  -- how often a view has the lane, how many lanes it has, and how many tickets
  abbrev pub lane_in : ℕ → View S E → ℕ
  lane_in n v = total (λ m. is_lane m.0 n) v.mine

  abbrev pub lanes_in : View S E → ℕ
  lanes_in v = length v.mine

  abbrev pub tickets_in : View S E → ℕ
  tickets_in v = pending v.stage

  -- the founder, which has every lane: before it has taken the empty slot, and after
  abbrev pub founder : ℕ → View S E
  founder passes = record { stage = Founds; start = None; seen = []; ticket = 0; mine = blank 0 passes; heard = [] }

  abbrev pub placer : ℕ → View S E
  placer passes = record { stage = Places; start = None; seen = []; ticket = 0; mine = blank 0 passes; heard = [] }

  -- a pass with so many lanes from this number on, which has seen nothing
  abbrev pub begun : ℕ → ℕ → S → View S E
  begun from lanes start = record { stage = Idle; start = Some start; seen = []; ticket = 0; mine = blank from lanes; heard = [] }

  -- the view as each step leaves it
  abbrev pub places : View S E → View S E
  places v = record v { stage = Places }

  abbrev pub begins : View S E → S → View S E
  begins v start = record v { stage = Idle; start = Some start }

  abbrev pub waits : View S E → ℕ → View S E
  waits v ticket = record v { stage = Waits; ticket = ticket }

  abbrev pub holds : View S E → List (ℕ × E) → View S E
  holds v history = record v { stage = Holds; seen = history }

  abbrev pub entered : View S E → List E → View S E
  entered v more = record v { stage = Holds; seen = v.seen ++ tagged (first_lane v.mine) more; mine = noted v.mine more }

  abbrev pub idle : View S E → View S E
  idle v = record v { stage = Idle }

  -- the first lane is split off: the view that stays, and the new one
  abbrev pub left_of : View S E → View S E
  left_of v = record v { mine = other_lanes v.mine }

  abbrev pub right_of : View S E → View S E
  right_of v = record v { mine = lane_alone v.mine }

  -- what was heard of a view that is joined
  abbrev pub told_by : View S E → Option S × List (ℕ × E)
  told_by v = (v.start, v.seen)

  -- two views are joined: the view that stays has the longer history and the lanes of both, and the other one is spent
  abbrev pub both_of : View S E → View S E → View S E
  both_of v w = record v { seen = longer v.seen w.seen; mine = v.mine ++ w.mine; heard = v.heard ++ told_by v ∷ told_by w ∷ [] }

  abbrev pub spent : View S E
  spent = record { stage = Spent; start = None; seen = []; ticket = 0; mine = []; heard = [] }
