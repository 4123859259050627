-- How a holding lends its value.
use Rattle.turn_lock.specs.declared.turn.Held.{Held}

-- the holding with another value
abbrev pub with_value : {V S E : Type 0} → Held V S E → V → Held V S E
with_value held value = record held { value = value }
