use Rattle.std.proofs.Common.{arith}
use Rattle.lsm_names.proofs.SessionLemmas.{session_is_ascii}
use Rattle.lsm_names.proofs.sessions.Session.as_str.Goals as goal

pub as_str-requires : goal.as_str-requires
as_str-requires c = (omega arith, session_is_ascii c.self.inside.text c.self.invariant)
