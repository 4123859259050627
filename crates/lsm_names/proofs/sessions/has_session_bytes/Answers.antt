use Rattle.std.proofs.Common.{rules}
use Rattle.std.proofs.lemmas.Iterator.{YieldsList-from_slice}
use Rattle.std.proofs.lemmas.Iterator.Search.{all_from_yields_List}
use Rattle.lsm_names.specs.Sessions.{is_session_byte}
use Rattle.lsm_names.proofs.sessions.has_session_bytes.Goals as goal

pub returns : goal.returns
returns c = all_from_yields_List is_session_byte _ _ _ c.all.ensures.ran (YieldsList-from_slice c.args.bytes.now cc) (λ x b q k. search rules)
