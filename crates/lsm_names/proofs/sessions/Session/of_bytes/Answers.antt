use Rattle.std.proofs.Common.{◌≡◌, true, arith}
use Rattle.lsm_names.specs.Sessions.{is_session}
use Rattle.lsm_names.proofs.SessionLemmas.{length_of_session}
use Rattle.lsm_names.proofs.sessions.Session.of_bytes.Goals as goal

pub from_slice-requires : goal.from_slice-requires
from_slice-requires c =
    let named : is_session c.args.bytes.now ≡ true = cc in
    (omega arith, omega (arith, length_of_session c.args.bytes.now named))
