use Rattle.lsm_manifest.proofs.Names.{other_manifest}
use Rattle.lsm_manifest.proofs.laws.another_number_is_apart.Goals as goal

pub returns : goal.returns
returns c dir m number is_m is ne = other_manifest dir number is m is_m ne
