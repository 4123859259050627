use Rattle.std.proofs.Common.{refl}
use Rattle.lsm_rows.specs.Replay.{sequence_after}
use Rattle.bk_engine.proofs.StandingBackups.{kept_stands, kept_sound}
use Rattle.bk_engine.proofs.standing.kept_plain_backup_stands.Goals as goal

pub returns-clause-holds : goal.returns-clause-holds
returns-clause-holds c = λ s id timestamp sequence accepted t each kept image. kept_stands s id timestamp sequence accepted t each kept image

pub returns-clause-sound : goal.returns-clause-sound
returns-clause-sound c = λ s id timestamp accepted t each kept image. kept_sound s id timestamp (sequence_after 0 accepted) accepted t each kept image refl
