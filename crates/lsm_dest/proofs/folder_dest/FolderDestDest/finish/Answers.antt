-- What the end of a folder leaves, for a folder that was begun earlier.
use Rattle.lsm_dest.proofs.Finishing.{ended_finishes}
use Rattle.lsm_dest.proofs.folder_dest.FolderDestDest.finish.Goals as goal

pub returns-clause-went : goal.returns-clause-went
returns-clause-went g c start story begun parts tells is building =
    ended_finishes start story begun parts c.args.current.now c.finish_in.result building
    (c.finish_in.ensures.went start story begun parts tells is building)
