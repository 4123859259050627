use Rattle.lsm_disk.specs.Images.{tree_now}
use Rattle.lsm_disk.proofs.Images.{reads_image}
use Rattle.bk_engine.proofs.StandingRestored.{built_place, built_reads}
use Rattle.bk_engine.proofs.standing.restored_folder_stands.Goals as goal

pub returns-clause-place : goal.returns-clause-place
returns-clause-place c = λ s dir whole t named fits built image. built_place s dir whole t named fits built image

pub returns-clause-image : goal.returns-clause-image
returns-clause-image c = λ s dir whole contents sequence t named fits built standing image. built_reads s dir whole t named fits built image contents sequence standing

pub returns-clause-now : goal.returns-clause-now
returns-clause-now c = λ s dir whole contents sequence named fits built standing. built_reads s dir whole (tree_now s) named fits built (reads_image s) contents sequence standing
