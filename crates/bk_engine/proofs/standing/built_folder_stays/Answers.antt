use Rattle.lsm_disk.specs.State.{state_of}
use Rattle.std.specs.Prelude.{length}
use Rattle.lsm_disk.specs.Kept.{InFile}
use Rattle.lsm_disk.specs.Building.{IsWithin}
use Rattle.bk_engine.specs.Copying.{Whatever, Anything}
use Rattle.bk_engine.specs.Leaving.{SparesFolder}
use Rattle.bk_engine.proofs.StandingKept.{built_stays, stays_spared, stays_in_file, stays_beside, just_built}
use Rattle.bk_engine.proofs.standing.built_folder_stays.Goals as goal

pub returns-clause-change : goal.returns-clause-change
returns-clause-change c = built_stays

pub returns-clause-kind : goal.returns-clause-kind
returns-clause-kind c = λ dir parts story told built w.
    let q = SparesFolder dir (length (state_of story).files) in
    just_built dir parts story told q (stays_spared dir parts story told Anything Whatever q (λ c is. is) built w)

pub returns-clause-file : goal.returns-clause-file
returns-clause-file c = λ dir parts story told id other built w. just_built dir parts story told (InFile id) (stays_in_file dir parts story told Anything Whatever id built other w)

pub returns-clause-folder : goal.returns-clause-folder
returns-clause-folder c = λ dir other parts story told first second differ built w.
    just_built dir parts story told (IsWithin other (length (state_of story).files)) (stays_beside dir other parts story told Anything Whatever first second differ built w)
