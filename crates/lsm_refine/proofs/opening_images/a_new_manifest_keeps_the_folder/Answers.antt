use Rattle.lsm_refine.proofs.OpeningManifest.{old_or_new, none_or_new, says_still}
use Rattle.lsm_refine.proofs.opening_images.a_new_manifest_keeps_the_folder.Goals as goal

pub returns-clause-stands : goal.returns-clause-stands
returns-clause-stands c =
    λ dir named start d kept rest stand bytes current number fits no_manifest no_temporary contents sequence may edits says later
    replaces t image. old_or_new dir named start d kept rest number fits contents sequence may edits says later replaces t image
    stand bytes current no_manifest no_temporary

pub returns-clause-fresh : goal.returns-clause-fresh
returns-clause-fresh c =
    λ dir named start d kept rest fresh folder number fits contents sequence may edits says later replaces t image.
    none_or_new dir named start d kept rest number fits contents sequence may edits says later replaces t image fresh folder

pub returns-clause-says : goal.returns-clause-says
returns-clause-says c = says_still
