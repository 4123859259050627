use Rattle.lsm_refine.proofs.OpeningFirst.{first_says}
use Rattle.lsm_refine.proofs.OpeningRecovery.{recovery_says, free_names}
use Rattle.lsm_refine.proofs.opening_images.a_new_manifest_would_say_the_same.Goals as goal

pub returns-clause-says : goal.returns-clause-says
returns-clause-says c =
    λ dir named d rest synced r is contents sequence stands later among table.
    recovery_says dir named d r is later among rest synced contents sequence stands.stands table

pub returns-clause-free : goal.returns-clause-free
returns-clause-free c = λ dir named d r is later among. free_names dir named d r is later among

pub returns-clause-first : goal.returns-clause-first
returns-clause-first c = first_says
