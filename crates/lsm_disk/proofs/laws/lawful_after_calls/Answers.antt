use Rattle.lsm_disk.proofs.Lawful.{lawful_linked, lawful_renamed, lawful_unlinked, lawful_removed, lawful_synced, lawful_names_synced, image_tree, image_leads}
use Rattle.lsm_disk.proofs.laws.lawful_after_calls.Goals as goal

pub returns-clause-linked : goal.returns-clause-linked
returns-clause-linked c = lawful_linked

pub returns-clause-renamed : goal.returns-clause-renamed
returns-clause-renamed c = lawful_renamed

pub returns-clause-unlinked : goal.returns-clause-unlinked
returns-clause-unlinked c = lawful_unlinked

pub returns-clause-removed : goal.returns-clause-removed
returns-clause-removed c = lawful_removed

pub returns-clause-synced : goal.returns-clause-synced
returns-clause-synced c = lawful_synced

pub returns-clause-names_synced : goal.returns-clause-names_synced
returns-clause-names_synced c = lawful_names_synced

pub returns-clause-images : goal.returns-clause-images
returns-clause-images c s t lawful image = (image_tree s t lawful image, image_leads s t lawful image)
