use Rattle.lsm_disk.proofs.Kept.{new_kept, kept_appended, kept_synced, kept_names_synced}
use Rattle.lsm_disk.proofs.laws.kept_after_syncs.Goals as goal

pub returns-clause-created : goal.returns-clause-created
returns-clause-created c = new_kept

pub returns-clause-appended : goal.returns-clause-appended
returns-clause-appended c s path id f bytes kept = kept_appended s path id f kept bytes

pub returns-clause-synced : goal.returns-clause-synced
returns-clause-synced c s path id f kept = kept_synced s path id f kept

pub returns-clause-names_synced : goal.returns-clause-names_synced
returns-clause-names_synced c s path id f kept = kept_names_synced s path id f kept
