use Rattle.lsm_wal.proofs.Images.{wal_image, torn_image}
use Rattle.lsm_wal.proofs.laws.an_image_has_the_durable_batches.Goals as goal

pub returns-clause-whole : goal.returns-clause-whole
returns-clause-whole c = wal_image

pub returns-clause-torn : goal.returns-clause-torn
returns-clause-torn c = torn_image
