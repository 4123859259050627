use Rattle.lsm_folder.proofs.ManifestLemmas.{manifest_cut}
use Rattle.lsm_folder.proofs.laws.a_cut_manifest_says_the_first_edits.Goals as goal

pub returns : goal.returns
returns c = manifest_cut
