use Rattle.std.proofs.Common.{rules}
use Rattle.std.specs.Prelude.{is_none}
use Rattle.std.proofs.lemmas.Map.Made.{filter_same_pairs}
use Rattle.lsm_disk.specs.Names.{under}
use Rattle.lsm_nametable.proofs.table.clear_folder.Goals as goal

pub returns : goal.returns
returns c = filter_same_pairs _ (λ e. is_none (under c.args.folder.now e.0.items)) _ (λ k v b w f' t. search rules) _ _ c.retain.ensures.filtered
