use Rattle.std.proofs.Common.{[], ◌∷◌}
use Rattle.std.proofs.lemmas.List.{append_assoc}
use Rattle.lsm_names.proofs.PathLemmas.{joined_is_path}
use Rattle.lsm_names.proofs.paths.Path.joined.Goals as goal

pub of_text-requires : goal.of_text-requires
of_text-requires c =
    let front = c.args.front.now in
    let part = c.args.part.now in
    let known = joined_is_path front part c.requires.front c.requires.part c.requires.fits in
    let shown = append_assoc front (47 ∷ []) part in
    cc
