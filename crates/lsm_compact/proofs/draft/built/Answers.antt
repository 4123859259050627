use Rattle.lsm_compact.proofs.draft.built.Goals as goal

pub returns-in-Some : goal.returns-in-Some
returns-in-Some c = c.requires.built c.in-Some.builder c.in-Some.is
