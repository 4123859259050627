use Rattle.std.proofs.Common.{◌≡◌, map, take}
use Rattle.bk_engine.specs.Creating.{info_of}
use Rattle.bk_engine.proofs.engine.infos_of.Given as goal

abbrev pub invariant-loop-meta : goal.invariant-loop-meta
invariant-loop-meta l = l.infos ≡ map info_of (take l.meta-index l.metas)
