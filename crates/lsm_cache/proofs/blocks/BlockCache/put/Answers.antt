use Rattle.lsm_cache.proofs.blocks.BlockCache.put.Goals as goal

pub returns-clause-known : goal.returns-clause-known
returns-clause-known c = rw (← c.self.view_is) c.in-Err.ensures.succeeds
