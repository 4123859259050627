use Rattle.lsm_merge.proofs.Deciding.{more_same, more_none, settled_other, settled_none}
use Rattle.lsm_merge.proofs.merge.Merge.has_more.Goals as goal

pub returns-in-Some-found-clause-more : goal.returns-in-Some-found-clause-more
returns-in-Some-found-clause-more g c =
    more_same g.R.RowSource.left g.R.RowSource.ended _ _ c.self.view_is c.in-Some.head.now c.in-Some-found.row _ _
    c.eq.result c.in-Some.ensures.top c.in-Some-found.is c.as_slice.ensures c.as_slice-in-Some-found.ensures c.eq.ensures

pub returns-in-Some-found-clause-settled : goal.returns-in-Some-found-clause-settled
returns-in-Some-found-clause-settled g c =
    settled_other g.R.RowSource.left g.R.RowSource.ended _ _ c.self.view_is c.in-Some.head.now c.in-Some-found.row _ _
    c.eq.result c.requires c.in-Some.ensures.top c.in-Some.ensures.first c.in-Some-found.is c.as_slice.ensures
    c.as_slice-in-Some-found.ensures c.eq.ensures

pub returns-in-None-found-clause-more : goal.returns-in-None-found-clause-more
returns-in-None-found-clause-more g c = λ _. more_none g.R.RowSource.left g.R.RowSource.ended _ _ c.self.view_is
    c.in-Some.head.now c.in-Some.ensures.top c.in-None-found.is

pub returns-in-None-clause-settled : goal.returns-in-None-clause-settled
returns-in-None-clause-settled g c = λ _. settled_none g.R.RowSource.left g.R.RowSource.ended _ _ c.self.view_is
    c.in-None.ensures.top
