use Rattle.std.proofs.Common.{◌≡◌, ◌+◌, ◌<◌, ℕ, List, [], ◌∷◌, ◌++◌, sym, subst, ap, arith}
use Rattle.lsm_rows.specs.declared.rows.Row.{Row}
use Rattle.lsm_rows.specs.Contents.{AllBefore}
use Rattle.lsm_memtable.specs.Joining.{IsPut, AreJoined}
use Rattle.lsm_memtable.specs.RowLimits.{RowInLimits, RowsInLimits}
use Rattle.lsm_memtable.proofs.Joins.{bytes_small}
use Rattle.lsm_memtable.proofs.RowJoins.{before_later, joined_put, past_put, limits_put, memory_put}
use Rattle.lsm_memtable.proofs.memtable.MemTable.add_row.Goals as goal

-- the row's sequence is past all others
past-at : (c : goal.After-self-2-1) → AllBefore c.args.row.now.sequence c.self.inside.rows
past-at c = before_later c.args.next c.args.row.now.sequence c.self.inside.rows c.if-row-next.false
    (subst (AllBefore c.args.next) (sym c.self.view_is) c.requires.past)

put-at : (c : goal.After-self-2-1) → IsPut c.self.inside.rows c.args.row.now c.push.new.self
put-at c = subst (λ (row : Row). IsPut c.self.inside.rows row c.push.new.self) c.in_ok-copy_of.ensures c.in_ok-push.ensures.ok

pub with_row-requires : goal.with_row-requires
with_row-requires c = bytes_small c.self.inside.rows c.self.inside.sizes.rows c.self.inside.sizes.bytes c.self.invariant

pub push-requires-clause-past : goal.push-requires-clause-past
push-requires-clause-past c = subst (λ (row : Row). AllBefore row.sequence c.self.inside.rows) (sym c.in_ok-copy_of.ensures)
    (before_later c.args.next c.args.row.now.sequence c.self.inside.rows c.if-row-next.false
    (subst (AllBefore c.args.next) (sym c.self.view_is) c.requires.past))

pub invariant_of-self-2 : goal.invariant_of-self-2
invariant_of-self-2 c =
    memory_put c.self.inside.rows c.push.new.self c.args.row.now (put-at c) c.self.inside.sizes.rows c.self.inside.sizes.bytes
    c.in_ok-sizes.sizes.rows c.in_ok-sizes.sizes.bytes c.self.invariant c.in_ok-push.ensures.order c.in_ok-sizes.ensures.rows
    c.in_ok-sizes.ensures.bytes c.in_ok-sizes.ensures.room

pub returns-clause-joined : goal.returns-clause-joined
returns-clause-joined c = λ more was.
    joined_put c.self.inside.rows c.push.new.self c.args.row.now (put-at c) more
    (subst (AreJoined [] more) (sym c.self.view_is) was) (past-at c) c.in_ok-push.ensures.order

pub returns-clause-past : goal.returns-clause-past
returns-clause-past c = past_put c.self.inside.rows c.push.new.self c.args.row.now (put-at c) (past-at c)

pub returns-clause-limits : goal.returns-clause-limits
returns-clause-limits c = λ are.
    limits_put c.self.inside.rows c.push.new.self c.args.row.now (put-at c) c.in_ok-sizes.ensures.limits
    (subst RowsInLimits (sym c.self.view_is) are)
