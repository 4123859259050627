use Rattle.lsm_version.proofs.ReadPlaces.{from_start, from_rank, none_behind}
use Rattle.lsm_version.proofs.field_reading.behind.Goals as goal
use Rattle.lsm_version.proofs.field_reading.behind.Goals.{else-after-tag-2-via-then-after-tag-2+else-has_next, else-after-tag-2-via-else-after-tag-2}

pub returns-then-after-tag-clause-some : goal.returns-then-after-tag-clause-some
returns-then-after-tag-clause-some c = from_start c.args.tag c.args.after c.if-after-tag.true

pub returns-then-has_next-clause-some : goal.returns-then-has_next-clause-some
returns-then-has_next-clause-some c = from_rank c.args.tag c.args.after c.requires c.if-after-tag-2.true c.if-has_next.ensures.yes

pub returns-else-after-tag-2-clause-none : goal.returns-else-after-tag-2-clause-none
returns-else-after-tag-2-clause-none c =
    none_behind c.args.tag c.args.after c.if-after-tag.false
    (elim c.else-after-tag-2.branch [
      | else-after-tag-2-via-then-after-tag-2+else-has_next w ↦ λ _. w.if-has_next.ensures.no
      | else-after-tag-2-via-else-after-tag-2 w ↦ λ same. absurd (w.if-after-tag-2.false same)
    ])
