use Rattle.std.proofs.Common.{rules, sym, ◌∙◌}
use Rattle.std.specs.Prelude.{nat_lt}
use Rattle.std.specs.declared.cmp.Ordering.TheVariants.{Less, Greater}
use Rattle.lsm_memtable.proofs.RowPlaces.{is_behind_by, is_behind_same}
use Rattle.lsm_memtable.proofs.places.is_behind.Goals as goal

pub returns-in-Less : goal.returns-in-Less
returns-in-Less c = sym (is_behind_by c.args.after.now c.args.row.now Less c.requires.below (search rules))

pub returns-in-Equal : goal.returns-in-Equal
returns-in-Equal c = (λ i. nat_lt (c.number_of.ensures i) (c.trailer.ensures i)) ∙ sym (is_behind_same c.args.after.now c.args.row.now c.requires.below (search rules))

pub returns-in-Greater : goal.returns-in-Greater
returns-in-Greater c = sym (is_behind_by c.args.after.now c.args.row.now Greater c.requires.below (search rules))
