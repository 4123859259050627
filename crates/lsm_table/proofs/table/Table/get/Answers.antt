use Rattle.std.proofs.Common.{◌≡◌, inl, refl}
use Rattle.std.specs.Prelude.{Option}
use Rattle.lsm_rows.specs.declared.rows.Row.{Row}
use Rattle.lsm_rows.specs.Contents.{newest}
use Rattle.lsm_table.specs.Opening.{IsOutside}
use Rattle.lsm_table.proofs.Indexes.{not_located}
use Rattle.lsm_table.proofs.Openings.{match_fault}
use Rattle.lsm_table.proofs.WholeSearches.{whole_none, whole_row, whole_fault}
use Rattle.lsm_table.proofs.table.Table.get.Goals as goal

pub returns-in_default-clause-ok : goal.returns-in_default-clause-ok
returns-in_default-clause-ok g c = λ text told. inl (not_located c.args.key.now c.args.self.now.index c.in_default.ensures.place, refl)

pub returns-in_default-clause-whole : goal.returns-in_default-clause-whole
returns-in_default-clause-whole g c =
    whole_none c.args.self.now.viewed c.args.self.now.properties c.args.self.now.index c.args.key.now c.in_default.ensures.shows c.in_default.ensures.place

pub returns-in_err-block-clause-whole : goal.returns-in_err-block-clause-whole
returns-in_err-block-clause-whole g c =
    λ text rows number session told is.
    match_fault IsOutside (λ (row : Option Row). row ≡ newest c.args.key.now rows) c.from_residual.result c.in_err-block.field-0.0 c.from_residual.ensures.1
    (whole_fault c.args.self.now.viewed c.args.self.now.properties c.args.self.now.index c.args.key.now c.in-Some.ensures.shows c.in-Some.place c.in_err-block.field-0.0 c.in-Some.ensures.place c.in_err-block.ensures.err text rows number session told is)

pub returns-in-Ok-clause-whole : goal.returns-in-Ok-clause-whole
returns-in-Ok-clause-whole g c =
    whole_row c.args.self.now.viewed c.args.self.now.properties c.args.self.now.index c.args.key.now c.in-Some.ensures.shows c.in-Some.place c.in_ok-block.block c.in-Ok.row c.in-Some.ensures.place c.in_ok-block.ensures.ok c.in-Ok.ensures
