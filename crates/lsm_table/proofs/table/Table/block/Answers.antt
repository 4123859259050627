use Rattle.std.proofs.Common.{ℕ, List, ap, ◌∙◌, sym, subst}
use Rattle.lsm_disk.specs.Viewed.{Viewed}
use Rattle.lsm_frame.specs.Reader.{Tells}
use Rattle.lsm_block.specs.declared.entries.Entry.{Entry}
use Rattle.lsm_table.specs.DataBlocks.{IsTold}
use Rattle.lsm_table.proofs.WholeSearches.{whole_block, whole_told}
use Rattle.lsm_table.specs.Tables.{Opened}
use Rattle.lsm_table.proofs.DataBlocks.{no_told, parts_stay}
use Rattle.lsm_table.proofs.table.Table.block.Goals as goal

pub invariant_of-self : goal.invariant_of-self
invariant_of-self g c = parts_stay (g.V.View.viewed c.self.inside.view) (g.V.View.viewed c.read_block.new.view) c.self.inside.properties c.self.inside.index c.read_block.ensures.view c.self.invariant

pub returns-in-None-clause-err : goal.returns-in-None-clause-err
returns-in-None-clause-err g c = λ text told. no_told text c.entries.result.now c.args.self.now.index c.args.place (c.entries.ensures.entries ∙ ap (λ (o : Opened). o.index) c.self.view_is) c.in-None.ensures.none

pub returns-in-Some-clause-whole : goal.returns-in-Some-clause-whole
returns-in-Some-clause-whole g c =
    λ text rows number session block tells is at.
    whole_block (g.V.View.viewed c.self.inside.view) c.self.inside.properties c.self.inside.index c.args.place c.in-Some.len c.read_block.result c.self.invariant.shows
    (subst (λ (es : List Entry). IsTold es c.args.place c.in-Some.len) c.entries.ensures.entries c.in-Some.ensures.some) c.read_block.ensures.ok c.read_block.ensures.err text rows number session block
    (subst (λ (w : Viewed). Tells w text) (sym (ap (λ (o : Opened). o.viewed) c.self.view_is)) tells) is at

pub returns-in-None-clause-whole : goal.returns-in-None-clause-whole
returns-in-None-clause-whole g c =
    λ text rows number session block tells is at. absurd
    (whole_told (g.V.View.viewed c.self.inside.view) c.self.inside.properties c.self.inside.index c.args.place c.self.invariant.shows
    (subst (λ (es : List Entry). (len : ℕ) → ¬ IsTold es c.args.place len) c.entries.ensures.entries c.in-None.ensures.none) text rows number session block
    (subst (λ (w : Viewed). Tells w text) (sym (ap (λ (o : Opened). o.viewed) c.self.view_is)) tells) is at)
