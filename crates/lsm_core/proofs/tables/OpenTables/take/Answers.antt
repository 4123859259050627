use Rattle.std.proofs.Common.{ap, sym, subst, ◌∙◌}
use Rattle.std.specs.Prelude.{List, Some, option_map}
use Rattle.std.specs.FinMap as finmap
use Rattle.lsm_table.specs.Tables.{Opened}
use Rattle.lsm_core.specs.Reading.{Views}
use Rattle.lsm_core.specs.Catalogs.{Numbered, IsKeptTable, AreKeptTables}
use Rattle.lsm_core.proofs.TableLemmas.{taken_seen, all_taken, view_at}
use Rattle.lsm_core.proofs.tables.OpenTables.take.Goals as goal
use Rattle.lsm_core.proofs.tables.OpenTables.take.Goals.{in-Some, in-None}

pub invariant_of-self : goal.invariant_of-self
invariant_of-self g c =
    subst (λ (l : List Numbered). AreKeptTables l c.self.inside.blocks) (sym c.remove.ensures.entries)
    (all_taken (IsKeptTable c.self.inside.blocks) c.args.number c.self.inside.tables.entries c.self.invariant)

pub returns-clause-view : goal.returns-clause-view
returns-clause-view g c =
    let before = sym (view_at c.self.inside.tables.entries c.args.number) ∙ ap (λ (v : Views). finmap.get v c.args.number)
    c.self.view_is in
    elim c.match-remove.branch [
      | in-Some w ↦ ap (option_map g.V.View.viewed) w.result-is ∙ ap Some w.into_view.ensures
          ∙ ap (option_map (λ (t : Opened). t.viewed)) (sym w.in-Some.is ∙ c.remove.ensures.value) ∙ before
      | in-None w ↦ ap (option_map g.V.View.viewed) w.result-is
          ∙ ap (option_map (λ (t : Opened). t.viewed)) (sym w.in-None.is ∙ c.remove.ensures.value) ∙ before
    ]

pub returns-clause-rest : goal.returns-clause-rest
returns-clause-rest g c =
    taken_seen c.self.inside.tables.entries c.remove.new.self.entries
    c.args.self.now c.self.view_is
    c.args.number c.remove.ensures.updates.0
