-- All outputs of a compaction that is over.
use Rattle.std.specs.Prelude.{◌≡◌, true, List, [], ◌∷◌, ◌++◌, None}
use Rattle.std.proofs.Common.{refl, sym, ap, subst, inl, inr, ⊎_elim, ◌∙◌, append-nil}
use Rattle.std.specs.List.{AllByRecursion}
use Rattle.lsm_rows.specs.declared.rows.Row.{Row}
use Rattle.lsm_version.specs.declared.tables.Add.{Add}
use Rattle.lsm_compact.specs.declared.outputs.Outputs.{Outputs}
use Rattle.lsm_compact.specs.declared.outputs.Stage.{Stage}
use Rattle.lsm_compact.specs.declared.outputs.Stage.TheVariants.{Closed}
use Rattle.lsm_compact.specs.Calls.{Files}
use Rattle.lsm_compact.specs.Outputs.{AreOutputs, IsOutput, is_full, joined}
use Rattle.lsm_compact.specs.Writing.{AreFull, IsStage, IsWhole, IsWriting, made_of, open_rows}

all_full : (outputs : List (List Row)) → AllByRecursion IsOutput outputs
    → AllByRecursion (λ (rows : List Row). is_full rows ≡ true) outputs → AreOutputs outputs
unfolding AreOutputs
all_full [] each full = tt
all_full (rows ∷ outputs) each full = (each.0, inr full.0, all_full outputs each.1 full.1)

last_open : (before : List (List Row)) (last : List Row) → AllByRecursion IsOutput (before ++ last ∷ [])
    → AllByRecursion (λ (rows : List Row). is_full rows ≡ true) before → AreOutputs (before ++ last ∷ [])
unfolding AreOutputs
last_open [] last each full = (each.0, inl refl, tt)
last_open (rows ∷ before) last each full = (each.0, inr full.0, last_open before last each.1 full.1)

are_outputs : (outputs : List (List Row)) → AllByRecursion IsOutput outputs → AreFull true outputs → AreOutputs outputs
unfolding AreFull
are_outputs outputs each full = ⊎_elim (λ all. all_full outputs each all)
    (λ open_last. by_last open_last.1 open_last.2 open_last.3 open_last.4) full
  where
    by_last : (before : List (List Row)) (last : List Row) → outputs ≡ before ++ last ∷ []
        → AllByRecursion (λ (rows : List Row). is_full rows ≡ true) before → AreOutputs outputs
    by_last before last is all =
        subst AreOutputs (sym is) (last_open before last
        (subst (λ (l : List (List Row)). AllByRecursion IsOutput l) is each) all)

closed_files : (outputs : List (List Row)) (adds : List Add) (files : Files) → IsStage true outputs adds files Closed
    → files ≡ record { sealed = made_of outputs adds; begun = None }
unfolding IsStage
closed_files outputs adds files is = is

-- where no table is open all rows that are written are those of the outputs
pub whole_of : (o : Outputs) (files : Files) (written : List Row) → IsWriting true o files written → o.stage ≡ Closed
    → IsWhole o.level o.adds files written
whole_of o files written w closed = record {
  outputs = w.outputs;
  rows = w.rows_are ∙ ap (λ (s : Stage). joined w.outputs ++ open_rows s) closed ∙ append-nil (joined w.outputs);
  ended = are_outputs w.outputs w.each w.full;
  adds = w.adds;
  files_are = closed_files w.outputs o.adds files
      (subst (λ (s : Stage). IsStage true w.outputs o.adds files s) closed w.stage);
}
