use Rattle.std.proofs.Common.{◌≡◌, sym, subst, List, ℕ, Option, Some, Ok, map, true, arith}
use Rattle.std.specs.Prelude.{IfSome}
use Rattle.lsm_model.specs.States.{shown_at, folder_of}
use Rattle.lsm_model.specs.Plain.{state_of, plain_folder}
use Rattle.lsm_model.proofs.PlainLemmas.{none_from}
use Rattle.lsm_model.proofs.PlainRestores.{finished, reads_so, plain_finished}
use Rattle.lsm_model.proofs.plain.PlainLists.finish.Goals as goal

pub returns-clause-step : goal.returns-clause-step
returns-clause-step c =
    finished c.args.self.now (record c.args.self.now { folders = c.put_folder.new.folders }) c.in-Some-begun.name c.at_most.result c.in-Ok.ensures.ok
    (none_from _ c.in_default.not-Some) c.in-Some-begun.is

pub returns-clause-reads : goal.returns-clause-reads
returns-clause-reads c =
    subst (λ (o : Option (List ℕ)). IfSome o (λ dir. folder_of dir (map (plain_folder c.args.self.now.accepted.items) c.put_folder.new.folders.items) ≡ Some (record { name = dir; reading = Ok (shown_at (state_of c.args.self.now) c.args.batches); sure = true })))
    (sym c.in-Some-begun.is)
    (reads_so c.args.self.now (record c.args.self.now { folders = c.put_folder.new.folders }) c.in-Some-begun.name c.at_most.result c.in-Ok.ensures.ok c.args.batches c.at_most.ensures)

pub returns-clause-plain : goal.returns-clause-plain
returns-clause-plain c =
    plain_finished c.args.self.now (record c.args.self.now { folders = c.put_folder.new.folders }) c.in-Some-begun.name c.at_most.result c.in-Ok.ensures.ok c.requires
    (omega (arith, c.at_most.ensures))
