-- Why a view was refused.
use Rattle.std.specs.Prelude.{◌≡◌, None}
use Rattle.std.proofs.Common.{subst, sym}
use Rattle.lsm_disk.specs.State.{State}
use Rattle.lsm_disk.specs.Refusals.{no_view}
use Rattle.lsm_disk.specs.declared.calls.DiskCall.TheVariants.{Open}
use Rattle.ldb_script.specs.Files.{IsRefused}
use Rattle.ldb_script.proofs.Refused.{view_refused}
use Rattle.ldb_script.proofs.files.open_view.Goals as goal

pub returns-in-Err-clause-refused : goal.returns-in-Err-clause-refused
returns-in-Err-clause-refused g c =
    let seen = g.D.Disk.seen in
    subst (IsRefused (λ (s : State). no_view c.args.path.now c.args.len s ≡ None) (seen c.args.disk.now) (seen c.open.new.self)) (sym c.store_refused.ensures)
    (view_refused c.args.path.now c.args.len (seen c.args.disk.now) (seen c.open.new.self) Open c.args.path.now c.in-Err.error c.in-Err.ensures.answer c.in-Err.ensures.cause.counted)
