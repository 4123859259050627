use Rattle.std.proofs.Common.{◌≡◌, subst}
use Rattle.lsm_disk.specs.State.{Story, state_of, names_now}
use Rattle.lsm_disk.specs.Names.{stands}
use Rattle.lsm_disk.specs.Kinds.{kind_of}
use Rattle.std.specs.Prelude.{IfSome}
use Rattle.ldb_script.proofs.Telling.{free_from, makes_or}
use Rattle.ldb_script.proofs.opening.make_new.Goals as goal

pub returns-in-Ok-None-clause-made : goal.returns-in-Ok-None-clause-made
returns-in-Ok-None-clause-made g c =
    let seen = g.D.Disk.seen in
    let folder = c.args.folder.now in
    makes_or folder (seen c.args.disk.now) (seen c.kind.new.self) (seen c.make_files.new.disk) c.kind.ensures.did
    (record { faults = c.kind.ensures.cause.faults_later; refusals = c.kind.ensures.cause.refusals_later })
    (free_from folder (seen c.args.disk.now) c.in-Ok-None.field-0 c.in-Ok-None.field-0-is
    (subst (λ p. IfSome (seen c.args.disk.now).told (λ (story : Story). c.in-Ok-None.field-0 ≡ kind_of (stands (names_now (state_of story)) p))) c.path-path.ensures.path c.in-Ok-None.ensures.kind))
    c.make_files.result c.make_files.ensures.made c.make_files.ensures.refused
