-- Each exit, by what the making of the file left.
use Rattle.std.specs.Prelude.{◌≢◌, ℕ, List, All}
use Rattle.std.proofs.Common.{refl, subst}
use Rattle.lsm_disk.specs.State.{created}
use Rattle.lsm_disk.specs.Refusals.{no_room}
use Rattle.lsm_disk.specs.declared.calls.DiskCall.TheVariants as call
use Rattle.lsm_disk.specs.Dest.{Begun}
use Rattle.lsm_dest.specs.FolderDests.{begun_of, MakesIn}
use Rattle.lsm_dest.proofs.Doing.{left_in, exit_did}
use Rattle.lsm_dest.proofs.Calls.{still_building}
use Rattle.lsm_dest.proofs.Exits.{path_is, of_begun, file_made, file_refused}
use Rattle.lsm_dest.proofs.restoring.AnyBuilding.file_in.Goals as goal

pub returns-in-Some-clause-went : goal.returns-in-Some-clause-went
returns-in-Some-clause-went g c start story begun parts tells is building = still_building start story begun parts tells building

pub returns-in_default-push-clause-went : goal.returns-in_default-push-clause-went
returns-in_default-push-clause-went g c start story begun parts tells is building = still_building start story begun parts tells building

pub returns-in-Ok-create-clause-went : goal.returns-in-Ok-create-clause-went
returns-in-Ok-create-clause-went g c start story begun parts tells is building =
    let built = c.args.built.now in
    let name = c.args.name.now in
    let path = path_is built.folder built.names.items c.in-Some-folder.folder begun name name c.file-path.result c.in-Some-folder.is is refl c.file-path.ensures in
    file_made start story begun parts name c.file-path.result path tells c.requires.part (of_begun (λ (b : Begun). All (λ other. name ≢ other) b.names) (begun_of built.folder built.names.items) begun is c.requires.new) building c.in-Ok-create.ensures.did

pub returns-in-Err-clause-went : goal.returns-in-Err-clause-went
returns-in-Err-clause-went g c start story begun parts tells is building =
    let built = c.args.built.now in
    let name = c.args.name.now in
    let path = path_is built.folder built.names.items c.in-Some-folder.folder begun name name c.file-path.result c.in-Some-folder.is is refl c.file-path.ensures in
    file_refused start story begun parts name c.file-path.result path tells c.requires.part (of_begun (λ (b : Begun). All (λ other. name ≢ other) b.names) (begun_of built.folder built.names.items) begun is c.requires.new) building
    c.in-Err.why c.refused.result c.refuse.result c.refused.ensures c.refuse.ensures.answer c.in-Err.ensures.did c.in-Err.ensures.answer

pub returns-in-Ok-create-clause-did : goal.returns-in-Ok-create-clause-did
returns-in-Ok-create-clause-did g c begun is =
    let built = c.args.built.now in
    let name = c.args.name.now in
    let old = g.D.Disk.seen c.args.self.now in
    let new = g.D.Disk.seen c.create.new.self in
    let path = path_is built.folder built.names.items c.in-Some-folder.folder begun name name c.file-path.result c.in-Some-folder.is is refl c.file-path.ensures in
    subst (λ (p : List ℕ). MakesIn (created p) old new) path (record { lawful = c.in-Ok-create.ensures.lawful; makes = c.in-Ok-create.ensures.did })

pub returns-in-Err-clause-did : goal.returns-in-Err-clause-did
returns-in-Err-clause-did g c begun is =
    let built = c.args.built.now in
    let name = c.args.name.now in
    let old = g.D.Disk.seen c.args.self.now in
    let new = g.D.Disk.seen c.create.new.self in
    let path = path_is built.folder built.names.items c.in-Some-folder.folder begun name name c.file-path.result c.in-Some-folder.is is refl c.file-path.ensures in
    exit_did (λ (p : List ℕ). MakesIn (created p) old new) no_room old.told new.told call.Create c.file-path.result _ path c.in-Err.why
    c.refused.result c.refuse.result c.refused.ensures (left_in (created c.file-path.result) (no_room c.file-path.result) old new c.in-Err.why c.in-Err.ensures.lawful c.in-Err.ensures.did) c.in-Err.ensures.answer c.refuse.ensures.answer
