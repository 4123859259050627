-- The lemmas of `NewFiles`.
use Rattle.std.specs.Prelude.{◌+◌, Ok, Err}
use Rattle.lsm_names.specs.declared.file_names.FileName.TheVariants.{Log}
use Rattle.lsm_disk.specs.Dest.{path_in}
use Rattle.lsm_store.proofs.NewFiles.{first_taken, first_went, log_went, stopped, unlogged, both_made}
use Rattle.lsm_store.proofs.opening_new.make_files.Goals as goal

pub create-requires-clause-taken : goal.create-requires-clause-taken
create-requires-clause-taken g c κs within =
    first_taken c.args.number c.first_edit-edit.result c.first_edit-edit.ensures c.requires.some c.requires.small

pub returns-in-Ok-create-clause-went : goal.returns-in-Ok-create-clause-went
returns-in-Ok-create-clause-went g c story names same vacant =
    let seen = g.D.Disk.seen in
    let dir = c.args.home.now in
    let m = c.args.number in
    let mid = (seen c.create.new.disk).told in
    let told = (seen c.create-in-Ok.new.disk).told in
    both_made dir m names story vacant c.as_bytes-name.ensures.folder mid told c.in-Ok.manifest
    (first_went dir m names story vacant c.path.result c.first_edit-edit.result (seen c.args.disk.now).told mid
    (Ok c.in-Ok.manifest) c.path.ensures.path c.first_edit-edit.ensures c.in-Ok.ensures.went same)
    c.in-Ok-create.wal _
    (log_went c.file.result (path_in dir (Log (m + 1))) mid told (Ok c.in-Ok-create.wal) c.file.ensures
    c.in-Ok-create.ensures.went)

pub returns-in-Ok-clause-went : goal.returns-in-Ok-clause-went
returns-in-Ok-clause-went g c story names same vacant =
    let seen = g.D.Disk.seen in
    let dir = c.args.home.now in
    let m = c.args.number in
    let mid = (seen c.create.new.disk).told in
    let told = (seen c.create-in-Ok.new.disk).told in
    let refused = c.in-Err-create.refused in
    unlogged dir m names story vacant c.as_bytes-name.ensures.folder mid told c.in-Ok.manifest
    (first_went dir m names story vacant c.path.result c.first_edit-edit.result (seen c.args.disk.now).told mid
    (Ok c.in-Ok.manifest) c.path.ensures.path c.first_edit-edit.ensures c.in-Ok.ensures.went same)
    (Unit {0}) refused refused
    (log_went {T = Unit {0}} c.file.result (path_in dir (Log (m + 1))) mid told
    (Err refused) c.file.ensures c.in-Err-create.ensures.went)

pub returns-clause-went : goal.returns-clause-went
returns-clause-went g c story names same vacant =
    let seen = g.D.Disk.seen in
    let dir = c.args.home.now in
    let m = c.args.number in
    let told = (seen c.create.new.disk).told in
    let refused = c.in-Err.refused in
    stopped dir m names story vacant c.as_bytes-name.ensures.folder (Unit {0}) told refused refused
    (first_went dir m names story vacant {T = Unit {0}} c.path.result c.first_edit-edit.result
    (seen c.args.disk.now).told told (Err refused)
    c.path.ensures.path c.first_edit-edit.ensures c.in-Err.ensures.went same)
