use Rattle.std.specs.Prelude.{ℕ, List, Ok, Err}
use Rattle.std.proofs.Common.{subst, arith}
use Rattle.lsm_opening.proofs.Installs.{Creates, cut_at_manifest, installed, cut_at_log}
use Rattle.lsm_opening.proofs.installing.write_manifest.Goals as goal

pub returns-in-Ok-create-clause-made : goal.returns-in-Ok-create-clause-made
returns-in-Ok-create-clause-made g c start is =
    let dir = c.args.dir.now in
    let n = c.args.numbers.manifest in
    let edit = c.args.edit.now in
    let told = (g.D.Disk.seen c.create.new.disk).told in
    let creates : Creates dir n edit start told (Ok c.in-Ok.manifest) =
    subst (λ (d : List ℕ). Creates d n edit start told (Ok c.in-Ok.manifest)) c.path-path.ensures.path
    (λ before still apart. c.in-Ok.ensures.went start before is still apart) in
    installed dir n c.requires.some (omega (arith, c.requires.log, c.requires.most)) edit start c.in-Ok.manifest told creates
    c.args.numbers.log c.file.result c.file.ensures (g.D.Disk.seen c.create-in-Ok.new.disk).told c.in-Ok-create.wal
    c.in-Ok-create.ensures.went

pub returns-in-Err-create-clause-stopped : goal.returns-in-Err-create-clause-stopped
returns-in-Err-create-clause-stopped g c start is =
    let dir = c.args.dir.now in
    let n = c.args.numbers.manifest in
    let edit = c.args.edit.now in
    let told = (g.D.Disk.seen c.create.new.disk).told in
    let creates : Creates dir n edit start told (Ok c.in-Ok.manifest) =
    subst (λ (d : List ℕ). Creates d n edit start told (Ok c.in-Ok.manifest)) c.path-path.ensures.path
    (λ before still apart. c.in-Ok.ensures.went start before is still apart) in
    cut_at_log dir n c.requires.some (omega (arith, c.requires.log, c.requires.most)) edit start c.in-Ok.manifest told creates
    c.args.numbers.log c.file.result c.file.ensures (g.D.Disk.seen c.create-in-Ok.new.disk).told c.in-Err-create.refused
    c.in-Err-create.ensures.went

pub returns-in-Err-clause-stopped : goal.returns-in-Err-clause-stopped
returns-in-Err-clause-stopped g c start is =
    let dir = c.args.dir.now in
    let n = c.args.numbers.manifest in
    let edit = c.args.edit.now in
    let told = (g.D.Disk.seen c.create.new.disk).told in
    cut_at_manifest dir n c.requires.some (omega (arith, c.requires.log, c.requires.most)) edit start told c.in-Err.refused
    (subst (λ (d : List ℕ). Creates {T = Unit {0}} d n edit start told (Err c.in-Err.refused)) c.path-path.ensures.path
    (λ before still apart. c.in-Err.ensures.went start before is still apart)) c.args.numbers.log
