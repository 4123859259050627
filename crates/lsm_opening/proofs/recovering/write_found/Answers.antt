use Rattle.lsm_opening.proofs.KeptExits.{found_images, refused_images, stopped_images, gone_images}
use Rattle.lsm_opening.proofs.RecoveredFolders.{recovered_from, sound_so}
use Rattle.lsm_opening.proofs.TopTables.{said_range}
use Rattle.lsm_opening.proofs.recovering.write_found.Goals as goal

pub returns-in-Ok-install-clause-recovered : goal.returns-in-Ok-install-clause-recovered
returns-in-Ok-install-clause-recovered g c start hf files =
    let seen = g.D.Disk.seen in
    let logged = c.in-Ok.logged in
    recovered_from c.args.dir.now c.as_bytes-name.ensures.folder start files (seen c.args.disk.now).told
    (seen c.write_logs.new.disk).told (seen c.install.new.disk).told c.args.found hf c.args.numbers c.requires.drawn
    c.requires.behind c.if-sequence-ge-SEQUENCES.false logged.version logged.names c.in-Ok-install.recovered
    c.in-Ok-install.ensures.gone_on c.in-Ok.ensures.written

pub returns-in-Ok-install-clause-sound : goal.returns-in-Ok-install-clause-sound
returns-in-Ok-install-clause-sound g c =
    let seen = g.D.Disk.seen in
    let logged = c.in-Ok.logged in
    sound_so c.args.dir.now (seen c.args.disk.now).told (seen c.write_logs.new.disk).told (seen c.install.new.disk).told
    c.args.found c.args.numbers c.requires.drawn c.requires.behind c.if-sequence-ge-SEQUENCES.false logged.version logged.names
    c.in-Ok-install.recovered c.in-Ok-install.ensures.gone_on c.requires.fit c.in-Ok.ensures.written c.in-Ok.ensures.range

pub write_logs-requires-clause-range : goal.write_logs-requires-clause-range
write_logs-requires-clause-range g c κs within = said_range c.args.found.version c.requires.said

-- the images, exit by exit

pub returns-then-sequence-ge-SEQUENCES-clause-images : goal.returns-then-sequence-ge-SEQUENCES-clause-images
returns-then-sequence-ge-SEQUENCES-clause-images g c mid hf ready =
    found_images c.args.dir.now c.as_bytes-name.ensures.folder mid ready (g.D.Disk.seen c.args.disk.now).told c.args.found hf

pub returns-clause-images : goal.returns-clause-images
returns-clause-images g c mid hf ready =
    let seen = g.D.Disk.seen in
    refused_images c.args.dir.now c.as_bytes-name.ensures.folder mid ready (seen c.args.disk.now).told c.args.found hf
    c.args.numbers c.requires.drawn c.requires.behind (seen c.write_logs.new.disk).told c.in-Err.ensures.stopped

pub returns-in-Ok-clause-images : goal.returns-in-Ok-clause-images
returns-in-Ok-clause-images g c mid hf ready =
    let seen = g.D.Disk.seen in
    let logged = c.in-Ok.logged in
    stopped_images c.args.dir.now c.as_bytes-name.ensures.folder mid ready (seen c.args.disk.now).told c.args.found hf
    c.args.numbers c.requires.drawn c.requires.behind (seen c.write_logs.new.disk).told c.if-sequence-ge-SEQUENCES.false
    logged.version logged.names c.in-Ok.ensures.written (seen c.install.new.disk).told c.in-Err-install.ensures.stopped

pub returns-in-Ok-install-clause-images : goal.returns-in-Ok-install-clause-images
returns-in-Ok-install-clause-images g c mid hf ready =
    let seen = g.D.Disk.seen in
    let logged = c.in-Ok.logged in
    gone_images c.args.dir.now c.as_bytes-name.ensures.folder mid ready (seen c.args.disk.now).told c.args.found hf
    c.args.numbers c.requires.drawn c.requires.behind (seen c.write_logs.new.disk).told c.if-sequence-ge-SEQUENCES.false
    logged.version logged.names c.in-Ok.ensures.written (seen c.install.new.disk).told c.in-Ok-install.recovered
    c.in-Ok-install.ensures.gone_on
