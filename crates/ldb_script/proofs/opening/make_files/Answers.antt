use Rattle.ldb_script.specs.Filling.{IsFreeFolder, Fills, HasManifest, HasTemporary, HasCurrent, HasStore}
use Rattle.ldb_script.specs.Opening.{Leads}
use Rattle.ldb_script.proofs.Telling.{leads_then, on_ok}
use Rattle.ldb_script.proofs.opening.make_files.Goals as goal

pub returns-clause-made : goal.returns-clause-made
returns-clause-made g c =
    let seen = g.D.Disk.seen in
    let folder = c.args.folder.now in
    let old = (seen c.args.disk.now).told in
    let made = (seen c.make_manifest.new.disk).told in
    let written = (seen c.write_current.new.disk).told in
    let named = (seen c.name_current.new.disk).told in
    let new = (seen c.make_log.new.disk).told in
    on_ok c.make_log.result (Leads (HasCurrent folder) (Fills folder (HasStore folder)) named new) (Leads (IsFreeFolder folder) (Fills folder (HasStore folder)) old new)
    (leads_then folder (IsFreeFolder folder) (HasCurrent folder) (HasStore folder) old named new
    (leads_then folder (IsFreeFolder folder) (HasTemporary folder) (HasCurrent folder) old written named
    (leads_then folder (IsFreeFolder folder) (HasManifest folder) (HasTemporary folder) old made written c.in_ok-make_manifest.ensures.made c.in_ok-write_current.ensures.made)
    c.in_ok-name_current.ensures.made))
    c.make_log.ensures.made
