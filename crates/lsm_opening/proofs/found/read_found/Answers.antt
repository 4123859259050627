use Rattle.std.specs.Prelude.{◌≡◌, ℕ, List, All, Ok, IfSome}
use Rattle.std.proofs.Common.{inr, sym, subst, ◌∙◌}
use Rattle.lsm_names.specs.FileNames.{IsFileName}
use Rattle.lsm_disk.specs.State.{Story}
use Rattle.lsm_recover.specs.Answers.{place_now}
use Rattle.lsm_recover.specs.Opening.{opening}
use Rattle.lsm_recover.specs.Shown.{IsOfFolder}
use Rattle.lsm_recover.specs.Stated.{AreSaid}
use Rattle.lsm_opening.specs.declared.found.Found.{Found}
use Rattle.lsm_opening.specs.Finding.{HasFound}
use Rattle.lsm_opening.proofs.Founds.{found_so}
use Rattle.lsm_opening.proofs.found.read_found.Goals as goal

pub returns-in-Ok-open_folder-clause-found : goal.returns-in-Ok-open_folder-clause-found
returns-in-Ok-open_folder-clause-found g c start is =
    let seen = g.D.Disk.seen in
    let old = (seen c.sync_manifest.new.disk).told in
    let now = (seen c.close_found.new.disk).told in
    let folder = c.in-Ok-open_folder.folder in
    let found : Found = record {
      version = folder.opened.version;
      rows = folder.opened.rows;
      sequence = folder.opened.sequence;
      next = folder.next;
      names = folder.names;
    } in
    subst (HasFound c.args.dir.now start now) (sym c.close_found.ensures.found)
    (found_so c.args.dir.now start old now found folder.log (c.in-Ok.ensures.ok start is)
    (c.close_found.ensures.told ∙ c.in-Ok-open_folder.ensures.told)
    (subst (λ (d : List ℕ). IfSome old (λ (story : Story). opening (place_now d story)
    ≡ Ok (record { sequence = folder.opened.sequence; rows = folder.opened.rows }))) c.path.ensures.path
    c.in-Ok-open_folder.ensures.opened)
    (subst (λ (d : List ℕ). IfSome old (λ (story : Story). IsOfFolder d story folder.opened.version folder.log folder.next
    folder.names)) c.path.ensures.path c.in-Ok-open_folder.ensures.found))

pub returns-in-Ok-open_folder-clause-said : goal.returns-in-Ok-open_folder-clause-said
returns-in-Ok-open_folder-clause-said g c =
    subst (λ (found : Found). AreSaid found.version) (sym c.close_found.ensures.found) c.in-Ok-open_folder.ensures.said

pub returns-in-Ok-open_folder-clause-fit : goal.returns-in-Ok-open_folder-clause-fit
returns-in-Ok-open_folder-clause-fit g c =
    subst (λ (found : Found). All IsFileName found.names) (sym c.close_found.ensures.found) c.in-Ok-open_folder.ensures.fit

pub returns-in-Err-open_folder-clause-synced : goal.returns-in-Err-open_folder-clause-synced
returns-in-Err-open_folder-clause-synced g c start is =
    let synced = c.in-Ok.ensures.ok start is in
    inr (synced.path, c.in-Err-open_folder.ensures.told ∙ synced.tells)
