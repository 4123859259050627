-- The lemmas of `NewFolders`.
use Rattle.std.proofs.Common.{sym, subst}
use Rattle.std.specs.Prelude.{ℕ, List, Ok, Err}
use Rattle.lsm_names.specs.declared.file_names.FileName.{FileName}
use Rattle.lsm_disk.specs.State.{state_of}
use Rattle.lsm_refine.specs.Vacant.{IsVacant}
use Rattle.lsm_store.specs.NewStores.{FilesGo, FolderGoes}
use Rattle.lsm_store.proofs.NewFolders.{anew_stopped, anew_gone}
use Rattle.lsm_store.proofs.opening_new.make_anew.Goals as goal

pub returns-in-Ok-clause-went : goal.returns-in-Ok-clause-went
returns-in-Ok-clause-went g c story same free =
    let seen = g.D.Disk.seen in
    let dir = c.args.home.now in
    let mid = (seen c.make_folder.new.disk).told in
    let told = (seen c.make_beside-in-Ok.new.disk).told in
    let result = c.make_beside-in-Ok.result in
    anew_gone dir c.as_bytes-name.ensures.folder story free mid told tt
    (subst (λ (p : List ℕ). FolderGoes p story mid (Ok tt)) c.path.ensures.path (c.in-Ok.ensures.went story same))
    result
    (λ middle is vacant. subst (λ (names : List FileName). FilesGo dir 1 names middle told result) c.new.ensures
    (c.make_beside-in-Ok.ensures.went middle is
    (subst (λ (names : List FileName). IsVacant (state_of middle) dir 1 names) (sym c.new.ensures) vacant)))

pub returns-in-Err-clause-went : goal.returns-in-Err-clause-went
returns-in-Err-clause-went g c story same free =
    let seen = g.D.Disk.seen in
    let dir = c.args.home.now in
    let mid = (seen c.make_folder.new.disk).told in
    anew_stopped {T = Unit {0}} dir story mid c.in-Err.refused c.error_of.result
    (subst (λ (p : List ℕ). FolderGoes {T = Unit {0}} p story mid (Err c.in-Err.refused)) c.path.ensures.path
    (c.in-Err.ensures.went story same))
