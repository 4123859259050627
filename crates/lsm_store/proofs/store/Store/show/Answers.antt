-- Each exit is a lemma of `Shows`, at what the store held before the call.
use Rattle.std.specs.Prelude.{ℕ, ◌+◌, ◌≤◌, length, Result}
use Rattle.std.proofs.Common.{ap, sym, subst, arith, rules}
use Rattle.lsm_disk.specs.State.{Seen}
use Rattle.lsm_model.specs.declared.errors.StoreError.{StoreError}
use Rattle.lsm_model.specs.declared.replies.Shown.{Shown as Reading}
use Rattle.lsm_refine.specs.Kept.{Shown}
use Rattle.lsm_store.specs.Inside.{Inner, shown_of}
use Rattle.lsm_store.specs.Fields.{inner}
use Rattle.lsm_store.proofs.Calls.{leads_on}
use Rattle.lsm_store.proofs.Shows.{IsShow, found_show, refused_show}
use Rattle.lsm_store.proofs.store.Store.show.Goals as goal
use Rattle.lsm_store.proofs.store.Store.show.Goals.{in-Ok, in-Err}

pub read_folder-requires : goal.read_folder-requires
read_folder-requires g c =
    let fits : length c.path-path.result + 30 ≤ 160 =
    omega (arith, c.as_bytes-name.ensures.within, ap (length {A = ℕ}) c.path-path.ensures.path) in
    search (rules, fits)

pub returns-clause-step : goal.returns-clause-step
returns-clause-step g c =
    let x : Inner = inner g.D.Disk.seen c.self.inside in
    let seen : Seen = g.D.Disk.seen c.read_folder.new.disk in
    let later : Shown = shown_of (record x { disk = seen }) in
    let exit : IsShow c.args.dir.now c.match-read_folder.result c.args.self.now later =
    elim c.match-read_folder.branch [
      | in-Ok w ↦
          subst (λ (r : Result Reading StoreError). IsShow c.args.dir.now r c.args.self.now later) (sym w.result-is)
          (found_show x c.args.dir.now c.as_bytes-name.ensures.folder seen c.read_folder.ensures.told c.args.self.now
          c.self.view_is c.path-path.result c.path-path.ensures.path w.in-Ok.found w.in-Ok.ensures.cause w.in-Ok.ensures.answer)
      | in-Err w ↦
          subst (λ (r : Result Reading StoreError). IsShow c.args.dir.now r c.args.self.now later) (sym w.result-is)
          (refused_show x c.args.dir.now c.as_bytes-name.ensures.folder seen c.read_folder.ensures.told c.args.self.now
          c.self.view_is c.path-path.result c.path-path.ensures.path w.in-Err.trouble w.folder_error.result
          w.folder_error.ensures w.in-Err.ensures.cause w.in-Err.ensures.answer)
    ] in
    exit.step

pub returns-clause-images : goal.returns-clause-images
returns-clause-images g c =
    let x : Inner = inner g.D.Disk.seen c.self.inside in
    let seen : Seen = g.D.Disk.seen c.read_folder.new.disk in
    let later : Shown = shown_of (record x { disk = seen }) in
    let exit : IsShow c.args.dir.now c.match-read_folder.result c.args.self.now later =
    elim c.match-read_folder.branch [
      | in-Ok w ↦
          subst (λ (r : Result Reading StoreError). IsShow c.args.dir.now r c.args.self.now later) (sym w.result-is)
          (found_show x c.args.dir.now c.as_bytes-name.ensures.folder seen c.read_folder.ensures.told c.args.self.now
          c.self.view_is c.path-path.result c.path-path.ensures.path w.in-Ok.found w.in-Ok.ensures.cause w.in-Ok.ensures.answer)
      | in-Err w ↦
          subst (λ (r : Result Reading StoreError). IsShow c.args.dir.now r c.args.self.now later) (sym w.result-is)
          (refused_show x c.args.dir.now c.as_bytes-name.ensures.folder seen c.read_folder.ensures.told c.args.self.now
          c.self.view_is c.path-path.result c.path-path.ensures.path w.in-Err.trouble w.folder_error.result
          w.folder_error.ensures w.in-Err.ensures.cause w.in-Err.ensures.answer)
    ] in
    exit.images

pub returns-clause-causes : goal.returns-clause-causes
returns-clause-causes g c =
    let x : Inner = inner g.D.Disk.seen c.self.inside in
    let seen : Seen = g.D.Disk.seen c.read_folder.new.disk in
    let later : Shown = shown_of (record x { disk = seen }) in
    let exit : IsShow c.args.dir.now c.match-read_folder.result c.args.self.now later =
    elim c.match-read_folder.branch [
      | in-Ok w ↦
          subst (λ (r : Result Reading StoreError). IsShow c.args.dir.now r c.args.self.now later) (sym w.result-is)
          (found_show x c.args.dir.now c.as_bytes-name.ensures.folder seen c.read_folder.ensures.told c.args.self.now
          c.self.view_is c.path-path.result c.path-path.ensures.path w.in-Ok.found w.in-Ok.ensures.cause w.in-Ok.ensures.answer)
      | in-Err w ↦
          subst (λ (r : Result Reading StoreError). IsShow c.args.dir.now r c.args.self.now later) (sym w.result-is)
          (refused_show x c.args.dir.now c.as_bytes-name.ensures.folder seen c.read_folder.ensures.told c.args.self.now
          c.self.view_is c.path-path.result c.path-path.ensures.path w.in-Err.trouble w.folder_error.result
          w.folder_error.ensures w.in-Err.ensures.cause w.in-Err.ensures.answer)
    ] in
    exit.causes

pub returns-clause-leads : goal.returns-clause-leads
returns-clause-leads g c start steps =
    let x : Inner = inner g.D.Disk.seen c.self.inside in
    let seen : Seen = g.D.Disk.seen c.read_folder.new.disk in
    let later : Shown = shown_of (record x { disk = seen }) in
    let exit : IsShow c.args.dir.now c.match-read_folder.result c.args.self.now later =
    elim c.match-read_folder.branch [
      | in-Ok w ↦
          subst (λ (r : Result Reading StoreError). IsShow c.args.dir.now r c.args.self.now later) (sym w.result-is)
          (found_show x c.args.dir.now c.as_bytes-name.ensures.folder seen c.read_folder.ensures.told c.args.self.now
          c.self.view_is c.path-path.result c.path-path.ensures.path w.in-Ok.found w.in-Ok.ensures.cause w.in-Ok.ensures.answer)
      | in-Err w ↦
          subst (λ (r : Result Reading StoreError). IsShow c.args.dir.now r c.args.self.now later) (sym w.result-is)
          (refused_show x c.args.dir.now c.as_bytes-name.ensures.folder seen c.read_folder.ensures.told c.args.self.now
          c.self.view_is c.path-path.result c.path-path.ensures.path w.in-Err.trouble w.folder_error.result
          w.folder_error.ensures w.in-Err.ensures.cause w.in-Err.ensures.answer)
    ] in
    leads_on start steps exit
