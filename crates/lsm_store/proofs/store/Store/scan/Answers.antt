-- Each exit is a lemma of `Scans`, at what the store held before the call.
use Rattle.std.specs.Prelude.{Result}
use Rattle.std.proofs.Common.{sym, subst}
use Rattle.lsm_rows.specs.Replay.{Contents}
use Rattle.lsm_disk.specs.State.{Seen}
use Rattle.lsm_model.specs.declared.errors.StoreError.{StoreError}
use Rattle.lsm_refine.specs.Kept.{Shown}
use Rattle.lsm_store.specs.Inside.{Inner, shown_of}
use Rattle.lsm_store.specs.Fields.{inner}
use Rattle.lsm_store.proofs.Calls.{leads_on}
use Rattle.lsm_store.proofs.Scans.{IsScan, found_scan, refused_scan, wanting_scan}
use Rattle.lsm_store.proofs.store.Store.scan.Goals as goal
use Rattle.lsm_store.proofs.store.Store.scan.Goals.{in-Ok+in-Ok-pairs_with, in-Ok+in-Err-pairs_with, in-Err}

pub returns-clause-step : goal.returns-clause-step
returns-clause-step g c =
    let x : Inner = inner g.D.Disk.seen c.self.inside in
    let seen : Seen = g.D.Disk.seen c.read_rows.new.disk in
    let later : Shown = shown_of (record x { disk = seen; catalog = c.read_rows.new.catalog }) in
    let exit : IsScan c.match-read_rows.result c.args.self.now later =
    elim c.match-read_rows.branch [
      | in-Ok+in-Ok-pairs_with w ↦
          subst (λ (r : Result Contents StoreError). IsScan r c.args.self.now later) (sym w.result-is)
          (found_scan x seen c.read_rows.new.catalog c.args.self.now c.self.view_is w.in-Ok.rows w.rows.result.now
          w.in-Ok-pairs_with.pairs w.in-Ok-pairs_with.ensures w.rows.ensures w.in-Ok.ensures)
      | in-Ok+in-Err-pairs_with w ↦
          subst (λ (r : Result Contents StoreError). IsScan r c.args.self.now later) (sym w.result-is)
          (wanting_scan x seen c.read_rows.new.catalog c.args.self.now c.self.view_is w.in-Ok.rows w.in-Ok.ensures)
      | in-Err w ↦
          subst (λ (r : Result Contents StoreError). IsScan r c.args.self.now later) (sym w.result-is)
          (refused_scan x seen c.read_rows.new.catalog c.args.self.now c.self.view_is w.in-Err.refused w.in-Err.ensures)
    ] in
    exit.step

pub returns-clause-images : goal.returns-clause-images
returns-clause-images g c =
    let x : Inner = inner g.D.Disk.seen c.self.inside in
    let seen : Seen = g.D.Disk.seen c.read_rows.new.disk in
    let later : Shown = shown_of (record x { disk = seen; catalog = c.read_rows.new.catalog }) in
    let exit : IsScan c.match-read_rows.result c.args.self.now later =
    elim c.match-read_rows.branch [
      | in-Ok+in-Ok-pairs_with w ↦
          subst (λ (r : Result Contents StoreError). IsScan r c.args.self.now later) (sym w.result-is)
          (found_scan x seen c.read_rows.new.catalog c.args.self.now c.self.view_is w.in-Ok.rows w.rows.result.now
          w.in-Ok-pairs_with.pairs w.in-Ok-pairs_with.ensures w.rows.ensures w.in-Ok.ensures)
      | in-Ok+in-Err-pairs_with w ↦
          subst (λ (r : Result Contents StoreError). IsScan r c.args.self.now later) (sym w.result-is)
          (wanting_scan x seen c.read_rows.new.catalog c.args.self.now c.self.view_is w.in-Ok.rows w.in-Ok.ensures)
      | in-Err w ↦
          subst (λ (r : Result Contents StoreError). IsScan r c.args.self.now later) (sym w.result-is)
          (refused_scan x seen c.read_rows.new.catalog c.args.self.now c.self.view_is w.in-Err.refused w.in-Err.ensures)
    ] in
    exit.images

pub returns-clause-causes : goal.returns-clause-causes
returns-clause-causes g c =
    let x : Inner = inner g.D.Disk.seen c.self.inside in
    let seen : Seen = g.D.Disk.seen c.read_rows.new.disk in
    let later : Shown = shown_of (record x { disk = seen; catalog = c.read_rows.new.catalog }) in
    let exit : IsScan c.match-read_rows.result c.args.self.now later =
    elim c.match-read_rows.branch [
      | in-Ok+in-Ok-pairs_with w ↦
          subst (λ (r : Result Contents StoreError). IsScan r c.args.self.now later) (sym w.result-is)
          (found_scan x seen c.read_rows.new.catalog c.args.self.now c.self.view_is w.in-Ok.rows w.rows.result.now
          w.in-Ok-pairs_with.pairs w.in-Ok-pairs_with.ensures w.rows.ensures w.in-Ok.ensures)
      | in-Ok+in-Err-pairs_with w ↦
          subst (λ (r : Result Contents StoreError). IsScan r c.args.self.now later) (sym w.result-is)
          (wanting_scan x seen c.read_rows.new.catalog c.args.self.now c.self.view_is w.in-Ok.rows w.in-Ok.ensures)
      | in-Err w ↦
          subst (λ (r : Result Contents StoreError). IsScan r c.args.self.now later) (sym w.result-is)
          (refused_scan x seen c.read_rows.new.catalog c.args.self.now c.self.view_is w.in-Err.refused w.in-Err.ensures)
    ] in
    exit.causes

pub returns-clause-leads : goal.returns-clause-leads
returns-clause-leads g c start steps =
    let x : Inner = inner g.D.Disk.seen c.self.inside in
    let seen : Seen = g.D.Disk.seen c.read_rows.new.disk in
    let later : Shown = shown_of (record x { disk = seen; catalog = c.read_rows.new.catalog }) in
    let exit : IsScan c.match-read_rows.result c.args.self.now later =
    elim c.match-read_rows.branch [
      | in-Ok+in-Ok-pairs_with w ↦
          subst (λ (r : Result Contents StoreError). IsScan r c.args.self.now later) (sym w.result-is)
          (found_scan x seen c.read_rows.new.catalog c.args.self.now c.self.view_is w.in-Ok.rows w.rows.result.now
          w.in-Ok-pairs_with.pairs w.in-Ok-pairs_with.ensures w.rows.ensures w.in-Ok.ensures)
      | in-Ok+in-Err-pairs_with w ↦
          subst (λ (r : Result Contents StoreError). IsScan r c.args.self.now later) (sym w.result-is)
          (wanting_scan x seen c.read_rows.new.catalog c.args.self.now c.self.view_is w.in-Ok.rows w.in-Ok.ensures)
      | in-Err w ↦
          subst (λ (r : Result Contents StoreError). IsScan r c.args.self.now later) (sym w.result-is)
          (refused_scan x seen c.read_rows.new.catalog c.args.self.now c.self.view_is w.in-Err.refused w.in-Err.ensures)
    ] in
    leads_on start steps exit
