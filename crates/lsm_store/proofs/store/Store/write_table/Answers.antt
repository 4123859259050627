-- Each exit is a lemma of `Writings` or `Wholes`, at what the store held before the call.
use Rattle.std.specs.Prelude.{◌≡◌, ℕ, None, Option, Result, OnOk, IfOk, IfErr, MatchOption}
use Rattle.std.proofs.Common.{sym, ap, subst, ◌∙◌}
use Rattle.lsm_names.specs.declared.file_names.FileName.TheVariants.{Table}
use Rattle.lsm_disk.specs.Dest.{path_in}
use Rattle.lsm_version.specs.declared.tables.TableInfo.{TableInfo}
use Rattle.lsm_model.specs.declared.errors.StoreError.{StoreError}
use Rattle.lsm_refine.specs.Kept.{Shown}
use Rattle.lsm_flush.specs.declared.frozen.Held.{Held}
use Rattle.lsm_flush.specs.declared.frozen.Held.TheVariants as held
use Rattle.lsm_flush.specs.Frozen.{whole_table}
use Rattle.lsm_store.specs.Fields.{inner}
use Rattle.lsm_store.specs.FlushParts.{Came, Refuses, HasWrittenMore, HasWhole}
use Rattle.lsm_store.specs.Inside.{Inner, IsInside, shown_of}
use Rattle.lsm_store.proofs.Insides.{inside_on}
use Rattle.lsm_store.proofs.Parting.{came_none}
use Rattle.lsm_store.proofs.Wholes.{whole_kept, more_written, copied_ok, copied_err, copied_found, table_held, whole_held}
use Rattle.lsm_store.proofs.Writings.{added_table, unadded_table}
use Rattle.lsm_store.proofs.store.Store.write_table.Given as given
use Rattle.lsm_store.proofs.store.Store.write_table.Goals as goal
use Rattle.lsm_store.proofs.store.Store.write_table.Goals.{in-Some-whole, in-None}

-- ---- the table was whole before

pub returns-in-Some-clause-ok : goal.returns-in-Some-clause-ok
returns-in-Some-clause-ok g c =
    copied_ok c.in-Some.info.now c.args.self.now c.args.self.now c.copied.result c.copied.ensures.err
    (came_none c.args.self.now c.requires.open)

pub returns-in-Some-clause-err : goal.returns-in-Some-clause-err
returns-in-Some-clause-err g c =
    copied_err c.in-Some.info.now c.args.self.now c.args.self.now c.copied.result c.copied.ensures.err
    (came_none c.args.self.now c.requires.open)

pub returns-in-Some-clause-found : goal.returns-in-Some-clause-found
returns-in-Some-clause-found g c =
    let x : Inner = inner g.D.Disk.seen c.self.inside in
    let info : TableInfo = c.in-Some.info.now in
    let at = whole_held c.self.inside.frozen info (sym c.in-Some.ensures.whole) in
    copied_found info c.args.self.now c.args.self.now c.copied.result c.copied.ensures.ok
    (subst (λ (v : Shown). HasWhole v.kept info) c.self.view_is
    (subst (λ (h : Held). HasWhole (shown_of (record x { frozen = h })).kept info) (sym at.1)
    (whole_kept x at.0 (subst (λ (h : Held). IsInside (record x { frozen = h })) at.1 c.self.invariant) info at.2
    (c.in-Some.ensures.is at.0 info at.1 at.2))))

-- ---- rows were added

pub invariant_of-self : goal.invariant_of-self
invariant_of-self g c =
    let x : Inner = inner g.D.Disk.seen c.self.inside in
    let at = table_held c.self.inside.frozen c.in-Some-number.number (sym c.number.ensures ∙ c.in-Some-number.is) in
    let on = c.in-Ok.ensures.did at.0 at.1 in
    inside_on x at.0 on.now at.1 c.self.invariant on.did.same (g.D.Disk.seen c.write_on.new.disk) c.self.inside.halt
    c.write_on.new.self on.held_is

came : (g : given.Over) (c : goal.Joined-whole-2 g)
    → Came 0 c.args.self.now (shown_of (record (inner g.D.Disk.seen c.self.inside) {
      disk = g.D.Disk.seen c.write_on.new.disk;
      frozen = c.write_on.new.self;
    }))
came g c =
    let x : Inner = inner g.D.Disk.seen c.self.inside in
    let none : c.self.inside.halt ≡ None = ap (λ (v : Shown). v.halt) c.self.view_is ∙ c.requires.open in
    let at = table_held c.self.inside.frozen c.in-Some-number.number (sym c.number.ensures ∙ c.in-Some-number.is) in
    let on = c.in-Ok.ensures.did at.0 at.1 in
    let now : Shown = shown_of (record x { disk = g.D.Disk.seen c.write_on.new.disk; frozen = c.write_on.new.self }) in
    subst (λ (v : Shown). Came 0 v now) c.self.view_is
    (subst (λ (h : Held). Came 0 (shown_of (record x { frozen = h })) now) (sym at.1)
    (subst (λ (h : Held). Came 0 (shown_of (record x { frozen = held.Table at.0 }))
    (shown_of (record x { disk = g.D.Disk.seen c.write_on.new.disk; frozen = h }))) (sym on.held_is)
    (added_table x at.0 (subst (λ (h : Held). IsInside (record x { frozen = h })) at.1 c.self.invariant) none
    (g.D.Disk.seen c.write_on.new.disk) c.file-path.result
    (c.file-path.ensures ∙ ap (λ (n : ℕ). path_in c.self.inside.home (Table n)) at.2) c.write_on.ensures.cause.faults_later
    c.write_on.ensures.cause.refusals_later on.now on.did)))

pub returns-after-whole-2-clause-ok : goal.returns-after-whole-2-clause-ok
returns-after-whole-2-clause-ok g c =
    let x : Inner = inner g.D.Disk.seen c.self.inside in
    let now : Shown = shown_of (record x { disk = g.D.Disk.seen c.write_on.new.disk; frozen = c.write_on.new.self }) in
    elim c.match-whole-2.branch [
      | in-Some-whole w ↦
          subst (λ (r : Result (Option TableInfo) StoreError). OnOk r (Came 0 c.args.self.now now)) (sym w.result-is)
          (copied_ok w.in-Some-whole.info.now c.args.self.now now w.copied-in-Some-whole.result w.copied-in-Some-whole.ensures.err
          (came g c))
      | in-None w ↦
          subst (λ (r : Result (Option TableInfo) StoreError). OnOk r (Came 0 c.args.self.now now)) (sym w.result-is) (came g c)
    ]

pub returns-after-whole-2-clause-err : goal.returns-after-whole-2-clause-err
returns-after-whole-2-clause-err g c =
    let x : Inner = inner g.D.Disk.seen c.self.inside in
    let now : Shown = shown_of (record x { disk = g.D.Disk.seen c.write_on.new.disk; frozen = c.write_on.new.self }) in
    elim c.match-whole-2.branch [
      | in-Some-whole w ↦
          subst (λ (r : Result (Option TableInfo) StoreError). IfErr r (λ e. Refuses 0 e c.args.self.now now)) (sym w.result-is)
          (copied_err w.in-Some-whole.info.now c.args.self.now now w.copied-in-Some-whole.result w.copied-in-Some-whole.ensures.err
          (came g c))
      | in-None w ↦
          subst (λ (r : Result (Option TableInfo) StoreError). IfErr r (λ e. Refuses 0 e c.args.self.now now)) (sym w.result-is) tt
    ]

pub returns-after-whole-2-clause-found : goal.returns-after-whole-2-clause-found
returns-after-whole-2-clause-found g c =
    let x : Inner = inner g.D.Disk.seen c.self.inside in
    let later : Inner = record x { disk = g.D.Disk.seen c.write_on.new.disk } in
    let now : Shown = shown_of (record later { frozen = c.write_on.new.self }) in
    let at = table_held c.self.inside.frozen c.in-Some-number.number (sym c.number.ensures ∙ c.in-Some-number.is) in
    let on = c.in-Ok.ensures.did at.0 at.1 in
    elim c.match-whole-2.branch [
      | in-Some-whole w ↦
          let info : TableInfo = w.in-Some-whole.info.now in
          let is = whole_held c.write_on.new.self info (sym w.in-Some-whole.ensures.whole) in
          subst (λ (r : Result (Option TableInfo) StoreError). IfOk r (λ found. MatchOption found
          (HasWrittenMore c.args.self.now.kept now.kept) (HasWhole now.kept))) (sym w.result-is)
          (copied_found info c.args.self.now now w.copied-in-Some-whole.result w.copied-in-Some-whole.ensures.ok
          (subst (λ (h : Held). HasWhole (shown_of (record later { frozen = h })).kept info) (sym is.1)
          (whole_kept later is.0 (inside_on x at.0 on.now at.1 c.self.invariant on.did.same
          (g.D.Disk.seen c.write_on.new.disk) c.self.inside.halt (held.Table is.0) (sym is.1 ∙ on.held_is)) info is.2
          (w.in-Some-whole.ensures.is is.0 info is.1 is.2))))
      | in-None w ↦
          subst (λ (r : Result (Option TableInfo) StoreError). IfOk r (λ found. MatchOption found
          (HasWrittenMore c.args.self.now.kept now.kept) (HasWhole now.kept))) (sym w.result-is)
          (subst (λ (v : Shown). HasWrittenMore v.kept now.kept) c.self.view_is
          (more_written x (record later { frozen = c.write_on.new.self }) at.0 on.now at.1 on.held_is on.did.further
          (sym (ap whole_table on.held_is) ∙ sym w.in-None.ensures.whole)))
    ]

-- ---- the disk refused them

pub invariant_of-self-in-Err : goal.invariant_of-self-in-Err
invariant_of-self-in-Err g c =
    let x : Inner = inner g.D.Disk.seen c.self.inside in
    let at = table_held c.self.inside.frozen c.in-Some-number.number (sym c.number.ensures ∙ c.in-Some-number.is) in
    let on = c.in-Err.ensures.did at.0 at.1 in
    inside_on x at.0 on.now at.1 c.self.invariant on.did.same (g.D.Disk.seen c.write_on.new.disk)
    c.halt_of-self-inside.result c.write_on.new.self on.held_is

pub returns-in-Err-clause-err : goal.returns-in-Err-clause-err
returns-in-Err-clause-err g c =
    let x : Inner = inner g.D.Disk.seen c.self.inside in
    let none : c.self.inside.halt ≡ None = ap (λ (v : Shown). v.halt) c.self.view_is ∙ c.requires.open in
    let at = table_held c.self.inside.frozen c.in-Some-number.number (sym c.number.ensures ∙ c.in-Some-number.is) in
    let on = c.in-Err.ensures.did at.0 at.1 in
    let now : Shown = shown_of (record x {
      disk = g.D.Disk.seen c.write_on.new.disk;
      frozen = c.write_on.new.self;
      halt = c.halt_of-self-inside.result;
    }) in
    subst (λ (v : Shown). Refuses 0 c.error_of.result v now) c.self.view_is
    (subst (λ (h : Held). Refuses 0 c.error_of.result (shown_of (record x { frozen = h })) now) (sym at.1)
    (subst (λ (h : Held). Refuses 0 c.error_of.result (shown_of (record x { frozen = held.Table at.0 })) (shown_of (record x {
      disk = g.D.Disk.seen c.write_on.new.disk;
      frozen = h;
      halt = c.halt_of-self-inside.result;
    }))) (sym on.held_is)
    (unadded_table x at.0 (subst (λ (h : Held). IsInside (record x { frozen = h })) at.1 c.self.invariant) none
    (g.D.Disk.seen c.write_on.new.disk) c.file-path.result
    (c.file-path.ensures ∙ ap (λ (n : ℕ). path_in c.self.inside.home (Table n)) at.2) c.write_on.ensures.cause.faults_later
    c.write_on.ensures.cause.refusals_later on.now c.in-Err.refused c.halt_of-self-inside.result c.error_of.result on.did
    c.in-Err.ensures.cause.counted c.halt_of-self-inside.ensures c.error_of.ensures)))
