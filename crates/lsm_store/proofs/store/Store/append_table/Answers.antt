-- Each exit is a lemma of `Appends`, at what the store held before the call.
use Rattle.std.specs.Prelude.{◌≡◌, [], None}
use Rattle.std.proofs.Common.{rules, sym, ap, subst, ◌∙◌}
use Rattle.lsm_refine.specs.Kept.{Kept, Shown}
use Rattle.lsm_refine.specs.Caused.{rolls}
use Rattle.lsm_flush.specs.declared.frozen.Held.{Held}
use Rattle.lsm_flush.specs.declared.frozen.Held.TheVariants as held
use Rattle.lsm_store.specs.Inside.{Inner, IsInside, shown_of}
use Rattle.lsm_store.specs.FlushParts.{InstallsBy, HasInstalled, Refuses}
use Rattle.lsm_store.specs.Fields.{inner}
use Rattle.lsm_store.proofs.Appends.{flush_taken, short_manifest, inside_installed, append_installs, append_refused}
use Rattle.lsm_store.proofs.store.Store.append_table.Goals as goal

pub append_edit-requires-clause-taken : goal.append_edit-requires-clause-taken
append_edit-requires-clause-taken g c κs within =
    let by : InstallsBy c.args.self.now c.args.last c.args.edit.now c.args.version = c.requires.by in
    flush_taken by.info by.log by.edit_is.next c.args.last c.args.edit.now by.edit_is.is by.edit_is.grammar

pub append_edit-requires-clause-room : goal.append_edit-requires-clause-room
append_edit-requires-clause-room g c κs within =
    short_manifest (shown_of (inner g.D.Disk.seen c.self.inside)).kept
    (ap (λ (v : Shown). rolls v.kept) c.self.view_is ∙ c.requires.short)

pub install-requires-clause-range : goal.install-requires-clause-range
install-requires-clause-range g c κs within = c.requires.by.adds.more.range

pub invariant_of-self : goal.invariant_of-self
invariant_of-self g c =
    let x : Inner = inner g.D.Disk.seen c.self.inside in
    let empty : c.hold.new.self ≡ held.Rows [] = search rules in
    let by : InstallsBy (shown_of x) c.args.last c.args.edit.now c.args.version =
    subst (λ (v : Shown). InstallsBy v c.args.last c.args.edit.now c.args.version) (sym c.self.view_is) c.requires.by in
    subst (λ (h : Held). IsInside (record x {
      disk = g.D.Disk.seen c.append_edit.new.disk;
      manifest = c.append_edit.new.self;
      catalog = c.install.new.self;
      frozen = h;
      older = None;
      older_len = 0;
    })) (sym empty)
    (inside_installed x c.self.invariant c.args.last c.args.edit.now c.args.version by (g.D.Disk.seen c.append_edit.new.disk)
    c.append_edit.new.self c.install.new.self (ap (λ (k : Kept). k.version) c.install.ensures)
    (ap (λ (k : Kept). k.pins) c.install.ensures) c.append_edit.ensures.same.0
    c.append_edit.ensures.same.1 c.append_edit.ensures.same.2)

pub returns-in-Ok-clause-ok : goal.returns-in-Ok-clause-ok
returns-in-Ok-clause-ok g c =
    let x : Inner = inner g.D.Disk.seen c.self.inside in
    let none : c.self.inside.halt ≡ None = ap (λ (v : Shown). v.halt) c.self.view_is ∙ c.requires.open in
    let empty : c.hold.new.self ≡ held.Rows [] = search rules in
    let by : InstallsBy (shown_of x) c.args.last c.args.edit.now c.args.version =
    subst (λ (v : Shown). InstallsBy v c.args.last c.args.edit.now c.args.version) (sym c.self.view_is) c.requires.by in
    let now : Held → Kept → Shown = λ h k. shown_of (record x {
      disk = g.D.Disk.seen c.append_edit.new.disk;
      manifest = c.append_edit.new.self;
      catalog = k;
      frozen = h;
      older = None;
      older_len = 0;
    }) in
    subst (λ (v : Shown). HasInstalled 0 v (now c.hold.new.self c.install.new.self)) c.self.view_is
    (subst (λ (h : Held). HasInstalled 0 (shown_of x) (now h c.install.new.self)) (sym empty)
    (subst (λ (k : Kept). HasInstalled 0 (shown_of x) (now (held.Rows []) k)) (sym c.install.ensures)
    (append_installs x c.self.invariant none (ap (λ (v : Shown). rolls v.kept) c.self.view_is ∙ c.requires.short) c.args.last
    c.args.edit.now c.args.version by (g.D.Disk.seen c.append_edit.new.disk) c.append_edit.new.self
    c.append_edit.ensures.same.1 c.in-Ok.ensures.len c.in-Ok.ensures.went c.append_edit.ensures.cause.faults_later
    c.append_edit.ensures.cause.refusals_later)))

pub returns-in-Err-clause-err : goal.returns-in-Err-clause-err
returns-in-Err-clause-err g c =
    let x : Inner = inner g.D.Disk.seen c.self.inside in
    let none : c.self.inside.halt ≡ None = ap (λ (v : Shown). v.halt) c.self.view_is ∙ c.requires.open in
    let by : InstallsBy (shown_of x) c.args.last c.args.edit.now c.args.version =
    subst (λ (v : Shown). InstallsBy v c.args.last c.args.edit.now c.args.version) (sym c.self.view_is) c.requires.by in
    subst (λ (v : Shown). Refuses 0 c.error_of.result v (shown_of (record x {
      disk = g.D.Disk.seen c.append_edit.new.disk;
      manifest = c.append_edit.new.self;
      halt = c.halt_of-self-inside.result;
    }))) c.self.view_is
    (append_refused x c.self.invariant none c.args.last c.args.edit.now c.args.version by (g.D.Disk.seen c.append_edit.new.disk)
    c.in-Err.refused c.append_edit.new.self c.halt_of-self-inside.result c.error_of.result c.in-Err.ensures.stays
    c.halt_of-self-inside.ensures c.error_of.ensures c.in-Err.ensures.went c.in-Err.ensures.refused c.in-Err.ensures.answer
    (record {
      faults_later = c.append_edit.ensures.cause.faults_later;
      refusals_later = c.append_edit.ensures.cause.refusals_later;
      counted = c.in-Err.ensures.cause.counted;
    }))
