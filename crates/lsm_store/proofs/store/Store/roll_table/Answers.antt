-- Each exit is a lemma of `Rolls`, at what the store held before the call.
use Rattle.std.specs.Prelude.{◌≡◌, ◌+◌, ◌-◌, ◌^◌, ◌<◌, ◌∷◌, ◌++◌, [], List, ℕ, length, take, None}
use Rattle.std.proofs.Common.{rules, sym, ap, subst, ◌∙◌, arith}
use Rattle.lsm_names.specs.declared.file_names.FileName.{FileName}
use Rattle.lsm_names.specs.declared.file_names.FileName.TheVariants.{Manifest}
use Rattle.lsm_disk.specs.Dest.{path_in}
use Rattle.lsm_model.specs.declared.errors.StoreError.TheVariants as error
use Rattle.lsm_refine.specs.Kept.{Kept, Shown}
use Rattle.lsm_refine.specs.Among.{new_names}
use Rattle.lsm_refine.specs.Caused.{rolls}
use Rattle.lsm_flush.specs.declared.frozen.Held.{Held}
use Rattle.lsm_flush.specs.declared.frozen.Held.TheVariants as held
use Rattle.lsm_store.specs.Fields.{inner}
use Rattle.lsm_store.specs.FlushParts.{AddsTable, HasInstalled, Refuses}
use Rattle.lsm_store.specs.Inside.{Inner, IsInside, shown_of}
use Rattle.lsm_store.proofs.Rolls.{edit_taken, full_roll, wanting_roll, took, rolled_ok, refused_roll, inside_rolled, inside_refused}
use Rattle.lsm_store.proofs.store.Store.roll_table.Goals as goal

pub returns-then-number-ge-NUMBER_END-clause-err : goal.returns-then-number-ge-NUMBER_END-clause-err
returns-then-number-ge-NUMBER_END-clause-err g c =
    full_roll c.args.self.now c.requires.open c.self.inside.next (ap (λ (v : Shown). v.kept.next) c.self.view_is)
    (omega (arith, c.if-number-ge-NUMBER_END.true))

pub returns-in_default-clause-err : goal.returns-in_default-clause-err
returns-in_default-clause-err g c = wanting_roll c.args.self.now c.requires.open

pub returns-in_default-push_names-clause-err : goal.returns-in_default-push_names-clause-err
returns-in_default-push_names-clause-err g c =
    let x : Inner = inner g.D.Disk.seen c.self.inside in
    subst (λ (names : List FileName). Refuses 1 error.NoMemory c.args.self.now (shown_of (record x { known = names })))
    (sym c.in_default-push_names.ensures.err)
    (subst (λ (v : Shown). Refuses 1 error.NoMemory c.args.self.now v) (sym c.self.view_is)
    (wanting_roll c.args.self.now c.requires.open))

pub roll-requires-clause-taken : goal.roll-requires-clause-taken
roll-requires-clause-taken g c κs within =
    let x : Inner = inner g.D.Disk.seen c.self.inside in
    let none : c.self.inside.halt ≡ None = ap (λ (v : Shown). v.halt) c.self.view_is ∙ c.requires.open in
    let small : c.self.inside.next < 2 ^ 56 - 1 = omega (arith, c.if-number-ge-NUMBER_END.false) in
    let by : AddsTable (shown_of x) c.args.last c.args.version =
    subst (λ (v : Shown). AddsTable v c.args.last c.args.version) (sym c.self.view_is) c.requires.by in
    edit_taken x c.self.invariant none small c.version-live.ensures.pins c.args.last c.args.version by c.in-Ok.edit
    c.in-Ok.ensures

pub invariant_of-self-in-Ok-roll : goal.invariant_of-self-in-Ok-roll
invariant_of-self-in-Ok-roll g c =
    let x : Inner = inner g.D.Disk.seen c.self.inside in
    let none : c.self.inside.halt ≡ None = ap (λ (v : Shown). v.halt) c.self.view_is ∙ c.requires.open in
    let small : c.self.inside.next < 2 ^ 56 - 1 = omega (arith, c.if-number-ge-NUMBER_END.false) in
    let by : AddsTable (shown_of x) c.args.last c.args.version =
    subst (λ (v : Shown). AddsTable v c.args.last c.args.version) (sym c.self.view_is) c.requires.by in
    let names : c.truncate.new.self.items ≡ c.self.inside.known.items ++ Manifest c.self.inside.next ∷ [] =
    c.truncate.ensures.items
    ∙ ap (λ (l : List FileName). take (length l + 1) c.push_names.new.known.items) c.as_slice-count.ensures.value
    ∙ ap (take (length c.self.inside.known.items + 1)) c.in-Ok-push_names.ensures.ok
    ∙ took c.self.inside.known.items (new_names c.self.inside.next) 1 in
    let empty : c.hold.new.self ≡ held.Rows [] = search rules in
    let now : Held → List FileName → Inner = λ h l. record x {
      disk = g.D.Disk.seen c.roll.new.disk;
      manifest = c.roll.new.self;
      catalog = c.install.new.self;
      frozen = h;
      next = c.self.inside.next + 1;
      known = l;
      older = None;
      older_len = 0;
    } in
    subst (λ (h : Held). IsInside (now h c.truncate.new.self.items)) (sym empty)
    (subst (λ (l : List FileName). IsInside (now (held.Rows []) l)) (sym names)
    (inside_rolled x c.self.invariant none small c.version-live.ensures.pins c.args.last c.args.version by c.in-Ok.edit
    c.in-Ok.ensures (g.D.Disk.seen c.roll.new.disk) c.roll.new.self c.in-Ok-roll.ensures.manifest c.install.new.self
    (ap (λ (k : Kept). k.version) c.install.ensures) (ap (λ (k : Kept). k.pins) c.install.ensures)))

pub returns-in-Ok-roll-clause-ok : goal.returns-in-Ok-roll-clause-ok
returns-in-Ok-roll-clause-ok g c =
    let x : Inner = inner g.D.Disk.seen c.self.inside in
    let none : c.self.inside.halt ≡ None = ap (λ (v : Shown). v.halt) c.self.view_is ∙ c.requires.open in
    let small : c.self.inside.next < 2 ^ 56 - 1 = omega (arith, c.if-number-ge-NUMBER_END.false) in
    let by : AddsTable (shown_of x) c.args.last c.args.version =
    subst (λ (v : Shown). AddsTable v c.args.last c.args.version) (sym c.self.view_is) c.requires.by in
    let names : c.truncate.new.self.items ≡ c.self.inside.known.items ++ Manifest c.self.inside.next ∷ [] =
    c.truncate.ensures.items
    ∙ ap (λ (l : List FileName). take (length l + 1) c.push_names.new.known.items) c.as_slice-count.ensures.value
    ∙ ap (take (length c.self.inside.known.items + 1)) c.in-Ok-push_names.ensures.ok
    ∙ took c.self.inside.known.items (new_names c.self.inside.next) 1 in
    let empty : c.hold.new.self ≡ held.Rows [] = search rules in
    let now : Held → Kept → Shown = λ h k. shown_of (record x {
      disk = g.D.Disk.seen c.roll.new.disk;
      manifest = c.roll.new.self;
      catalog = k;
      frozen = h;
      next = c.self.inside.next + 1;
      known = c.truncate.new.self.items;
      older = None;
      older_len = 0;
    }) in
    subst (λ (v : Shown). HasInstalled 1 v (now c.hold.new.self c.install.new.self)) c.self.view_is
    (subst (λ (h : Held). HasInstalled 1 (shown_of x) (now h c.install.new.self)) (sym empty)
    (subst (λ (k : Kept). HasInstalled 1 (shown_of x) (now (held.Rows []) k)) (sym c.install.ensures)
    (rolled_ok x c.self.invariant none small c.version-live.ensures.pins c.args.last c.args.version by c.in-Ok.edit
    c.in-Ok.ensures (ap (λ (v : Shown). rolls v.kept) c.self.view_is ∙ c.requires.long) (g.D.Disk.seen c.roll.new.disk)
    c.roll.new.self c.truncate.new.self.items c.in-Ok-roll.ensures.went c.in-Ok-roll.ensures.lawful
    c.roll.ensures.cause.faults_later c.roll.ensures.cause.refusals_later c.in-Ok-roll.ensures.manifest names)))

pub invariant_of-self-in-Err-roll : goal.invariant_of-self-in-Err-roll
invariant_of-self-in-Err-roll g c =
    let x : Inner = inner g.D.Disk.seen c.self.inside in
    let none : c.self.inside.halt ≡ None = ap (λ (v : Shown). v.halt) c.self.view_is ∙ c.requires.open in
    let small : c.self.inside.next < 2 ^ 56 - 1 = omega (arith, c.if-number-ge-NUMBER_END.false) in
    let by : AddsTable (shown_of x) c.args.last c.args.version =
    subst (λ (v : Shown). AddsTable v c.args.last c.args.version) (sym c.self.view_is) c.requires.by in
    inside_refused x c.self.invariant none small c.version-live.ensures.pins c.args.last c.args.version by c.in-Ok.edit
    c.in-Ok.ensures (g.D.Disk.seen c.roll.new.disk) c.made_before.result c.roll.new.self c.truncate-in-Err.new.self.items
    c.halt_of-self-inside.result c.in-Err.ensures.stays
    (c.truncate-in-Err.ensures.items
    ∙ ap (λ (l : List FileName). take (length l + c.made_before.result) c.push_names.new.known.items)
    c.as_slice-count.ensures.value
    ∙ ap (take (length c.self.inside.known.items + c.made_before.result)) c.in-Ok-push_names.ensures.ok
    ∙ took c.self.inside.known.items (new_names c.self.inside.next) c.made_before.result)

pub returns-in-Err-clause-err : goal.returns-in-Err-clause-err
returns-in-Err-clause-err g c =
    let x : Inner = inner g.D.Disk.seen c.self.inside in
    let none : c.self.inside.halt ≡ None = ap (λ (v : Shown). v.halt) c.self.view_is ∙ c.requires.open in
    let small : c.self.inside.next < 2 ^ 56 - 1 = omega (arith, c.if-number-ge-NUMBER_END.false) in
    let by : AddsTable (shown_of x) c.args.last c.args.version =
    subst (λ (v : Shown). AddsTable v c.args.last c.args.version) (sym c.self.view_is) c.requires.by in
    let path : path_in c.self.inside.manifest.dir (Manifest c.self.inside.next) ≡ c.file-manifest.result =
    ap (λ (dir : List ℕ). path_in dir (Manifest c.self.inside.next)) c.self.invariant.manifest_in ∙ sym c.file-manifest.ensures in
    subst (λ (v : Shown). Refuses 1 c.error_of.result v (shown_of (record x {
      disk = g.D.Disk.seen c.roll.new.disk;
      next = c.self.inside.next + 1;
      known = c.truncate-in-Err.new.self.items;
      manifest = c.roll.new.self;
      halt = c.halt_of-self-inside.result;
    }))) c.self.view_is
    (refused_roll x c.self.invariant none small c.version-live.ensures.pins c.args.last c.args.version by c.in-Ok.edit
    c.in-Ok.ensures (g.D.Disk.seen c.roll.new.disk) c.in-Err.refused c.made_before.result c.roll.new.self
    c.halt_of-self-inside.result c.error_of.result c.truncate-in-Err.new.self.items
    (record {
      rolled = c.in-Err.ensures.went;
      lawful = c.in-Err.ensures.lawful;
      wanting = c.in-Err.ensures.wanting;
      at = c.in-Err.ensures.at;
      answers = c.in-Err.ensures.answer;
      count = (
        λ same. c.made_before.ensures.here (same ∙ path),
        λ other. c.made_before.ensures.beside (λ same. other (same ∙ sym path)),
      );
    })
    c.in-Err.ensures.stays c.halt_of-self-inside.ensures c.error_of.ensures
    (c.truncate-in-Err.ensures.items
    ∙ ap (λ (l : List FileName). take (length l + c.made_before.result) c.push_names.new.known.items)
    c.as_slice-count.ensures.value
    ∙ ap (take (length c.self.inside.known.items + c.made_before.result)) c.in-Ok-push_names.ensures.ok
    ∙ took c.self.inside.known.items (new_names c.self.inside.next) c.made_before.result)
    (record {
      faults_later = c.roll.ensures.cause.faults_later;
      refusals_later = c.roll.ensures.cause.refusals_later;
      counted = c.in-Err.ensures.cause.counted;
    }))
