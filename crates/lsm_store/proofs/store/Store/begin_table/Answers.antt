-- Each exit is a lemma of `Begins`, at what the store held before the call.
use Rattle.std.specs.Prelude.{◌≡◌, ◌+◌, ◌-◌, ◌^◌, ◌<◌, List, length, None}
use Rattle.std.proofs.Common.{refl, sym, ap, subst, ◌∙◌, arith}
use Rattle.lsm_names.specs.declared.file_names.FileName.{FileName}
use Rattle.lsm_names.specs.declared.file_names.FileName.TheVariants.{Table}
use Rattle.lsm_model.specs.declared.errors.StoreError.TheVariants as error
use Rattle.lsm_refine.specs.Kept.{Shown}
use Rattle.lsm_refine.specs.Caused.{flush_number}
use Rattle.lsm_flush.specs.declared.frozen.Held.{Held}
use Rattle.lsm_flush.specs.declared.frozen.Held.TheVariants as held
use Rattle.lsm_flush.specs.Frozen.{rows_of}
use Rattle.lsm_store.specs.Fields.{inner}
use Rattle.lsm_store.specs.FlushParts.{Came, HasNumber, Refuses}
use Rattle.lsm_store.specs.Inside.{Inner, IsInside, flushing_of, HasBegunTable, shown_of}
use Rattle.lsm_store.proofs.Begins.{no_number, idle_rows, table_begun, begun_before, number_before, full_begin, wanting_begin, ok_begin, unmade_begin}
use Rattle.lsm_store.proofs.Calls.{taken_back}
use Rattle.lsm_store.proofs.store.Store.begin_table.Goals as goal

pub returns-in-Some-clause-ok : goal.returns-in-Some-clause-ok
returns-in-Some-clause-ok g c =
    let x : Inner = inner g.D.Disk.seen c.self.inside in
    let none : c.self.inside.halt ≡ None = ap (λ (v : Shown). v.halt) c.self.view_is ∙ c.requires.open in
    subst (λ (v : Shown). Came (flush_number v.kept.flushing) v v) c.self.view_is
    (begun_before x c.self.invariant none c.in-Some._number (sym c.number.ensures ∙ c.in-Some.is))

pub returns-in-Some-clause-begun : goal.returns-in-Some-clause-begun
returns-in-Some-clause-begun g c =
    subst (λ (v : Shown). HasBegunTable v.kept) c.self.view_is
    (c.in-Some._number, table_begun c.self.inside.frozen c.in-Some._number (sym c.number.ensures ∙ c.in-Some.is))

pub returns-in-Some-clause-number : goal.returns-in-Some-clause-number
returns-in-Some-clause-number g c =
    subst (λ (v : Shown). HasNumber v.kept v.kept) c.self.view_is
    (number_before (inner g.D.Disk.seen c.self.inside) c.in-Some._number (sym c.number.ensures ∙ c.in-Some.is))

pub returns-then-self-ge-NUMBER_END-clause-err : goal.returns-then-self-ge-NUMBER_END-clause-err
returns-then-self-ge-NUMBER_END-clause-err g c =
    let x : Inner = inner g.D.Disk.seen c.self.inside in
    let none : c.self.inside.halt ≡ None = ap (λ (v : Shown). v.halt) c.self.view_is ∙ c.requires.open in
    let idle : c.self.inside.frozen ≡ held.Rows (rows_of c.self.inside.frozen) =
    idle_rows c.self.inside.frozen (sym c.number.ensures ∙ no_number c.number.result c.in_default.not-Some) in
    subst (λ (v : Shown). Refuses (flush_number v.kept.flushing) (error.NumbersFull c.self.inside.next) v v) c.self.view_is
    (subst (λ (h : Held). Refuses (flush_number (flushing_of h)) (error.NumbersFull c.self.inside.next)
    (shown_of (record x { frozen = h })) (shown_of (record x { frozen = h }))) (sym idle)
    (full_begin x (rows_of c.self.inside.frozen) (subst (λ (h : Held). IsInside (record x { frozen = h })) idle c.self.invariant)
    none (omega (arith, c.if-self-ge-NUMBER_END.true))))

pub returns-in_default-push-clause-err : goal.returns-in_default-push-clause-err
returns-in_default-push-clause-err g c =
    let x : Inner = inner g.D.Disk.seen c.self.inside in
    let none : c.self.inside.halt ≡ None = ap (λ (v : Shown). v.halt) c.self.view_is ∙ c.requires.open in
    let small : c.self.inside.next < 2 ^ 56 - 1 = omega (arith, c.if-self-ge-NUMBER_END.false) in
    let idle : c.self.inside.frozen ≡ held.Rows (rows_of c.self.inside.frozen) =
    idle_rows c.self.inside.frozen (sym c.number.ensures ∙ no_number c.number.result c.in_default.not-Some) in
    subst (λ (v : Shown). Refuses (flush_number v.kept.flushing) error.NoMemory v
    (shown_of (record x { known = c.push.new.self.items }))) c.self.view_is
    (subst (λ (h : Held). Refuses (flush_number (flushing_of h)) error.NoMemory
    (shown_of (record x { frozen = h })) (shown_of (record x { frozen = h; known = c.push.new.self.items }))) (sym idle)
    (wanting_begin x (rows_of c.self.inside.frozen) (subst (λ (h : Held). IsInside (record x { frozen = h })) idle c.self.invariant)
    none small c.push.new.self.items c.in_default-push.ensures.items))

pub returns-in-Ok-make_file-clause-ok : goal.returns-in-Ok-make_file-clause-ok
returns-in-Ok-make_file-clause-ok g c =
    let x : Inner = inner g.D.Disk.seen c.self.inside in
    let none : c.self.inside.halt ≡ None = ap (λ (v : Shown). v.halt) c.self.view_is ∙ c.requires.open in
    let small : c.self.inside.next < 2 ^ 56 - 1 = omega (arith, c.if-self-ge-NUMBER_END.false) in
    let idle : c.self.inside.frozen ≡ held.Rows (rows_of c.self.inside.frozen) =
    idle_rows c.self.inside.frozen (sym c.number.ensures ∙ no_number c.number.result c.in_default.not-Some) in
    let now : Shown = shown_of (record x {
      disk = g.D.Disk.seen c.make_file.new.disk;
      frozen = c.begin.new.self;
      next = c.self.inside.next + 1;
      known = c.push.new.self.items;
    }) in
    subst (λ (v : Shown). Came (flush_number v.kept.flushing) v now) c.self.view_is
    (subst (λ (h : Held). Came (flush_number (flushing_of h)) (shown_of (record x { frozen = h })) now) (sym idle)
    (ok_begin x (rows_of c.self.inside.frozen) (subst (λ (h : Held). IsInside (record x { frozen = h })) idle c.self.invariant)
    none small (g.D.Disk.seen c.make_file.new.disk) c.file-path.result c.file-path.ensures c.make_file.ensures.cause.faults_later
    c.make_file.ensures.cause.refusals_later c.make_file.ensures.lawful c.in-Ok-make_file.ensures.made c.push.new.self.items
    c.in-Ok.ensures.items c.self.inside.session c.begin.new.self (c.begin.ensures (rows_of c.self.inside.frozen) idle)))

pub returns-in-Ok-make_file-clause-begun : goal.returns-in-Ok-make_file-clause-begun
returns-in-Ok-make_file-clause-begun g c =
    let idle : c.self.inside.frozen ≡ held.Rows (rows_of c.self.inside.frozen) =
    idle_rows c.self.inside.frozen (sym c.number.ensures ∙ no_number c.number.result c.in_default.not-Some) in
    (c.self.inside.next, ap (λ (h : Held). (flushing_of h).table) (c.begin.ensures (rows_of c.self.inside.frozen) idle))

pub returns-in-Ok-make_file-clause-number : goal.returns-in-Ok-make_file-clause-number
returns-in-Ok-make_file-clause-number g c =
    let x : Inner = inner g.D.Disk.seen c.self.inside in
    let idle : c.self.inside.frozen ≡ held.Rows (rows_of c.self.inside.frozen) =
    idle_rows c.self.inside.frozen (sym c.number.ensures ∙ no_number c.number.result c.in_default.not-Some) in
    let now : Held → Shown = λ h. shown_of (record x {
      disk = g.D.Disk.seen c.make_file.new.disk;
      frozen = h;
      next = c.self.inside.next + 1;
      known = c.push.new.self.items;
    }) in
    subst (λ (v : Shown). HasNumber v.kept (now c.begin.new.self).kept) c.self.view_is
    (subst (λ (h : Held). HasNumber (shown_of (record x { frozen = h })).kept (now c.begin.new.self).kept) (sym idle)
    (subst (λ (h : Held). HasNumber (shown_of (record x { frozen = held.Rows (rows_of c.self.inside.frozen) })).kept (now h).kept)
    (sym (c.begin.ensures (rows_of c.self.inside.frozen) idle)) (record { table = refl; next = refl })))

pub returns-in-Err-clause-err : goal.returns-in-Err-clause-err
returns-in-Err-clause-err g c =
    let x : Inner = inner g.D.Disk.seen c.self.inside in
    let none : c.self.inside.halt ≡ None = ap (λ (v : Shown). v.halt) c.self.view_is ∙ c.requires.open in
    let small : c.self.inside.next < 2 ^ 56 - 1 = omega (arith, c.if-self-ge-NUMBER_END.false) in
    let idle : c.self.inside.frozen ≡ held.Rows (rows_of c.self.inside.frozen) =
    idle_rows c.self.inside.frozen (sym c.number.ensures ∙ no_number c.number.result c.in_default.not-Some) in
    subst (λ (v : Shown). Refuses (flush_number v.kept.flushing) c.error_of.result v (shown_of (record x {
      disk = g.D.Disk.seen c.make_file.new.disk;
      known = c.truncate.new.self.items;
      halt = c.halt_of-self-inside.result;
    }))) c.self.view_is
    (subst (λ (h : Held). Refuses (flush_number (flushing_of h)) c.error_of.result
    (shown_of (record x { frozen = h })) (shown_of (record x {
      frozen = h;
      disk = g.D.Disk.seen c.make_file.new.disk;
      known = c.truncate.new.self.items;
      halt = c.halt_of-self-inside.result;
    }))) (sym idle)
    (unmade_begin x (rows_of c.self.inside.frozen) (subst (λ (h : Held). IsInside (record x { frozen = h })) idle c.self.invariant)
    none small (g.D.Disk.seen c.make_file.new.disk) c.file-path.result c.file-path.ensures c.make_file.ensures.cause.faults_later
    c.make_file.ensures.cause.refusals_later c.make_file.ensures.lawful c.in-Err.refused
    c.in-Err.ensures.refused c.in-Err.ensures.cause.counted c.halt_of-self-inside.result
    c.truncate.new.self.items c.error_of.result c.halt_of-self-inside.ensures
    (taken_back (length c.as_slice-count.result.now) c.self.inside.known.items c.push.new.self.items c.truncate.new.self.items
    (Table c.self.inside.next) (ap (λ (l : List FileName). length l) c.as_slice-count.ensures.value) c.in-Ok.ensures.items
    c.truncate.ensures.items) c.error_of.ensures))
