use Rattle.std.proofs.Common.{List, [], refl, arith, sym, subst, None}
use Rattle.std.proofs.lemmas.Result.{err_from_is_err_and}
use Rattle.lsm_version.specs.declared.tables.Add.{Add}
use Rattle.lsm_version.specs.declared.tables.Place.{Place}
use Rattle.lsm_version.specs.declared.edits.Edit.{Edit}
use Rattle.lsm_version.specs.declared.fields.Rank.{Rank}
use Rattle.lsm_version.specs.Edits.{start}
use Rattle.lsm_version.specs.Reading.{with_field}
use Rattle.lsm_version.proofs.ReadEdits.{IsReadTo, read_start, read_step, rank_read, field_bad, bad_no_memory, field_len}
use Rattle.lsm_version.proofs.decoding.decode_edit.Goals as goal

pub loop-at-init : goal.loop-at-init
loop-at-init c =
    subst (λ (adds : List Add). IsReadTo c.args.bytes.now (record { log = None; next = None; last = None; adds = adds; drops = c.new-2.result }) 0 start) (sym c.new.ensures)
    (subst (λ (drops : List Place). IsReadTo c.args.bytes.now (record { log = None; next = None; last = None; adds = []; drops = drops }) 0 start) (sym c.new-2.ensures)
    (read_start c.args.bytes.now))

pub read_field-requires-clause-after : goal.read_field-requires-clause-after
read_field-requires-clause-after c = rank_read c.args.bytes.now c.loop-at.edit c.loop-at.at c.loop-at.after c.loop-at.invariant

pub returns-in_err-field-clause-bad : goal.returns-in_err-field-clause-bad
returns-in_err-field-clause-bad c =
    let p = err_from_is_err_and c.from_residual.result c.from_residual.ensures.1 in
    rw (p.1, p.2) (field_bad c.args.bytes.now c.loop-at.edit c.loop-at.at c.loop-at.after _ c.loop-at.invariant c.in_err-field.ensures.bad)

pub returns-in_err-add_field-clause-bad : goal.returns-in_err-add_field-clause-bad
returns-in_err-add_field-clause-bad c =
    let p = err_from_is_err_and c.from_residual-in_err-add_field.result c.from_residual-in_err-add_field.ensures.1 in
    rw (p.1, p.2) (bad_no_memory c.args.bytes.now _ refl)

pub loop-at-smaller : goal.loop-at-smaller
loop-at-smaller c = omega (arith, c.in_ok-field.ensures.ok.ends, c.in_ok-field.ensures.ok.within, c.loop-at-test.true, field_len c.in_ok-field.field)

pub loop-at-preserved : goal.loop-at-preserved
loop-at-preserved c =
    subst (λ (edit : Edit). IsReadTo c.args.bytes.now edit c.in_ok-field.next c.rank_of-after.result) (sym c.in_ok-add_field.ensures)
    (subst (λ (rank : Rank). IsReadTo c.args.bytes.now (with_field c.loop-at.edit c.in_ok-field.field) c.in_ok-field.next rank) (sym c.rank_of-after.ensures)
    (read_step c.args.bytes.now c.loop-at.edit c.loop-at.at c.loop-at.after c.in_ok-field.field c.in_ok-field.next c.loop-at.invariant c.in_ok-field.ensures.ok))
