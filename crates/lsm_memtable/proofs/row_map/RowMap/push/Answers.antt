use Rattle.std.proofs.Common.{sym, ap, ◌∙◌, subst}
use Rattle.std.specs.Map.{lookup, set_value}
use Rattle.lsm_rows.specs.Contents.{AllBefore}
use Rattle.lsm_memtable.specs.Joining.{IsPut}
use Rattle.lsm_memtable.specs.Kept.{rows_in, AreKept}
use Rattle.lsm_memtable.proofs.KeptRows.{kept_order}
use Rattle.lsm_memtable.proofs.Pushes.{at_key, known_kept, known_put, known_same, always_err}
use Rattle.lsm_memtable.proofs.row_map.RowMap.push.Goals as goal

pub invariant_of-self : goal.invariant_of-self
invariant_of-self c =
    let es = c.self.inside.keys.entries in
    let same =
    known_same c.args.row c.in-Some.versions.now c.push.new.self es (c.get_mut.follows.lender c.push.new.self).entries (c.in-Some.ensures.value ∙ ap (λ q. lookup (at_key q) es) c.as_slice.ensures)
    c.in_err-push-in-Some.ensures.err ((c.get_mut.follows.holds c.push.new.self).0 ∙ ap (λ q. set_value (at_key q) es c.push.new.self) c.as_slice.ensures) in
    subst AreKept (sym same) c.self.invariant

pub returns-in_err-push-in-Some-clause-err : goal.returns-in_err-push-in-Some-clause-err
returns-in_err-push-in-Some-clause-err c =
    let es = c.self.inside.keys.entries in
    let same =
    known_same c.args.row c.in-Some.versions.now c.push.new.self es (c.get_mut.follows.lender c.push.new.self).entries (c.in-Some.ensures.value ∙ ap (λ q. lookup (at_key q) es) c.as_slice.ensures)
    c.in_err-push-in-Some.ensures.err ((c.get_mut.follows.holds c.push.new.self).0 ∙ ap (λ q. set_value (at_key q) es c.push.new.self) c.as_slice.ensures) in
    always_err c.from_residual.result (ap rows_in same ∙ c.self.view_is)

pub invariant_of-self-in-Some : goal.invariant_of-self-in-Some
invariant_of-self-in-Some c =
    let es = c.self.inside.keys.entries in
    let written = c.get_mut.follows.holds c.push.new.self in
    known_kept c.args.row c.in-Some.versions.now c.push.new.self es (c.get_mut.follows.lender c.push.new.self).entries (c.in-Some.ensures.value ∙ ap (λ q. lookup (at_key q) es) c.as_slice.ensures)
    c.in_ok-push-in-Some.ensures.ok (written.0 ∙ ap (λ q. set_value (at_key q) es c.push.new.self) c.as_slice.ensures) written.4 c.self.invariant (subst (λ rows. AllBefore c.args.row.sequence rows) (sym c.self.view_is) c.requires.past)
    c.requires.below

pub returns-in_ok-push-in-Some-clause-ok : goal.returns-in_ok-push-in-Some-clause-ok
returns-in_ok-push-in-Some-clause-ok c =
    let es = c.self.inside.keys.entries in
    let written = c.get_mut.follows.holds c.push.new.self in
    subst (λ rows. IsPut rows c.args.row (rows_in (c.get_mut.follows.lender c.push.new.self).entries)) c.self.view_is
    (known_put c.args.row c.in-Some.versions.now c.push.new.self es (c.get_mut.follows.lender c.push.new.self).entries (c.in-Some.ensures.value ∙ ap (λ q. lookup (at_key q) es) c.as_slice.ensures)
    c.in_ok-push-in-Some.ensures.ok (written.0 ∙ ap (λ q. set_value (at_key q) es c.push.new.self) c.as_slice.ensures))

pub returns-in_ok-push-in-Some-clause-order : goal.returns-in_ok-push-in-Some-clause-order
returns-in_ok-push-in-Some-clause-order c =
    let es = c.self.inside.keys.entries in
    let written = c.get_mut.follows.holds c.push.new.self in
    kept_order (c.get_mut.follows.lender c.push.new.self).entries
    (known_kept c.args.row c.in-Some.versions.now c.push.new.self es (c.get_mut.follows.lender c.push.new.self).entries (c.in-Some.ensures.value ∙ ap (λ q. lookup (at_key q) es) c.as_slice.ensures)
    c.in_ok-push-in-Some.ensures.ok (written.0 ∙ ap (λ q. set_value (at_key q) es c.push.new.self) c.as_slice.ensures) written.4 c.self.invariant (subst (λ rows. AllBefore c.args.row.sequence rows) (sym c.self.view_is) c.requires.past)
    c.requires.below)

pub returns-in_ok-insert_first-in-None-clause-order : goal.returns-in_ok-insert_first-in-None-clause-order
returns-in_ok-insert_first-in-None-clause-order c = kept_order c.insert_first.new.keys.entries c.in_ok-insert_first-in-None.ensures.kept
