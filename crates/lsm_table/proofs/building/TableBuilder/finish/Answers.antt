use Rattle.std.proofs.Common.{◌+◌, ◌^◌, ◌<◌, ◌++◌, ℕ, length, refl, sym, ap, ◌∙◌, subst, arith}
use Rattle.lsm_block.specs.TableText.{stored, properties_text, footer_text}
use Rattle.lsm_table.specs.Cuts.{ended}
use Rattle.lsm_table.specs.Building.{Built}
use Rattle.lsm_names.specs.Sessions.{is_session}
use Rattle.lsm_table.proofs.BuiltRows.{finished, whole_made}
use Rattle.lsm_table.proofs.building.TableBuilder.finish.Goals as goal
use Rattle.lsm_names.proofs.SessionLemmas.{length_of_session}

pub overflow_add-properties : goal.overflow_add-properties
overflow_add-properties c = omega (arith, c.in_ok-ended.ensures.small, c.len.ensures.small)

pub overflow_add-properties-2 : goal.overflow_add-properties-2
overflow_add-properties-2 c = omega (arith, c.in_ok-ended.ensures.small, c.len.ensures.small)

pub overflow_add-result : goal.overflow_add-result
overflow_add-result c = omega (arith, c.in_ok-ended.ensures.small, c.len.ensures.small)

pub overflow_add-result-2 : goal.overflow_add-result-2
overflow_add-result-2 c = omega (arith, c.in_ok-ended.ensures.small, c.len.ensures.small)

pub returns-clause-finished : goal.returns-clause-finished
returns-clause-finished c =
    λ rows handed built.
    let e = c.in_ok-ended.ended in
    let properties : ℕ = e.place + c.len.result + 5 in
    finished c.args.self rows handed e.text c.in_ok-index.index c.push_footer.new.out c.push_stored.new.out c.push_properties.new.out e.index e.place c.args.self.count properties (properties + 41 + 36) c.self.inside.smallest c.in_ok-largest.largest
    built
    (length_of_session c.args.self.session (ap (λ (b : Built). is_session b.session) (sym c.self.view_is) ∙ c.in_ok-push_properties.ensures.session))
    c.requires.some
    (c.in_ok-ended.ensures.text ∙ ap (λ (b : Built). (ended b.blocks).pending) c.self.view_is)
    (c.in_ok-ended.ensures.index ∙ ap (λ (b : Built). (ended b.blocks).index) c.self.view_is)
    (c.in_ok-ended.ensures.place ∙ ap (λ (b : Built). (ended b.blocks).place) c.self.view_is)
    c.in_ok-index.ensures
    (ap (λ n. e.place + n + 5) c.len.ensures.len)
    (c.in_ok-push_stored.ensures.ok ∙ ap (λ t. e.text ++ stored t) c.as_slice.ensures)
    (c.in_ok-push_properties.ensures.text ∙ ap (λ (b : Built). c.push_stored.new.out ++ stored (properties_text b.number b.session b.count)) c.self.view_is)
    (c.in_ok-push_footer.ensures ∙ ap (λ n. c.push_properties.new.out ++ footer_text e.place n properties) c.len-2.ensures.len)
    refl
    (ap (λ (b : Built). b.smallest) c.self.view_is)
    (c.in_ok-largest.ensures ∙ c.last_key.ensures)

pub returns-clause-whole : goal.returns-clause-whole
returns-clause-whole c =
    λ rows handed built are.
    let e = c.in_ok-ended.ended in
    let properties : ℕ = e.place + c.len.result + 5 in
    whole_made c.args.self rows handed c.push_footer.new.out (properties + 41 + 36) c.self.inside.smallest c.in_ok-largest.largest (returns-clause-finished c rows handed built) are
    (subst (λ (b : Built). b.number < 2 ^ 64) c.self.view_is c.in_ok-push_properties.ensures.number)
    (ap (λ (b : Built). is_session b.session) (sym c.self.view_is) ∙ c.in_ok-push_properties.ensures.session)
    (omega (arith, c.in_ok-ended.ensures.fits, c.len.ensures.len, ap (length {A = ℕ}) c.in_ok-index.ensures))
