use Rattle.std.proofs.Common.{◌∙◌, sym, subst}
use Rattle.ldb_words.specs.Parts.{LeadsWith}
use Rattle.ldb_words.proofs.Splitting.{given_here, given_later, given_none}
use Rattle.ldb_words.proofs.options.is_given.Goals as goal

pub returns-then-eq : goal.returns-then-eq
returns-then-eq c =
    let found = subst (LeadsWith c.loop-first.rest.now) c.in-Some.is c.first_option.ensures in
    given_here c.loop-first.rest.now c.in-Some.more.now found.0 found.1 found.2 found.5 c.in-Some.first.now c.args.name.now found.3
    (sym c.eq.ensures ∙ c.if-eq.true) ∙ c.loop-first.invariant

pub loop-first-preserved : goal.loop-first-preserved
loop-first-preserved c =
    let found = subst (LeadsWith c.loop-first.rest.now) c.in-Some.is c.first_option.ensures in
    given_later c.loop-first.rest.now c.in-Some.more.now found.0 found.1 found.2 found.5 c.in-Some.first.now c.args.name.now found.3
    (sym c.eq.ensures ∙ c.if-eq.false) ∙ c.loop-first.invariant

pub returns : goal.returns
returns c =
    let none = subst (LeadsWith c.loop-first.rest.now) c.in_default.is c.first_option.ensures in
    given_none c.args.name.now _ none.0 ∙ c.loop-first.invariant
