use Rattle.std.proofs.Common.{◌≡◌, ◌∷◌, [], sym, ap, ◌∙◌, rules}
use Rattle.std.specs.List.{fold}
use Rattle.lsm_version.specs.Levels.{Tables}
use Rattle.lsm_version.proofs.TableMaps.{tables_of, tables_put, with_entry, put_all}
use Rattle.lsm_version.proofs.version.copied.Goals as goal

pub loop-number-preserved-in_ok-insert : goal.loop-number-preserved-in_ok-insert
loop-number-preserved-in_ok-insert c =
    let step : c.loop-number.number-iterator ≡ (c.in-Some.number.now, c.in-Some.placed.now) ∷ c.next.new.self = search rules in
    let put = tables_put c.loop-number.copied.entries c.insert.new.self.entries c.in-Some.number.now (record { level = c.in-Some.placed.now.level; info = c.in_ok-info.info }) c.in_ok-insert.ensures.entries in
    ap (λ (t : Tables). fold with_entry t c.next.new.self)
    (put ∙ (λ i. with_entry (tables_of c.loop-number.copied.entries) (c.in-Some.number.now, record { level = c.in-Some.placed.now.level; info = c.in_ok-info.ensures i })))
    ∙ ap (fold with_entry (tables_of c.loop-number.copied.entries)) (sym step) ∙ c.loop-number.invariant

pub loop-number-preserved : goal.loop-number-preserved
loop-number-preserved c =
    let step : c.loop-number.number-iterator ≡ (c.in-Some.number.now, c.in-Some.placed.now) ∷ c.next.new.self = search rules in
    let put = tables_put c.loop-number.copied.entries c.insert.new.self.entries c.in-Some.number.now (record { level = c.in-Some.placed.now.level; info = c.in_ok-info.info }) c.in_ok-insert.ensures.entries in
    ap (λ (t : Tables). fold with_entry t c.next.new.self)
    (put ∙ (λ i. with_entry (tables_of c.loop-number.copied.entries) (c.in-Some.number.now, record { level = c.in-Some.placed.now.level; info = c.in_ok-info.ensures i })))
    ∙ ap (fold with_entry (tables_of c.loop-number.copied.entries)) (sym step) ∙ c.loop-number.invariant

pub returns-clause-ok : goal.returns-clause-ok
returns-clause-ok c =
    let ended : c.loop-number.number-iterator ≡ [] = search rules in
    ap (fold with_entry (tables_of c.loop-number.copied.entries)) (sym ended) ∙ c.loop-number.invariant ∙ put_all c.args.tables.now.entries (search rules)
