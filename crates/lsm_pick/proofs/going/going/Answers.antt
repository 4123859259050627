use Rattle.std.proofs.Common.{rules, ◌≡◌, ◌∙◌, subst, map, IfOk, List, ℕ}
use Rattle.lsm_version.specs.declared.tables.Placed.{Placed}
use Rattle.lsm_version.specs.Orders.{place_of}
use Rattle.lsm_pick.proofs.Chosen.{zeroth_goes, least_goes}
use Rattle.lsm_pick.proofs.going.going.Goals as goal

pub returns-in-0 : goal.returns-in-0
returns-in-0 c = c.in_ok-places.ensures ∙ zeroth_goes c.args.version.now c.args.level c.in-0.is

pub returns-in_default : goal.returns-in_default
returns-in_default c =
    let goes = c.least_of.ensures ∙ least_goes c.args.version.now c.args.level c.as_slice.result.now (search rules) (c.as_slice.ensures ∙ c.in_ok-places.ensures) in
    subst (λ (tables : List (ℕ × Placed)). IfOk c.only.result (λ places. places ≡ map place_of tables)) goes c.only.ensures
