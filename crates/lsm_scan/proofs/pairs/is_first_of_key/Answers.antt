use Rattle.std.proofs.Common.{◌≡◌, sym, ◌∙◌, arith}
use Rattle.std.specs.Prelude.{not, nat_eq}
use Rattle.std.specs.Cmp.Lexicographic.{pointwise}
use Rattle.lsm_scan.proofs.Sorted.{is_first, is_second}
use Rattle.lsm_scan.proofs.pairs.is_first_of_key.Goals as goal

pub returns-clause-first : goal.returns-clause-first
returns-clause-first c =
    is_first c.args.rows.now c.args.place (omega arith) c.requires c.index-rows-place.result c.index-rows-place-2.result
    c.index-rows-place.is c.index-rows-place-2.is c.ne.result
    (c.ne.ensures ∙ (λ i. not (pointwise nat_eq (sym c.index-rows-place.is i).key (sym c.index-rows-place-2.is i).key)))

pub returns-clause-not_first : goal.returns-clause-not_first
returns-clause-not_first c =
    is_second c.args.rows.now c.args.place (omega arith) c.requires c.index-rows-place.result c.index-rows-place-2.result
    c.index-rows-place.is c.index-rows-place-2.is c.ne.result
    (c.ne.ensures ∙ (λ i. not (pointwise nat_eq (sym c.index-rows-place.is i).key (sym c.index-rows-place-2.is i).key)))
