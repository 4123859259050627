use Rattle.std.proofs.Common.{List, take, subst, sym, rules}
use Rattle.std.proofs.lemmas.List.{take_all}
use Rattle.bk_meta.specs.declared.metas.Meta.{Meta}
use Rattle.bk_shared.specs.SharedLines.{SharedLine, all_lines}
use Rattle.bk_shared.specs.Keeping.{KeepsLines}
use Rattle.bk_shared.proofs.Clashes.{meta_lines, meta_clashes}
use Rattle.bk_shared.proofs.Counts.{empty_held, lines_tell}
use Rattle.bk_shared.proofs.counting.Shared.build.Goals as goal

pub loop-meta-init : goal.loop-meta-init
loop-meta-init c = record { held = empty_held c.new-files.result c.new-files.ensures.empty }

pub returns-in_err-add_meta-clause-err : goal.returns-in_err-add_meta-clause-err
returns-in_err-add_meta-clause-err c =
    let clash = meta_clashes c.args.metas.now c.loop-meta.meta-index c.meta-item.result c.in_err-add_meta.field-0.0
    c.loop-meta-test.true (sym c.meta-item.is)
    (c.in_err-add_meta.ensures.err (all_lines (take c.loop-meta.meta-index c.args.metas.now)) c.loop-meta.invariant.held) in
    search (rules, clash)

pub loop-meta-preserved : goal.loop-meta-preserved
loop-meta-preserved c = record {
  held = subst (λ (lines : List SharedLine). KeepsLines lines c.add_meta.new.files)
      (meta_lines c.args.metas.now c.loop-meta.meta-index c.meta-item.result c.loop-meta-test.true (sym c.meta-item.is))
      (c.in_ok-add_meta.ensures.ok (all_lines (take c.loop-meta.meta-index c.args.metas.now)) c.loop-meta.invariant.held);
}

pub returns-clause-ok : goal.returns-clause-ok
returns-clause-ok c =
    lines_tell c.args.metas.now c.loop-meta.files c.requires.rising c.requires.lawful
    (subst (λ (metas : List Meta). KeepsLines (all_lines metas) c.loop-meta.files)
    (take_all c.loop-meta.meta-index c.args.metas.now c.loop-meta-test.false)
    c.loop-meta.invariant.held)
