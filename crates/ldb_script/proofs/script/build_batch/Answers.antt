use Rattle.std.proofs.Common.{◌≡◌, ◌<◌, ◌+◌, ◌++◌, ◌∷◌, [], List, length, take, drop, ap, sym, ◌∙◌}
use Rattle.std.proofs.lemmas.List.{take_more, drop_more}
use Rattle.lsm_rows.specs.declared.operations.Op.{Op}
use Rattle.lsm_rows.specs.Limits.{refused_in}
use Rattle.ldb_script.specs.Plain.{first_refusal}
use Rattle.ldb_script.proofs.Batches.{taken, builds_none, builds_by}
use Rattle.ldb_script.proofs.script.build_batch.Goals as goal

pub loop-op-preserved : goal.loop-op-preserved
unfolding refused_in
loop-op-preserved c =
    let ops = c.args.ops.now in
    let i = c.loop-op.op-index in
    let op = c.op-item.result in
    let lt : i < length ops = c.loop-op-test.true in
    let ahead : drop i ops ≡ op ∷ drop (i + 1) ops = drop_more ops i op lt ∙ ap (λ (o : Op). o ∷ drop (i + 1) ops) (sym c.op-item.is) in
    let one : take (i + 1) ops ≡ take i ops ++ op ∷ [] = take_more ops i op lt ∙ ap (λ (o : Op). take i ops ++ o ∷ []) (sym c.op-item.is) in record {
      built = c.in_ok-add_op.ensures.ok ∙ ap (λ (b : List Op). b ++ op ∷ []) c.loop-op.invariant.built ∙ sym one;
      refused =
          c.loop-op.invariant.refused
          ∙ taken ops c.loop-op.batch i op ahead (sym c.in_ok-add_op.ensures.refused)
          ∙ ap (λ (b : List Op). first_refusal b (drop (i + 1) ops)) (sym c.in_ok-add_op.ensures.ok);
    }

pub returns-in_err-add_op : goal.returns-in_err-add_op
returns-in_err-add_op c =
    let ops = c.args.ops.now in
    let i = c.loop-op.op-index in
    let op = c.op-item.result in
    let ahead : drop i ops ≡ op ∷ drop (i + 1) ops = drop_more ops i op c.loop-op-test.true ∙ ap (λ (o : Op). o ∷ drop (i + 1) ops) (sym c.op-item.is) in
    builds_by ops c.from_residual.result c.in_err-add_op.field-0.0 c.from_residual.ensures
    (builds_none ops c.loop-op.batch i op ahead ops c.loop-op.invariant.refused c.in_err-add_op.field-0.0 c.in_err-add_op.ensures.refused)
