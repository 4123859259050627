use Rattle.std.proofs.Common.{◌≡◌, ◌<◌, List, ◌++◌, length, take, get_or, subst, sym, rules}
use Rattle.bk_meta.specs.declared.metas.MetaFile.{MetaFile}
use Rattle.bk_shared.specs.SharedLines.{SharedLine}
use Rattle.bk_shared.specs.Keeping.{KeepsLines}
use Rattle.bk_shared.proofs.Clashes.{lines_in, file_lines, file_clashes}
use Rattle.bk_shared.proofs.counting.add_meta.Goals as goal

pub returns-in_err-add_file-clause-err : goal.returns-in_err-add_file-clause-err
returns-in_err-add_file-clause-err c = λ lines holds.
    let within = subst (λ (files : List MetaFile). c.loop-file.file-index < length files)
    c.as_slice-file-items.ensures c.loop-file-test.true in
    let at = subst (λ (files : List MetaFile). get_or files c.loop-file.file-index c.file-item.result ≡ c.file-item.result)
    c.as_slice-file-items.ensures (sym c.file-item.is) in
    let clash = file_clashes c.args.meta.now.id lines c.args.meta.now.files c.loop-file.file-index
    c.file-item.result c.in_err-add_file.field-0.0 within at
    (c.in_err-add_file.ensures.err
    (lines ++ lines_in c.args.meta.now.id (take c.loop-file.file-index c.args.meta.now.files))
    (c.loop-file.invariant.held lines holds)) in
    search (rules, clash)

pub loop-file-preserved : goal.loop-file-preserved
loop-file-preserved c =
    let within = subst (λ (files : List MetaFile). c.loop-file.file-index < length files)
    c.as_slice-file-items.ensures c.loop-file-test.true in
    let at = subst (λ (files : List MetaFile). get_or files c.loop-file.file-index c.file-item.result ≡ c.file-item.result)
    c.as_slice-file-items.ensures (sym c.file-item.is) in
    record {
      held = λ lines holds. subst (λ (l : List SharedLine). KeepsLines l c.add_file.new.files)
          (file_lines c.args.meta.now.id lines c.args.meta.now.files c.loop-file.file-index c.file-item.result within at)
          (c.in_ok-add_file.ensures.ok
          (lines ++ lines_in c.args.meta.now.id (take c.loop-file.file-index c.args.meta.now.files))
          (c.loop-file.invariant.held lines holds));
    }
