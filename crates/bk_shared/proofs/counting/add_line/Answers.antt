use Rattle.std.proofs.Common.{◌∙◌, sym, ap, subst, rules, Some, Option}
use Rattle.std.specs.BTreeMap.{get, Updates}
use Rattle.bk_shared.specs.Keeping.{key_cmp, with_line}
use Rattle.bk_shared.specs.declared.counting.SharedFile.{SharedFile}
use Rattle.bk_shared.specs.declared.keys.Key.{Key}
use Rattle.bk_shared.proofs.Steps.{line_held, line_clashes}
use Rattle.bk_shared.proofs.counting.add_line.Goals as goal

-- src/counting.rt:112:16
pub returns-in_err-file-clause-err : goal.returns-in_err-file-clause-err
returns-in_err-file-clause-err c = λ lines holds.
    let had = c.copied.ensures ∙ c.get.ensures.value
    ∙ ap (λ (key : Key). get key_cmp c.args.files.now key) c.key_of-key.ensures in
    let clash = line_clashes lines c.args.files.now c.args.name c.args.crc holds c.in_err-file.field-0.0
    (ap (λ (file : Option SharedFile). with_line file c.args.name c.args.crc) (sym had) ∙ sym c.with_line.ensures
    ∙ c.in_err-file.was) in
    search (rules, clash)

-- src/counting.rt:101:1
pub returns-clause-ok : goal.returns-clause-ok
returns-clause-ok c = λ lines holds.
    let had = c.copied.ensures ∙ c.get.ensures.value
    ∙ ap (λ (key : Key). get key_cmp c.args.files.now key) c.key_of-key.ensures in
    line_held lines c.args.files.now c.args.name c.args.crc holds c.insert.new.self c.in_ok-file.file
    (ap (λ (file : Option SharedFile). with_line file c.args.name c.args.crc) (sym had) ∙ sym c.with_line.ensures
    ∙ c.in_ok-file.was)
    (subst (λ (key : Key). Updates key_cmp c.args.files.now c.insert.new.self key
    (Some c.in_ok-file.file)) c.key_of-key.ensures c.in_ok-insert.ensures.updates)
