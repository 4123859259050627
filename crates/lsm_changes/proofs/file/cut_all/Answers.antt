use Rattle.std.proofs.Common.{◌≡◌, ◌<◌, ◌+◌, ◌++◌, ◌∷◌, [], ◌∙◌, ap, sym, subst, rules, List, length, take}
use Rattle.std.proofs.lemmas.List.{take_more}
use Rattle.lsm_disk.specs.State.{FileState}
use Rattle.lsm_changes.specs.Files.{AreLeft}
use Rattle.lsm_changes.proofs.Files.{left_push}
use Rattle.lsm_changes.proofs.file.cut_all.Goals as goal

pub loop-file-preserved : goal.loop-file-preserved
loop-file-preserved c =
    let files = c.args.files.now in
    let i = c.loop-file.file-index in
    let lt : i < length files = c.loop-file-test.true in
    let pushed : c.push.new.self.items ≡ c.loop-file.out.items ++ c.in_ok-cut.field-0 ∷ [] = search rules in
    let one : take (i + 1) files ≡ take i files ++ c.file-item.result ∷ [] = take_more files i c.file-item.result lt ∙ ap (λ (f : FileState). take i files ++ f ∷ []) (sym c.file-item.is) in
    subst (λ (gs : List FileState). AreLeft (take (i + 1) files) gs) (sym pushed)
    (subst (λ (fs : List FileState). AreLeft fs (c.loop-file.out.items ++ c.in_ok-cut.field-0 ∷ [])) (sym one) (left_push (take i files) c.loop-file.out.items c.file-item.result c.in_ok-cut.field-0 c.loop-file.invariant c.in_ok-cut.ensures))
