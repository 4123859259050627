use Rattle.std.specs.Prelude.{◌≡◌, Some}
use Rattle.std.proofs.Common.{refl, sym, ap, subst, ◌∙◌}
use Rattle.std.proofs.lemmas.List.Elements.{All-get_or}
use Rattle.lsm_names.specs.declared.file_names.FileName.TheVariants.{Current}
use Rattle.bk_meta.specs.declared.backup_files.BackupFile.{BackupFile}
use Rattle.bk_meta.specs.declared.backup_files.BackupFile.TheVariants.{Private}
use Rattle.bk_meta.specs.Metas.{IsMetaFile}
use Rattle.bk_restore.proofs.Currents.{none_more, current_there, none_is_wrong, only_current}
use Rattle.bk_restore.proofs.current.current_of.Goals as goal

pub loop-file-init : goal.loop-file-init
loop-file-init c = refl

pub file_of-requires : goal.file_of-requires
file_of-requires c =
    subst (IsMetaFile c.args.id) (sym c.file-item.is) (All-get_or (IsMetaFile c.args.id) c.args.files.now c.loop-file.file-index _ c.loop-file-test.true c.requires.each)

pub returns-then-is_current-clause-only : goal.returns-then-is_current-clause-only
returns-then-is_current-clause-only c =
    current_there c.args.id c.args.files.now c.loop-file.file-index c.file-item.result c.file_of.result c.requires c.loop-file-test.true (sym c.file-item.is) c.loop-file.invariant c.file_of.ensures
    (sym c.is_current.ensures ∙ c.if-is_current.true)

pub returns-then-is_current-clause-named : goal.returns-then-is_current-clause-named
returns-then-is_current-clause-named c =
    let which : c.file_of.result ≡ Private Current = only_current c.file_of.result (sym c.is_current.ensures ∙ c.if-is_current.true) in
    c.file_of.ensures ∙ ap (λ (w : BackupFile). Some w) which

pub loop-file-preserved : goal.loop-file-preserved
loop-file-preserved c =
    none_more c.args.id c.args.files.now c.loop-file.file-index c.file-item.result c.file_of.result c.loop-file-test.true (sym c.file-item.is) c.loop-file.invariant c.file_of.ensures
    (sym c.is_current.ensures ∙ c.if-is_current.false)

pub unreachable-requires : goal.unreachable-requires
unreachable-requires c = none_is_wrong c.args.id c.args.files.now c.loop-file.file-index c.requires c.loop-file-test.false c.loop-file.invariant
