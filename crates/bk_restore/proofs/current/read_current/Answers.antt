use Rattle.std.specs.Prelude.{◌≡◌, ℕ, None}
use Rattle.std.proofs.Common.{sym, subst, ap, ◌∙◌}
use Rattle.lsm_names.specs.declared.file_names.FileName.TheVariants.{Current}
use Rattle.bk_meta.specs.declared.backup_files.BackupFile.TheVariants.{Private}
use Rattle.bk_restore.specs.Refusals.{IsPastBegin}
use Rattle.bk_restore.specs.Wrong.{IsToldOf}
use Rattle.lsm_bytes.specs.Checksum.{crc32c}
use Rattle.bk_restore.specs.Wrong.{wrong_crc}
use Rattle.bk_restore.specs.Sources.{IsTextOf}
use Rattle.bk_restore.proofs.Right.{crc_told, crc_counted}
use Rattle.bk_restore.proofs.Causes.{returned}
use Rattle.bk_restore.proofs.current.read_current.Goals as goal

pub returns-in_err-text-clause-wrong : goal.returns-in_err-text-clause-wrong
returns-in_err-text-clause-wrong g c =
    returned (IsToldOf (g.B.Disk.seen c.args.disk.now).told c.args.file.now (Private Current)) c.from_residual.result c.in_err-text.field-0.0 c.from_residual.ensures.1 c.in_err-text.ensures.wrong

pub returns-in_err-text-clause-past : goal.returns-in_err-text-clause-past
returns-in_err-text-clause-past g c = returned IsPastBegin c.from_residual.result c.in_err-text.field-0.0 c.from_residual.ensures.1 c.in_err-text.ensures.past

pub returns-in-Ok-clause-right : goal.returns-in-Ok-clause-right
returns-in-Ok-clause-right g c =
    let sum : c.checksum.result ≡ crc32c c.in_ok-text.text = c.checksum.ensures ∙ ap crc32c c.as_slice.ensures in
    subst (λ (n : ℕ). wrong_crc c.args.file.now n ≡ None) sum c.in-Ok.ensures.ok

pub returns-in-Err-clause-wrong : goal.returns-in-Err-clause-wrong
returns-in-Err-clause-wrong g c =
    let told = (g.B.Disk.seen c.args.disk.now).told in
    let sum : c.checksum.result ≡ crc32c c.in_ok-text.text = c.checksum.ensures ∙ ap crc32c c.as_slice.ensures in
    crc_told told c.args.file.now (Private Current) c.checksum.result c.in_ok-text.text c.in-Err.e
    (subst (λ (n : ℕ). IsTextOf told c.args.file.now (Private Current) n c.in_ok-text.text) (sym sum) c.in_ok-text.ensures.read) c.in-Err.ensures.err

pub returns-in-Err-clause-cause : goal.returns-in-Err-clause-cause
returns-in-Err-clause-cause g c = record {
  disk_later = c.read_file.ensures.cause.disk_later;
  dest_later = c.read_file.ensures.cause.dest_later;
  counted = crc_counted _ _ _ _ c.args.file.now c.checksum.result c.in-Err.e c.in-Err.ensures.err;
}
