use Rattle.bk_restore.specs.Wrong.{IsToldOf}
use Rattle.bk_restore.proofs.Causes.{returned}
use Rattle.bk_restore.proofs.Looking.{size_told, length_told}
use Rattle.bk_restore.proofs.sources.length_of.Goals as goal

pub returns-in_err-compare_size-in-Ok-clause-wrong : goal.returns-in_err-compare_size-in-Ok-clause-wrong
returns-in_err-compare_size-in-Ok-clause-wrong g c =
    let told = (g.B.Disk.seen c.args.disk.now).told in
    returned (IsToldOf told c.args.file.now c.args.which.now) c.from_residual.result c.in_err-compare_size-in-Ok.field-0.0 c.from_residual.ensures.1
    (size_told told c.args.file.now c.args.which.now c.in-Ok.len c.in_err-compare_size-in-Ok.field-0.0 c.in-Ok.ensures.size c.in-Ok.ensures.answer c.in-Ok.ensures.lawful c.in_err-compare_size-in-Ok.ensures.err)

pub returns-in_ok-compare_size-in-Ok-clause-there : goal.returns-in_ok-compare_size-in-Ok-clause-there
returns-in_ok-compare_size-in-Ok-clause-there g c = length_told (g.B.Disk.seen c.args.disk.now).told c.args.file.now.path c.in-Ok.len c.in-Ok.ensures.size c.in-Ok.ensures.answer
