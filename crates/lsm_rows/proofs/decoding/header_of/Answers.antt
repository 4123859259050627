use Rattle.std.proofs.Common.{refl}
use Rattle.std.proofs.lemmas.Result.{err_from_is_err_and}
use Rattle.lsm_rows.proofs.ReadBatch.{bad_batch, header_no_batch}
use Rattle.lsm_rows.proofs.decoding.header_of.Goals as goal

pub returns-in_err-read_header-clause-bad : goal.returns-in_err-read_header-clause-bad
returns-in_err-read_header-clause-bad c =
    let p = err_from_is_err_and c.from_residual.result c.from_residual.ensures.1 in
    rw (p.1, p.2) (bad_batch c.args.bytes.now c.in_err-read_header.field-0.0.place _ refl (header_no_batch c.args.bytes.now c.in_err-read_header.field-0.0.place c.in_err-read_header.ensures.fault))
