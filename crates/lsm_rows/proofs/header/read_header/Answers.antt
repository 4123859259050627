use Rattle.std.proofs.lemmas.Result.{err_from_is_err_and}
use Rattle.lsm_rows.proofs.ReadHeader.{first_fault, count_fault, header_read}
use Rattle.lsm_rows.proofs.header.read_header.Goals as goal

pub returns-in_err-first-clause-fault : goal.returns-in_err-first-clause-fault
returns-in_err-first-clause-fault c =
    let p = err_from_is_err_and c.from_residual.result c.from_residual.ensures.1 in
    rw (p.1, p.2) (first_fault c.args.bytes.now c.in_err-first.field-0.0.place c.in_err-first.ensures.fault)

pub returns-in_err-count-clause-fault : goal.returns-in_err-count-clause-fault
returns-in_err-count-clause-fault c =
    let p = err_from_is_err_and c.from_residual-in_err-count.result c.from_residual-in_err-count.ensures.1 in
    rw (p.1, p.2) (count_fault c.args.bytes.now c.in_ok-first.first c.most_count.result c.in_err-count.field-0.0.place c.in_ok-first.ensures.below
    c.most_count.ensures.most c.most_count.ensures.last c.most_count.ensures.greatest c.in_ok-first.ensures.within c.in_ok-first.ensures.text c.in_err-count.ensures.fault)

pub returns-clause-ok : goal.returns-clause-ok
returns-clause-ok c =
    header_read c.args.bytes.now c.in_ok-first.first c.in_ok-count.count c.most_count.result c.in_ok-first.ensures.within c.in_ok-first.ensures.text
    c.in_ok-count.ensures.some c.in_ok-count.ensures.most c.most_count.ensures.most c.most_count.ensures.last c.in_ok-count.ensures.within c.in_ok-count.ensures.text
