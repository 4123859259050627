use Rattle.lsm_table.proofs.Indexes.{place_told, no_place, no_length, long_value}
use Rattle.lsm_table.proofs.index.block_place.Goals as goal

pub returns-in_default-clause-none : goal.returns-in_default-clause-none
returns-in_default-clause-none c = λ place len. no_place c.args.value.now place len c.in_default.ensures.refused

pub returns-in_default-read_varint-clause-none : goal.returns-in_default-read_varint-clause-none
returns-in_default-read_varint-clause-none c = λ place len. no_length c.args.value.now c.in-Ok.place c.in-Ok.next place len c.in-Ok.ensures.read c.in_default-read_varint.ensures.refused

pub returns-then-end-value-clause-none : goal.returns-then-end-value-clause-none
returns-then-end-value-clause-none c = λ place len. long_value c.args.value.now c.in-Ok.place c.in-Ok.next c.in-Ok-read_varint.len c.in-Ok-read_varint.end place len c.in-Ok.ensures.read c.in-Ok-read_varint.ensures.read c.if-end-value.true

pub returns-clause-some : goal.returns-clause-some
returns-clause-some c = place_told c.args.value.now c.in-Ok.place c.in-Ok.next c.in-Ok-read_varint.len c.in-Ok-read_varint.end c.in-Ok.ensures.read c.in-Ok-read_varint.ensures.read c.if-end-value.false
