use Rattle.lsm_block.proofs.EntryParts.{no_first, no_second, no_third, lengths_read}
use Rattle.lsm_block.proofs.reading.read_lengths.Goals as goal

pub returns-in_default-clause-none : goal.returns-in_default-clause-none
returns-in_default-clause-none c =
    λ shared rest value more one two three text. no_first c.args.bytes.now c.args.at shared rest value more c.requires c.in_default.ensures.refused one text

pub returns-in_default-read_varint-clause-none : goal.returns-in_default-read_varint-clause-none
returns-in_default-read_varint-clause-none c =
    λ shared rest value more one two three text. no_second c.args.bytes.now c.args.at c.in-Ok.shared c.in-Ok.rest_at shared rest value more c.in-Ok.ensures.read c.in_default-read_varint.ensures.refused two text

pub returns-in_default-read_varint-2-clause-none : goal.returns-in_default-read_varint-2-clause-none
returns-in_default-read_varint-2-clause-none c =
    λ shared rest value more one two three text. no_third c.args.bytes.now c.args.at c.in-Ok.shared c.in-Ok.rest_at c.in-Ok-read_varint.rest c.in-Ok-read_varint.value_at shared rest value more
    c.in-Ok.ensures.read c.in-Ok-read_varint.ensures.read c.in_default-read_varint-2.ensures.refused three text

pub returns-clause-some : goal.returns-clause-some
returns-clause-some c =
    lengths_read c.args.bytes.now c.args.at c.in-Ok.shared c.in-Ok-read_varint.rest c.in-Ok-read_varint-2.value c.in-Ok.rest_at c.in-Ok-read_varint.value_at c.in-Ok-read_varint-2.next
    c.in-Ok.ensures.read c.in-Ok-read_varint.ensures.read c.in-Ok-read_varint-2.ensures.read
