use Rattle.lsm_table.proofs.WholeTables.{stored_stands, stands_stored}
use Rattle.lsm_table.proofs.laws.data_blocks_stand_where_the_index_tells.Goals as goal

pub returns : goal.returns
returns c = λ text rows number session is place block. (stored_stands text rows number session is place block, stands_stored text rows number session is place block)
