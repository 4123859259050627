use Rattle.lsm_table.proofs.Searches.{put_value, delete_value}
use Rattle.lsm_table.proofs.searching.value_of.Goals as goal

pub returns-in_ok-from_slice-in-Put : goal.returns-in_ok-from_slice-in-Put
returns-in_ok-from_slice-in-Put c = put_value c.args.kind c.args.bytes.now c.in_ok-from_slice-in-Put.field-0 c.in-Put.is c.in_ok-from_slice-in-Put.ensures

pub returns-in-Delete : goal.returns-in-Delete
returns-in-Delete c = delete_value c.args.kind c.args.bytes.now c.in-Delete.is
