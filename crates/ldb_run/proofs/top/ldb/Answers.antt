use Rattle.std.specs.Prelude.{◌≡◌, true, codes}
use Rattle.std.proofs.Common.{refl}
use Rattle.lsm_names.specs.Folders.{is_folder_name, is_folder_byte, is_small_letter_or_digit}
use Rattle.ldb_run.proofs.top.ldb.Goals as goal

db_is_a_name : is_folder_name (codes "db") ≡ true
unfolding is_folder_name is_folder_byte is_small_letter_or_digit
db_is_a_name = refl

pub unreachable-requires : goal.unreachable-requires
unreachable-requires g c = let taken = c.in-Err.ensures.exactly.1 db_is_a_name in absurd (cc)
