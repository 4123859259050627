use Rattle.std.proofs.Common.{◌≡◌, take, true}
use Rattle.std.specs.List.{list_all}
use Rattle.ldb_script.specs.Words.{is_lower_digit}
use Rattle.ldb_script.proofs.words.all_lower_digits.Given as goal

abbrev pub invariant-loop-byte : goal.invariant-loop-byte
invariant-loop-byte l = list_all is_lower_digit (take l.byte-index l.bytes) ≡ true
