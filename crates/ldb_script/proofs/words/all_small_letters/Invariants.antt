use Rattle.std.proofs.Common.{◌≡◌, take, true}
use Rattle.std.specs.List.{list_all}
use Rattle.ldb_script.specs.Words.{is_small_letter}
use Rattle.ldb_script.proofs.words.all_small_letters.Given as goal

abbrev pub invariant-loop-byte : goal.invariant-loop-byte
invariant-loop-byte l = list_all is_small_letter (take l.byte-index l.bytes) ≡ true
