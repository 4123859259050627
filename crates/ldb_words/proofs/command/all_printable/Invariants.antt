use Rattle.std.proofs.Common.{◌≡◌, take, true}
use Rattle.std.specs.List.{list_all}
use Rattle.ldb_words.specs.Words.{is_printable}
use Rattle.ldb_words.proofs.command.all_printable.Given as goal

abbrev pub invariant-loop-byte : goal.invariant-loop-byte
invariant-loop-byte l = list_all is_printable (take l.byte-index l.bytes) ≡ true
