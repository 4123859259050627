use Rattle.std.proofs.Common.{sym, ◌∙◌}
use Rattle.ldb_script.proofs.Lines.{hexadecimal_long}
use Rattle.ldb_script.proofs.words.bytes_of_word.Goals as goal

pub split_at-requires : goal.split_at-requires
split_at-requires c = hexadecimal_long c.args.word.now (sym c.is_hexadecimal.ensures ∙ c.if-is_hexadecimal.true)
