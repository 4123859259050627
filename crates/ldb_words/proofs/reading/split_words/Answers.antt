use Rattle.std.proofs.Common.{Some, None, subst}
use Rattle.ldb_words.specs.Parts.{SplitsAt}
use Rattle.ldb_words.specs.Reading.{texts}
use Rattle.ldb_words.proofs.Asking.{asked_is, command_is, no_command, not_right, parts_of}
use Rattle.ldb_words.proofs.reading.split_words.Goals as goal

pub returns-in_default : goal.returns-in_default
returns-in_default c =
    not_right (texts c.args.words.now) (subst (SplitsAt c.args.words.now) c.in_default.is c.options_len.ensures)

pub returns-in_default-command_in : goal.returns-in_default-command_in
returns-in_default-command_in c =
    let parts = parts_of c.args.words.now _ _ c.in-Some.at c.options_len.result c.options_len.ensures c.in-Some.is
    c.split_at.ensures.front c.split_at.ensures.back in
    no_command (texts c.args.words.now) parts.right
    (command_is c.args.words.now _ _ c.command_in.result None parts c.command_in.ensures c.in_default-command_in.is)

pub returns : goal.returns
returns c =
    let parts = parts_of c.args.words.now _ _ c.in-Some.at c.options_len.result c.options_len.ensures c.in-Some.is
    c.split_at.ensures.front c.split_at.ensures.back in
    let some = command_is c.args.words.now _ _ c.command_in.result (Some c.in-Some-command_in.command) parts
    c.command_in.ensures c.in-Some-command_in.is in
    (parts.given, asked_is (texts c.args.words.now) _ parts.right some)
