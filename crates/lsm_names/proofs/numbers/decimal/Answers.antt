use Rattle.std.proofs.Common.{◌∙◌}
use Rattle.lsm_names.proofs.SharedNameLemmas.{decimal_is_padded}
use Rattle.lsm_names.proofs.numbers.decimal.Goals as goal

pub returns : goal.returns
returns c = c.padded_decimal.ensures ∙ decimal_is_padded c.args.number
