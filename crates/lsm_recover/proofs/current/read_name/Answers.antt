use Rattle.std.proofs.Common.{arith, ap}
use Rattle.std.specs.Prelude.{◌<◌, length}
use Rattle.lsm_folder.specs.Steps.{some_or}
use Rattle.lsm_folder.specs.declared.refusals.Refusal.TheVariants.{Malformed}
use Rattle.lsm_names.specs.declared.file_names.FileName.TheVariants.{Current}
use Rattle.lsm_recover.proofs.ListedLemmas.{too_long}
use Rattle.lsm_recover.proofs.current.read_name.Goals as goal

pub returns-then-len-clause-answer : goal.returns-then-len-clause-answer
returns-then-len-clause-answer g c = λ text tells.
    let long : 30 < length text = omega (arith, tells.whole, c.len.ensures, c.if-len.true) in
    ap (some_or (Malformed Current 0)) (too_long text long)
