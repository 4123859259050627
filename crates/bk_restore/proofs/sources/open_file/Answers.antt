use Rattle.std.specs.Prelude.{Option}
use Rattle.std.proofs.Common.{subst}
use Rattle.lsm_disk.specs.State.{Story}
use Rattle.bk_restore.proofs.Looking.{whole_view}
use Rattle.bk_restore.specs.Sources.{IsWholeView, HasLength}
use Rattle.bk_restore.proofs.sources.open_file.Goals as goal

pub returns-in-Ok-clause-opened : goal.returns-in-Ok-clause-opened
returns-in-Ok-clause-opened g c =
    let now = (g.B.Disk.seen c.length_of.new.disk).told in
    let file = c.args.file.now in
    let which = c.args.which.now in
    let v = g.B.View.View.viewed c.in-Ok.view in
    subst (λ (told : Option Story). HasLength told file.path c.in_ok-len.len → IsWholeView told file which v) c.length_of.ensures.told
    (λ long. whole_view now file which c.in_ok-len.len v c.in_ok-len.ensures.size long c.in-Ok.ensures.lawful c.in-Ok.ensures.view) c.in_ok-len.ensures.there
