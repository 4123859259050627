use Rattle.std.specs.Prelude.{◌≡◌, ◌++◌, ℕ, List, Bool, Ok, is_ok}
use Rattle.std.proofs.Common.{ap, ◌∙◌}
use Rattle.lsm_rows.specs.declared.rows.Row.{Row}
use Rattle.lsm_core.specs.Reading.{seen_with}
use Rattle.lsm_core.proofs.ReadLemmas.{reads_so, reads_wanting, reads_refusal}
use Rattle.lsm_core.proofs.WholeRows.{added}
use Rattle.lsm_core.proofs.scanning.add_rows.Goals as goal

pub returns-in-Ok-append : goal.returns-in-Ok-append
returns-in-Ok-append g c = λ version there.
    reads_so (λ rows all. all ≡ rows c.args.number) (λ rows value. c.append.new.self.items ≡ c.args.all.now.items ++ rows
    c.args.number)
    (seen_with (g.D.Disk.seen c.args.disk.now) c.args.home.now version c.args.tables.now)
    (seen_with (g.D.Disk.seen c.read_live.new.disk) c.args.home.now version c.read_live.new.tables) c.in-Ok.rows tt
    (c.in-Ok.ensures version there)
    (λ rows is. added c.args.all.now.items c.append.new.self.items c.into_vec.result.items c.in-Ok.rows (rows c.args.number)
    c.append.result c.in-Ok-append.is c.append.ensures.items c.into_vec.ensures is)

pub returns-in-Ok : goal.returns-in-Ok
returns-in-Ok g c = λ version there.
    reads_wanting (λ rows all. all ≡ rows c.args.number) (λ rows value. c.append.new.self.items ≡ c.args.all.now.items ++ rows
    c.args.number)
    (seen_with (g.D.Disk.seen c.args.disk.now) c.args.home.now version c.args.tables.now)
    (seen_with (g.D.Disk.seen c.read_live.new.disk) c.args.home.now version c.read_live.new.tables) c.in-Ok.rows
    (c.in-Ok.ensures version there)

pub returns : goal.returns
returns g c = λ version there.
    reads_refusal (λ rows all. all ≡ rows c.args.number) (λ rows value. c.args.all.now.items ≡ c.args.all.now.items ++ rows
    c.args.number)
    (seen_with (g.D.Disk.seen c.args.disk.now) c.args.home.now version c.args.tables.now)
    (seen_with (g.D.Disk.seen c.read_live.new.disk) c.args.home.now version c.read_live.new.tables) c.in-Err.refused
    (c.in-Err.ensures version there)
