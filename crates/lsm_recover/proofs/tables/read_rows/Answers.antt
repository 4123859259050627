use Rattle.std.proofs.Common.{ℕ, ◌≡◌, ◌∙◌, ap, true, false, length, rules}
use Rattle.lsm_names.specs.declared.file_names.FileName.TheVariants.{Table}
use Rattle.lsm_recover.specs.declared.errors.FolderError.TheVariants.{Malformed}
use Rattle.lsm_recover.specs.Tables.{HasGathered, IsWalkTrouble}
use Rattle.lsm_recover.proofs.WalkedLemmas.{opens_told, own_told, walk_answers, other_refused, whole_told, stopped_told}
use Rattle.lsm_recover.proofs.tables.read_rows.Goals as goal

pub returns-then-not-is_of-clause-answer : goal.returns-then-not-is_of-clause-answer
returns-then-not-is_of-clause-answer g c = λ text tells.
    let table = c.args.table.now in
    let info = c.args.info.now in
    let other : c.is_of.result ≡ false = search rules in
    let of = own_told c.args.number info table.properties c.properties.result c.is_of.result false c.properties.ensures.properties c.is_of.ensures other in
    other_refused c.args.number info text (tells.whole ∙ c.requires) table.properties table.index (opens_told text table.viewed table.properties table.index tells c.properties.ensures.shows) _
    (ap (λ (n : ℕ). Malformed (Table c.args.number) n) c.saturating_sub-place.ensures) of

pub returns-clause-answer : goal.returns-clause-answer
returns-clause-answer g c = λ text tells.
    let table = c.args.table.now in
    let info = c.args.info.now in
    let own : c.is_of.result ≡ true = search rules in
    let of = own_told c.args.number info table.properties c.properties.result c.is_of.result true c.properties.ensures.properties c.is_of.ensures own in
    walk_answers c.args.number info text (tells.whole ∙ c.requires) table.properties table.index (opens_told text table.viewed table.properties table.index tells c.properties.ensures.shows) of c.args.rows.now c.walk.new.rows c.walk.result
    (whole_told c.walk.result _ (HasGathered text table.index (length table.index) c.args.rows.now c.walk.new.rows) (λ whole. whole text tells) c.walk.ensures.whole)
    (stopped_told c.walk.result _ (IsWalkTrouble (Table c.args.number) text table.index) (λ e stopped. stopped text tells) c.walk.ensures.stopped)
