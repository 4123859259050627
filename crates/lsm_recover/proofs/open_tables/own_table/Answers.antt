use Rattle.std.proofs.Common.{ℕ, ◌∙◌, ap, refl, true, false, rules}
use Rattle.lsm_names.specs.declared.file_names.FileName.TheVariants.{Table}
use Rattle.lsm_recover.specs.declared.errors.FolderError.TheVariants.{Malformed}
use Rattle.lsm_recover.proofs.OpenedLemmas.{own_opens, other_refuses}
use Rattle.lsm_recover.proofs.WalkedLemmas.{opens_told, own_told}
use Rattle.lsm_recover.proofs.open_tables.own_table.Goals as goal

pub returns-then-is_of-clause-opened : goal.returns-then-is_of-clause-opened
returns-then-is_of-clause-opened g c =
    let table = c.args.table in
    let info = c.args.info.now in
    let of = own_told c.args.number info table.properties c.properties.result c.is_of.result true c.properties.ensures.properties c.is_of.ensures (search rules) in (
      refl,
      λ text tells. own_opens c.args.number info text (tells.whole ∙ c.requires) table.properties table.index
          (opens_told text table.viewed table.properties table.index tells c.properties.ensures.shows) of,
    )

pub returns-clause-refused : goal.returns-clause-refused
returns-clause-refused g c = λ text tells.
    let table = c.args.table in
    let info = c.args.info.now in
    let of = own_told c.args.number info table.properties c.properties.result c.is_of.result false c.properties.ensures.properties c.is_of.ensures (search rules) in
    other_refuses c.args.number info text (tells.whole ∙ c.requires) table.properties table.index (opens_told text table.viewed table.properties table.index tells c.properties.ensures.shows) _
    (ap (λ (n : ℕ). Malformed (Table c.args.number) n) c.saturating_sub-place.ensures) of
