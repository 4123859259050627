use Rattle.std.proofs.Common.{◌≡◌, ◌∙◌, ap, rules}
use Rattle.std.specs.FinMap as map
use Rattle.std.specs.Prelude.{is_some, option_map}
use Rattle.lsm_disk.specs.Names.{Names}
use Rattle.lsm_nametable.specs.Target.{node_of}
use Rattle.lsm_nametable.proofs.Tables.{table_remove, get_shown, taken_key, taken_found}
use Rattle.lsm_nametable.proofs.table.NameTable.take.Goals as goal

pub returns-clause-names : goal.returns-clause-names
returns-clause-names c =
    table_remove c.args.path.now c.self.inside.entries.entries c.remove_entry.new.self.entries c.remove_entry.ensures.updates.1 c.remove_entry.ensures.entries
    ∙ ap (λ (t : Names). map.remove t c.args.path.now) c.self.view_is

pub returns-clause-key : goal.returns-clause-key
returns-clause-key c =
    let taken : c.match-remove_entry.result ≡ option_map (λ p. p.0) c.remove_entry.result = search rules in
    taken_key c.args.path.now c.remove_entry.result _ taken c.remove_entry.ensures.same_key

pub returns-clause-found : goal.returns-clause-found
returns-clause-found c =
    let taken : c.match-remove_entry.result ≡ option_map (λ p. p.0) c.remove_entry.result = search rules in
    taken_found c.remove_entry.result _ taken
    ∙ ap is_some (ap (option_map node_of) c.remove_entry.ensures.value ∙ get_shown c.args.path.now c.self.inside.entries.entries ∙ ap (λ (t : Names). map.get t c.args.path.now) c.self.view_is)
