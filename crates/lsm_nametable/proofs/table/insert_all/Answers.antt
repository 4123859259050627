use Rattle.std.proofs.Common.{◌≡◌, ◌++◌, ◌∷◌, [], ◌∙◌, ap, sym, subst, rules}
use Rattle.lsm_disk.specs.Names.{Names}
use Rattle.lsm_nametable.specs.Target.{node_of}
use Rattle.lsm_nametable.specs.Table.{shown, table_of}
use Rattle.lsm_nametable.proofs.Tables.{Entries, IsPutTo, put_more, shown_push, table_insert}
use Rattle.lsm_nametable.proofs.table.insert_all.Goals as goal

pub loop-name-preserved : goal.loop-name-preserved
loop-name-preserved c =
    let name = c.in-Some.name in
    let target = c.in-Some.target in
    let left = c.pop.new.self.items in
    let old = table_of c.args.entries.now.entries in
    let all = shown c.args.names.items in
    let popped : c.loop-name.moved.items ≡ left ++ (name, target) ∷ [] = search rules in
    let was : IsPutTo all (shown left ++ (name.items, node_of target) ∷ []) old (table_of c.loop-name.entries.entries) =
    subst (λ (ms : Entries). IsPutTo all ms old (table_of c.loop-name.entries.entries)) (ap shown popped ∙ shown_push left name target) c.loop-name.invariant in
    subst (λ (n : Names). IsPutTo all (shown left) old n) (sym (table_insert name target c.loop-name.entries.entries c.insert.new.self.entries (search rules)))
    (put_more all (shown left) (name.items, node_of target) old (table_of c.loop-name.entries.entries) was)
