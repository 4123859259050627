use Rattle.std.proofs.Common.{◌≡◌, ◌++◌, [], ◌∙◌, ap, subst, List, ℕ}
use Rattle.std.specs.Prelude.{Some, None}
use Rattle.std.specs.FinMap as map
use Rattle.lsm_disk.specs.Names.{Names, Folder_node, renamed, under}
use Rattle.lsm_nametable.specs.Table.{table_of, put_all, HasSome}
use Rattle.lsm_nametable.proofs.Tables.{Entries, move_whole, move_undone}
use Rattle.lsm_nametable.proofs.table.NameTable.move_folder.Goals as goal

pub returns-in-Ok-clause-ok : goal.returns-in-Ok-clause-ok
returns-in-Ok-clause-ok c =
    let from = c.args.from.now in
    let to = c.args.to.now in
    let es = c.self.inside.entries.entries in
    let free : (rest : List ℕ) → under [] rest ≡ Some rest → map.get (table_of es) (to ++ rest) ≡ None =
    λ rest tail. ap (λ (t : Names). map.get t (to ++ rest)) c.self.view_is ∙ c.requires rest tail in
    move_whole from to es free c.insert_all.new.entries.entries c.leave_folder.new.entries.entries
    (c.in-Ok.ensures.ok ∙ ap (λ (l : Entries). put_all l (table_of es)) c.in_ok-moved.ensures) c.leave_folder.ensures
    ∙ ap (λ (t : Names). renamed from to (Some Folder_node) t) c.self.view_is

pub returns-in-Err-clause-err : goal.returns-in-Err-clause-err
returns-in-Err-clause-err c =
    let from = c.args.from.now in
    let to = c.args.to.now in
    let es = c.self.inside.entries.entries in
    let free : (rest : List ℕ) → under [] rest ≡ Some rest → map.get (table_of es) (to ++ rest) ≡ None =
    λ rest tail. ap (λ (t : Names). map.get t (to ++ rest)) c.self.view_is ∙ c.requires rest tail in
    move_undone from to es free c.insert_all.new.entries.entries c.clear_folder.new.entries.entries
    (subst (λ (l : Entries). HasSome l (table_of es) (table_of c.insert_all.new.entries.entries)) c.in_ok-moved.ensures c.in-Err.ensures.err) c.clear_folder.ensures
    ∙ c.self.view_is
