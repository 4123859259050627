use Rattle.std.proofs.Common.{◌≡◌, ◌∙◌, ap, sym, List, ℕ, true, rules}
use Rattle.std.specs.Prelude.{Some, is_none}
use Rattle.lsm_names.specs.Paths.{is_path, cut_last}
use Rattle.lsm_disk.specs.Names.{inside}
use Rattle.lsm_nametable.proofs.Tables.{rest_is_path, listed_is, parsed}
use Rattle.lsm_nametable.proofs.table.name_in.Goals as goal

pub returns : goal.returns
returns c =
    let folder = c.args.folder.now in
    let key = c.args.key.now in
    let rest : List ℕ = c.split_at.result.1.now in
    let path : is_path key ≡ true = search rules in
    let is : Some rest ≡ inside folder key = ap (λ l. Some l) c.split_at.ensures.back ∙ c.in_ok-at.ensures.rest in
    let one : is_none (cut_last rest) ≡ true = sym c.if-not-is_one_part.ensures in
    c.ok.ensures.value ∙ parsed c.parse.result rest c.parse.ensures.ok (c.parse.ensures.exactly.1 (rest_is_path folder key rest path (sym is))) ∙ sym (listed_is folder key rest path is one)
