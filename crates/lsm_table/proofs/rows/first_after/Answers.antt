use Rattle.std.proofs.Common.{ℕ, refl, ap, ◌∙◌, length, take}
use Rattle.std.specs.Option.{option_map}
use Rattle.lsm_table.proofs.AfterKeys.{first_cut}
use Rattle.lsm_table.proofs.rows.first_after.Goals as goal

pub returns : goal.returns
returns c =
    first_cut (option_map (λ k. k.now) c.args.after) c.args.entries.now c.split_at.result.1.now c.split_at-2.result.0.now c.count_up_to.result c.args.most (length c.split_at.result.1.now) c.count_up_to.ensures c.split_at.ensures.back refl
    (c.split_at-2.ensures.front ∙ ap (λ (n : ℕ). take n c.split_at.result.1.now) c.min.ensures)
