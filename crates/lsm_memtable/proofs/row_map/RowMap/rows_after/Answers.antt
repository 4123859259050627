use Rattle.std.proofs.Common.{List, ◌≡◌, take, sym, ap, ◌∙◌, subst}
use Rattle.std.specs.Prelude.{Some, IfOk}
use Rattle.std.specs.Option.{option_map}
use Rattle.std.specs.declared.ops.Bound.TheVariants.{Included, Unbounded}
use Rattle.std.specs.BTreeMap.Range.{entries_between}
use Rattle.lsm_rows.specs.declared.rows.Row.{Row}
use Rattle.lsm_block.specs.Runs.{rows_after}
use Rattle.lsm_memtable.specs.Kept.{rows_in}
use Rattle.lsm_memtable.proofs.KeyRanges.{keys_cmp, from_none, after_from}
use Rattle.lsm_memtable.proofs.row_map.RowMap.rows_after.Goals as goal

pub returns-in-None : goal.returns-in-None
returns-in-None c =
    subst (λ l. IfOk c.copy_from-in-None.result (λ rows. rows ≡ take c.args.count (rows_after (option_map (λ key. key.now) c.args.after) l))) (ap rows_in (from_none c.self.inside.keys.entries) ∙ c.self.view_is)
    c.copy_from-in-None.ensures

pub returns-in_ok-start-in-Some : goal.returns-in_ok-start-in-Some
returns-in_ok-start-in-Some c =
    let es = c.self.inside.keys.entries in
    let start = c.in_ok-start-in-Some.start in
    let same : rows_after (option_map (λ key. key.now) c.args.after) (rows_in (entries_between keys_cmp (Included start) Unbounded es)) ≡ rows_after (option_map (λ key. key.now) c.args.after) c.args.self.now =
    ap (λ o. rows_after (option_map (λ key. key.now) o) (rows_in (entries_between keys_cmp (Included start) Unbounded es))) c.in-Some.is
    ∙ after_from c.in-Some.key.now start es (c.in_ok-start-in-Some.ensures.items ∙ c.user_key.ensures) c.self.invariant.each ∙ ap (λ (l : List Row). rows_after (Some c.in-Some.key.now) l) c.self.view_is
    ∙ sym (ap (λ o. rows_after (option_map (λ key. key.now) o) c.args.self.now) c.in-Some.is) in
    subst (λ (l : List Row). IfOk c.copy_from.result (λ rows. rows ≡ take c.args.count l)) same c.copy_from.ensures
