use Rattle.std.proofs.Common.{◌≡◌, sym, ap, ◌∙◌, true, rules, ℕ, List}
use Rattle.std.specs.FinMap as finmap
use Rattle.lsm_recover.specs.Gathered.{Gathered, with_row}
use Rattle.lsm_recover.proofs.GatheredLemmas.{sequences_put, sequences_of, row_counts}
use Rattle.lsm_recover.proofs.newest.NewestRows.add.Goals as goal

pub returns : goal.returns
returns c =
    let row = c.args.row.now in
    let inside : Gathered = record { contents = c.self.inside.contents; sequences = sequences_of c.self.inside.sequences.entries } in
    let counts : c.is_newer.result ≡ true = search rules in
    let put = sequences_put c.self.inside.sequences.entries c.insert.new.self.entries c.in_ok-key.key row.sequence c.in_ok-insert.ensures.entries in
    let keyed : finmap.insert inside.sequences c.in_ok-key.key row.sequence ≡ finmap.insert inside.sequences row.key row.sequence = ap (λ (k : List ℕ). finmap.insert inside.sequences k row.sequence) c.in_ok-key.ensures in
    (λ i. record { contents = c.in_ok-set_value.ensures i; sequences = (put ∙ keyed) i })
    ∙ sym (row_counts inside row (sym c.is_newer.ensures ∙ counts))
    ∙ ap (λ (g : Gathered). with_row g row) c.self.view_is
