use Rattle.std.proofs.Common.{arith, sym, subst}
use Rattle.std.specs.Prelude.{ℕ, List}
use Rattle.lsm_names.specs.declared.file_names.FileName.{FileName}
use Rattle.lsm_recover.specs.Listed.{next_number}
use Rattle.lsm_recover.specs.Site.{AreNumbered}
use Rattle.lsm_recover.proofs.SiteLemmas.{listed_numbered}
use Rattle.lsm_recover.proofs.site.site_in.Goals as goal

pub returns-clause-numbered : goal.returns-clause-numbered
returns-clause-numbered c =
    let entries = c.args.entries.now in
    subst (λ (next : ℕ). AreNumbered c.in_ok-names.names next) (sym c.next_number-next.ensures)
    (subst (λ (names : List FileName). AreNumbered names (next_number 1 entries)) (sym c.in_ok-names.ensures)
    (listed_numbered 1 entries (omega arith) (omega arith)))
