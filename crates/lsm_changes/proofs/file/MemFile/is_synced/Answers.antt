use Rattle.std.proofs.Common.{◌≡◌, ◌∙◌, ap, ℕ, zero, suc, ◌≤◌, List, [], ◌∷◌, length, drop, nat_eq, refl, arith, rules}
use Rattle.std.proofs.lemmas.Bool.Decides.{nat_tests}
use Rattle.lsm_changes.specs.Files.{is_empty}
use Rattle.lsm_changes.proofs.file.MemFile.is_synced.Goals as goal

all_synced : (n : ℕ) (xs : List ℕ) → n ≤ length xs → nat_eq n (length xs) ≡ is_empty (drop n xs)
all_synced zero [] le = refl
all_synced zero (x ∷ xs) le = grind (arith, nat_tests)
all_synced (suc n) [] le = absurd (omega arith)
all_synced (suc n) (x ∷ xs) le = step n (length xs) ∙ all_synced n xs (omega (arith, le)) where
  step : (m k : ℕ) → nat_eq (suc m) (suc k) ≡ nat_eq m k
  step m k = grind (arith, nat_tests)

pub returns : goal.returns
returns c =
    let long : c.len.result ≡ length c.self.inside.bytes.items = search rules in
    ap (nat_eq c.self.inside.synced) long ∙ all_synced c.self.inside.synced c.self.inside.bytes.items c.self.invariant ∙ ap (λ f. is_empty f.unsynced) c.self.view_is
