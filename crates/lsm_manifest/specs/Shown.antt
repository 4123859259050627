-- What contracts see of a manifest.
use Rattle.std.specs.Prelude.{ℕ, List, refl}
use Rattle.std.specs.Coded.{Coded, code_by, coded×, coded_ℕ}
use Rattle.lsm_disk.specs.Codes.{coded_bytes}

-- its folder, its number, the path of its file, and how many bytes its edits have there
pub record Shown : Type 0 where
  pub dir : List ℕ
  pub number : ℕ
  pub path : List ℕ
  pub len : ℕ

abbrev pub coded_shown : Coded Shown
coded_shown =
    code_by (List ℕ × (ℕ × (List ℕ × ℕ))) (coded× coded_bytes (coded× coded_ℕ (coded× coded_bytes coded_ℕ)))
    (λ s. (s.dir, (s.number, (s.path, s.len))))
    (λ p. record { dir = p.0; number = p.1.0; path = p.1.1.0; len = p.1.1.1 }) (λ _. refl)
