-- What contracts see of a log.
use Rattle.std.specs.Prelude.{ℕ, List, refl}
use Rattle.std.specs.Coded.{Coded, code_by, coded×, coded_ℕ}
use Rattle.lsm_disk.specs.Codes.{coded_bytes}

-- the path of its file, and how many bytes its batches have there
pub record Shown : Type 0 where
  pub path : List ℕ
  pub len : ℕ

abbrev pub coded_shown : Coded Shown
coded_shown = code_by (List ℕ × ℕ) (coded× coded_bytes coded_ℕ) (λ s. (s.path, s.len)) (λ p. record { path = p.0; len = p.1 }) (λ _. refl)
