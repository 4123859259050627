-- What is seen of a view of a disk in memory.
use Rattle.std.specs.Prelude.{ℕ, ◌+◌, ◌-◌, ◌^◌, ◌==◌, min, if◌then◌else◌, List, length, Some, refl}
use Rattle.std.specs.Coded.{Coded, code_by, coded×, coded_ℕ, coded_list}
use Rattle.lsm_disk.specs.Viewed.{Viewed, coded_viewed}

pub record Shown : Type 0 where
  pub viewed : Viewed
  -- the reads that are to fail, counted from 1
  pub fails : List ℕ
  -- how many reads there were, and how many of them began at place 0
  pub reads : ℕ
  pub starts : ℕ

abbrev pub coded_view : Coded Shown
coded_view =
    code_by (Viewed × (List ℕ × (ℕ × ℕ))) (coded× coded_viewed (coded× (coded_list coded_ℕ) (coded× coded_ℕ coded_ℕ)))
    (λ v. (v.viewed, (v.fails, (v.reads, v.starts)))) (λ p. record {
      viewed = p.0;
      fails = p.1.0;
      reads = p.1.1.0;
      starts = p.1.1.1;
    }) (λ _. refl)

abbrev pub new_view : List ℕ → List ℕ → Shown
new_view bytes fails = record {
  viewed = record { bytes = Some bytes; len = length bytes; faults = 0 };
  fails = fails;
  reads = 0;
  starts = 0;
}

-- the number of the read that comes next; it stays at its last value
abbrev pub next_read : Shown → ℕ
next_read v = min (v.reads + 1) (2 ^ 64 - 1)

abbrev pub read_starts : ℕ → ℕ → ℕ
read_starts starts at = if at == 0 then min (starts + 1) (2 ^ 64 - 1) else starts
