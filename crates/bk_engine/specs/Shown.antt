-- What contracts see of an engine.
use Rattle.std.specs.Prelude.{◌≡◌, ℕ, List, Option, refl}
use Rattle.std.specs.Coded.{Coded, code_by, coded×, coded_ℕ, coded_list, coded_option}
use Rattle.lsm_disk.specs.State.{Seen}
use Rattle.lsm_disk.specs.Codes.{coded_seen, coded_bytes}
use Rattle.lsm_disk.specs.CallCodes.{coded_halt}
use Rattle.lsm_disk.specs.declared.calls.Halt.{Halt}
use Rattle.bk_meta.specs.declared.metas.MetaFile.{MetaFile}
use Rattle.bk_meta.specs.declared.metas.Meta.{Meta}

-- What is seen of the disk, the metas of the backups by rising identifiers, the greatest identifier that was given, and the
-- disk call that halted the engine.
pub record Shown : Type 0 where
  pub disk : Seen
  pub metas : List Meta
  pub given : ℕ
  pub halt : Option Halt

-- ---- its code

abbrev pub coded_file : Coded MetaFile
coded_file = code_by (List ℕ × ℕ) (coded× coded_bytes coded_ℕ) (λ f. (f.path, f.crc)) (λ p. record { path = p.0; crc = p.1 }) (λ _. refl)

abbrev pub coded_meta : Coded Meta
coded_meta =
    code_by (ℕ × (ℕ × (ℕ × (List ℕ × List MetaFile)))) (coded× coded_ℕ
    (coded× coded_ℕ (coded× coded_ℕ (coded× coded_bytes (coded_list coded_file)))))
    (λ m. (m.id, (m.timestamp, (m.sequence, (m.metadata, m.files)))))
    (λ p. record { id = p.0; timestamp = p.1.0; sequence = p.1.1.0; metadata = p.1.1.1.0; files = p.1.1.1.1 }) (λ _. refl)

abbrev pub coded_shown : Coded Shown
coded_shown =
    code_by (Seen × (List Meta × (ℕ × Option Halt))) (coded× coded_seen
    (coded× (coded_list coded_meta) (coded× coded_ℕ (coded_option coded_halt))))
    (λ s. (s.disk, (s.metas, (s.given, s.halt)))) (λ p. record { disk = p.0; metas = p.1.0; given = p.1.1.0; halt = p.1.1.1 }) (λ _. refl)
