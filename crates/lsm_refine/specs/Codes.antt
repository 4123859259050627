-- Codes of what is seen of a store, by which it may be a model's value.
use Rattle.std.specs.Prelude.{ℕ, Bool, List, Option, refl}
use Rattle.std.specs.Ordering.{nat_cmp}
use Rattle.std.specs.Coded.{Coded, code_by, coded×, coded_ℕ, coded_bool, coded_list, coded_option}
use Rattle.std.specs.FinMap as finmap
use Rattle.lsm_names.specs.declared.file_names.FileName.{FileName}
use Rattle.lsm_names.specs.Codes.{coded_name}
use Rattle.lsm_rows.specs.declared.rows.Row.{Row}
use Rattle.lsm_disk.specs.State.{Seen}
use Rattle.lsm_disk.specs.Dest.{Begun}
use Rattle.lsm_disk.specs.Viewed.{Viewed, coded_viewed}
use Rattle.lsm_disk.specs.Codes.{coded_seen, coded_bytes}
use Rattle.lsm_disk.specs.CallCodes.{coded_halt}
use Rattle.lsm_disk.specs.declared.calls.Halt.{Halt}
use Rattle.lsm_version.specs.declared.tables.Place.{Place}
use Rattle.lsm_version.specs.Levels.{Tables}
use Rattle.lsm_version.specs.Versions.{coded_tables}
use Rattle.lsm_refine.specs.Kept.{Job, KeptPin, Unfinished, Flushing, Kept, Shown}

-- ---- what a store keeps

abbrev pub coded_row : Coded Row
coded_row =
    code_by (List ℕ × (ℕ × Option (List ℕ))) (coded× coded_bytes (coded× coded_ℕ (coded_option coded_bytes)))
    (λ r. (r.key, (r.sequence, r.value))) (λ p. record { key = p.0; sequence = p.1.0; value = p.1.1 }) (λ _. refl)

abbrev pub coded_place : Coded Place
coded_place = code_by (ℕ × ℕ) (coded× coded_ℕ coded_ℕ) (λ p. (p.level, p.number)) (λ p. record { level = p.0; number = p.1 }) (λ _. refl)

abbrev pub coded_views : Coded (finmap.FinMap nat_cmp Viewed)
coded_views = finmap.code coded_ℕ coded_viewed

abbrev pub coded_job : Coded Job
coded_job =
    code_by (List ℕ × (ℕ × (Bool × ℕ))) (coded× coded_bytes (coded× coded_ℕ (coded× coded_bool coded_ℕ)))
    (λ j. (j.dir, (j.left, (j.made, j.copied))))
    (λ p. record { dir = p.0; left = p.1.0; made = p.1.1.0; copied = p.1.1.1 }) (λ _. refl)

abbrev pub coded_pin : Coded KeptPin
coded_pin =
    code_by (ℕ × (ℕ × (ℕ × (List (FileName × ℕ) × Option Job))))
    (coded× coded_ℕ (coded× coded_ℕ (coded× coded_ℕ (coded× (coded_list (coded× coded_name coded_ℕ)) (coded_option coded_job)))))
    (λ p. (p.number, (p.sequence, (p.manifest, (p.files, p.job)))))
    (λ p. record { number = p.0; sequence = p.1.0; manifest = p.1.1.0; files = p.1.1.1.0; job = p.1.1.1.1 }) (λ _. refl)

abbrev pub coded_unfinished : Coded Unfinished
coded_unfinished = code_by (ℕ × List ℕ) (coded× coded_ℕ coded_bytes) (λ u. (u.number, u.bytes))
    (λ p. record { number = p.0; bytes = p.1 }) (λ _. refl)

abbrev pub coded_begun : Coded Begun
coded_begun = code_by (List ℕ × List FileName) (coded× coded_bytes (coded_list coded_name)) (λ b. (b.folder, b.names))
    (λ p. record { folder = p.0; names = p.1 }) (λ _. refl)

-- the tables and what is read of them
abbrev pub Live : Type 0
Live = Tables × (finmap.FinMap nat_cmp Viewed × (ℕ × ℕ))

-- the last sequence, the rows in memory, and their logs with their lengths
abbrev pub Written : Type 0
Written = ℕ × (List Row × (List Row × (List ℕ × (ℕ × ℕ))))

-- the numbers and the names of files
abbrev pub Files : Type 0
Files = ℕ × (ℕ × (ℕ × List FileName))

abbrev pub Pins : Type 0
Pins = List KeptPin × (ℕ × ℕ)

abbrev pub UnderWay : Type 0
UnderWay = (Flushing × List Unfinished) × (((Option (List Place) × ℕ) × (ℕ × ℕ)) × (Option Begun × Option FileName))

abbrev pub coded_live : Coded Live
coded_live = coded× coded_tables (coded× coded_views (coded× coded_ℕ coded_ℕ))

abbrev pub coded_written : Coded Written
coded_written =
    coded× coded_ℕ (coded× (coded_list coded_row) (coded× (coded_list coded_row) (coded× (coded_list coded_ℕ) (coded× coded_ℕ coded_ℕ))))

abbrev pub coded_files : Coded Files
coded_files = coded× coded_ℕ (coded× coded_ℕ (coded× coded_ℕ (coded_list coded_name)))

abbrev pub coded_pins : Coded Pins
coded_pins = coded× (coded_list coded_pin) (coded× coded_ℕ coded_ℕ)

abbrev pub coded_flushing : Coded Flushing
coded_flushing = code_by (ℕ × Option ℕ) (coded× coded_ℕ (coded_option coded_ℕ)) (λ f. (f.taken, f.table))
    (λ p. record { taken = p.0; table = p.1 }) (λ _. refl)

abbrev pub coded_under_way : Coded UnderWay
coded_under_way =
    coded× (coded× coded_flushing (coded_list coded_unfinished))
    (coded× (coded× (coded× (coded_option (coded_list coded_place)) coded_ℕ) (coded× coded_ℕ coded_ℕ))
    (coded× (coded_option coded_begun) (coded_option coded_name)))

abbrev pub Parts : Type 0
Parts = Live × (Written × (Files × (Pins × UnderWay)))

abbrev pub parts_of : Kept → Parts
parts_of k = (
  (k.version, (k.views, (k.log, k.last))),
  (
    (k.sequence, (k.active, (k.frozen, (k.logs, (k.log_len, k.older_len))))),
    (
      (k.manifest, (k.manifest_len, (k.next, k.known))),
      (
        (k.pins, (k.greatest_pin, k.disables)),
        ((k.flushing, k.unfinished), (((k.merging, k.merge_level), (k.outputs, k.merged)), (k.begun, k.hand))),
      ),
    ),
  ),
)

abbrev pub kept_of : Parts → Kept
kept_of p = record {
  version = p.0.0;
  views = p.0.1.0;
  log = p.0.1.1.0;
  last = p.0.1.1.1;
  sequence = p.1.0.0;
  active = p.1.0.1.0;
  frozen = p.1.0.1.1.0;
  logs = p.1.0.1.1.1.0;
  log_len = p.1.0.1.1.1.1.0;
  older_len = p.1.0.1.1.1.1.1;
  manifest = p.1.1.0.0;
  manifest_len = p.1.1.0.1.0;
  next = p.1.1.0.1.1.0;
  known = p.1.1.0.1.1.1;
  pins = p.1.1.1.0.0;
  greatest_pin = p.1.1.1.0.1.0;
  disables = p.1.1.1.0.1.1;
  flushing = p.1.1.1.1.0.0;
  unfinished = p.1.1.1.1.0.1;
  merging = p.1.1.1.1.1.0.0.0;
  merge_level = p.1.1.1.1.1.0.0.1;
  outputs = p.1.1.1.1.1.0.1.0;
  merged = p.1.1.1.1.1.0.1.1;
  begun = p.1.1.1.1.1.1.0;
  hand = p.1.1.1.1.1.1.1;
}

abbrev pub coded_kept : Coded Kept
coded_kept = code_by Parts (coded× coded_live (coded× coded_written
    (coded× coded_files (coded× coded_pins coded_under_way)))) parts_of kept_of (λ _. refl)

abbrev pub coded_shown : Coded Shown
coded_shown =
    code_by (Seen × (List ℕ × (Kept × Option Halt))) (coded× coded_seen (coded× coded_bytes (coded× coded_kept (coded_option coded_halt))))
    (λ s. (s.disk, (s.dir, (s.kept, s.halt)))) (λ p. record { disk = p.0; dir = p.1.0; kept = p.1.1.0; halt = p.1.1.1 }) (λ _. refl)
