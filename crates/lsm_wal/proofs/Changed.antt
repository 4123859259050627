-- A log, as the disk changes.
use Rattle.std.specs.Prelude.{◌≡◌, ℕ, if◌then◌else◌, is_some, List, length, Option, Some, None}
use Rattle.std.proofs.Common.{ap, ◌∙◌, arith}
use Rattle.std.proofs.lemmas.List.{append-nil, take_all}
use Rattle.lsm_disk.specs.State.{State, Change, after, bytes_of, sure, file_synced}
use Rattle.lsm_disk.specs.Kept.{Spares}
use Rattle.lsm_disk.specs.Refusals.{no_file}
use Rattle.lsm_disk.specs.declared.calls.DiskError.TheVariants.{NotThere}
use Rattle.lsm_disk.proofs.Kept.{kept_at, kept_spared, kept_synced}
use Rattle.lsm_wal.specs.Batches.{Logged, wal_text}
use Rattle.lsm_wal.specs.Standing.{IsWal}

pub there : (s : State) (path : List ℕ) (batches : List Logged) (durable : ℕ) → IsWal s path batches durable → no_file path s ≡ None
there s path batches durable wal = ap (λ (id : Option ℕ). if is_some id then None else Some NotThere) (kept_at s path wal.id wal.file wal.kept)

pub untouched : (s : State) (path : List ℕ) (batches : List Logged) (durable : ℕ) (c : Change) → (wal : IsWal s path batches durable) → Spares path wal.id c → IsWal (after s c) path batches durable
untouched s path batches durable c wal spares = record {
  id = wal.id;
  file = wal.file;
  kept = kept_spared s path wal.id wal.file wal.kept c spares;
  text = wal.text;
  within = wal.within;
  synced = wal.synced;
  each = wal.each;
}

pub synced : (s : State) (path : List ℕ) (batches : List Logged) (durable : ℕ) → IsWal s path batches durable → IsWal (after s (file_synced path s)) path batches (length batches)
synced s path batches durable wal = record {
  id = wal.id;
  file = sure wal.file;
  kept = kept_synced s path wal.id wal.file wal.kept;
  text = append-nil (bytes_of wal.file) ∙ wal.text;
  within = omega arith;
  synced = omega (arith, ap length wal.text, ap (λ (bs : List Logged). length (wal_text bs)) (take_all (length batches) batches (omega arith)));
  each = wal.each;
}
