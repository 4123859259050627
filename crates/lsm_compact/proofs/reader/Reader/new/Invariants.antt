use Rattle.std.proofs.Common.{◌≡◌, length, take}
use Rattle.lsm_compact.proofs.Given.{started}
use Rattle.lsm_compact.proofs.Readers.{AreFresh}
use Rattle.lsm_compact.proofs.reader.Reader.new.Given as goal

abbrev pub invariant-loop-place : goal.invariant-loop-place
invariant-loop-place l = record {
  count : length l.readings.items ≡ l.place-index;
  readings : l.readings.items ≡ started (take l.place-index l.places);
  sources : length l.sources.items ≡ l.place-index;
  fresh : AreFresh l.sources.items;
}
