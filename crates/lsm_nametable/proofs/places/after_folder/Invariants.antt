use Rattle.std.proofs.Common.{◌≡◌, ◌≤◌, drop, length}
use Rattle.lsm_disk.specs.Names.{under}
use Rattle.lsm_nametable.proofs.places.after_folder.Given as goal

abbrev pub invariant-loop-byte : goal.invariant-loop-byte
invariant-loop-byte l = record {
  counted : l.at ≡ l.byte-index;
  within : l.at ≤ length l.path;
  rest : under (drop l.byte-index l.folder) (drop l.at l.path) ≡ under l.folder l.path;
}
