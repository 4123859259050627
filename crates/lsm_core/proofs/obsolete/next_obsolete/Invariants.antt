use Rattle.std.specs.Prelude.{None, IfSome}
use Rattle.std.proofs.Common.{◌≡◌, take}
use Rattle.lsm_names.specs.FileNames.{IsFileName}
use Rattle.lsm_core.specs.Obsolete.{first_unused}
use Rattle.lsm_core.proofs.obsolete.next_obsolete.Given as goal

abbrev pub invariant-loop-name : goal.invariant-loop-name
invariant-loop-name g l = record {
  is : l.first ≡ first_unused l.catalog l.manifest l.writing None (take l.name-index l.known);
  fit : IfSome l.first IsFileName;
}
