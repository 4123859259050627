-- What a plain store answers once it is halted.
use Rattle.std.specs.Prelude.{◌≡◌, ℕ, Bool, List, [], ◌∷◌, length, Some, Err}
use Rattle.std.proofs.Common.{refl, ap}
use Rattle.std.specs.Option.{option_map}
use Rattle.lsm_rows.specs.declared.operations.Op.{Op}
use Rattle.lsm_disk.specs.declared.calls.Halt.{Halt}
use Rattle.lsm_model.specs.declared.errors.StoreError.TheVariants.{Halted}
use Rattle.lsm_model.specs.declared.events.Which.{Which}
use Rattle.lsm_model.specs.declared.cuts.FlushRule.{FlushRule}
use Rattle.lsm_model.specs.declared.states.State.{State}
use Rattle.lsm_model.specs.Causes.{halted, sequence_full, pins_full, under_way}
use Rattle.lsm_model.specs.Answers.{Refused, Usual}
use Rattle.lsm_model.specs.Writes.{Writes, SyncsLog}
use Rattle.lsm_model.specs.Upkeep as upkeep
use Rattle.lsm_model.specs.Pins.{Cuts, ListsFiles}
use Rattle.lsm_model.specs.Checkpoints as checkpoints
use Rattle.lsm_model.specs.Checkpoints.{BeginsCheckpoint}
use Rattle.lsm_model.proofs.PlainLemmas.{first_halted}

module _ (s : State) (first : Halt) (halts : s.halt ≡ Some first) where
  is : halted s ≡ Some (Halted first)
  is = ap (option_map Halted) halts

  pub write_halted : (ops : List Op) (sync : Bool) → Writes s ops sync (Err (Halted first)) s
  write_halted ops sync = Refused (Halted first) refl (first_halted s (sequence_full (length ops) s ∷ []) (Halted first) is) refl

  pub sync_halted : SyncsLog s (Err (Halted first)) s
  sync_halted = Refused (Halted first) refl is refl

  pub freeze_halted : upkeep.Freezes s (Err (Halted first)) s
  freeze_halted = Refused (Halted first) refl (first_halted s (upkeep.no_number_for_log (upkeep.can_freeze s) s ∷ []) (Halted first) is) refl

  pub flush_halted : upkeep.StepsFlush s (Err (Halted first)) s
  flush_halted = upkeep.Usual (Refused (Halted first) refl is refl)

  pub compact_halted : (which : Which) → upkeep.BeginsCompaction s which (Err (Halted first)) s
  compact_halted which = Refused (Halted first) refl is refl

  pub merge_halted : (rows : ℕ) → upkeep.StepsCompaction s rows (Err (Halted first)) s
  merge_halted rows = upkeep.Usual (Refused (Halted first) refl is refl)

  pub delete_halted : upkeep.Deletes s (Err (Halted first)) s
  delete_halted = Refused (Halted first) refl is refl

  pub cut_halted : (by : FlushRule) → Cuts s by (Err (Halted first)) s
  cut_halted by = Usual (Refused (Halted first) refl (first_halted s (pins_full s ∷ []) (Halted first) is) refl)

  pub list_halted : (flush : Bool) → ListsFiles s flush (Err (Halted first)) s
  list_halted flush = Usual (Refused (Halted first) refl is refl)

  pub checkpoint_halted : (dir : List ℕ) (size : ℕ) → BeginsCheckpoint s dir size (Err (Halted first)) s
  checkpoint_halted dir size = checkpoints.Refused (Halted first) refl (first_halted s (under_way dir s ∷ pins_full s ∷ []) (Halted first) is) refl
