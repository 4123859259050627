-- What the answers of a begin say of the whole restore.
use Rattle.std.specs.Prelude.{◌≡◌, ◌↔◌, ℕ, List, Option, Some, Result, Ok, Err}
use Rattle.std.proofs.Common.{ap, subst}
use Rattle.lsm_disk.specs.State.{Story}
use Rattle.lsm_disk.specs.declared.calls.Halt.{Halt}
use Rattle.bk_restore.specs.declared.errors.RestoreError.{RestoreError}
use Rattle.bk_restore.specs.declared.errors.RestoreError.TheVariants.{DiskFault, DestFault, Halted, DestinationExists, Missing, Changed, WrongSize, Damaged, NoMemory}
use Rattle.bk_restore.specs.Refusals.{IsPastBegin}
use Rattle.bk_restore.specs.Restored.{TakesBy}

-- it is `Halted` exactly where this call halts
abbrev pub HaltsBy : {T : Type 0} → Option Halt → Halt → Result T RestoreError → Type 0
HaltsBy halt first r = (r ≡ Err (Halted first)) ↔ (halt ≡ Some first)

module _ (halt : Option Halt) (first : Halt) where
  pub halted_same : (e : RestoreError) → HaltsBy {T = Unit {0}} halt first (Err e) → HaltsBy {T = ℕ} halt first (Err e)
  halted_same e halts = (
    λ is. let same : e ≡ Halted first = cc in halts.0 (ap (λ (x : RestoreError). let r : Result (Unit {0}) RestoreError = Err x in r) same),
    λ is. let there = halts.1 is in let same : e ≡ Halted first = cc in ap (λ (x : RestoreError). let r : Result ℕ RestoreError = Err x in r) same,
  )

  never_halted : (e : RestoreError) → IsPastBegin e → e ≡ Halted first → ⊥
  never_halted e past is = subst IsPastBegin is past

  pub halted_past : (e : RestoreError) → IsPastBegin e → HaltsBy {T = Unit {0}} halt first (Ok tt) → HaltsBy {T = ℕ} halt first (Err e)
  halted_past e past halts = (λ is. let same : e ≡ Halted first = cc in absurd (never_halted e past same), λ is. let there = halts.1 is in cc)

  pub halted_ok : (value : ℕ) → HaltsBy {T = Unit {0}} halt first (Ok tt) → HaltsBy {T = ℕ} halt first (Ok value)
  halted_ok value halts = (λ is. cc, λ is. let there = halts.1 is in cc)

pub takes_same : (folder : List ℕ) (told : Option Story) (e : RestoreError) → TakesBy {T = Unit {0}} folder told (Err e) → TakesBy {T = ℕ} folder told (Err e)
takes_same folder told DiskFault is = tt
takes_same folder told DestFault is = tt
takes_same folder told (Halted first) is = tt
takes_same folder told (DestinationExists dir) is = is
takes_same folder told (Missing name) is = tt
takes_same folder told (Changed call path) is = tt
takes_same folder told (WrongSize name kept found) is = tt
takes_same folder told (Damaged name kept found) is = tt
takes_same folder told NoMemory is = tt

pub takes_past : (folder : List ℕ) (told : Option Story) (e : RestoreError) → IsPastBegin e → TakesBy {T = ℕ} folder told (Err e)
takes_past folder told DiskFault is = tt
takes_past folder told DestFault is = tt
takes_past folder told (Halted first) is = tt
takes_past folder told (DestinationExists dir) is = absurd is
takes_past folder told (Missing name) is = tt
takes_past folder told (Changed call path) is = tt
takes_past folder told (WrongSize name kept found) is = tt
takes_past folder told (Damaged name kept found) is = tt
takes_past folder told NoMemory is = tt
