-- What a stop answers, and what halts; and identifiers that rise.
use Rattle.std.specs.Prelude.{◌≡◌, ℕ, ◌+◌, ◌<◌, ◌≤◌, List, [], ◌∷◌, ◌++◌, Option, Some, None}
use Rattle.std.proofs.Common.{refl, sym, subst, arith}
use Rattle.lsm_disk.specs.Answers.{HasRisen}
use Rattle.lsm_disk.specs.declared.calls.Halt.{Halt}
use Rattle.lsm_disk.specs.declared.calls.DiskError.{DiskError}
use Rattle.lsm_disk.specs.declared.calls.DiskError.TheVariants.{Fault, NotThere, Exists, NoLinks, NotEmpty, Short, NoMemory}
use Rattle.bk_meta.specs.declared.metas.Meta.{Meta}
use Rattle.bk_engine.specs.Shown.{Shown}
use Rattle.bk_engine.specs.Creating.{error_by, error_of, halt_by, halt_of}
use Rattle.bk_engine.specs.Stopping.{HasStopped}
use Rattle.bk_engine.specs.Answering.{HasRefused, IsLeftBy, HaltsBy, RiseBetween}
use Rattle.bk_engine.specs.declared.stopping.Stop.{Stop}
use Rattle.bk_engine.specs.declared.stopping.Stop.TheVariants as stops

refused_by : (old new : Shown) (before later : ℕ) (at : Halt) (why : DiskError) → HasRisen old.disk new.disk why → HasRefused old new before later (error_by at why)
refused_by old new before later at Fault rose = rose
refused_by old new before later at NotThere rose = rose
refused_by old new before later at Exists rose = rose
refused_by old new before later at NoLinks rose = rose
refused_by old new before later at NotEmpty rose = rose
refused_by old new before later at (Short found) rose = rose
refused_by old new before later at NoMemory rose = tt

pub refused_cause : (old new : Shown) (before later : ℕ) (s : Stop) → HasStopped old.disk new.disk before later s → HasRefused old new before later (error_of s)
refused_cause old new before later (stops.Refused refusal) rose = refused_by old new before later refusal.at refusal.why rose
refused_cause old new before later stops.Source rose = rose
refused_cause old new before later stops.NoMemory rose = tt

left_by : (old new : Shown) (at : Halt) (why : DiskError) → new.given ≡ old.given + 1 → IsLeftBy old new (error_by at why)
left_by old new at Fault is = is
left_by old new at NotThere is = is
left_by old new at Exists is = is
left_by old new at NoLinks is = is
left_by old new at NotEmpty is = is
left_by old new at (Short found) is = is
left_by old new at NoMemory is = is

-- a creation that stopped has used its identifier up
pub left_after : (old new : Shown) (s : Stop) → new.given ≡ old.given + 1 → IsLeftBy old new (error_of s)
left_after old new (stops.Refused refusal) is = left_by old new refusal.at refusal.why is
left_after old new stops.Source is = is
left_after old new stops.NoMemory is = is

halts_by : (at : Halt) (why : DiskError) → HaltsBy None (halt_by at why) (error_by at why)
halts_by at Fault = refl
halts_by at NotThere = refl
halts_by at Exists = refl
halts_by at NoLinks = refl
halts_by at NotEmpty = refl
halts_by at (Short found) = refl
halts_by at NoMemory = refl

pub halted_by : (s : Stop) → HaltsBy None (halt_of s) (error_of s)
halted_by (stops.Refused refusal) = halts_by refusal.at refusal.why
halted_by stops.Source = refl
halted_by stops.NoMemory = refl

-- ---- identifiers

-- the bound is moved up
pub rise_further : (low high more : ℕ) (metas : List Meta) → high ≤ more → RiseBetween low high metas → RiseBetween low more metas
rise_further low high more [] le rise = omega (arith, le, rise)
rise_further low high more (meta ∷ metas) le rise = (rise.0, rise_further meta.id high more metas le rise.1)

-- the next identifier
pub rise_on : (low high : ℕ) (metas : List Meta) (new : Meta) → high < new.id → RiseBetween low high metas → RiseBetween low new.id (metas ++ new ∷ [])
rise_on low high [] new lt rise = (omega (arith, lt, rise), omega arith)
rise_on low high (meta ∷ metas) new lt rise = (rise.0, rise_on meta.id high metas new lt rise.1)

-- after a backup was made, and after none was
pub rise_made : (given : ℕ) (metas later : List Meta) (new : Meta) → new.id ≡ given + 1 → later ≡ metas ++ new ∷ [] → RiseBetween 0 given metas → RiseBetween 0 (given + 1) later
rise_made given metas later new is same rise =
    subst (RiseBetween 0 (given + 1)) (sym same) (subst (λ (n : ℕ). RiseBetween 0 n (metas ++ new ∷ [])) is (rise_on 0 given metas new (omega (arith, is)) rise))

pub rise_same : (given : ℕ) (metas later : List Meta) → later ≡ metas → RiseBetween 0 given metas → RiseBetween 0 (given + 1) later
rise_same given metas later same rise = subst (RiseBetween 0 (given + 1)) (sym same) (rise_further 0 given (given + 1) metas (omega arith) rise)
