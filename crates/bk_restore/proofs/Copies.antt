-- What a copy into the file in hand leaves, and a view that is read whole.
use Rattle.std.specs.Prelude.{◌≡◌, ℕ, List, [], length, take, drop, Option, IfSome, Err}
use Rattle.std.proofs.Common.{refl, ap, subst, ◌∙◌, arith}
use Rattle.std.proofs.lemmas.List.{take_all}
use Rattle.lsm_bytes.specs.Checksum.{crc32c}
use Rattle.lsm_disk.specs.State.{new_file, longer}
use Rattle.lsm_disk.specs.Viewed.{Viewed}
use Rattle.lsm_disk.specs.Dest.{DestSeen}
use Rattle.lsm_disk.specs.Building.{IsUnfinished}
use Rattle.lsm_disk.specs.declared.dest.DestError.{DestError}
use Rattle.lsm_disk.specs.declared.dest.DestError.TheVariants.{Fault, Halted, Exists, Changed, NoMemory}
use Rattle.bk_copy.specs.Copying.{StopsBy}
use Rattle.bk_copy.specs.declared.copying.CopyError.{CopyError}
use Rattle.bk_copy.specs.declared.copying.CopyError.TheVariants as errors
use Rattle.bk_copy.specs.InHand.{Fills, HasGained, HasStopped}
use Rattle.bk_copy.proofs.Hands.{unwritten}
use Rattle.bk_restore.specs.Causes.{HasCauses, counts_of}
use Rattle.bk_restore.specs.Refusals.{dest_answer, IsOfCopying}
use Rattle.bk_restore.specs.Sources.{IsCopyOf, IsSameView}
use Rattle.bk_restore.proofs.Causes.{dest_caused}

-- what has got some bytes leaves the folder without its `CURRENT`
pub gained_unfinished : (first : DestSeen) (text : List ℕ) (now : DestSeen) → HasGained first text now → Fills first now (λ start begun parts name. IsUnfinished start begun.folder)
gained_unfinished first text now gained start story begun parts name tells hand is = unwritten start begun parts name (longer text new_file) (gained.went start story begun parts name tells hand is)

-- so does a copy that was made
pub made_unfinished : {A : List ℕ → Type 0} {L : Type 0} (first now : DestSeen) → ((text : List ℕ) × A text × (HasGained first text now × L)) → Fills first now (λ start begun parts name. IsUnfinished start begun.folder)
made_unfinished first now made = gained_unfinished first made.0 now made.2.0

-- how a copy into the file in hand stopped
abbrev pub CopyStops : DestSeen → DestSeen → Type 0 → (List ℕ → Type 0) → Type 0 → CopyError DestError → Type 0
CopyStops first now R A L why = StopsBy (λ e. HasStopped first now e × L) R ((text : List ℕ) × A text × (HasGained first text now × L)) (HasGained first [] now × L) why

-- so does one that stopped
pub stops_unfinished : (R : Type 0) (A : List ℕ → Type 0) (L : Type 0) (first now : DestSeen) (why : CopyError DestError) → CopyStops first now R A L why → Fills first now (λ start begun parts name. IsUnfinished start begun.folder)
stops_unfinished R A L first now (errors.Refused e) stops = stops.0.went
stops_unfinished R A L first now errors.Source stops = gained_unfinished first stops.1.0 now stops.1.2.0
stops_unfinished R A L first now errors.NoMemory stops = gained_unfinished first [] now stops.0

-- how a refused piece is answered
stopped_kind : (first now : DestSeen) (dir : List ℕ) (e : DestError) → HasStopped first now e → IsOfCopying (dest_answer dir e)
stopped_kind first now dir Fault stopped = tt
stopped_kind first now dir (Halted halt) stopped = absurd (stopped.going halt refl)
stopped_kind first now dir Exists stopped = absurd (stopped.new refl)
stopped_kind first now dir (Changed call path) stopped = tt
stopped_kind first now dir NoMemory stopped = tt

pub stops_kind : (R : Type 0) (A : List ℕ → Type 0) (L : Type 0) (first now : DestSeen) (dir : List ℕ) (why : CopyError DestError) (e : DestError) → why ≡ errors.Refused e → CopyStops first now R A L why
    → IsOfCopying (dest_answer dir e)
stops_kind R A L first now dir why e is stops = stopped_kind first now dir e (subst (CopyStops first now R A L) is stops).0

pub stops_causes : {T : Type 0} (R : Type 0) (A : List ℕ → Type 0) (L : Type 0) (old new : Viewed) (first now : DestSeen) (dir : List ℕ) (why : CopyError DestError) (e : DestError) → why ≡ errors.Refused e
    → IsSameView old new → CopyStops first now R A L why → HasCauses {T = T} (counts_of old) (counts_of new) first.disk now.disk (Err (dest_answer dir e))
stops_causes R A L old new first now dir why e is same stops =
    dest_caused first.disk now.disk (counts_of old) (counts_of new) dir e (record { faults = same.later; refusals = omega arith }) (subst (CopyStops first now R A L) is stops).0.cause

-- all bytes of a view
pub whole_copied : (v : Viewed) (crc n : ℕ) (text front : List ℕ) → n ≡ v.len → length front ≡ n → text ≡ front → crc ≡ crc32c text → IfSome v.bytes (λ bytes. front ≡ take n (drop 0 bytes)) → IsCopyOf v crc text
whole_copied v crc n text front is long same sum read = record {
  sum = sum;
  long = ap length same ∙ long ∙ is;
  same = λ bytes told whole.
      same ∙ subst (λ (o : Option (List ℕ)). IfSome o (λ b. front ≡ take n (drop 0 b))) told read ∙ take_all n bytes (omega (arith, whole, is));
}
