-- What each call of a copy leaves.
use Rattle.std.specs.Prelude.{◌≡◌, ℕ, ◌≤◌, List, [], length, Option, Some, None, IfSome, Result, Ok, Err}
use Rattle.std.proofs.Common.{refl, sym, subst, arith}
use Rattle.lsm_disk.specs.State.{State, Story, Seen, after, state_of, new_file, longer, created, file_synced}
use Rattle.lsm_disk.specs.Kept.{IsFileNow}
use Rattle.lsm_disk.specs.Answers.{Makes, LeftBy, Allowed, HasRisen}
use Rattle.lsm_disk.specs.Refusals.{no_room}
use Rattle.lsm_disk.specs.Tree.{IsLawful}
use Rattle.lsm_disk.proofs.Lawful.{lawful_synced}
use Rattle.lsm_disk.specs.declared.calls.DiskError.{DiskError}
use Rattle.lsm_disk.proofs.Named.{created_now, now_synced, syncs_in_now}
use Rattle.lsm_disk.proofs.Runs.{state_push, went_then, went_weaker, went_ok, went_err}
use Rattle.lsm_publish.specs.Publishing.{Writes}
use Rattle.lsm_publish.proofs.Olds.{file_writes}
use Rattle.bk_copy.specs.Counts.{AreLater}
use Rattle.bk_copy.specs.Copying.{StopsBy}
use Rattle.bk_copy.specs.declared.copying.CopyError.{CopyError}
use Rattle.bk_copy.specs.declared.copying.CopyError.TheVariants as errors
use Rattle.bk_copy.specs.OnDisk.{Fills, HasGained}
use Rattle.bk_copy.specs.OnDisk as copies
use Rattle.bk_copy.proofs.Files.{Came, begins}
pub use Rattle.bk_copy.proofs.Files.{forgets}
use Rattle.bk_engine.specs.Copying.{Whatever, IsFilled, IsSealed}
use Rattle.bk_engine.specs.Stopping.{HasStopped, HasStopCause}
use Rattle.bk_engine.specs.declared.stopping.Stop.{Stop}
use Rattle.lsm_publish.proofs.Answering.{shows_anything}

kind_sync : (path : List ℕ) (id : ℕ) (text : List ℕ) (s : State) → IsFilled path id text s → Writes path id (file_synced path s)
kind_sync path id text s now = file_writes path id (file_synced path s) (syncs_in_now s path id (longer text new_file) now)

module _ (path : List ℕ) (id : ℕ) {start : Story} where
  module _ {old new : Option Story} where
    pub syncs : (text : List ℕ) → Makes old (file_synced path) new → Came path id start old (IsFilled path id text) → Came path id start new (IsSealed path id text)
    syncs text makes w = went_ok (IsFilled path id text) (IsSealed path id text) (file_synced path) makes (kind_sync path id text) (λ s now. now_synced s path id (longer text new_file) now) (shows_anything (IsSealed path id text)) w

    pub sync_refused : (text : List ℕ) (refusal : State → Option DiskError) (e : DiskError) → LeftBy (new ≡ old) (Allowed refusal old × Makes old (file_synced path) new) e → Came path id start old (IsFilled path id text) → Came path id start new Whatever
    sync_refused text refusal e did w = went_weaker _ Whatever (λ s i. tt)
        (went_err (IsFilled path id text) Whatever (file_synced path) refusal e did (kind_sync path id text) (λ s now. tt) (shows_anything Whatever) w)

-- ---- the whole file

-- nothing was made yet
abbrev Before : Story → State → Type 0
Before story s = length s.files ≡ length (state_of story).files

-- the file was made
abbrev Made : List ℕ → Story → State → Type 0
Made path story s = IsFileNow s path (length (state_of story).files) new_file

new_now : (path : List ℕ) (story : Story) (s : State) → Before story s → Made path story (after s (created path s))
new_now path story s is = subst (λ (n : ℕ). IsFileNow (after s (created path s)) path n new_file) is (created_now s path)

module _ (path : List ℕ) (story : Story) {o1 o2 : Option Story} (tells : o1 ≡ Some story) where
  pub creates : Makes o1 (created path) o2 → Came path (length (state_of story).files) story o2 (Made path story)
  creates makes = went_ok (Before story) (Made path story) (created path) makes (λ s is. refl) (new_now path story) (shows_anything (Made path story)) (begins path (length (state_of story).files) (Before story) tells refl)

  pub create_refused : (e : DiskError) → LeftBy (o2 ≡ o1) (Allowed (no_room path) o1 × Makes o1 (created path) o2) e → Came path (length (state_of story).files) story o2 Whatever
  create_refused e did = went_weaker _ Whatever (λ s i. tt)
      (went_err (Before story) Whatever (created path) (no_room path) e did (λ s is. refl) (λ s is. tt) (shows_anything Whatever) (begins path (length (state_of story).files) (Before story) tells refl))

  -- what came after the file was made
  pub copy_after : {o3 : Option Story} (I : State → Type 0) → Makes o1 (created path) o2
      → ((mid : Story) → o2 ≡ Some mid → Made path story (state_of mid) → Came path (length (state_of story).files) mid o3 I) → Came path (length (state_of story).files) story o3 I
  copy_after I makes next = went_then (creates makes) next

-- a disk stays lawful where a file is synced
pub sealed_lawful : (path : List ℕ) (old new : Option Story) → IfSome old (λ story. IsLawful (state_of story)) → Makes old (file_synced path) new → IfSome new (λ story. IsLawful (state_of story))
sealed_lawful path None new lawful makes = subst (λ (o : Option Story). IfSome o (λ story. IsLawful (state_of story))) (sym makes) tt
sealed_lawful path (Some story) new lawful makes = subst (λ (o : Option Story). IfSome o (λ x. IsLawful (state_of x))) (sym makes)
    (subst IsLawful (sym (state_push story (file_synced path (state_of story)))) (lawful_synced (state_of story) path lawful))

-- ---- how a copy into a new file stopped

abbrev pub CopyStops : List ℕ → Seen → Seen → Type 0 → (List ℕ → Type 0) → CopyError DiskError → Type 0
CopyStops path first now R A why = StopsBy (λ e. copies.HasStopped path first now e) R ((text : List ℕ) × A text × HasGained path first text now) (HasGained path first [] now) why

-- what was added is forgotten
pub gained_forgets : (path : List ℕ) (first : Seen) (text : List ℕ) (now : Seen) → HasGained path first text now → Fills path first.told now.told (λ id. Whatever)
gained_forgets path first text now gained story id tells new = forgets path id (IsFilled path id text) (gained.went story id tells new)

module _ (R : Type 0) (A : List ℕ → Type 0) (path : List ℕ) (first now : Seen) where
  pub made_went : ((text : List ℕ) × A text × HasGained path first text now) → Fills path first.told now.told (λ id. Whatever)
  made_went made = gained_forgets path first made.0 now made.2

  pub stops_went : (why : CopyError DiskError) → CopyStops path first now R A why → Fills path first.told now.told (λ id. Whatever)
  stops_went (errors.Refused e) stops = stops.went
  stops_went errors.Source stops = gained_forgets path first stops.1.0 now stops.1.2
  stops_went errors.NoMemory stops = gained_forgets path first [] now stops

  stops_later : (why : CopyError DiskError) → CopyStops path first now R A why → AreLater first now
  stops_later (errors.Refused e) stops = stops.later
  stops_later errors.Source stops = stops.1.2.later
  stops_later errors.NoMemory stops = stops.later

  pub made_cause : {T : Type 0} (before later : ℕ) (value : T) → ((text : List ℕ) × A text × HasGained path first text now) → HasStopCause first now before later (Ok value)
  made_cause before later value made = record { faults_later = made.2.later.faults; refusals_later = made.2.later.refusals; stopped = tt }

  pub stops_cause : {T : Type 0} (before later : ℕ) (why : CopyError DiskError) (stop : Stop) → CopyStops path first now R A why → HasStopped first now before later stop → HasStopCause {T = T} first now before later (Err stop)
  stops_cause before later why stop stops stopped = let counts = stops_later why stops in record { faults_later = counts.faults; refusals_later = counts.refusals; stopped = stopped }

  pub stops_rose : (why : CopyError DiskError) → why ≡ errors.Source → CopyStops path first now R A why → R
  stops_rose why is stops = (subst (CopyStops path first now R A) is stops).0

  pub stops_risen : (why : CopyError DiskError) (e : DiskError) → why ≡ errors.Refused e → CopyStops path first now R A why → HasRisen first now e
  stops_risen why e is stops = (subst (CopyStops path first now R A) is stops).rose
