-- What a finished checkpoint shows later in a run.
use Rattle.std.specs.Prelude.{◌≡◌, ℕ, Bool, true, false, ◌||◌, List, [], ◌∷◌, ◌++◌, is_some, Option, Some, None, Ok}
use Rattle.std.specs.Str.{bytes_eq}
use Rattle.std.proofs.Common.{refl, sym, ap, subst, ◌∙◌}
use Rattle.std.proofs.lemmas.Slice.Eq.{bytes_eq-Decides}
use Rattle.lsm_model.specs.declared.events.Event.TheVariants as event
use Rattle.lsm_model.specs.declared.replies.Reply.TheVariants as reply
use Rattle.lsm_model.specs.declared.replies.JobStart.{JobStart}
use Rattle.lsm_model.specs.declared.replies.Shown.{Shown}
use Rattle.lsm_model.specs.declared.states.State.{State}
use Rattle.lsm_model.specs.declared.states.FolderRead.{FolderRead}
use Rattle.lsm_model.specs.States.{shown_after, built_by, folder_of}
use Rattle.lsm_model.specs.Causes.{is_taken}
use Rattle.lsm_model.specs.Steps.{Step, Made, Asked, Run}
use Rattle.lsm_model.specs.Runs.{shown_behind}
use Rattle.lsm_model.specs.Counts.{IsCounted, IsThere}
use Rattle.lsm_model.specs.Reads as reads
use Rattle.lsm_model.specs.Reads.{known_reading, ReadsAs}
use Rattle.lsm_model.specs.Checkpoints as checkpoints
use Rattle.lsm_model.specs.Checkpoints.{IsFinished, checkpoint_folder}
use Rattle.lsm_model.proofs.PinLemmas.{folder_new}
use Rattle.lsm_model.proofs.Histories.{run_base, run_folder}
use Rattle.lsm_model.proofs.RunLemmas.{run_at, shown_now}
use Rattle.lsm_model.proofs.CountLemmas.{step_counted, run_counted}
use Rattle.lsm_model.specs.Crashes.{Crashed, Opened}
use Rattle.lsm_model.proofs.CrashLemmas.{no_folder}
use Rattle.lsm_model.proofs.OpeningLemmas.{sure_opens}
use Rattle.lsm_model.proofs.PinHistories.{begin_gives, pin_later}

finished : (q u : State) (number sequence : ℕ) → Step q (event.CheckpointFinish number) (reply.CheckpointFinish (Ok sequence)) u → IsFinished q number sequence u
unfolding Step
finished q u number sequence step = elim step [
  | checkpoints.Done other is known d ↦ let same : other ≡ sequence = cc in subst (λ (n : ℕ). IsFinished q number n u) same d
  | checkpoints.No_job other is known w ↦ absurd (cc)
  | checkpoints.Halted other is job known w ↦ absurd (cc)
  | checkpoints.Failed is known f ↦ absurd (cc)
  | checkpoints.Wanting is job known w ↦ absurd (cc)
  | checkpoints.Taken dir is known w ↦ absurd (cc)
]

-- a free name isn't the store's own
not_own : (dir : List ℕ) (s : State) → is_taken dir s ≡ false → bytes_eq s.own dir ≡ false
unfolding is_taken
not_own dir s free = elim (bytes_eq s.own dir) as (λ b. (b || is_some (folder_of dir s.folders)) ≡ false → b ≡ false) [ true ↦ λ e. absurd (cc) | false ↦ λ e. refl ] free

-- the folder that is begun is there, so it isn't one of a free name
begun_there : (dir : List ℕ) (folders : List FolderRead) (begun : Option (List ℕ)) → IsThere folders begun → begun ≡ Some dir
    → (folder : FolderRead) × (folder_of dir folders ≡ Some folder)
begun_there dir folders begun there is = let found : IsThere folders (Some dir) = subst (IsThere folders) is there in (found.0, found.1)

not_begun : (dir : List ℕ) (q u : State) → IsCounted q → is_taken dir q ≡ false → u.begun ≡ q.begun → u.begun ≡ Some dir → ⊥
not_begun dir q u counted free same is =
    let there = begun_there dir q.folders q.begun counted.begun (sym same ∙ is) in
    let some : folder_of dir q.folders ≡ Some there.0 = there.1 in
    let none : folder_of dir q.folders ≡ None = no_folder dir q free in
    absurd (cc)

-- the folder is there, and isn't the store's own
finish_stands : (q u : State) (number sequence : ℕ) (done : IsFinished q number sequence u) → folder_of done.dir u.folders ≡ Some (checkpoint_folder q done.pin done.dir true)
finish_stands q u number sequence done =
    ap (λ (x : State). folder_of done.dir x.folders) done.rest.rest
    ∙ folder_new done.dir q.folders (checkpoint_folder q done.pin done.dir true) (no_folder done.dir q done.free) ((bytes_eq-Decides done.dir done.dir).1 refl)

-- what is shown of a folder that isn't the store's own is what it reads as
folder_shown : (v w : State) (dir : List ℕ) (folder : FolderRead) (shown : Shown) → Step v (event.Show dir) (reply.Show (Ok shown)) w → bytes_eq v.own dir ≡ false
    → folder_of dir v.folders ≡ Some folder → Ok shown ≡ folder.reading
unfolding Step
folder_shown v w dir folder shown step other found = elim step [
  | reads.As_it_reads r b ↦ let so : ReadsAs v dir false (Ok shown) = subst (λ (b : Bool). ReadsAs v dir b (Ok shown)) other r in so ∙ ap (known_reading dir) found
  | reads.Failed is f ↦ absurd (cc)
  | reads.Wanting is b ↦ absurd (cc)
]

-- the folder that a checkpoint makes: it reads as the batches that were accepted before its beginning
pub record IsMade (s u : State) (before : List Made) (dir : List ℕ) (start : JobStart) (sequence : ℕ) : Type 0 where
  pub folder : FolderRead
  pub stands : folder_of dir u.folders ≡ Some folder
  pub sure : folder.sure ≡ true
  pub reading : folder.reading ≡ Ok (shown_behind s before)
  pub started : start.sequence ≡ (shown_behind s before).sequence
  pub ended : sequence ≡ (shown_behind s before).sequence
  pub other : bytes_eq u.own dir ≡ false
  pub apart : u.begun ≡ Some dir → ⊥

module _ (s u : State) (before between : List Made) (dir : List ℕ) (size : ℕ) (start : JobStart) (sequence : ℕ) (counted : IsCounted s) where
  made : (m n q : State) → Run s before m → Step m (event.CheckpointBegin dir size) (reply.CheckpointBegin (Ok start)) n → Run n between q
      → Step q (event.CheckpointFinish start.pin) (reply.CheckpointFinish (Ok sequence)) u → IsMade s u before dir start sequence
  made m n q first begins steps finishes =
      let gives = begin_gives m n dir size start (run_counted s m before first counted) begins in
      let done = finished q u start.pin sequence finishes in
      let kept = pin_later m n q start.pin (Some dir) gives.0 (event.CheckpointBegin dir size) (reply.CheckpointBegin (Ok start)) between done.pin gives.1 begins steps done.job.found in
      let built : Some done.dir ≡ Some dir = sym (ap built_by done.job.holder) ∙ kept.1 in
      let same : done.dir ≡ dir = cc in
      let then_shown : shown_after m m.accepted ≡ shown_behind s before = shown_now s m before first in
      let still : IsCounted q = run_counted n q between steps (step_counted m n (event.CheckpointBegin dir size) (reply.CheckpointBegin (Ok start)) begins (run_counted s m before first counted)) in
      let own : u.own ≡ q.own = (run_base q u ((Asked (event.CheckpointFinish start.pin) (reply.CheckpointFinish (Ok sequence))) ∷ []) (u, finishes, refl)).0 in
      record {
        folder = checkpoint_folder q done.pin done.dir true;
        stands = ap (λ (name : List ℕ). folder_of name u.folders) (sym same) ∙ finish_stands q u start.pin sequence done;
        sure = refl;
        reading = ap (λ (shown : Shown). Ok shown) (kept.0 ∙ then_shown);
        started = gives.2 ∙ ap (λ (shown : Shown). shown.sequence) then_shown;
        ended = done.sequence_is ∙ ap (λ (shown : Shown). shown.sequence) (kept.0 ∙ then_shown);
        other = (λ i. bytes_eq (own i) (sym same i)) ∙ not_own done.dir q done.free;
        apart = λ is. not_begun done.dir q u still done.free (ap (λ (x : State). x.begun) done.rest.rest) (is ∙ ap (λ (name : List ℕ). Some name) (sym same));
      }

-- what is shown of it later
made_shows : (s u v w : State) (before later : List Made) (dir : List ℕ) (start : JobStart) (sequence : ℕ) (shown : Shown) → IsMade s u before dir start sequence
    → Run u later v → Step v (event.Show dir) (reply.Show (Ok shown)) w → (shown ≡ shown_behind s before) × (start.sequence ≡ shown.sequence) × (sequence ≡ shown.sequence)
made_shows s u v w before later dir start sequence shown is run step =
    let other : bytes_eq v.own dir ≡ false = ap (λ (own : List ℕ). bytes_eq own dir) (run_base u v later run).0 ∙ is.other in
    let reads_so : Ok shown ≡ Ok (shown_behind s before) = folder_shown v w dir is.folder shown step other (run_folder u v later dir is.folder run is.stands is.apart).0 ∙ is.reading in
    let so : shown ≡ shown_behind s before = cc in
    (so, is.started ∙ ap (λ (x : Shown). x.sequence) (sym so), is.ended ∙ ap (λ (x : Shown). x.sequence) (sym so))

pub checkpoint_shown : (s t : State) (before between later after : List Made) (dir : List ℕ) (size : ℕ) (start : JobStart) (sequence : ℕ) (shown : Shown) → IsCounted s
    → Run s (before ++ (Asked (event.CheckpointBegin dir size) (reply.CheckpointBegin (Ok start))) ∷ (between ++ (Asked (event.CheckpointFinish start.pin) (reply.CheckpointFinish (Ok sequence))) ∷ (later ++ (Asked (event.Show dir) (reply.Show (Ok shown))) ∷ after))) t
    → (shown ≡ shown_behind s before) × (start.sequence ≡ shown.sequence) × (sequence ≡ shown.sequence)
checkpoint_shown s t before between later after dir size start sequence shown counted run =
    let one = run_at s t before (Asked (event.CheckpointBegin dir size) (reply.CheckpointBegin (Ok start)))
    (between ++ (Asked (event.CheckpointFinish start.pin) (reply.CheckpointFinish (Ok sequence))) ∷ (later ++ (Asked (event.Show dir) (reply.Show (Ok shown))) ∷ after)) run in
    let two = run_at one.1 t between (Asked (event.CheckpointFinish start.pin) (reply.CheckpointFinish (Ok sequence))) (later ++ (Asked (event.Show dir) (reply.Show (Ok shown))) ∷ after) one.4 in
    let three = run_at two.1 t later (Asked (event.Show dir) (reply.Show (Ok shown))) after two.4 in
    made_shows s two.1 three.0 three.1 before later dir start sequence shown
    (made s two.1 before between dir size start sequence counted one.0 one.1 two.0 one.2 one.3 two.2 two.3) three.2 three.3

-- it is there after a crash and an opening
pub checkpoint_outlives : (s m c t : State) (before between after : List Made) (dir : List ℕ) (size : ℕ) (start : JobStart) (sequence : ℕ) → IsCounted s
    → Run s (before ++ (Asked (event.CheckpointBegin dir size) (reply.CheckpointBegin (Ok start))) ∷ (between ++ (Asked (event.CheckpointFinish start.pin) (reply.CheckpointFinish (Ok sequence))) ∷ after)) m
    → Crashed m c → Opened c t → (folder : FolderRead) × (folder_of dir t.folders ≡ Some folder) × (folder.reading ≡ Ok (shown_behind s before))
checkpoint_outlives s m c t before between after dir size start sequence counted run crash opened =
    let one = run_at s m before (Asked (event.CheckpointBegin dir size) (reply.CheckpointBegin (Ok start))) (between ++ (Asked (event.CheckpointFinish start.pin) (reply.CheckpointFinish (Ok sequence))) ∷ after) run in
    let two = run_at one.1 m between (Asked (event.CheckpointFinish start.pin) (reply.CheckpointFinish (Ok sequence))) after one.4 in
    let is = made s two.1 before between dir size start sequence counted one.0 one.1 two.0 one.2 one.3 two.2 two.3 in
    let stands = (run_folder two.1 m after dir is.folder two.4 is.stands is.apart).0 in
    (is.folder, sure_opens m c t dir is.folder crash opened stands is.sure, is.reading)
