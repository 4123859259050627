-- What each append to a new file of a disk leaves.
use Rattle.std.specs.Prelude.{◌≡◌, ℕ, ◌≤◌, List, [], ◌++◌, take, Option, Some, Result, Ok, Err}
use Rattle.std.proofs.Common.{refl, ap, subst, append_assoc, arith}
use Rattle.lsm_io.specs.Causes.{Rose}
use Rattle.lsm_disk.specs.State.{State, Story, Seen, FileState, after, state_of, new_file, longer, appended}
use Rattle.lsm_disk.specs.Kept.{IsFileNow}
use Rattle.lsm_disk.specs.Goes.{Shows, Went}
use Rattle.lsm_disk.specs.Answers.{Appends, Makes, MakesFront, LeftBy, Allowed, HasCause, HasRisen}
use Rattle.lsm_disk.specs.Refusals.{no_file}
use Rattle.lsm_disk.specs.declared.calls.DiskError.{DiskError}
use Rattle.lsm_disk.specs.declared.calls.DiskError.TheVariants.{Fault, NotThere, Exists, NoLinks, NotEmpty, Short, NoMemory}
use Rattle.lsm_disk.proofs.Named.{now_appended, appends_in_now}
use Rattle.lsm_disk.proofs.Runs.{went_start, went_weaker, went_ok, went_append_err}
use Rattle.lsm_publish.specs.Publishing.{Writes}
use Rattle.lsm_publish.proofs.Olds.{file_writes}
use Rattle.bk_copy.specs.Counts.{AreLater}
use Rattle.bk_copy.specs.OnDisk.{Whatever, Anything, IsFilled, HasGained, HasStopped}
use Rattle.lsm_disk.proofs.Cuts.{longer_twice}
use Rattle.lsm_publish.proofs.Answering.{shows_anything}

pub later_same : (seen : Seen) → AreLater seen seen
later_same seen = record { faults = omega arith; refusals = omega arith }

pub later_trans : (a b c : Seen) → AreLater a b → AreLater b c → AreLater a c
later_trans a b c x y = record { faults = omega (arith, x.faults, y.faults); refusals = omega (arith, x.refusals, y.refusals) }

abbrev pub Came : List ℕ → ℕ → Story → Option Story → (State → Type 0) → Type 0
Came path id start told I = Went start told (Writes path id) Anything I

module _ (path : List ℕ) (id : ℕ) {start : Story} where
  pub begins : {told : Option Story} (I : State → Type 0) → told ≡ Some start → I (state_of start) → Came path id start told I
  begins I tells now = went_start I tells now (shows_anything I)

  pub forgets : {told : Option Story} (I : State → Type 0) → Came path id start told I → Came path id start told Whatever
  forgets I w = went_weaker I Whatever (λ s i. tt) w

  module _ {old new : Option Story} where
    appends : (text more : List ℕ) → Makes old (appended path more) new → Came path id start old (IsFilled path id text) → Came path id start new (IsFilled path id (text ++ more))
    appends text more makes w = went_ok (IsFilled path id text) (IsFilled path id (text ++ more)) (appended path more) makes
        (λ s now. file_writes path id (appended path more s) (appends_in_now s path id (longer text new_file) now more))
        (λ s now. subst (IsFileNow (after s (appended path more s)) path id) (longer_twice new_file text more) (now_appended s path id (longer text new_file) now more))
        (shows_anything (IsFilled path id (text ++ more))) w

    append_refused : (text more : List ℕ) (e : DiskError) → LeftBy (new ≡ old) (Allowed (no_file path) old × MakesFront path more old new) e → Came path id start old (IsFilled path id text) → Came path id start new Whatever
    append_refused text more e did w = went_weaker _ Whatever (λ s i. tt)
        (went_append_err (IsFilled path id text) (λ n. Whatever) path more e did
        (λ n s now. file_writes path id (appended path (take n more) s) (appends_in_now s path id (longer text new_file) now (take n more)))
        (λ n s now. tt) (λ n. shows_anything Whatever) w)

pub risen_since : (old mid new : Seen) (e : DiskError) → AreLater old mid → HasRisen mid new e → HasRisen old new e
risen_since old mid new Fault later rose = omega (arith, later.faults, rose)
risen_since old mid new NotThere later rose = omega (arith, later.refusals, rose)
risen_since old mid new Exists later rose = omega (arith, later.refusals, rose)
risen_since old mid new NoLinks later rose = omega (arith, later.refusals, rose)
risen_since old mid new NotEmpty later rose = omega (arith, later.refusals, rose)
risen_since old mid new (Short found) later rose = omega (arith, later.refusals, rose)
risen_since old mid new NoMemory later rose = tt

-- nothing was added yet
pub none_gained : (path : List ℕ) (disk : Seen) → HasGained path disk [] disk
none_gained path disk = record { later = later_same disk; went = λ story id tells now. begins path id (IsFilled path id []) tells now }

module _ (path : List ℕ) (first mid now : Seen) (text more : List ℕ) (gained : HasGained path first text mid) where
  -- a piece more was added
  pub file_gains : Appends {T = Unit {0}} path more mid now (Ok tt) → HasCause {T = Unit {0}} mid now (Ok tt) → HasGained path first (text ++ more) now
  file_gains did cause = record {
    later = later_trans first mid now gained.later (record { faults = cause.faults_later; refusals = cause.refusals_later });
    went = λ story id tells new. appends path id text more did (gained.went story id tells new);
  }

  -- a piece was refused
  pub file_stops : (why : DiskError) → Appends {T = Unit {0}} path more mid now (Err why) → HasCause {T = Unit {0}} mid now (Err why) → HasStopped path first now why
  file_stops why did cause = record {
    later = later_trans first mid now gained.later (record { faults = cause.faults_later; refusals = cause.refusals_later });
    rose = risen_since first mid now why gained.later cause.counted;
    went = λ story id tells new. append_refused path id text more why did (gained.went story id tells new);
  }
