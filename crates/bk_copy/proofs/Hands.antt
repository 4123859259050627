-- What each append to the file in hand leaves.
use Rattle.std.specs.Prelude.{◌≡◌, ◌≢◌, ℕ, List, [], ◌++◌, All, take, Option, Some, None, Result, Ok, Err}
use Rattle.std.proofs.Common.{⊎_elim, refl, sym, ap, subst, ◌∙◌, arith}
use Rattle.std.proofs.lemmas.List.Elements.{All-weaker}
use Rattle.lsm_names.specs.FileNames.{spelled, IsFileName}
use Rattle.lsm_names.specs.declared.file_names.FileName.{FileName}
use Rattle.lsm_names.specs.declared.file_names.FileName.TheVariants.{Log, Table, Manifest, Temp, Current}
use Rattle.lsm_names.proofs.FileNameLemmas.{spelled_injective}
use Rattle.lsm_disk.specs.State.{State, Story, Seen, FileState, state_of, new_file, longer}
use Rattle.lsm_disk.specs.Goes.{Shows}
use Rattle.lsm_disk.specs.Dest.{Begun, DestSeen, IsPartName, HaltsAt, Leaves, NeverExists, HasDestCause, CountRose}
use Rattle.lsm_disk.specs.Building.{Part, LacksCurrent, HasNoCurrent, HoldsNames, IsWriting, IsUnfinished, RefusedAs, Fills as FillsBy}
use Rattle.lsm_disk.specs.declared.calls.Halt.{Halt}
use Rattle.lsm_disk.specs.declared.dest.DestError.{DestError}
use Rattle.lsm_disk.specs.declared.dest.DestError.TheVariants.{Fault, Halted, Exists, Changed, NoMemory}
use Rattle.lsm_disk.proofs.Runs.{went_start, went_then, went_weaker}
use Rattle.bk_copy.specs.Counts.{AreLater}
use Rattle.bk_copy.specs.InHand.{HasInHand, Builds, IsReady, Fills, HasGained, HasStopped}
use Rattle.bk_copy.proofs.Files.{later_same, later_trans}
use Rattle.lsm_disk.proofs.Cuts.{longer_twice}

-- ---- names

part_is_file : (name : FileName) → IsPartName name → IsFileName name
part_is_file (Log number) is = is
part_is_file (Table number) is = is
part_is_file (Manifest number) is = is
part_is_file (Temp number) is = absurd is
part_is_file Current is = absurd is

not_current : (name : FileName) → IsPartName name → Current ≢ name
not_current (Log number) is same = cc
not_current (Table number) is same = cc
not_current (Manifest number) is same = cc
not_current (Temp number) is same = absurd is
not_current Current is same = absurd is

current_apart : (name : FileName) → IsPartName name → spelled Current ≢ spelled name
current_apart name is same = not_current name is (spelled_injective Current name tt (part_is_file name is) same)

-- ---- the begun folder

module _ (start : State) (folder : List ℕ) where
  pub holds_unfinished : (names : List FileName) (s : State) → HoldsNames start folder names s → IsUnfinished start folder s
  holds_unfinished names s holds = record {
    now = holds.only (spelled Current) (All-weaker IsPartName (λ name. spelled Current ≢ spelled name) current_apart names holds.own);
    lacks = holds.lacks;
  }

  pub holds_shows : (names : List FileName) (s : State) → HoldsNames start folder names s → Shows (HasNoCurrent start folder) s
  holds_shows names s holds = record { each = λ t i. subst (LacksCurrent start folder) (sym i.names) (holds.lacks i.kept) }

module _ (start : State) (begun : Begun) (parts : List Part) (name : FileName) (file : FileState) where
  pub writing_unfinished : (s : State) → IsWriting start begun parts name file s → IsUnfinished start begun.folder s
  writing_unfinished s is = holds_unfinished start begun.folder begun.names s is.holds

  pub still_writing : (story : Story) {told : Option Story} → told ≡ Some story → IsWriting start begun parts name file (state_of story) → Builds start begun.folder story told (IsWriting start begun parts name file)
  still_writing story tells is = went_start (IsWriting start begun parts name file) tells is (λ s b. holds_shows start begun.folder begun.names s b.holds)

  pub unwritten : {story : Story} {told : Option Story} → Builds start begun.folder story told (IsWriting start begun parts name file) → Builds start begun.folder story told (IsUnfinished start begun.folder)
  unwritten w = went_weaker (IsWriting start begun parts name file) (IsUnfinished start begun.folder) writing_unfinished w

pub refused_by : (same made : Type 0) (J : Type 0) (why : DestError) → (same → J) → (made → J) → RefusedAs same made why → J
refused_by same made J Fault f g h = ⊎_elim f g h
refused_by same made J (Halted first) f g h = f h
refused_by same made J Exists f g h = f h
refused_by same made J (Changed call path) f g h = absurd h
refused_by same made J NoMemory f g h = f h

-- a refused append leaves the folder unfinished
append_refused : (start : State) (begun : Begun) (parts : List Part) (name : FileName) {story : Story} {told : Option Story} (why : DestError) (file : FileState) (bytes : List ℕ)
    → Builds start begun.folder story told (FillsBy {T = Unit {0}} start begun parts name file bytes (Err why)) → Builds start begun.folder story told (IsUnfinished start begun.folder)
append_refused start begun parts name why file bytes w = went_weaker (FillsBy {T = Unit {0}} start begun parts name file bytes (Err why)) (IsUnfinished start begun.folder)
    (λ s left. refused_by (IsWriting start begun parts name file s) ((n : ℕ) × IsWriting start begun parts name (longer (take n bytes) file) s) (IsUnfinished start begun.folder s) why
    (writing_unfinished start begun parts name file s) (λ front. writing_unfinished start begun parts name (longer (take front.0 bytes) file) s front.1) left) w

-- ---- the file in hand

counted_since : (old mid new : Seen) (why : DestError) → AreLater old mid → CountRose mid new why → CountRose old new why
counted_since old mid new Fault later rose = omega (arith, later.faults, rose)
counted_since old mid new (Halted first) later rose = tt
counted_since old mid new Exists later rose = omega (arith, later.refusals, rose)
counted_since old mid new (Changed call path) later rose = omega (arith, later.refusals, rose)
counted_since old mid new NoMemory later rose = tt

-- nothing was added yet
pub none_gained : (dest : DestSeen) → HasGained dest [] dest
none_gained dest = record {
  later = later_same dest.disk;
  hand = λ begun name hand. hand;
  went = λ start story begun parts name tells hand is. still_writing start begun parts name new_file story tells is;
}

-- it stays in hand
pub stays_in_hand : (calls : List Halt) (old new : DestSeen) (begun : Begun) (name : FileName) → HaltsAt {T = Unit {0}} calls old new (Ok tt) → Leaves {T = Unit {0}} old.begun old.hand old new (Ok tt)
    → HasInHand begun name old → HasInHand begun name new
stays_in_hand calls old new begun name halts leaves hand = record { halt = halts.1; begun_is = leaves.0 ∙ hand.begun_is; hand = leaves.1 ∙ hand.hand }

pub stays_ready : (calls : List Halt) (old new : DestSeen) → HaltsAt {T = Unit {0}} calls old new (Ok tt) → Leaves {T = Unit {0}} old.begun old.hand old new (Ok tt) → IsReady old → IsReady new
stays_ready calls old new halts leaves ready = (ready.0, ready.1, stays_in_hand calls old new ready.0 ready.1 halts leaves ready.2)

-- what an append did, as the destination's trait says it
abbrev pub Appended : List ℕ → DestSeen → DestSeen → Result (Unit {0}) DestError → Type 0
Appended bytes old new result = (start : State) (story : Story) (begun : Begun) (parts : List Part) (name : FileName) (file : FileState) → old.disk.told ≡ Some story
    → old.begun ≡ Some begun → old.hand ≡ Some name → IsWriting start begun parts name file (state_of story)
    → Builds start begun.folder story new.disk.told (FillsBy start begun parts name file bytes result)

module _ (first mid now : DestSeen) (text more : List ℕ) (gained : HasGained first text mid) (calls : List Halt) where
  -- a piece more was added
  pub hand_gains : Appended more mid now (Ok tt) → HasDestCause {T = Unit {0}} mid.disk now.disk (Ok tt) → HaltsAt {T = Unit {0}} calls mid now (Ok tt)
      → Leaves {T = Unit {0}} mid.begun mid.hand mid now (Ok tt) → HasGained first (text ++ more) now
  hand_gains did cause halts leaves = record {
    later = later_trans first.disk mid.disk now.disk gained.later (record { faults = cause.faults_later; refusals = cause.refusals_later });
    hand = λ begun name hand. stays_in_hand calls mid now begun name halts leaves (gained.hand begun name hand);
    went = λ start story begun parts name tells hand is.
        let f : FileState = longer text new_file in
        let h = gained.hand begun name hand in
        subst (λ (g : FileState). Builds start begun.folder story now.disk.told (IsWriting start begun parts name g)) (longer_twice new_file text more)
        (went_then (gained.went start story begun parts name tells hand is) (λ step told writing. did start step begun parts name f told h.begun_is h.hand writing));
  }

  -- a piece was refused
  pub hand_stops : (why : DestError) → IsReady mid → Appended more mid now (Err why) → HasDestCause {T = Unit {0}} mid.disk now.disk (Err why) → HaltsAt {T = Unit {0}} calls mid now (Err why)
      → why ≢ Exists → HasStopped first now why
  hand_stops why ready did cause halts never = record {
    cause = record {
      faults_later = omega (arith, gained.later.faults, cause.faults_later);
      refusals_later = omega (arith, gained.later.refusals, cause.refusals_later);
      counted = counted_since first.disk mid.disk now.disk why gained.later cause.counted;
    };
    new = never;
    going = λ halt is. let was : mid.halt ≡ Some halt = (subst (λ (e : DestError). HaltsAt {T = Unit {0}} calls mid now (Err e)) is halts).0 in let none : mid.halt ≡ None = ready.2.halt in cc;
    went = λ start story begun parts name tells hand is.
        let h = gained.hand begun name hand in
        went_then (gained.went start story begun parts name tells hand is)
        (λ step told writing. append_refused start begun parts name why (longer text new_file) more (did start step begun parts name (longer text new_file) told h.begun_is h.hand writing));
  }
